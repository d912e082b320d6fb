-- An allowed transaction keeps a ledger sound, and changes none of the parts that it does not name.
use Rattle.std.proofs.Common.{◌≡◌, ℕ, zero, suc, ◌<◌, ◌≤◌, List, [], ◌∷◌, ◌++◌, Bool, true, false, Option, Some, None, map, length, refl, ap, sym, ◌∙◌, arith}
use Rattle.std.proofs.lemmas.Bool.{or_left, or_right}
use Rattle.std.specs.List.{AllByRecursion, slice_index_or}
use Rattle.std.specs.Map.{keys_of}
use Rattle.std.specs.Option.{option_to_list}
use Rattle.std.specs.Ordering.{eq_by_cmp}
use Rattle.std.proofs.lemmas.Cmp.{eq_by_cmp_equiv}
use Rattle.maps.specs.Maps.{IsMap, has_member, with_key, with_values, without_keys}
use Rattle.maps.proofs.Fresh.{all-with_values}
use Rattle.maps.proofs.Kept.{IsMap-with_values, IsMap-without_keys, all-filter}
use Rattle.maps.proofs.Sets.{IsSet-with_key, has_member-with_key}
use Rattle.gov_ids.specs.declared.OutRef.{OutRef}
use Rattle.gov_ids.specs.declared.TxId.{TxId}
use Rattle.gov_ids.specs.Orders.{outref_cmp, txid_cmp, voter_cmp}
use Rattle.gov_ids.proofs.Totals.{outref_total, txid_total}
use Rattle.book_records.specs.declared.Output.{Output}
use Rattle.tx_records.specs.of_gov_actions.declared.action.Proposal.{Proposal}
use Rattle.tx_records.specs.declared.tx.Scripts.{Scripts}
use Rattle.tx_records.specs.declared.tx.Scripts.TheVariants.{Absent, Passed, Failed}
use Rattle.tx_records.specs.declared.tx.Tx.{Tx}
use Rattle.tx_records.specs.declared.tx.TxOutput.{TxOutput}
use Rattle.ledger_model.specs.Ledger.{Ledger}
use Rattle.ledger_model.specs.Supply.{pots_of}
use Rattle.ledger_model.specs.Draft.{last_draft}
use Rattle.ledger_model.specs.Flows.{flows_of_tx}
use Rattle.ledger_model.specs.Moves.{IsMovedBy}
use Rattle.ledger_model.specs.UtxoRules.{is_failed}
use Rattle.ledger_model.specs.Broken.{is_allowed}
use Rattle.ledger_model.specs.Sound.{IsSound}
use Rattle.ledger_model.specs.Transaction.{after_failed, after_passed, after_scripts, kept_output, last_voting_epoch, ledger_after_tx, made_outputs, made_proposals, made_return, votes_on, with_votes}
use Rattle.ledger_model.proofs.DraftKeeps.{KeepsRest, IsLiveIn, draft_keeps, live_map}
use Rattle.tx_balance.specs.Laws.{AllowedStaysSound, AllowedKeepsSupply, HasOwnWithdrawals}
use Rattle.tx_balance.proofs.Failed.{failed_balances}
use Rattle.tx_balance.proofs.Outputs.{made_not_there}
use Rattle.tx_balance.proofs.Passed.{passed_balances}
use Rattle.tx_balance.proofs.Supplies.{moves_keep_supply}

-- used ids stay used, and the new one is
module _ (used : List TxId) (id : TxId) where
  pub still_used : (t : TxId) → has_member txid_cmp used t ≡ true → has_member txid_cmp (with_key txid_cmp id used) t ≡ true
  still_used t h = has_member-with_key txid_total id used t ∙ or_right (eq_by_cmp txid_cmp id t) _ h

  pub new_used : has_member txid_cmp (with_key txid_cmp id used) id ≡ true
  new_used = has_member-with_key txid_total id used id ∙ or_left _ (has_member txid_cmp used id) ((eq_by_cmp_equiv txid_total).refl id)

abbrev IsUsed : List TxId → OutRef → Type 0
IsUsed used r = has_member txid_cmp used r.tx ≡ true

all_weaken : (P Q : OutRef → Type 0) → ((r : OutRef) → P r → Q r) → (rs : List OutRef) → AllByRecursion P rs → AllByRecursion Q rs
all_weaken P Q f [] h = tt
all_weaken P Q f (r ∷ rs) h = (f r h.0, all_weaken P Q f rs h.1)

module _ (l : Ledger) (tx : Tx) (s : IsSound l) where
  abbrev now_used : List TxId
  now_used = with_key txid_cmp tx.id l.used

  -- outputs that leave and outputs of the new id that come
  outputs_used : (rs : List OutRef) (new : List (OutRef × Output)) → AllByRecursion (IsUsed now_used) (keys_of new)
      → AllByRecursion (IsUsed now_used) (keys_of (with_values outref_cmp new (without_keys outref_cmp rs l.outputs)))
  outputs_used rs new h =
      let left : List (OutRef × Output) = without_keys outref_cmp rs l.outputs in
      all-with_values outref_cmp (IsUsed now_used) new left h
      (all_weaken (IsUsed l.used) (IsUsed now_used) (λ r e. still_used l.used tx.id r.tx e) (keys_of left) (all-filter (IsUsed l.used) _ l.outputs s.ids_used))

  outputs_map : (rs : List OutRef) (new : List (OutRef × Output)) → IsMap outref_cmp (with_values outref_cmp new (without_keys outref_cmp rs l.outputs))
  outputs_map rs new = IsMap-with_values outref_total new (without_keys outref_cmp rs l.outputs) (IsMap-without_keys outref_cmp rs l.outputs s.outputs)

  return_used : (o : Option TxOutput) → AllByRecursion (IsUsed now_used) (keys_of (map (λ (x : TxOutput). (record { tx = tx.id; index = length tx.outputs }, kept_output x)) (option_to_list o)))
  return_used None = tt
  return_used (Some o) = (new_used l.used tx.id, tt)

  failed_sound : IsSound (after_failed l tx)
  failed_sound = record {
    outputs = outputs_map tx.collateral (made_return tx);
    used = IsSet-with_key txid_total tx.id l.used s.used;
    accounts = s.accounts;
    pools = s.pools;
    dreps = s.dreps;
    hot = s.hot;
    ids_used = outputs_used tx.collateral (made_return tx) (return_used tx.collateral_return);
  }

  abbrev last : Ledger
  last = last_draft l tx

  pub kept : KeepsRest l last
  kept = draft_keeps tx l (length tx.certs) (record { accounts = s.accounts; pools = s.pools; dreps = s.dreps; hot = s.hot })

  passed_sound : IsSound (after_passed l tx)
  passed_sound = record {
    outputs = outputs_map tx.inputs (made_outputs tx);
    used = IsSet-with_key txid_total tx.id l.used s.used;
    accounts = kept.maps.accounts;
    pools = kept.maps.pools;
    dreps = kept.maps.dreps;
    hot = kept.maps.hot;
    ids_used = outputs_used tx.inputs (made_outputs tx) (made_not_there tx.id kept_output (IsUsed now_used) (λ i. new_used l.used tx.id) 0 tx.outputs);
  }

  sound_by : (sc : Scripts) → IsSound (after_scripts sc l tx)
  sound_by Absent = passed_sound
  sound_by Passed = passed_sound
  sound_by Failed = failed_sound

-- a proposal is still there where more come
append_at : (ps qs : List Proposal) (b : Proposal) (k : ℕ) → k < length ps → slice_index_or ps k b ≡ b → (k < length (ps ++ qs)) × (slice_index_or (ps ++ qs) k b ≡ b)
append_at [] qs b k h e = absurd (omega arith)
append_at (p ∷ ps) qs b zero h e = (omega arith, e)
append_at (p ∷ ps) qs b (suc k) h e = let more = append_at ps qs b k (omega arith) e in (omega (arith, more.0), more.1)

live_append : (ps qs : List Proposal) (a : Proposal) → IsLiveIn ps a → IsLiveIn (ps ++ qs) a
live_append ps qs a h = let at = append_at ps qs h.0 h.1.0 h.1.1 h.1.2 in (h.0, (h.1.0, at.0, at.1), h.2)

-- l, with the parts of m that a transaction changes
abbrev pub changed_by_tx : Ledger → Ledger → Ledger
changed_by_tx l m = record l {
  dormant = m.dormant;
  fees = m.fees;
  donations = m.donations;
  outputs = m.outputs;
  used = m.used;
  accounts = m.accounts;
  pools = m.pools;
  dreps = m.dreps;
  hot = m.hot;
  proposals = m.proposals;
}

-- no other part changes, the fees do not fall, and each proposal stays, but for its votes
pub record IsSteady (l m : Ledger) : Type 0 where
  pub only : changed_by_tx l m ≡ m
  pub fees : l.fees ≤ m.fees
  pub live : (a : Proposal) → IsLiveIn l.proposals a → IsLiveIn m.proposals a

passed_steady : (l : Ledger) (tx : Tx) → IsSound l → IsSteady l (after_passed l tx)
passed_steady l tx s =
    let d : Ledger = last_draft l tx in
    let k : KeepsRest l d = kept l tx s in
    let m : Ledger = after_passed l tx in
    record {
      only = ap (λ (x : Ledger). record x { outputs = m.outputs; used = m.used; proposals = m.proposals; fees = m.fees; donations = m.donations }) k.only;
      fees = omega arith;
      live = λ a h. live_append (map (with_votes tx) d.proposals) (made_proposals (last_voting_epoch l) tx) a (
          live_map (λ (p : Proposal). with_values voter_cmp (votes_on tx p.id) p.votes) d.proposals a (k.live a h)
          );
    }

steady_by : (sc : Scripts) (l : Ledger) (tx : Tx) → IsSteady l (after_passed l tx) → IsSteady l (after_scripts sc l tx)
steady_by Absent l tx p = p
steady_by Passed l tx p = p
steady_by Failed l tx p = record { only = refl; fees = omega arith; live = λ a h. h }

pub tx_steady : (l : Ledger) (tx : Tx) → IsSound l → IsSteady l (ledger_after_tx l tx)
tx_steady l tx s = steady_by tx.scripts l tx (passed_steady l tx s)

pub allowed_stays_sound : AllowedStaysSound
allowed_stays_sound l tx s allowed = sound_by l tx s tx.scripts

-- the balance, whatever became of the scripts
moves_by : (b : Bool) (l : Ledger) (tx : Tx) → is_failed tx.scripts ≡ b → IsSound l → HasOwnWithdrawals tx → is_allowed l tx ≡ true
    → IsMovedBy (flows_of_tx l tx) (pots_of l) (pots_of (ledger_after_tx l tx))
moves_by true l tx e s own allowed = failed_balances l tx s e allowed
moves_by false l tx e s own allowed = passed_balances l tx s own e allowed

pub tx_moves : (l : Ledger) (tx : Tx) → IsSound l → HasOwnWithdrawals tx → is_allowed l tx ≡ true → IsMovedBy (flows_of_tx l tx) (pots_of l) (pots_of (ledger_after_tx l tx))
tx_moves l tx s own allowed = moves_by (is_failed tx.scripts) l tx refl s own allowed

pub allowed_keeps_supply : AllowedKeepsSupply
allowed_keeps_supply l tx s own allowed =
    (ap (λ (x : Ledger). x.supply) (sym (tx_steady l tx s).only), moves_keep_supply (flows_of_tx l tx) (pots_of l) (pots_of (ledger_after_tx l tx)) (tx_moves l tx s own allowed))
