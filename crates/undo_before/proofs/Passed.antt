-- What a transaction that breaks no rule changes is named.
use Rattle.std.proofs.Common.{◌≡◌, ◌+◌, List, ◌++◌, ◌||◌, false, None, Option, Some, is_none, unwrap_or, length, map, take, refl, ap, sym, subst, ◌∙◌}
use Rattle.std.specs.List.{AllZip}
use Rattle.std.proofs.lemmas.List.{length-map, take_at}
use Rattle.draft_changes.proofs.Naming.{laid_over_changes_names}
use Rattle.draft_changes.specs.Changed.{Changed, laid_over}
use Rattle.draft_changes.specs.Names.{ChangesNamesOnly, names_of}
use Rattle.gov_actions.specs.declared.action.Proposal.{Proposal}
use Rattle.gov_ids.proofs.Totals.{txid_total}
use Rattle.gov_ids.specs.declared.TxId.{TxId}
use Rattle.gov_ids.specs.Orders.{credential_cmp, pool_cmp, txid_cmp}
use Rattle.ledger_model.specs.Broken.{first_broken}
use Rattle.ledger_model.specs.Draft.{last_draft}
use Rattle.ledger_model.specs.Ledger.{Ledger}
use Rattle.ledger_model.specs.Sound.{IsSound}
use Rattle.ledger_model.specs.Transaction.{after_failed, after_passed, after_scripts, ledger_after_tx, last_voting_epoch, made_outputs, made_proposals, made_return, with_votes}
use Rattle.tx_rule.specs.of_live_ledger.Drafts.{draft_by, draft_of}
use Rattle.maps.proofs.Sets.{has_member-with_key}
use Rattle.maps.specs.Maps.{has_member, with_key}
use Rattle.proposal_store.specs.Leaving.{without_votes_of}
use Rattle.run_model.specs.World.{World, on_ledger}
use Rattle.tx_balance.proofs.OutputParts.{id_is_new, parts_of}
use Rattle.tx_records.specs.declared.reply.Rule.{Rule}
use Rattle.tx_records.specs.declared.tx.Scripts.{Scripts}
use Rattle.tx_records.specs.declared.tx.Scripts.TheVariants.{Absent, Passed, Failed}
use Rattle.tx_records.specs.declared.tx.Tx.{Tx}
use Rattle.undo_model.specs.Holds.{Holds, HoldsOldVotes, HoldsUnused}
use Rattle.undo_records.specs.declared.OldEntries.{OldEntries}
use Rattle.undo_records.specs.Parts.{before_of}
use Rattle.undo_before.specs.Held.{HoldsEntries}
use Rattle.undo_before.specs.Names.{account_names, drep_names}
use Rattle.undo_before.specs.Old.{no_entries, old_at, old_outputs, values_of}
use Rattle.undo_before.proofs.Maps.{holds_none}
use Rattle.undo_before.proofs.Touched.{accounts_held, dreps_held, hot_held, pools_held}
use Rattle.undo_before.proofs.Spending.{failed_absent, outputs_held, passed_absent}
use Rattle.undo_before.proofs.Stepping.{same_votes}

-- the id of such a transaction is not used
pub new_id : (l : Ledger) (tx : Tx) → first_broken l tx ≡ None → has_member txid_cmp l.used tx.id ≡ false
new_id l tx none = id_is_new l tx (parts_of l tx (ap (λ (o : Option Rule). is_none o) none))

-- one whose scripts failed changes outputs alone
pub failed_entries : (l : Ledger) (tx : Tx) → IsSound l → first_broken l tx ≡ None → HoldsEntries l (record no_entries { outputs = old_outputs tx.collateral (made_return tx) l.outputs }) (after_failed l tx)
failed_entries l tx s none = record {
  outputs = outputs_held tx.collateral (made_return tx) l.outputs (failed_absent l tx s (new_id l tx none));
  accounts = holds_none credential_cmp l.accounts;
  pools = holds_none pool_cmp l.pools;
  dreps = holds_none credential_cmp l.dreps;
  hot = holds_none credential_cmp l.hot;
  votes = same_votes l.proposals;
}

-- the proposals that there were come first
first_proposals : (tx : Tx) (left : List Proposal → List Proposal) (ps made : List Proposal) → length (left ps) ≡ length ps → take (length ps) (map (with_votes tx) (left ps) ++ made) ≡ map (with_votes tx) (left ps)
first_proposals tx left ps made e = take_at (map (with_votes tx) (left ps)) made (length ps) (length-map (left ps) (with_votes tx) ∙ e)

-- one with good scripts changes what its changes name, its outputs, and the votes that it casts
pub passed_entries : (l : Ledger) (tx : Tx) (changes : Changed) (olds : OldEntries) → IsSound l → first_broken l tx ≡ None → laid_over changes l ≡ last_draft l tx
    → olds.outputs ≡ old_outputs tx.inputs (made_outputs tx) l.outputs
    → olds.accounts ≡ old_at credential_cmp l.accounts (account_names (names_of changes) l.accounts)
    → olds.pools ≡ old_at pool_cmp l.pools (names_of changes).pools
    → olds.dreps ≡ old_at credential_cmp l.dreps (drep_names (names_of changes) l.dreps)
    → olds.hot ≡ old_at credential_cmp l.hot (names_of changes).hot
    → AllZip (HoldsOldVotes olds.votes) l.proposals (map (with_votes tx) (map (without_votes_of changes.left) l.proposals))
    → HoldsEntries l olds (after_passed l tx)
passed_entries l tx changes olds s none drafted outputs accounts pools dreps hot votes =
    let m : Ledger = laid_over changes l in
    let only : ChangesNamesOnly (names_of changes) l m = laid_over_changes_names changes l s.accounts s.dreps in
    let made : List Proposal = made_proposals (last_voting_epoch l) tx in
    let held : HoldsEntries l olds (record (after_passed l tx) { accounts = m.accounts; pools = m.pools; dreps = m.dreps; hot = m.hot; proposals = map (with_votes tx) m.proposals ++ made }) =
    record {
      outputs = rw outputs (outputs_held tx.inputs (made_outputs tx) l.outputs (passed_absent l tx s (new_id l tx none)));
      accounts = rw accounts (accounts_held (names_of changes) l m only s.accounts);
      pools = rw pools (pools_held (names_of changes) l m only);
      dreps = rw dreps (dreps_held (names_of changes) l m only);
      hot = rw hot (hot_held (names_of changes) l m only);
      votes = subst (λ (ps : List Proposal). AllZip (HoldsOldVotes olds.votes) l.proposals ps)
          (sym (first_proposals tx (λ (ps : List Proposal). map (without_votes_of changes.left) ps) l.proposals made (length-map l.proposals (without_votes_of changes.left)))) votes;
    } in
    subst (λ (d : Ledger). HoldsEntries l olds (record (after_passed l tx) { accounts = d.accounts; pools = d.pools; dreps = d.dreps; hot = d.hot; proposals = map (with_votes tx) d.proposals ++ made })) drafted held

-- ---- all of it

one_more : (id : TxId) (used : List TxId) → has_member txid_cmp used id ≡ false → HoldsUnused (Some id) used (with_key txid_cmp id used)
one_more id used new = record {
  values = λ q e. ap (λ (o : Option TxId). has_member txid_cmp used (unwrap_or o id)) (sym e) ∙ new;
  others = λ q other. has_member-with_key txid_total id used q ∙ ap (λ b. b || has_member txid_cmp used q) other;
}

-- a ledger whose parts that cannot be named are those of another one
abbrev IsBeside : Ledger → Ledger → Type 0
IsBeside l m = m ≡ record l {
  dormant = m.dormant;
  fees = m.fees;
  donations = m.donations;
  outputs = m.outputs;
  used = m.used;
  accounts = m.accounts;
  pools = m.pools;
  dreps = m.dreps;
  hot = m.hot;
  proposals = m.proposals;
}

held_with : (w : World) (id : TxId) (olds : OldEntries) (m : Ledger) → has_member txid_cmp w.ledger.used id ≡ false → m.used ≡ with_key txid_cmp id w.ledger.used → IsBeside w.ledger m → HoldsEntries w.ledger olds m
    → Holds w (before_of (values_of w (Some id)) olds) (record w { ledger = m })
held_with w id olds m new used beside held = record {
  slot = refl;
  dormant = refl;
  fees = refl;
  donations = refl;
  had_pending = refl;
  pending = λ e. refl;
  outputs = held.outputs;
  used = subst (λ (ids : List TxId). HoldsUnused (Some id) w.ledger.used ids) (sym used) (one_more id w.ledger.used new);
  accounts = held.accounts;
  pools = held.pools;
  dreps = held.dreps;
  hot = held.hot;
  proposals = refl;
  votes = held.votes;
  others = ap (λ (x : Ledger). record w { ledger = record x { slot = m.slot } }) beside;
}

-- a draft changes only what can be named
drafted_beside : (l : Ledger) (tx : Tx) (changes : Changed) → laid_over changes l ≡ last_draft l tx → IsBeside l (after_passed l tx)
drafted_beside l tx changes drafted =
    subst (λ (d : Ledger). IsBeside l (record d {
      outputs = (after_passed l tx).outputs;
      used = (after_passed l tx).used;
      proposals = map (with_votes tx) d.proposals ++ made_proposals (last_voting_epoch l) tx;
      fees = l.fees + tx.fee;
      donations = l.donations + tx.donation;
    })) drafted refl

by_scripts : (sc : Scripts) (w : World) (tx : Tx) (changes : Changed) (olds : OldEntries) → has_member txid_cmp w.ledger.used tx.id ≡ false → laid_over changes w.ledger ≡ draft_by sc w.ledger tx
    → HoldsEntries w.ledger olds (after_scripts sc w.ledger tx) → Holds w (before_of (values_of w (Some tx.id)) olds) (record w { ledger = after_scripts sc w.ledger tx })
by_scripts Absent w tx changes olds new drafted held = held_with w tx.id olds (after_passed w.ledger tx) new refl (drafted_beside w.ledger tx changes drafted) held
by_scripts Passed w tx changes olds new drafted held = held_with w tx.id olds (after_passed w.ledger tx) new refl (drafted_beside w.ledger tx changes drafted) held
by_scripts Failed w tx changes olds new drafted held = held_with w tx.id olds (after_failed w.ledger tx) new refl refl held

-- the old values with the id hold of the World after the transaction
pub tx_held : (w : World) (tx : Tx) (changes : Changed) (olds : OldEntries) → first_broken w.ledger tx ≡ None → laid_over changes w.ledger ≡ draft_of w.ledger tx
    → HoldsEntries w.ledger olds (ledger_after_tx w.ledger tx) → Holds w (before_of (values_of w (Some tx.id)) olds) (on_ledger (λ l. ledger_after_tx l tx) w)
tx_held w tx changes olds none drafted held = by_scripts tx.scripts w tx changes olds (new_id w.ledger tx none) drafted held
