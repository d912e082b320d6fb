-- A genesis gives a sound World, and each record keeps it sound.
use Rattle.std.proofs.Common.{◌≡◌, ℕ, ◌+◌, ◌^◌, ◌<◌, ◌≤◌, List, [], ◌∷◌, Bool, true, false, cond, Option, Some, None, map, fold, take, length, unwrap_or, refl, ap, sym, subst, ◌∙◌, arith}
use Rattle.std.specs.List.{AllByRecursion, enumerate_from, last_or}
use Rattle.std.proofs.Math.Nat.{div-le_self, min-le_left}
use Rattle.std.proofs.lemmas.Bool.{eqb-true, ltb-false, ltb-true}
use Rattle.maps.specs.Maps.{IsMap, has_member, value_at, without_keys}
use Rattle.maps.specs.Words.{amount}
use Rattle.maps.proofs.Kept.{IsMap-with_values, IsMap-without_key, IsMap-without_keys}
use Rattle.gov_ids.specs.declared.ActionId.{ActionId}
use Rattle.gov_ids.specs.declared.Credential.{Credential}
use Rattle.gov_ids.specs.declared.PoolId.{PoolId}
use Rattle.gov_ids.specs.declared.TxId.{TxId}
use Rattle.gov_ids.specs.declared.Voter.TheVariants as voter
use Rattle.gov_ids.specs.Orders.{credential_cmp, pool_cmp, txid_cmp, voter_cmp}
use Rattle.gov_ids.proofs.Totals.{credential_total, voter_total}
use Rattle.pparams.specs.declared.Update.{Update}
use Rattle.book_records.specs.declared.DrepState.{DrepState}
use Rattle.book_records.specs.declared.pool.Pool.{Pool}
use Rattle.gov_actions.specs.declared.action.Action.{Action}
use Rattle.gov_actions.specs.declared.action.Action.TheVariants.{NoConfidence, UpdateCommittee, NewConstitution, HardForkInitiation, ParameterChange, TreasuryWithdrawals, Info}
use Rattle.gov_actions.specs.declared.action.Proposal.{Proposal}
use Rattle.gov_actions.specs.declared.state.Committee.{Committee}
use Rattle.gov_actions.specs.declared.state.EnactState.{EnactState}
use Rattle.gov_model.specs.Enacted.{committee_after, update_of}
use Rattle.gov_model.specs.Proposals.{without_vote}
use Rattle.gov_model.specs.Ratified.{ids_of}
use Rattle.gov_model.specs.Sides.{members_of}
use Rattle.gov_model.specs.Snapshot.{entry_count}
use Rattle.tx_records.proofs.Parts.{GenesisParts, genesis_parts}
use Rattle.tx_records.specs.declared.cert.Cert.{Cert}
use Rattle.tx_records.specs.declared.cert.Cert.TheVariants.{AccountReg, AccountUnreg, Delegate, PoolReg, PoolRetire, DrepReg, DrepUnreg, DrepUpdate, HotAuth, HotResign}
use Rattle.coin_frac.specs.declared.TheConstants.{SUPPLY_LIMIT}
use Rattle.tx_records.specs.declared.record.Record.{Record}
use Rattle.tx_records.specs.declared.record.Record.TheVariants as records
use Rattle.tx_records.specs.declared.record.Rewards.{Rewards}
use Rattle.tx_records.specs.declared.reply.Rule.{Rule}
use Rattle.tx_records.specs.declared.tx.ProposalRecord.{ProposalRecord}
use Rattle.tx_records.specs.declared.tx.Scripts.{Scripts}
use Rattle.tx_records.specs.declared.tx.Scripts.TheVariants.{Absent, Passed, Failed}
use Rattle.tx_records.specs.declared.tx.Tx.{Tx}
use Rattle.tx_records.specs.RecordLimits.{is_within_limits}
use Rattle.ledger_model.specs.Changes.{changed_by, dormant_added, refreshed, voters_refreshed, withdrawn}
use Rattle.ledger_model.specs.Draft.{draft_with, is_refused, last_draft}
use Rattle.ledger_model.specs.Ledger.{Ledger}
use Rattle.ledger_model.specs.Supply.{pots_of, supply_of}
use Rattle.ledger_model.specs.Transaction.{after_passed, after_scripts, last_voting_epoch, ledger_after_tx, made_proposal, made_proposals, votes_on, with_votes}
use Rattle.tx_balance.proofs.Sounds.{tx_steady}
use Rattle.tx_balance.proofs.Supplies.{moves_keep_supply}
use Rattle.run_model.specs.Boundary.{after_dormancy, after_rewards, enacted_proposals, frozen_anew, update_applied, world_after_boundary}
use Rattle.run_model.specs.BoundaryFlows.{flows_of_accepted, flows_of_boundary, flows_of_update}
use Rattle.run_model.specs.Freeze.{snapshot_of}
use Rattle.run_model.specs.Genesis.{first_marked, ledger_of_genesis, world_of_genesis}
use Rattle.run_model.specs.Laws.{IsAsFrozen}
use Rattle.run_model.specs.SoundLaws.{GenesisBeginsSound, RecordsKeepSound}
use Rattle.run_model.specs.SoundWorld.{AreSoundStakes, IsSoundLedger, IsSoundSnapshot, IsSoundWorld, activity_set_by}
use Rattle.run_model.specs.Step.{crossed, enters_next, epoch_at, pulsed, refusal_of, step_by, world_after_accepted}
use Rattle.run_model.specs.World.{World, on_ledger}
use Rattle.epoch_balance.proofs.Covered.{payments_are_covered}
use Rattle.epoch_balance.proofs.StepMoves.{rewards_balance}
use Rattle.epoch_balance.proofs.Whole.{boundary_balances}
use Rattle.genesis_balance.proofs.Start.{IsUnbrokenGenesis, empty_sorted, genesis_holds_supply, unbroken_genesis, seated_first}
use Rattle.dormant_laws.proofs.Dormant.{AreActive, IsActive, IsActiveLedger, IsActiveUpdate, IsBounded, accepted_bounded, bounded_ledger, boundary_within, genesis_bounded, law_of_bounded}
use Rattle.dormant_laws.proofs.Lists.{all_append, all_made, all_passing, left_of}
use Rattle.run_laws.specs.Boundaries.{BoundariesKeepSound}
use Rattle.run_laws.proofs.Good.{IsGood, IsGoodLedger}
use Rattle.run_laws.proofs.GoodBlock.{boundary_epoch, boundary_good, pulsed_good, update_good, update_only}
use Rattle.run_laws.proofs.Reach.{accepted_good, accepted_moves}
use Rattle.run_laws.proofs.SoundStakes.{IsMap-chosen, IsMap-made, entries_sound, entries_within, pools_sound}
use Rattle.run_laws.proofs.Start.{genesis_good}

-- ---- what is said in two forms

set_within : (o : Option ℕ) → unwrap_or o 0 ≤ 2 ^ 32 → IsActive (2 ^ 32) o
set_within None h = tt
set_within (Some n) h = h

within_set : (o : Option ℕ) → IsActive (2 ^ 32) o → unwrap_or o 0 ≤ 2 ^ 32
within_set None h = omega arith
within_set (Some n) h = h

update_within : (o : Option Update) → amount (λ (u : Update). unwrap_or u.drep_activity 0) o ≤ 2 ^ 32 → IsActiveUpdate (2 ^ 32) o
update_within None h = tt
update_within (Some u) h = set_within u.drep_activity h

within_update : (o : Option Update) → IsActiveUpdate (2 ^ 32) o → amount (λ (u : Update). unwrap_or u.drep_activity 0) o ≤ 2 ^ 32
within_update None h = omega arith
within_update (Some u) h = within_set u.drep_activity h

abbrev HaveVotes : List Proposal → Type 0
HaveVotes ps = AllByRecursion (λ (p : Proposal). IsMap voter_cmp p.votes) ps

active_of : (ps : List Proposal) → AllByRecursion (λ (p : Proposal). activity_set_by p.action ≤ 2 ^ 32) ps → AreActive (2 ^ 32) ps
active_of [] h = tt
active_of (p ∷ ps) h = (update_within (update_of p.action) h.0, active_of ps h.1)

of_active : (ps : List Proposal) → AreActive (2 ^ 32) ps → AllByRecursion (λ (p : Proposal). activity_set_by p.action ≤ 2 ^ 32) ps
of_active [] h = tt
of_active (p ∷ ps) h = (within_update (update_of p.action) h.0, of_active ps h.1)

ids_from : (P : ActionId → Type 0) (ps : List Proposal) → AllByRecursion (λ (p : Proposal). P p.id) ps → AllByRecursion P (ids_of ps)
ids_from P [] h = tt
ids_from P (p ∷ ps) h = (h.0, ids_from P ps h.1)

pub from_ids : (P : ActionId → Type 0) (ps : List Proposal) → AllByRecursion P (ids_of ps) → AllByRecursion (λ (p : Proposal). P p.id) ps
from_ids P [] h = tt
from_ids P (p ∷ ps) h = (h.0, from_ids P ps h.1)

-- a sound World is good and bounded
good_of : (w : World) → IsSoundWorld w → IsGood w
good_of w s = record {
  ledger = record { sound = s.ledger.maps; own = s.ledger.proposals.ids; used = ids_from (λ (a : ActionId). has_member txid_cmp w.ledger.used a.tx ≡ true) w.ledger.proposals s.ledger.ids_used };
  frozen_own = s.frozen.proposals.ids;
  frozen = s.stands;
}

bounded_of : (w : World) → IsSoundWorld w → IsBounded w
bounded_of w s = record {
  ledger = bounded_ledger w.ledger s.ledger.maps.dreps s.ledger.dormancy s.ledger.activity (active_of w.ledger.proposals s.ledger.proposals.activities);
  start = s.frozen.activity;
  frozen = active_of w.frozen.proposals s.frozen.proposals.activities;
}

-- and a ledger that is good and bounded is sound with what else is asked
record HasRest (l : Ledger) : Type 0 where
  votes : HaveVotes l.proposals
  committee : IsMap credential_cmp (members_of l.state.committee)
  balanced : supply_of l ≡ l.supply
  within : l.supply ≤ SUPPLY_LIMIT
  lasting : 1 ≤ l.epoch_length
  slot : l.slot < 2 ^ 62
  epoch : l.epoch ≤ 2 ^ 62

sound_ledger : (l : Ledger) → IsGoodLedger l → IsActiveLedger (2 ^ 62) (2 ^ 32) l → HasRest l → IsSoundLedger l
sound_ledger l g b h = record {
  maps = g.sound;
  proposals = record { ids = g.own; votes = h.votes; activities = of_active l.proposals b.live };
  ids_used = from_ids (λ (a : ActionId). has_member txid_cmp l.used a.tx ≡ true) l.proposals g.used;
  committee = h.committee;
  balanced = h.balanced;
  within = h.within;
  lasting = h.lasting;
  slot = h.slot;
  epoch = h.epoch;
  dormancy = law_of_bounded l b;
  activity = b.activity;
}

-- ---- what is frozen of a sound ledger

snapshot_sound : (v : World) → IsSoundLedger v.ledger → AreSoundStakes v.ledger.supply v.mark → IsSoundSnapshot v.ledger.supply (snapshot_of v)
snapshot_sound v s m = record {
  entries = entries_sound v.ledger;
  dreps = IsMap-made credential_cmp (λ (e : Credential × DrepState). e.1.expiry) v.ledger.dreps s.maps.dreps;
  pool_accounts = IsMap-chosen pool_cmp (λ (p : Pool). p.terms.account) (λ (e : PoolId × ℕ). value_at pool_cmp v.ledger.pools e.0) v.mark m.pools;
  hot = s.maps.hot;
  proposals = s.proposals;
  committee = s.committee;
  held = omega (arith, s.balanced, entries_within v.ledger s.maps.accounts);
  activity = s.activity;
}

world_sound : (v : World) → IsSoundLedger v.ledger → IsAsFrozen (frozen_anew v) → AreSoundStakes v.ledger.supply v.mark → AreSoundStakes v.ledger.supply v.set → AreSoundStakes v.ledger.supply v.go
    → v.noted_fees ≤ v.ledger.supply → IsSoundWorld (frozen_anew v)
world_sound v s stands mark set go fees = record {
  ledger = s;
  frozen = snapshot_sound v s mark;
  stands = stands;
  marked = refl;
  mark = mark;
  set = set;
  go = go;
  fees = fees;
  counted = omega arith;
}

-- ---- the genesis

no_stakes : (s : ℕ) → AreSoundStakes s []
no_stakes s = record { pools = empty_sorted pool_cmp; sum = omega arith }

pub genesis_begins_sound : GenesisBeginsSound
genesis_begins_sound g h e =
    let w : World = world_of_genesis g in
    let l : Ledger = ledger_of_genesis g in
    let good : IsGood w = genesis_good g in
    let b : IsBounded w = genesis_bounded g h in
    let u : IsUnbrokenGenesis g = unbroken_genesis g e in
    let whole : supply_of l ≡ g.supply = genesis_holds_supply g e in
    let limits : GenesisParts g = genesis_parts g h in
    let early : g.slot < 2 ^ 62 = limits.slot in
    let sound : IsSoundLedger l = sound_ledger l good.ledger b.ledger (record {
      votes = tt;
      committee = seated_first g.committee;
      balanced = whole;
      within = ltb-false SUPPLY_LIMIT g.supply u.within;
      lasting = limits.long;
      slot = early;
      epoch = omega (arith, div-le_self g.slot g.epoch_length, early);
    }) in
    world_sound (first_marked g) sound good.frozen (pools_sound g.supply l good.ledger.sound.pools good.ledger.sound.accounts (omega (arith, whole))) (no_stakes g.supply) (no_stakes g.supply) (omega arith)

-- ---- votes

votes_unvoted : (c : Credential) (ps : List Proposal) → HaveVotes ps → HaveVotes (map (without_vote (voter.Drep c)) ps)
votes_unvoted c ps h =
    all_made (λ (p : Proposal). IsMap voter_cmp p.votes) (λ (p : Proposal). IsMap voter_cmp p.votes) (without_vote (voter.Drep c)) (λ p k. IsMap-without_key voter_cmp (voter.Drep c) p.votes k) ps h

votes_by_cert : (c : Cert) (d : Ledger) → HaveVotes d.proposals → HaveVotes (changed_by c d).proposals
votes_by_cert (AccountReg cred deposit pool drep) d h = h
votes_by_cert (AccountUnreg cred refund) d h = h
votes_by_cert (Delegate cred pool drep) d h = h
votes_by_cert (PoolReg pool cost pledge margin account key) d h = h
votes_by_cert (PoolRetire pool epoch) d h = h
votes_by_cert (DrepReg cred deposit) d h = h
votes_by_cert (DrepUnreg cred refund) d h = votes_unvoted cred d.proposals h
votes_by_cert (DrepUpdate cred) d h = h
votes_by_cert (HotAuth cold key) d h = h
votes_by_cert (HotResign cold) d h = h

votes_either : (b : Bool) (c : Cert) (d : Ledger) → HaveVotes d.proposals → HaveVotes (cond b d (changed_by c d)).proposals
votes_either true c d h = h
votes_either false c d h = votes_by_cert c d h

votes_by_certs : (l : Ledger) (cs : List Cert) (d : Ledger) → HaveVotes d.proposals → HaveVotes (fold (draft_with l) d cs).proposals
votes_by_certs l [] d h = h
votes_by_certs l (c ∷ cs) d h = votes_by_certs l cs (draft_with l d c) (votes_either (is_refused l d c) c d h)

votes_refreshed : (b : Bool) (tx : Tx) (d : Ledger) → HaveVotes d.proposals → HaveVotes (voters_refreshed tx (cond b d (dormant_added d))).proposals
votes_refreshed true tx d h = h
votes_refreshed false tx d h = h

new_votes : (last : ℕ) (id : TxId) (n : ℕ) (ps : List ProposalRecord) → HaveVotes (map (λ p. made_proposal last id p.0 p.1) (enumerate_from n ps))
new_votes last id n [] = tt
new_votes last id n (p ∷ ps) = (empty_sorted voter_cmp, new_votes last id (n + 1) ps)

votes_passed : (l : Ledger) (tx : Tx) → HaveVotes l.proposals → HaveVotes (after_passed l tx).proposals
votes_passed l tx h =
    let d : Ledger = last_draft l tx in
    let drafted : HaveVotes d.proposals = votes_by_certs l (take (length tx.certs) tx.certs) (refreshed tx (withdrawn tx l)) (votes_refreshed _ tx (withdrawn tx l) h) in
    all_append (λ (p : Proposal). IsMap voter_cmp p.votes) (map (with_votes tx) d.proposals) (made_proposals (last_voting_epoch l) tx)
    (all_made (λ (p : Proposal). IsMap voter_cmp p.votes) (λ (p : Proposal). IsMap voter_cmp p.votes) (with_votes tx) (λ p k. IsMap-with_values voter_total (votes_on tx p.id) p.votes k) d.proposals drafted)
    (new_votes (last_voting_epoch l) tx.id 0 tx.proposals)

votes_after : (sc : Scripts) (l : Ledger) (tx : Tx) → HaveVotes l.proposals → HaveVotes (after_scripts sc l tx).proposals
votes_after Absent l tx h = votes_passed l tx h
votes_after Passed l tx h = votes_passed l tx h
votes_after Failed l tx h = h

-- ---- the committee after an enactment

seated_after : (old : Option Committee) (last : Option Action) → IsMap credential_cmp (members_of old) → IsMap credential_cmp (members_of (committee_after old last))
seated_after old None h = h
seated_after old (Some (NoConfidence previous)) h = empty_sorted credential_cmp
seated_after old (Some (UpdateCommittee previous remove add threshold)) h =
    IsMap-with_values credential_total add (without_keys credential_cmp remove (members_of old)) (IsMap-without_keys credential_cmp remove (members_of old) h)
seated_after old (Some (NewConstitution previous document script)) h = h
seated_after old (Some (HardForkInitiation previous version)) h = h
seated_after old (Some (ParameterChange previous update policy)) h = h
seated_after old (Some (TreasuryWithdrawals targets policy)) h = h
seated_after old (Some Info) h = h

-- ---- the boundary

votes_updated : (o : Option Rewards) (l : Ledger) → HaveVotes l.proposals → HaveVotes (update_applied o l).proposals
votes_updated None l h = h
votes_updated (Some u) l h = h

pub boundaries_keep_sound : BoundariesKeepSound
boundaries_keep_sound w s early =
    let good : IsGood w = good_of w s in
    let l : Ledger = (after_rewards w).ledger in
    let m : Ledger = (world_after_boundary w).ledger in
    let g : IsGood (world_after_boundary w) = boundary_good w good in
    let b : IsBounded (world_after_boundary w) = boundary_within (2 ^ 62) (2 ^ 32) w (bounded_of w s) in
    let same : l.supply ≡ w.ledger.supply = ap (λ (x : Ledger). x.supply) (sym (update_only w.pending w.ledger)) in
    let whole : supply_of m ≡ supply_of w.ledger =
    moves_keep_supply (flows_of_boundary w) (pots_of w.ledger) (pots_of m) (boundary_balances w good.ledger.sound.accounts good.frozen.pending good.ledger.own (payments_are_covered w good.frozen_own good.frozen.treasury)) in
    let first : supply_of l ≡ supply_of w.ledger = moves_keep_supply (flows_of_update w.ledger w.pending) (pots_of w.ledger) (pots_of l) (rewards_balance w good.ledger.sound.accounts good.frozen.pending) in
    let lg : IsGoodLedger l = update_good w.pending w.ledger good.ledger in
    let votes : HaveVotes m.proposals = all_passing (λ (p : Proposal). IsMap voter_cmp p.votes) _ _ (all_passing (λ (p : Proposal). IsMap voter_cmp p.votes) _ l.proposals (votes_updated w.pending w.ledger s.ledger.proposals.votes)) in
    let next : m.epoch ≡ w.ledger.epoch + 1 = boundary_epoch w in
    let sound : IsSoundLedger m = sound_ledger m g.ledger b.ledger (record {
      votes = votes;
      committee = seated_after w.frozen.start.committee (last_or None (map (λ (a : ActionId × Action). a.1) (map (λ (a : Proposal). (a.id, a.action)) (enacted_proposals w)))) s.frozen.committee;
      balanced = whole ∙ s.ledger.balanced ∙ sym same;
      within = omega (arith, same, s.ledger.within);
      lasting = omega (arith, ap (λ (x : Ledger). x.epoch_length) (sym (update_only w.pending w.ledger)), s.ledger.lasting);
      slot = omega (arith, ap (λ (x : Ledger). x.slot) (sym (update_only w.pending w.ledger)), s.ledger.slot);
      epoch = omega (arith, next, early);
    }) in
    world_sound (on_ledger (λ (x : Ledger). record x { epoch = x.epoch + 1 }) (after_dormancy w)) sound g.frozen
    (pools_sound m.supply l lg.sound.pools lg.sound.accounts (omega (arith, first, same, s.ledger.balanced)))
    (subst (λ (n : ℕ). AreSoundStakes n w.mark) (sym same) s.mark)
    (subst (λ (n : ℕ). AreSoundStakes n w.set) (sym same) s.set)
    (omega (arith, first, same, s.ledger.balanced))

crossed_sound : (b : Bool) (w : World) (slot : ℕ) → IsSoundWorld w → enters_next w.ledger slot ≡ b → slot < 2 ^ 62 → IsSoundWorld (crossed b w)
crossed_sound true w slot s e early =
    let reached : epoch_at w.ledger slot ≡ w.ledger.epoch + 1 = eqb-true (epoch_at w.ledger slot) (w.ledger.epoch + 1) e in
    boundaries_keep_sound w s (omega (arith, reached, div-le_self slot w.ledger.epoch_length, early))
crossed_sound false w slot s e early = s

-- ---- a pulse

pulsed_sound : (slot pulse : ℕ) (w : World) → IsSoundWorld w → slot < 2 ^ 62 → IsSoundWorld (pulsed slot pulse w)
pulsed_sound slot pulse w s early =
    let l : IsSoundLedger w.ledger = s.ledger in
    let g : IsGood (pulsed slot pulse w) = pulsed_good slot pulse w (good_of w s) in
    record {
      ledger = record {
        maps = g.ledger.sound;
        proposals = l.proposals;
        ids_used = l.ids_used;
        committee = l.committee;
        balanced = l.balanced;
        within = l.within;
        lasting = l.lasting;
        slot = early;
        epoch = l.epoch;
        dormancy = record { awake = l.dormancy.awake; at_most = l.dormancy.at_most; expiries = l.dormancy.expiries };
        activity = l.activity;
      };
      frozen = s.frozen;
      stands = g.frozen;
      marked = s.marked;
      mark = s.mark;
      set = s.set;
      go = s.go;
      fees = s.fees;
      counted = min-le_left (entry_count w.frozen) (w.counted + pulse);
    }

-- ---- a transaction

tx_sound : (w : World) (tx : Tx) → IsSoundWorld w → is_within_limits (records.Tx tx) ≡ true → refusal_of w (records.Tx tx) ≡ None → IsSoundWorld (record w { ledger = ledger_after_tx w.ledger tx })
tx_sound w tx s h e =
    let l : Ledger = w.ledger in
    let m : Ledger = ledger_after_tx l tx in
    let good : IsGood w = good_of w s in
    let g : IsGood (record w { ledger = m }) = accepted_good w (records.Tx tx) good h e in
    let b : IsBounded (record w { ledger = m }) = accepted_bounded w (records.Tx tx) (bounded_of w s) h in
    let only = (tx_steady l tx s.ledger.maps).only in
    let supply : l.supply ≡ m.supply = ap (λ (x : Ledger). x.supply) only in
    let state : l.state ≡ m.state = ap (λ (x : Ledger). x.state) only in
    let whole : supply_of m ≡ supply_of l = moves_keep_supply (flows_of_accepted w (records.Tx tx)) (pots_of l) (pots_of m) (accepted_moves w (records.Tx tx) good h e) in
    record {
      ledger = sound_ledger m g.ledger b.ledger (record {
        votes = votes_after tx.scripts l tx s.ledger.proposals.votes;
        committee = subst (λ (x : EnactState). IsMap credential_cmp (members_of x.committee)) state s.ledger.committee;
        balanced = whole ∙ s.ledger.balanced ∙ supply;
        within = omega (arith, supply, s.ledger.within);
        lasting = omega (arith, ap (λ (x : Ledger). x.epoch_length) only, s.ledger.lasting);
        slot = omega (arith, ap (λ (x : Ledger). x.slot) only, s.ledger.slot);
        epoch = omega (arith, ap (λ (x : Ledger). x.epoch) only, s.ledger.epoch);
      });
      frozen = subst (λ (n : ℕ). IsSoundSnapshot n w.frozen) supply s.frozen;
      stands = g.frozen;
      marked = s.marked;
      mark = subst (λ (n : ℕ). AreSoundStakes n w.mark) supply s.mark;
      set = subst (λ (n : ℕ). AreSoundStakes n w.set) supply s.set;
      go = subst (λ (n : ℕ). AreSoundStakes n w.go) supply s.go;
      fees = omega (arith, supply, s.fees);
      counted = s.counted;
    }

-- ---- any record

rewards_sound : (w : World) (u : Rewards) → IsSoundWorld w → is_within_limits (records.Rewards u) ≡ true → refusal_of w (records.Rewards u) ≡ None → IsSoundWorld (world_after_accepted w (records.Rewards u))
rewards_sound w u s h e = record {
  ledger = s.ledger;
  frozen = s.frozen;
  stands = (accepted_good w (records.Rewards u) (good_of w s) h e).frozen;
  marked = s.marked;
  mark = s.mark;
  set = s.set;
  go = s.go;
  fees = s.fees;
  counted = s.counted;
}

pub accepted_sound : (w : World) (r : Record) → IsSoundWorld w → is_within_limits r ≡ true → refusal_of w r ≡ None → IsSoundWorld (world_after_accepted w r)
accepted_sound w (records.Genesis x) s h e = s
accepted_sound w (records.Block slot pulse) s h e =
    let early : slot < 2 ^ 62 = ltb-true slot (2 ^ 62) (left_of _ _ h) in
    pulsed_sound slot pulse (crossed (enters_next w.ledger slot) w) (crossed_sound (enters_next w.ledger slot) w slot s refl early) early
accepted_sound w (records.Rewards u) s h e = rewards_sound w u s h e
accepted_sound w (records.Tx tx) s h e = tx_sound w tx s h e
accepted_sound w (records.Print what) s h e = s

sound_by : (o : Option Rule) (w : World) (r : Record) → IsSoundWorld w → is_within_limits r ≡ true → refusal_of w r ≡ o → IsSoundWorld (step_by o w r).0
sound_by (Some rule) w r s h e = s
sound_by None w r s h e = accepted_sound w r s h e

pub records_keep_sound : RecordsKeepSound
records_keep_sound w r s h = sound_by (refusal_of w r) w r s h refl
