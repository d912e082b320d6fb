-- An undo gives the World before, with the present count.
use Rattle.std.proofs.Common.{◌≡◌, ℕ, Bool, true, false, Option, Some, None, cond, is_some, take, refl, ap}
use Rattle.gov_ids.proofs.Exacts.{credential_exact, outref_exact, pool_exact}
use Rattle.gov_ids.proofs.Totals.{credential_total, outref_total, pool_total}
use Rattle.ledger_model.specs.Ledger.{Ledger}
use Rattle.ledger_model.specs.Sound.{IsSound}
use Rattle.run_model.specs.World.{World}
use Rattle.undo_model.specs.Holds.{Holds}
use Rattle.undo_model.specs.Laws.{UndoneIsBefore}
use Rattle.undo_model.specs.Undone.{Before}
use Rattle.undo_model.proofs.OldMaps.{HasVotes, all_taken, old_map, old_proposals, old_used}

-- a reward update that was pending is the present one
old_pending : {A : Type 0} (had : Bool) (before after : Option A) → had ≡ is_some before → (had ≡ true → after ≡ before) → cond had after None ≡ before
old_pending true before after e same = same refl
old_pending false None after e same = refl
old_pending false (Some x) after e same = cc

pub undone_is_before : UndoneIsBefore
undone_is_before w v b g h held =
    let l : Ledger = w.ledger in
    let m : Ledger = v.ledger in
    let s : IsSound l = g.ledger.maps in
    let t : IsSound m = h.ledger.maps in
    let outputs = old_map outref_total outref_exact l.outputs b.outputs m.outputs s.outputs t.outputs held.outputs in
    let used = old_used b.unused l.used m.used s.used t.used held.used in
    let accounts = old_map credential_total credential_exact l.accounts b.accounts m.accounts s.accounts t.accounts held.accounts in
    let pools = old_map pool_total pool_exact l.pools b.pools m.pools s.pools t.pools held.pools in
    let dreps = old_map credential_total credential_exact l.dreps b.dreps m.dreps s.dreps t.dreps held.dreps in
    let hot = old_map credential_total credential_exact l.hot b.hot m.hot s.hot t.hot held.hot in
    let proposals = old_proposals b.votes l.proposals (take b.proposals m.proposals)
    g.ledger.proposals.votes (all_taken HasVotes b.proposals m.proposals h.ledger.proposals.votes) held.votes in
    let pending = old_pending b.had_pending w.pending v.pending held.had_pending held.pending in
    λ i. record (held.others i) {
      ledger = record (held.others i).ledger {
        slot = held.slot i;
        dormant = held.dormant i;
        fees = held.fees i;
        donations = held.donations i;
        outputs = outputs i;
        used = used i;
        accounts = accounts i;
        pools = pools i;
        dreps = dreps i;
        hot = hot i;
        proposals = proposals i;
      };
      pending = pending i;
    }

-- old values do not look at the counts
pub held_at_any_count : (w v : World) (b : Before) (m n : ℕ) → Holds w b v → Holds (record w { counted = m }) b (record v { counted = n })
held_at_any_count w v b m n held = record {
  slot = held.slot;
  dormant = held.dormant;
  fees = held.fees;
  donations = held.donations;
  had_pending = held.had_pending;
  pending = held.pending;
  outputs = held.outputs;
  used = held.used;
  accounts = held.accounts;
  pools = held.pools;
  dreps = held.dreps;
  hot = held.hot;
  proposals = held.proposals;
  votes = held.votes;
  others = ap (λ (x : World). record x { counted = n }) held.others;
}
