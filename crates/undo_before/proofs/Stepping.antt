-- What records change that name nothing, and the World after a transaction.
use Rattle.std.proofs.Common.{◌≡◌, ℕ, ◌+◌, List, [], ◌∷◌, Bool, true, false, Option, Some, None, is_some, length, take, refl, ap, sym, subst, arith}
use Rattle.std.specs.List.{AllZip}
use Rattle.gov_actions.specs.declared.action.Proposal.{Proposal}
use Rattle.gov_ids.specs.declared.TxId.{TxId}
use Rattle.gov_ids.specs.Orders.{credential_cmp, outref_cmp, pool_cmp, voter_cmp}
use Rattle.ledger_model.specs.Broken.{first_broken}
use Rattle.ledger_model.specs.Ledger.{Ledger}
use Rattle.ledger_model.specs.Transaction.{ledger_after_tx}
use Rattle.run_model.specs.Boundary.{update_applied}
use Rattle.run_model.specs.Step.{crossed, enters_next, in_order_of_credential, pulsed, refusal_of, step, step_by}
use Rattle.run_model.specs.World.{World, on_ledger}
use Rattle.tx_records.specs.declared.record.Record.{Record}
use Rattle.tx_records.specs.declared.record.Record.TheVariants as records
use Rattle.tx_records.specs.declared.record.Rewards.{Rewards}
use Rattle.tx_records.specs.declared.reply.Rule.{Rule}
use Rattle.tx_records.specs.declared.tx.Tx.{Tx}
use Rattle.undo_model.specs.Holds.{Holds, HoldsOldVotes, HoldsUnused}
use Rattle.undo_model.specs.Undone.{Before}
use Rattle.undo_before.specs.Old.{naming_nothing, tx_of}
use Rattle.undo_model.proofs.Stepping.{none_given}
use Rattle.undo_before.proofs.Maps.{holds_none}

-- ---- votes and used ids that stay

pub same_votes : (ps : List Proposal) → AllZip (HoldsOldVotes []) ps (take (length ps) ps)
same_votes [] = tt
same_votes (p ∷ ps) = (record { votes = holds_none voter_cmp p.votes; others = refl }, same_votes ps)

same_used : (used : List TxId) → HoldsUnused None used used
same_used used = record { values = λ id e. cc; others = λ id other. refl }

-- ---- records that name nothing

-- a World with another slot, another pending update and another count
pub names_nothing : (w : World) (slot counted : ℕ) (pending : Option Rewards) → (is_some w.pending ≡ true → pending ≡ w.pending) → Holds w (naming_nothing w) (record w { ledger = record w.ledger { slot = slot }; pending = pending; counted = counted })
names_nothing w slot counted pending same = record {
  slot = refl;
  dormant = refl;
  fees = refl;
  donations = refl;
  had_pending = refl;
  pending = same;
  outputs = holds_none outref_cmp w.ledger.outputs;
  used = same_used w.ledger.used;
  accounts = holds_none credential_cmp w.ledger.accounts;
  pools = holds_none pool_cmp w.ledger.pools;
  dreps = holds_none credential_cmp w.ledger.dreps;
  hot = holds_none credential_cmp w.ledger.hot;
  proposals = refl;
  votes = same_votes w.ledger.proposals;
  others = refl;
}

pub holds_itself : (w : World) → Holds w (naming_nothing w) w
holds_itself w = names_nothing w w.ledger.slot w.counted w.pending (λ e. refl)

-- whether the record is a transaction
abbrev pub IsNoTx : Record → Type 0
IsNoTx (records.Tx tx) = ⊥
IsNoTx _ = Unit {0}

-- the boundary adds an epoch
same_epoch : (o : Option Rewards) (l : Ledger) → (update_applied o l).epoch ≡ l.epoch
same_epoch None l = refl
same_epoch (Some u) l = refl

by_crossing : (b : Bool) (w : World) (slot pulse : ℕ) → (crossed b w).ledger.epoch ≡ w.ledger.epoch → Holds w (naming_nothing w) (pulsed slot pulse (crossed b w))
by_crossing true w slot pulse h = absurd (omega (arith, h, ap (λ n. n + 1) (same_epoch w.pending w.ledger)))
by_crossing false w slot pulse h = names_nothing w slot (pulsed slot pulse w).counted w.pending (λ e. refl)

by_rule : (o : Option Rule) (w : World) (r : Record) → IsNoTx r → refusal_of w r ≡ o → (step_by o w r).0.ledger.epoch ≡ w.ledger.epoch → Holds w (naming_nothing w) (step_by o w r).0
by_rule (Some rule) w r n e h = holds_itself w
by_rule None w (records.Genesis genesis) n e h = holds_itself w
by_rule None w (records.Block slot pulse) n e h = by_crossing (enters_next w.ledger slot) w slot pulse h
by_rule None w (records.Rewards u) n e h = names_nothing w w.ledger.slot w.counted (Some (in_order_of_credential u)) (none_given w u e)
by_rule None w (records.Tx tx) n e h = absurd n
by_rule None w (records.Print what) n e h = holds_itself w

-- each record but a transaction changes nothing at a name
pub other_held : (w : World) (r : Record) → IsNoTx r → (step w r).0.ledger.epoch ≡ w.ledger.epoch → Holds w (naming_nothing w) (step w r).0
other_held w r n h = by_rule (refusal_of w r) w r n refl h

-- the World after a transaction that breaks a rule, and after one that breaks none
pub refused_held : (w : World) (tx : Tx) {rule : Rule} → first_broken w.ledger tx ≡ Some rule → Holds w (naming_nothing w) (step w (records.Tx tx)).0
refused_held w tx broken = subst (λ (o : Option Rule). Holds w (naming_nothing w) (step_by o w (records.Tx tx)).0) (sym broken) (holds_itself w)

pub accepted_held : (w : World) (tx : Tx) (b : Before) → first_broken w.ledger tx ≡ None → Holds w b (on_ledger (λ l. ledger_after_tx l tx) w) → Holds w b (step w (records.Tx tx)).0
accepted_held w tx b none held = subst (λ (o : Option Rule). Holds w b (step_by o w (records.Tx tx)).0) (sym none) held

-- a record that is this transaction, and one that is none
pub tx_from : (r : Record) (tx : Tx) → Some tx ≡ tx_of r → records.Tx tx ≡ r
tx_from (records.Genesis g) tx e = cc
tx_from (records.Block slot pulse) tx e = cc
tx_from (records.Rewards u) tx e = cc
tx_from (records.Tx x) tx e = let same : tx ≡ x = cc in ap (λ (t : Tx). records.Tx t) same
tx_from (records.Print what) tx e = cc

pub no_tx : (r : Record) → None ≡ tx_of r → IsNoTx r
no_tx (records.Genesis g) e = tt
no_tx (records.Block slot pulse) e = tt
no_tx (records.Rewards u) e = tt
no_tx (records.Tx x) e = cc
no_tx (records.Print what) e = tt
