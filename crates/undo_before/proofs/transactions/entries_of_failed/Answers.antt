use Rattle.std.proofs.Common.{List, Option, ap, sym, subst, ◌∙◌}
use Rattle.book_records.specs.declared.Output.{Output}
use Rattle.gov_ids.specs.declared.OutRef.{OutRef}
use Rattle.ledger_model.specs.Transaction.{after_failed, made_return}
use Rattle.tx_records.proofs.Parts.{tx_parts}
use Rattle.undo_before.specs.Held.{HoldsEntries}
use Rattle.undo_before.specs.Old.{no_entries, old_outputs}
use Rattle.undo_before.proofs.Passed.{failed_entries}
use Rattle.undo_records.specs.declared.OldEntries.{OldEntries}
use Rattle.utxo_set.specs.Utxos.{Utxos}
use Rattle.undo_before.proofs.transactions.entries_of_failed.Goals as goal

pub outputs_of_failed-requires : goal.outputs_of_failed-requires
outputs_of_failed-requires c = record { few = (tx_parts c.args.tx.now c.requires.within).outputs }

pub returns : goal.returns
returns c =
    let l = c.args.s.now.ledger in
    let tx = c.args.tx.now in
    let outputs = c.in_ok-outputs.ensures
    ∙ ap (λ (os : List (OutRef × Output)). old_outputs tx.collateral (made_return tx) os) (ap (λ (u : Utxos). u.outputs) c.outputs.ensures.value ∙ c.stake.ensures.outputs) in
    let olds = c.outputs_only.ensures ∙ ap (λ (os : List (OutRef × Option Output)). record no_entries { outputs = os }) outputs in
    subst (λ (x : OldEntries). HoldsEntries l x (after_failed l tx)) (sym olds) (failed_entries l tx c.live-live.ensures.sound.ledger.maps c.requires.allowed)
