use Rattle.std.proofs.Common.{Bor, false, option_map, sym, true, ◌∙◌}
use Rattle.gov_ids.specs.declared.TxId.{TxId}
use Rattle.utxo_set.proofs.Used.{next_turn}
use Rattle.utxo_set.proofs.UtxoSet.next_used.Goals as goal

pub loop-id-preserved-then-is_between : goal.loop-id-preserved-then-is_between
loop-id-preserved-then-is_between c =
    next_turn (option_map (λ a. a.now) c.args.after) c.loop-id.yielded c.in-Some.id c.loop-id.next (option_map (λ (b : Bor TxId). b.now) c.as_ref.result) true c.loop-id.invariant c.as_ref.ensures.value
    (sym c.if-is_between.true ∙ c.is_between.ensures)

pub loop-id-preserved : goal.loop-id-preserved
loop-id-preserved c =
    next_turn (option_map (λ a. a.now) c.args.after) c.loop-id.yielded c.in-Some.id c.loop-id.next (option_map (λ (b : Bor TxId). b.now) c.as_ref.result) false c.loop-id.invariant c.as_ref.ensures.value
    (sym c.if-is_between.false ∙ c.is_between.ensures)
