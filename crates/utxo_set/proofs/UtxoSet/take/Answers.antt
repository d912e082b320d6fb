use Rattle.std.proofs.Common.{sym, arith}
use Rattle.book_records.specs.of_assets.Quantities.{quantity_of}
use Rattle.gov_ids.specs.Orders.{outref_cmp}
use Rattle.maps.proofs.Sums.{sum_values-without_key}
use Rattle.utxo_set.proofs.UtxoSet.take.Goals as goal

pub overflow_sub-self : goal.overflow_sub-self
overflow_sub-self c =
    omega (arith, c.self.invariant.0, sum_values-without_key (λ o. o.lovelace) outref_cmp c.args.r.now c.in_ok-output.output c.self.inside.outputs.entries (sym c.in_ok-output.ensures.value))

pub subtract-requires : goal.subtract-requires
subtract-requires c = record {
  enough = λ a. omega (arith, c.self.invariant.3 a, sum_values-without_key (λ o. quantity_of o.assets a) outref_cmp c.args.r.now c.in_ok-output.output c.self.inside.outputs.entries (sym c.in_ok-output.ensures.value));
}

pub invariant_of-self-2 : goal.invariant_of-self-2
invariant_of-self-2 c = (
  rw c.in_ok-output.ensures.entries (
      omega (arith, c.self.invariant.0, sum_values-without_key (λ o. o.lovelace) outref_cmp c.args.r.now c.in_ok-output.output c.self.inside.outputs.entries (sym c.in_ok-output.ensures.value))
      ),
  record { outputs = c.remove.ensures.ordered; used = c.self.invariant.1.used },
  c.subtract.ensures.sound,
  λ a.
      rw c.in_ok-output.ensures.entries (
      omega (
        arith,
        c.self.invariant.3 a,
        c.subtract.ensures.totals a,
        sum_values-without_key (λ o. quantity_of o.assets a) outref_cmp c.args.r.now c.in_ok-output.output c.self.inside.outputs.entries (sym c.in_ok-output.ensures.value),
      )
      ),
)
