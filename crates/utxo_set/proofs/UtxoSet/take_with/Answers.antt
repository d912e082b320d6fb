use Rattle.std.proofs.Common.{◌≡◌, List, Some, None, subst, sym, ◌∙◌, arith}
use Rattle.book_records.specs.Outputs.{assets_in, lovelace_in}
use Rattle.book_records.specs.declared.Output.{Output}
use Rattle.book_records.specs.of_assets.Quantities.{quantity_of}
use Rattle.book_records.specs.of_assets.Totals.{AreTotals, total_at}
use Rattle.gov_ids.specs.Orders.{outref_cmp, txid_cmp}
use Rattle.gov_ids.specs.declared.OutRef.{OutRef}
use Rattle.gov_ids.specs.declared.assets.AssetId.{AssetId}
use Rattle.maps.proofs.Kept.{IsMap-without_key}
use Rattle.maps.proofs.Lookups.{without_key_absent}
use Rattle.maps.proofs.Sums.{sum_values-without_key}
use Rattle.maps.specs.Maps.{IsMap, in_order, value_at}
use Rattle.utxo_set.specs.Utxos.{IsInOrder}
use Rattle.utxo_set.proofs.UtxoSet.take_with.Goals as goal

pub invariant_of-self-in_default : goal.invariant_of-self-in_default
invariant_of-self-in_default g c =
    let none : value_at outref_cmp c.self.inside.outputs.entries c.args.r.now ≡ None = sym c.in_ok-found.ensures.value ∙ c.in_default.is in
    subst (λ (es : List (OutRef × Output)). (c.self.inside.total ≡ lovelace_in es) × IsInOrder (record { outputs = es; used = in_order txid_cmp c.self.inside.used.keys }) × AreTotals c.self.inside.assets × ((k : AssetId) → total_at c.self.inside.assets k ≡ assets_in es k))
    (sym (c.in_ok-found.ensures.rest ∙ without_key_absent outref_cmp c.args.r.now c.self.inside.outputs.entries none)) c.self.invariant

pub overflow_sub-self : goal.overflow_sub-self
overflow_sub-self g c =
    let there : value_at outref_cmp c.self.inside.outputs.entries c.args.r.now ≡ Some c.in-Some.taken = sym c.in_ok-found.ensures.value ∙ c.in-Some.is in
    omega (arith, c.self.invariant.0, sum_values-without_key (λ o. o.lovelace) outref_cmp c.args.r.now c.in-Some.taken c.self.inside.outputs.entries there)

pub subtract-requires : goal.subtract-requires
subtract-requires g c =
    let there : value_at outref_cmp c.self.inside.outputs.entries c.args.r.now ≡ Some c.in-Some.taken = sym c.in_ok-found.ensures.value ∙ c.in-Some.is in
    record {
      enough = λ a. omega (arith, c.self.invariant.3 a, sum_values-without_key (λ o. quantity_of o.assets a) outref_cmp c.args.r.now c.in-Some.taken c.self.inside.outputs.entries there);
    }

pub invariant_of-self-2 : goal.invariant_of-self-2
invariant_of-self-2 g c =
    let there : value_at outref_cmp c.self.inside.outputs.entries c.args.r.now ≡ Some c.in-Some.taken = sym c.in_ok-found.ensures.value ∙ c.in-Some.is in (
      rw c.in_ok-found.ensures.rest (
          omega (arith, c.self.invariant.0, sum_values-without_key (λ o. o.lovelace) outref_cmp c.args.r.now c.in-Some.taken c.self.inside.outputs.entries there)
          ),
      record {
        outputs = subst (λ (es : List (OutRef × Output)). IsMap outref_cmp es) (sym c.in_ok-found.ensures.rest) (IsMap-without_key outref_cmp c.args.r.now c.self.inside.outputs.entries c.self.invariant.1.outputs);
        used = c.self.invariant.1.used;
      },
      c.subtract.ensures.sound,
      λ a.
          rw c.in_ok-found.ensures.rest (
          omega (
            arith,
            c.self.invariant.3 a,
            c.subtract.ensures.totals a,
            sum_values-without_key (λ o. quantity_of o.assets a) outref_cmp c.args.r.now c.in-Some.taken c.self.inside.outputs.entries there,
          )
          ),
    )
