use Rattle.std.proofs.Common.{◌≡◌, ◌+◌, None, ap, ◌∙◌, arith}
use Rattle.book_records.specs.of_assets.Quantities.{quantity_of}
use Rattle.book_records.specs.Outputs.{assets_in, lovelace_in}
use Rattle.gov_ids.specs.declared.assets.AssetId.{AssetId}
use Rattle.gov_ids.specs.Orders.{outref_cmp}
use Rattle.maps.proofs.Sums.{sum_values-with_value_absent}
use Rattle.maps.specs.Maps.{value_at, with_value}
use Rattle.utxo_set.specs.Utxos.{Utxos}
use Rattle.utxo_set.proofs.UtxoSet.put.Goals as goal

pub invariant_of-self-2 : goal.invariant_of-self-2
invariant_of-self-2 c =
    let before = c.self.inside.outputs.entries in
    let absent : value_at outref_cmp before c.args.r ≡ None = ap (λ (u : Utxos). value_at outref_cmp u.outputs c.args.r) c.self.view_is ∙ c.requires.absent in
    let more : lovelace_in (with_value outref_cmp c.args.r c.args.o before) ≡ lovelace_in before + c.args.o.lovelace =
    sum_values-with_value_absent (λ o. o.lovelace) outref_cmp c.args.r c.args.o before absent in
    let held : (a : AssetId) → assets_in (with_value outref_cmp c.args.r c.args.o before) a ≡ assets_in before a + quantity_of c.args.o.assets a =
    λ a. sum_values-with_value_absent (λ o. quantity_of o.assets a) outref_cmp c.args.r c.args.o before absent in (
      rw c.in_default.ensures.entries (omega arith),
      record { outputs = c.insert.ensures.ordered; used = c.self.invariant.1.used },
      c.in_ok-add.ensures.sound,
      λ a. rw c.in_default.ensures.entries (omega (arith, held a, c.in_ok-add.ensures.ok a, c.self.invariant.3 a)),
    )
