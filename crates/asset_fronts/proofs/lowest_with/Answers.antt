use Rattle.std.proofs.Common.{ℕ, ◌+◌, Some, ap, sym, ◌∙◌}
use Rattle.std.specs.Ordering.{match_ordering}
use Rattle.gov_ids.specs.declared.assets.AssetId.{AssetId}
use Rattle.asset_fronts.proofs.Lowest.{lowest_after, lowest_step}
use Rattle.asset_fronts.proofs.lowest_with.Goals as goal

pub returns-in_default-lowest-clause-lowest : goal.returns-in_default-lowest-clause-lowest
returns-in_default-lowest-clause-lowest c = λ taken e.
    let x : AssetId × ℕ = c.in-Some.field-0.now in
    ap (λ k. Some (x.0, k)) c.from-quantity.ensures
    ∙ ap (lowest_after x.0 x.1) (sym c.in_default-lowest.is)
    ∙ lowest_step taken c.args.entries.now x c.args.lowest c.in-Some.ensures.value e

pub returns-in-Less-clause-lowest : goal.returns-in-Less-clause-lowest
returns-in-Less-clause-lowest c = λ taken e.
    let x : AssetId × ℕ = c.in-Some.field-0.now in
    let low : AssetId × ℕ = (c.in-Some-lowest.low, c.in-Some-lowest.sum) in
    ap (λ k. Some (x.0, k)) c.from-quantity.ensures
    ∙ ap (λ r. match_ordering r (Some (x.0, x.1)) (Some (low.0, low.1 + x.1)) (Some low)) (sym (sym c.cmp.ensures ∙ c.in-Less.is))
    ∙ ap (lowest_after x.0 x.1) (sym c.in-Some-lowest.is)
    ∙ lowest_step taken c.args.entries.now x c.args.lowest c.in-Some.ensures.value e

pub returns-in-Equal-clause-lowest : goal.returns-in-Equal-clause-lowest
returns-in-Equal-clause-lowest c = λ taken e.
    let x : AssetId × ℕ = c.in-Some.field-0.now in
    let low : AssetId × ℕ = (c.in-Some-lowest.low, c.in-Some-lowest.sum) in
    ap (λ k. Some (low.0, low.1 + k)) c.from-quantity.ensures
    ∙ ap (λ r. match_ordering r (Some (x.0, x.1)) (Some (low.0, low.1 + x.1)) (Some low)) (sym (sym c.cmp.ensures ∙ c.in-Equal.is))
    ∙ ap (lowest_after x.0 x.1) (sym c.in-Some-lowest.is)
    ∙ lowest_step taken c.args.entries.now x c.args.lowest c.in-Some.ensures.value e

pub returns-in-Greater-clause-lowest : goal.returns-in-Greater-clause-lowest
returns-in-Greater-clause-lowest c = λ taken e.
    let x : AssetId × ℕ = c.in-Some.field-0.now in
    let low : AssetId × ℕ = (c.in-Some-lowest.low, c.in-Some-lowest.sum) in
    ap (λ r. match_ordering r (Some (x.0, x.1)) (Some (low.0, low.1 + x.1)) (Some low)) (sym (sym c.cmp.ensures ∙ c.in-Greater.is))
    ∙ ap (lowest_after x.0 x.1) (sym c.in-Some-lowest.is)
    ∙ lowest_step taken c.args.entries.now x c.args.lowest c.in-Some.ensures.value e
