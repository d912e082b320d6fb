use Rattle.std.proofs.Common.{subst, ◌∙◌}
use Rattle.std.specs.declared.cmp.Ordering.{Ordering}
use Rattle.std.specs.Cmp.{IsTotalOrder}
use Rattle.resume_checks.proofs.Ordered.{has_by}
use Rattle.resume_checks.proofs.order.has_key.Goals as goal

pub returns : goal.returns
returns g c =
    c.is_some.ensures
    ∙ has_by (subst (λ (cmp : g.row.K.Denot → g.row.K.Denot → Ordering). IsTotalOrder cmp) g.met.K.Key.is_order g.met.K.Ord.total) c.args.key.now c.args.entries.now c.index_of.result c.index_of.ensures
