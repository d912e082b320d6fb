use Rattle.std.proofs.Common.{List, ℕ, subst}
use Rattle.gov_ids.specs.declared.Credential.{Credential}
use Rattle.gov_ids.specs.Orders.{credential_cmp}
use Rattle.maps.specs.Maps.{IsMap}
use Rattle.tally.proofs.SilentDreps.{dreps_silent}
use Rattle.tally.proofs.silent_dreps.silent_dreps.Goals as goal

pub returns-then-is_in_order-clause-silent : goal.returns-then-is_in_order-clause-silent
returns-then-is_in_order-clause-silent c = record {
  in_order = subst (λ (es : List (Credential × ℕ)). IsMap credential_cmp es) c.as_slice.ensures (c.is_in_order.ensures.0 c.if-is_in_order.true);
  count = dreps_silent c.args.f.now c.args.c.now c.args.f.now.dreps c.silent_total.result c.silent_total.ensures;
}
