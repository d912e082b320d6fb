use Rattle.std.proofs.Common.{List, ap, subst, ◌∙◌}
use Rattle.gov_ids.specs.Orders.{credential_cmp}
use Rattle.gov_ids.specs.declared.Credential.{Credential}
use Rattle.maps.specs.Maps.{IsMap}
use Rattle.stake_book.specs.Ended.{delegating, ended_at}
use Rattle.stake_book.specs.Stakes.{Stakes}
use Rattle.stake_book.proofs.Ended.{all_ended}
use Rattle.stake_book.proofs.StakeBook.clear.Goals as goal

pub returns-clause-live : goal.returns-clause-live
returns-clause-live c =
    let leaving = c.args.leaving.now in
    c.in_ok-clear_each.ensures.live
    ∙ ap (λ (cs : List Credential). ended_at leaving cs c.args.self.now.accounts.live) (c.as_slice.ensures.value ∙ c.in_ok-delegating.ensures.value)
    ∙ ap (λ (s : Stakes). ended_at leaving (delegating leaving s.accounts.live) c.args.self.now.accounts.live) c.self.view_is
    ∙ all_ended leaving c.args.self.now.accounts.live (subst (λ (s : Stakes). IsMap credential_cmp s.accounts.live) c.self.view_is c.self.invariant.live)
