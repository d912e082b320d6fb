use Rattle.std.proofs.Common.{◌≡◌, List, None, sym, subst, ◌∙◌}
use Rattle.gov_ids.specs.declared.Credential.{Credential}
use Rattle.gov_ids.specs.Derived.{credential_is}
use Rattle.gov_ids.specs.Orders.{credential_cmp}
use Rattle.gov_actions.specs.declared.state.HotState.{HotState}
use Rattle.maps.specs.Maps.{value_at, with_value}
use Rattle.committee_book.specs.Holders.{IsIndexed}
use Rattle.committee_book.proofs.Holding.{set_indexed, undone_indexed}
use Rattle.committee_book.proofs.HotBook.set.Goals as goal

pub invariant_of-self-in_default : goal.invariant_of-self-in_default
invariant_of-self-in_default c =
    let es = c.self.inside.entries.entries in
    let none : value_at credential_cmp es c.args.cold ≡ None = (λ i. value_at (sym credential_is i) es c.args.cold) ∙ c.in_default.ensures.absent in
    subst (λ (fs : List (Credential × HotState)). IsIndexed fs c.take.new.self) (sym c.in_default.ensures.err)
    (undone_indexed c.args.cold es c.self.inside.holders c.self.invariant c.args.s c.add.new.self c.take.new.self none c.in_ok-add.ensures.ok c.take.ensures)

pub invariant_of-self-2 : goal.invariant_of-self-2
invariant_of-self-2 c =
    let es = c.self.inside.entries.entries in
    let before : c.in-Ok.before ≡ value_at credential_cmp es c.args.cold = c.in-Ok.ensures.old ∙ (λ i. value_at (credential_is i) es c.args.cold) in
    let put : c.insert.new.self.entries ≡ with_value credential_cmp c.args.cold c.args.s es = c.in-Ok.ensures.entries ∙ (λ i. with_value (credential_is i) c.args.cold c.args.s es) in
    subst (λ (fs : List (Credential × HotState)). IsIndexed fs c.leave.new.self) (sym put)
    (set_indexed c.args.cold es c.self.inside.holders c.self.invariant c.args.s c.in-Ok.before c.add.new.self c.leave.new.self before c.in_ok-add.ensures.ok c.leave.ensures)
