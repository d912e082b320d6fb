use Rattle.std.proofs.Common.{◌≡◌, List, sym, subst, ◌∙◌}
use Rattle.gov_ids.specs.declared.Credential.{Credential}
use Rattle.gov_ids.specs.Derived.{credential_is}
use Rattle.gov_ids.specs.Orders.{credential_cmp}
use Rattle.gov_actions.specs.declared.state.HotState.{HotState}
use Rattle.maps.specs.Maps.{value_at, without_key}
use Rattle.committee_book.specs.Holders.{IsIndexed}
use Rattle.committee_book.proofs.Holding.{forgotten_indexed}
use Rattle.committee_book.proofs.HotBook.forget.Goals as goal

pub invariant_of-self : goal.invariant_of-self
invariant_of-self c =
    let es = c.self.inside.entries.entries in
    let cold = c.args.cold.now in
    let before : c.remove-forgotten.result ≡ value_at credential_cmp es cold = c.remove-forgotten.ensures.value ∙ (λ i. value_at (credential_is i) es cold) in
    let left : c.remove-forgotten.new.self.entries ≡ without_key credential_cmp cold es = c.remove-forgotten.ensures.entries ∙ (λ i. without_key (credential_is i) cold es) in
    subst (λ (fs : List (Credential × HotState)). IsIndexed fs c.take.new.self) (sym left)
    (forgotten_indexed cold es c.self.inside.holders c.self.invariant c.remove-forgotten.result c.take.new.self before c.take.ensures)
