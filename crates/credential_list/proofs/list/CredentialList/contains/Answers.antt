use Rattle.std.proofs.Common.{ap, ◌∙◌}
use Rattle.gov_ids.specs.Derived.{credential_is}
use Rattle.gov_ids.specs.Same.{same_credential}
use Rattle.gov_ids.specs.of_maps.Maps.{has_member}
use Rattle.gov_ids.specs.of_maps.Words.{among}
use Rattle.credential_list.proofs.list.CredentialList.contains.Goals as goal

pub returns-in-Some : goal.returns-in-Some
returns-in-Some c =
    c.contains.ensures
    ∙ (λ i. has_member (credential_is i) c.in-Some.set.keys c.args.key.now)
    ∙ c.self.invariant c.in-Some.set c.in-Some.is c.args.key.now
    ∙ ap (among same_credential c.args.key.now) c.self.view_is
