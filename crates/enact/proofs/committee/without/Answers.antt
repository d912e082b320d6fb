use Rattle.std.proofs.Common.{ap, sym, ◌∙◌, not, rules}
use Rattle.std.proofs.lemmas.Fn.{filter_same}
use Rattle.gov_ids.specs.declared.Credential.{Credential}
use Rattle.gov_ids.specs.Orders.{credential_cmp}
use Rattle.gov_model.specs.Sides.{members_of}
use Rattle.gov_ids.specs.Same.{same_credential}
use Rattle.maps.specs.Maps.{without_keys}
use Rattle.maps.specs.Words.{among}
use Rattle.enact.proofs.committee.without.Goals as goal

pub returns : goal.returns
returns c =
    let keys = c.args.keys.now in
    filter_same _ (λ (e : Credential × _). not (among same_credential e.0 keys)) _ (λ x b g called. search rules) _ _ c.retain.ensures.filtered
    ∙ ap (without_keys credential_cmp keys) (c.into_vec-members.ensures ∙ ap members_of (sym c.in-Some.is))
