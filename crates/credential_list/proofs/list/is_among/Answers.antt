use Rattle.std.proofs.Common.{Bool, ap, ◌∙◌, rules, tests}
use Rattle.std.specs.List.{list_any}
use Rattle.std.proofs.lemmas.Iterator.{YieldsList-from_slice}
use Rattle.std.proofs.lemmas.Iterator.Search.{any_from_yields_List}
use Rattle.gov_ids.specs.declared.Credential.{Credential}
use Rattle.gov_ids.specs.contracts.CredentialPartialEq.TheImpl as credential_eq
use Rattle.gov_ids.proofs.Sames.{credential_same}
use Rattle.credential_list.proofs.list.is_among.Goals as goal

pub returns : goal.returns
returns c =
    any_from_yields_List (credential_eq.eq-value.it c.args.key.now) _ _ _ c.any.ensures.ran (YieldsList-from_slice c.args.items.now cc) (λ x b q k. search (rules, tests))
    ∙ ap (λ (same : Credential → Credential → Bool). list_any (same c.args.key.now) c.args.items.now) credential_same
