use Rattle.std.proofs.Common.{◌∙◌, rules, tests}
use Rattle.std.specs.List.{list_any}
use Rattle.std.proofs.lemmas.Iterator.{YieldsList-from_slice}
use Rattle.std.proofs.lemmas.Iterator.Search.{any_from_yields_List}
use Rattle.gov_ids.specs.contracts.CredentialPartialEq.TheImpl as credential_eq
use Rattle.gov_ids.proofs.Sames.{credential_same}
use Rattle.gov_actions.proofs.members.is_among.Goals as goal

pub returns : goal.returns
returns c =
    any_from_yields_List (λ m. credential_eq.eq-value.it m.0 c.args.cold.now) _ _ _ c.any.ensures.ran (YieldsList-from_slice c.args.members.now cc) (λ x b q k. search (rules, tests))
    ∙ (λ i. list_any (λ m. credential_same i m.0 c.args.cold.now) c.args.members.now)
