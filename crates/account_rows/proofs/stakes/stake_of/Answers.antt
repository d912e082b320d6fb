use Rattle.std.proofs.Common.{◌∙◌, subst, unwrap_or}
use Rattle.gov_ids.specs.Derived.{credential_is}
use Rattle.maps.specs.Maps.{IsMap, value_at}
use Rattle.account_rows.proofs.stakes.stake_of.Goals as goal

pub returns-clause-value : goal.returns-clause-value
returns-clause-value c = c.get.ensures.value ∙ (λ i. unwrap_or (value_at (credential_is i) c.args.stakes.now c.args.credential.now) 0)

pub returns-clause-in_order : goal.returns-clause-in_order
returns-clause-in_order c = subst (λ cmp. IsMap cmp c.args.stakes.now) credential_is c.get.ensures.in_order
