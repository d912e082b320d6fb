use Rattle.std.proofs.Common.{◌≡◌, ℕ, not, List, Option, Some, None, refl, ap, ◌∙◌}
use Rattle.std.specs.Option.{option_eq}
use Rattle.std.proofs.lemmas.Cmp.{eq_by_cmp_equiv}
use Rattle.gov_actions.specs.declared.state.EnactState.{EnactState}
use Rattle.book_records.specs.Hashes.{same_hash}
use Rattle.gov_ids.specs.declared.PoolId.{PoolId}
use Rattle.gov_ids.specs.contracts.PoolIdPartialEq.TheImpl as pool_eq
use Rattle.gov_ids.proofs.Sames.{pool_same}
use Rattle.gov_ids.proofs.Totals.{pool_total}
use Rattle.maps.specs.Words.{same_option}
use Rattle.proposal_rules.proofs.policy.is_other_policy.Goals as goal

-- a hash in a record of its own
abbrev held : List ℕ → PoolId
held bytes = record { 0 = bytes }

policy_same : (a b : Option (List ℕ)) → option_eq (λ x y. pool_eq.eq-value.it (held x) (held y)) a b ≡ same_option same_hash a b
policy_same None None = refl
policy_same None (Some y) = refl
policy_same (Some x) None = refl
policy_same (Some x) (Some y) = (λ i. pool_same i (held x) (held y)) ∙ (eq_by_cmp_equiv pool_total).symm (held x) (held y)

pub returns : goal.returns
returns c =
    c.ne.ensures ∙ ap not (policy_same c.args.policy c.state.result.now.script ∙ ap (λ (s : EnactState). same_option same_hash c.args.policy s.script) c.state.ensures)
