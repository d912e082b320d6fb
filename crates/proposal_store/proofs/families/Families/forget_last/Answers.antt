use Rattle.std.proofs.Common.{ap, cond, sym, ◌∙◌}
use Rattle.gov_actions.specs.declared.action.Action.{Action}
use Rattle.gov_actions.specs.Kinds.{purpose_of, previous_of}
use Rattle.proposal_store.specs.Families.{all_but_last, ids_at}
use Rattle.proposal_store.proofs.Index.{is_parent}
use Rattle.proposal_store.proofs.families.Families.forget_last.Goals as goal

pub returns-in-Some : goal.returns-in-Some
returns-in-Some c q =
    c.drop_last.ensures q
    ∙ ap (λ b. cond b (all_but_last (ids_at c.args.self.now q)) (ids_at c.args.self.now q))
    (is_parent c.args.p.now c.in-Some.purpose c.previous-previous.result q
    (sym (c.purpose.ensures ∙ ap (λ (a : Action). purpose_of a) c.action-2.ensures) ∙ c.in-Some.is)
    (c.previous-previous.ensures ∙ ap (λ (a : Action). previous_of a) c.action.ensures))
