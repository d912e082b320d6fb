use Rattle.std.proofs.Common.{sym, ap, ◌∙◌}
use Rattle.std.proofs.lemmas.Result.{on_ok_weaker}
use Rattle.gov_actions.specs.declared.action.Action.{Action}
use Rattle.gov_actions.specs.Kinds.{purpose_of, previous_of}
use Rattle.proposal_store.proofs.Index.{noted_by}
use Rattle.proposal_store.specs.Families.{ids_at}
use Rattle.proposal_store.proofs.families.Families.note.Goals as goal

pub returns-in-Some-clause-ok : goal.returns-in-Some-clause-ok
returns-in-Some-clause-ok c =
    on_ok_weaker c.add.result
    (λ h q. h q
    ∙ noted_by c.args.p.now c.in-Some.purpose c.previous-previous.result c.id.result q (ids_at c.args.self.now q)
    (sym (c.purpose.ensures ∙ ap (λ (a : Action). purpose_of a) c.action-2.ensures) ∙ c.in-Some.is)
    (c.previous-previous.ensures ∙ ap (λ (a : Action). previous_of a) c.action.ensures)
    c.id.ensures)
    c.add.ensures.ok
