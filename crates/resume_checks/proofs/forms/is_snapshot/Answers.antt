use Rattle.std.proofs.Common.{◌&&◌, not, ap, sym, ◌∙◌}
use Rattle.gov_ids.specs.Orders.{action_id_cmp}
use Rattle.gov_model.specs.Ratified.{ids_of}
use Rattle.maps.specs.Words.{repeats}
use Rattle.resume_checks.specs.Forms.{with_lists}
use Rattle.resume_checks.proofs.Formed.{formed_is}
use Rattle.resume_checks.proofs.forms.is_snapshot.Goals as goal

pub returns-in_ok-have_own_ids : goal.returns-in_ok-have_own_ids
returns-in_ok-have_own_ids c = λ f h.
    c.in_ok-have_own_ids.ensures
    ∙ ap (λ b. b && not (repeats action_id_cmp (ids_of c.args.frozen.now.proposals.now))) (sym c.if-are_in_order.true ∙ c.are_in_order.ensures)
    ∙ formed_is (with_lists c.args.frozen.now f) h

pub returns-else-are_in_order : goal.returns-else-are_in_order
returns-else-are_in_order c = λ f h.
    c.if-are_in_order.false
    ∙ ap (λ b. b && not (repeats action_id_cmp (ids_of c.args.frozen.now.proposals.now))) (sym c.if-are_in_order.false ∙ c.are_in_order.ensures)
    ∙ formed_is (with_lists c.args.frozen.now f) h
