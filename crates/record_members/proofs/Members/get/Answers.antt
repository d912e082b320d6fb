use Rattle.std.proofs.Common.{Option, is_none, sym, ap, ◌∙◌}
use Rattle.serde_json.specs.Find.{as_object, get}
use Rattle.serde_json.specs.Data.{Members}
use Rattle.json_tree.specs.View.{view}
use Rattle.json_tree.specs.declared.value.Value.{Value}
use Rattle.tx_records.specs.FieldTexts.{text_of_field}
use Rattle.record_members.proofs.Walks.{of_object}
use Rattle.record_members.proofs.Members.get.Goals as goal

pub returns-in-Some-clause-value : goal.returns-in-Some-clause-value
returns-in-Some-clause-value c =
    c.kept_value.ensures
    ∙ c.self.invariant.finds (text_of_field c.args.name) c.in-Some.place (sym c.place_of_name.ensures ∙ c.in-Some.is)
    ∙ of_object (view c.self.inside.object.now) _ (text_of_field c.args.name) c.self.invariant.members
    ∙ ap (λ (v : Value). get (text_of_field c.args.name) (view v)) c.self.view_is

pub returns-in-Some-clause-object : goal.returns-in-Some-clause-object
returns-in-Some-clause-object c =
    sym (ap (λ (v : Value). is_none (as_object (view v))) c.self.view_is) ∙ ap (λ (o : Option Members). is_none o) c.self.invariant.members
