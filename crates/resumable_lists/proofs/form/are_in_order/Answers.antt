use Rattle.std.proofs.Common.{ap, ◌∙◌}
use Rattle.std.specs.List.{list_all}
use Rattle.text_forms.specs.Books.{is_stake}
use Rattle.text_forms.specs.Snapshots.{are_stakes}
use Rattle.resumable_lists.proofs.form.are_in_order.Goals as goal

pub returns : goal.returns
returns c = c.are_stakes.ensures (ap (list_all is_stake) c.as_slice.ensures ∙ c.requires) ∙ ap are_stakes c.as_slice.ensures
