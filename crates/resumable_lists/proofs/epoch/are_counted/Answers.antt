use Rattle.std.proofs.Common.{ap, ◌∙◌}
use Rattle.std.specs.List.{list_all}
use Rattle.checkpoint_model.specs.Resumable.{is_counted_entry}
use Rattle.resumable_lists.proofs.epoch.are_counted.Goals as goal

pub returns : goal.returns
returns c = c.are_counted_entries.ensures ∙ ap (list_all is_counted_entry) c.as_slice.ensures
