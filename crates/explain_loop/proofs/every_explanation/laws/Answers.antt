use Rattle.explain_loop.proofs.Explaining.{complete, done_is_whole, text_is_explained}
use Rattle.explain_loop.proofs.Stopping.{stopped_is_whole}
use Rattle.explain_loop.proofs.every_explanation.laws.Goals as goal

pub returns-clause-whole : goal.returns-clause-whole
returns-clause-whole c = done_is_whole

pub returns-clause-stopped : goal.returns-clause-stopped
returns-clause-stopped c = stopped_is_whole c.whole_lines.ensures.adds_up c.notes_are_of_records.ensures

pub returns-clause-text : goal.returns-clause-text
returns-clause-text c = text_is_explained

pub returns-clause-complete : goal.returns-clause-complete
returns-clause-complete c = complete c.whole_lines.ensures.adds_up c.notes_are_of_records.ensures
