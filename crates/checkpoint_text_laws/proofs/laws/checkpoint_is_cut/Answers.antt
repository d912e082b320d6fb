use Rattle.checkpoint_text_laws.proofs.Checkpoint.{have_no_feed, is_cut, stay_short}
use Rattle.checkpoint_text_laws.proofs.Cut.{text_is_cut}
use Rattle.checkpoint_text_laws.proofs.laws.checkpoint_is_cut.Goals as goal

pub returns-clause-text : goal.returns-clause-text
returns-clause-text c = text_is_cut

pub returns-clause-feeds : goal.returns-clause-feeds
returns-clause-feeds c = have_no_feed

pub returns-clause-short : goal.returns-clause-short
returns-clause-short c = stay_short

pub returns-clause-cut : goal.returns-clause-cut
returns-clause-cut c = is_cut
