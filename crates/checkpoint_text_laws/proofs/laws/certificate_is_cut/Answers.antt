use Rattle.checkpoint_text_laws.proofs.Certificate.{certificate_is_cut, has_no_feed}
use Rattle.checkpoint_text_laws.proofs.laws.certificate_is_cut.Goals as goal

pub returns-clause-feeds : goal.returns-clause-feeds
returns-clause-feeds c = has_no_feed

pub returns-clause-cut : goal.returns-clause-cut
returns-clause-cut c = certificate_is_cut
