use Rattle.std.proofs.lemmas.List.Concat.{flat_map_single}
use Rattle.certificate_model.specs.Certificate.{mark_words}
use Rattle.report.proofs.Handed.{put_as}
use Rattle.frozen_print.proofs.voters.put_mark.Goals as goal

pub returns : goal.returns
returns g c = put_as (flat_map_single mark_words c.args.mark.now) c.put_items.ensures
