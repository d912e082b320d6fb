use Rattle.std.proofs.lemmas.List.Concat.{flat_map_single}
use Rattle.text_forms.specs.Snapshots.{expiry_words}
use Rattle.report.proofs.Handed.{put_as}
use Rattle.frozen_print.proofs.voters.put_dreps.Goals as goal

pub returns : goal.returns
returns g c = put_as (flat_map_single expiry_words c.args.dreps.now) c.put_items.ensures
