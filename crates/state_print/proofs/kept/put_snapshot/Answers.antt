use Rattle.std.proofs.Common.{[], ◌∷◌, flat_map, ap, ◌∙◌}
use Rattle.std.proofs.lemmas.List.Concat.{flat_map_single}
use Rattle.state_lines.specs.SnapshotNames.{snapshot_text}
use Rattle.report.proofs.Handed.{put_as}
use Rattle.text_model.specs.StateLines.{snapshot_words}
use Rattle.state_print.proofs.kept.put_snapshot.Goals as goal

pub returns : goal.returns
returns g c =
    put_as (ap (flat_map (λ s. snapshot_words (snapshot_text c.args.name) s ∷ [])) c.as_slice.ensures ∙ flat_map_single (snapshot_words (snapshot_text c.args.name)) c.args.stakes.now) c.put_items.ensures
