use Rattle.std.proofs.Common.{◌≡◌, List, [], ◌∷◌, ap, map, refl}
use Rattle.explain_model.specs.Explained.{said_words}
use Rattle.explain_model.specs.of_record_notes.Seen.{note_seen}
use Rattle.report.proofs.Handed.{put_as}
use Rattle.explain_print.proofs.notes.put_notes.Goals as goal

map_both : {X Y Z : Type 0} (f : Y → Z) (g : X → Y) (xs : List X) → map (λ (x : X). f (g x)) xs ≡ map f (map g xs)
map_both f g [] = refl
map_both {X} {Y} {Z} f g (x ∷ xs) = ap (λ (zs : List Z). f (g x) ∷ zs) (map_both f g xs)

pub returns : goal.returns
returns g c = put_as (map_both said_words note_seen c.args.notes.now) c.put_each.ensures
