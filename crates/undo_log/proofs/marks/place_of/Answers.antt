use Rattle.std.proofs.Common.{◌≡◌, ℕ, None, MatchOption, Option, rules, subst, sym}
use Rattle.std.proofs.lemmas.List.Sorted.{answers_always}
use Rattle.undo_log.specs.declared.marks.Mark.{Mark}
use Rattle.undo_log.specs.Back.{IsPlaceOf, mark_at}
use Rattle.undo_log.proofs.Searches.{place_by}
use Rattle.undo_log.proofs.marks.place_of.Goals as goal

pub returns : goal.returns
returns c =
    let slot = c.args.slot in
    let marks = c.args.marks.now in
    let facts = c.binary_search_by_key.ensures in
    let position = facts.position (λ (m : Mark). m.slot) (answers_always _ _ _ (λ f a r g called. search rules)) in
    subst (λ (o : Option ℕ). MatchOption o (mark_at slot marks ≡ None) (IsPlaceOf slot marks)) (sym c.ok.ensures.value)
    (place_by slot marks c.binary_search_by_key.result c.requires facts.bound position)
