-- Undoing a list of old values, part by part.
use Rattle.std.proofs.Common.{◌≡◌, ℕ, zero, suc, ◌+◌, ◌<◌, ◌≤◌, List, [], ◌∷◌, ◌++◌, drop, length, take, refl, ap, sym, subst, ◌∙◌, arith}
use Rattle.std.proofs.lemmas.List.{drop-append-le, drop_all, length-append, take-append-le}
use Rattle.gov_model.specs.Snapshot.{Snapshot}
use Rattle.ledger_books.specs.declared.Books.{Books}
use Rattle.ledger_books.specs.Parts.{IsStep, world_of_books}
use Rattle.run_model.specs.World.{World}
use Rattle.undo_model.specs.Undone.{Before, undone}
use Rattle.undo_back.specs.Undoable.{AreUndoable, IsUndoable}
use Rattle.undo_log.specs.Back.{AllUndoable, AreAllUndoable, undone_all}

-- ---- Worlds

-- the later ones are undone first
pub undone_both : (xs ys : List Before) (w : World) → undone_all (xs ++ ys) w ≡ undone_all xs (undone_all ys w)
undone_both [] ys w = refl
undone_both (x ∷ xs) ys w = ap (λ (v : World). undone x v) (undone_both xs ys w)

-- where all can be undone, the later ones can, and the earlier ones after them
pub undoable_parts : (xs ys : List Before) (w : World) → AllUndoable (xs ++ ys) w → AllUndoable ys w × AllUndoable xs (undone_all ys w)
undoable_parts [] ys w h = (h, tt)
undoable_parts (x ∷ xs) ys w h =
    let parts = undoable_parts xs ys w h.0 in
    (parts.0, (parts.1, subst (λ (v : World). IsUndoable v x) (undone_both xs ys w) h.1))

-- and the other way round
pub undoable_both : (xs ys : List Before) (w : World) → AllUndoable ys w → AllUndoable xs (undone_all ys w) → AllUndoable (xs ++ ys) w
undoable_both [] ys w h g = h
undoable_both (x ∷ xs) ys w h g =
    (undoable_both xs ys w h g.0, subst (λ (v : World). IsUndoable v x) (sym (undone_both xs ys w)) g.1)

-- where all can be undone, the later ones can
pub undoable_later : (n : ℕ) (bs : List Before) (w : World) → AllUndoable bs w → AllUndoable (drop n bs) w
undoable_later zero bs w h = h
undoable_later (suc n) [] w h = tt
undoable_later (suc n) (b ∷ bs) w h = undoable_later n bs w h.0

-- ---- one entry after another

-- the first n stay while the last one leaves
pub first_stay : (n : ℕ) (bs front : List Before) (b : Before) → bs ≡ front ++ b ∷ [] → n < length bs → take n front ≡ take n bs
first_stay n bs front b is lt =
    let long : length bs ≡ length front + 1 = ap (λ (xs : List Before). length xs) is ∙ length-append front (b ∷ []) in
    sym (ap (λ (xs : List Before). take n xs) is ∙ take-append-le n front (b ∷ []) (omega (arith, long)))

-- the entries that are left, undone on these books, give the World of all of them undone on the first books
pub record IsBackTo (n : ℕ) (all left : List Before) (first books : Books) : Type 0 where
  pub worlds : (counted : ℕ) (f : Snapshot) → undone_all (drop n left) (world_of_books books counted f) ≡ undone_all (drop n all) (world_of_books first counted f)
  pub undoable : AreAllUndoable left books

-- the last entry can be undone
pub last_undoable : (left front : List Before) (b : Before) (books : Books) → left ≡ front ++ b ∷ [] → AreAllUndoable left books → AreUndoable books b
last_undoable left front b books is h =
    (h.0, h.1, (undoable_parts front (b ∷ []) (world_of_books books h.0 h.1) (subst (λ (bs : List Before). AllUndoable bs (world_of_books books h.0 h.1)) is h.2)).0.1)

-- and it leaves
pub one_undone : (n : ℕ) (all left front : List Before) (b : Before) (first books after : Books) → left ≡ front ++ b ∷ [] → n < length left → IsStep (undone b) books after
    → IsBackTo n all left first books → IsBackTo n all front first after
one_undone n all left front b first books after is lt step h =
    let long : length left ≡ length front + 1 = ap (λ (bs : List Before). length bs) is ∙ length-append front (b ∷ []) in
    let counted = h.undoable.0 in
    let f = h.undoable.1 in
    let whole : AllUndoable (front ++ b ∷ []) (world_of_books books counted f) = subst (λ (bs : List Before). AllUndoable bs (world_of_books books counted f)) is h.undoable.2 in
    record {
      worlds = λ counted f.
          ap (λ (w : World). undone_all (drop n front) w) (step counted f)
          ∙ sym (ap (λ (bs : List Before). undone_all bs (world_of_books books counted f)) (ap (λ (bs : List Before). drop n bs) is ∙ drop-append-le n front (b ∷ []) (omega (arith, long)))
          ∙ undone_both (drop n front) (b ∷ []) (world_of_books books counted f))
          ∙ h.worlds counted f;
      undoable = (counted, f, subst (λ (w : World). AllUndoable front w) (sym (step counted f)) (undoable_parts front (b ∷ []) (world_of_books books counted f) whole).1);
    }

-- once no more than n are left, all others are undone
pub all_undone : (n : ℕ) (all left : List Before) (first books : Books) → length left ≤ n → IsBackTo n all left first books → IsStep (undone_all (drop n all)) first books
all_undone n all left first books le h = λ counted f.
    sym (ap (λ (bs : List Before). undone_all bs (world_of_books books counted f)) (drop_all n left le)) ∙ h.worlds counted f
