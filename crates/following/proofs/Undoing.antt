-- A log with one more entry undoes to the same places, whatever the count is.
use Rattle.std.proofs.Common.{◌≡◌, ◌∙◌, ℕ, ◌≤◌, List, [], ◌∷◌, ◌++◌, drop, take, length, refl, ap, sym, subst, arith}
use Rattle.std.proofs.lemmas.List.{drop-append-le, length-take-le, take-append-drop}
use Rattle.run_model.specs.SoundWorld.{IsSoundWorld}
use Rattle.run_model.specs.World.{World}
use Rattle.undo_log.specs.of_undo_back.Undoable.{IsUndoable}
use Rattle.undo_log.proofs.Undone.{undoable_both, undone_both}
use Rattle.undo_log.specs.Back.{AllUndoable, undone_all}
use Rattle.undo_model.proofs.Undoing.{undone_is_before}
use Rattle.undo_model.specs.Holds.{Holds}
use Rattle.undo_model.specs.Undone.{Before, undone}

-- the World with a count
abbrev pub counting : ℕ → World → World
counting n w = record w { counted = n }

-- ---- the count

-- an undo leaves the count
pub undone_counting : (bs : List Before) (w : World) (n : ℕ) → undone_all bs (counting n w) ≡ counting n (undone_all bs w)
undone_counting [] w n = refl
undone_counting (b ∷ bs) w n = ap (λ (v : World). undone b v) (undone_counting bs w n)

holds_counting : (w v : World) (b : Before) (n : ℕ) → Holds w b v → Holds w b (counting n v)
holds_counting w v b n h = record {
  slot = h.slot;
  dormant = h.dormant;
  fees = h.fees;
  donations = h.donations;
  had_pending = h.had_pending;
  pending = h.pending;
  outputs = h.outputs;
  used = h.used;
  accounts = h.accounts;
  pools = h.pools;
  dreps = h.dreps;
  hot = h.hot;
  proposals = h.proposals;
  votes = h.votes;
  others = ap (λ (x : World). counting n x) h.others;
}

pub undoable_counting : (bs : List Before) (w : World) (n : ℕ) → AllUndoable bs w → AllUndoable bs (counting n w)
undoable_counting [] w n h = tt
undoable_counting (b ∷ bs) w n h = (
  undoable_counting bs w n h.0,
  subst (λ (v : World). IsUndoable v b) (sym (undone_counting bs w n)) (h.1.0, h.1.1, holds_counting h.1.0 (undone_all bs w) b n h.1.2),
)

-- ---- the epoch

pub undone_epoch : (bs : List Before) (w : World) → (undone_all bs w).ledger.epoch ≡ w.ledger.epoch
undone_epoch [] w = refl
undone_epoch (b ∷ bs) w = undone_epoch bs w

pub undone_length : (bs : List Before) (w : World) → (undone_all bs w).ledger.epoch_length ≡ w.ledger.epoch_length
undone_length [] w = refl
undone_length (b ∷ bs) w = undone_length bs w

pub held_epoch : (w v : World) (b : Before) → Holds w b v → v.ledger.epoch ≡ w.ledger.epoch
held_epoch w v b h = ap (λ (x : World). x.ledger.epoch) h.others

pub held_length : (w v : World) (b : Before) → Holds w b v → v.ledger.epoch_length ≡ w.ledger.epoch_length
held_length w v b h = ap (λ (x : World). x.ledger.epoch_length) h.others

-- ---- one entry more

module _ (w v : World) (b : Before) (sound_before : IsSoundWorld w) (sound_after : IsSoundWorld v) (h : Holds w b v) where
  undone_last : undone b v ≡ counting v.counted w
  undone_last = undone_is_before w v b sound_before sound_after h

  pub undoable_more : (es : List Before) → AllUndoable es w → AllUndoable (es ++ b ∷ []) v
  undoable_more es all =
      undoable_both es (b ∷ []) v (tt, (w, sound_before, h))
      (subst (λ (x : World). AllUndoable es x) (sym undone_last) (undoable_counting es w v.counted all))

  pub undone_more : (es : List Before) → undone_all (es ++ b ∷ []) v ≡ counting v.counted (undone_all es w)
  undone_more es =
      undone_both es (b ∷ []) v
      ∙ ap (λ (x : World). undone_all es x) undone_last
      ∙ undone_counting es w v.counted

  -- after the first n entries
  pub undone_from : (n : ℕ) (es : List Before) → n ≤ length es → undone_all (drop n (es ++ b ∷ [])) v ≡ counting v.counted (undone_all (drop n es) w)
  undone_from n es most = ap (λ (xs : List Before). undone_all xs v) (drop-append-le n es (b ∷ []) most) ∙ undone_more (drop n es)

-- ---- fewer entries

parts_of : (n k : ℕ) (es : List Before) → k ≤ n → n ≤ length es → drop k es ≡ drop k (take n es) ++ drop n es
parts_of n k es less most =
    ap (λ (xs : List Before). drop k xs) (sym (take-append-drop n es))
    ∙ drop-append-le k (take n es) (drop n es) (omega (arith, length-take-le n es most, less))

-- those that are left undo to the same places
pub undone_left : (n k : ℕ) (es : List Before) (w : World) → k ≤ n → n ≤ length es → undone_all (drop k (take n es)) (undone_all (drop n es) w) ≡ undone_all (drop k es) w
undone_left n k es w less most =
    sym (undone_both (drop k (take n es)) (drop n es) w) ∙ ap (λ (xs : List Before). undone_all xs w) (sym (parts_of n k es less most))
