-- Lines that are passed on with `frozen` are those lines with that word, without numbers.
use Rattle.std.proofs.Common.{◌≡◌, inl, inr, ℕ, List, [], ◌∷◌, Result, Ok, Err, codes, drop, map, refl, ap, sym, subst, ◌∙◌}
use Rattle.bare_lines.specs.Bare.{bare, bare_part, frozen_bare, frozen_part, frozen_text}
use Rattle.bare_lines.proofs.Joined.{bare_joined, frozen_joined}
use Rattle.byte_lines.specs.declared.sink.SinkFault.{SinkFault}
use Rattle.checkpoint_model.specs.Checkpoint.{frozen}
use Rattle.report.specs.Taking.{HasPut, IsFront, with_lines}
use Rattle.text_model.specs.Words.{Text, line_of}

-- one line
same_line : (words : List Text) → frozen_text (line_of 0 words) ≡ drop 2 (line_of 0 (frozen words))
same_line words = frozen_joined words ∙ sym (bare_joined (codes "frozen") words)

module _ {T : Type 0} (add : T → Text → T) (IsPart : T → Text → T → Type 0) where
  -- all lines
  all_lines : (t : T) (lines : List (List Text)) → with_lines (frozen_bare add) 0 t lines ≡ with_lines (bare add) 0 t (map frozen lines)
  all_lines t [] = refl
  all_lines t (words ∷ lines) =
      all_lines (add t (frozen_text (line_of 0 words))) lines
      ∙ ap (λ (x : Text). with_lines (bare add) 0 (add t x) (map frozen lines)) (same_line words)

  -- a front of them
  front : (t : T) (lines : List (List Text)) (t' : T) → IsFront (frozen_bare add) (frozen_part IsPart) 0 t lines t' → IsFront (bare add) (bare_part IsPart) 0 t (map frozen lines) t'
  front t [] t' is = is
  front t (words ∷ lines) t' (inl is) = inl is
  front t (words ∷ lines) t' (inr (inl (inl is))) = inl is
  front t (words ∷ lines) t' (inr (inl (inr is))) = inr (inl (subst (λ (x : Text). IsPart t x t') (same_line words) is))
  front t (words ∷ lines) t' (inr (inr is)) =
      inr (inr (subst (λ (x : Text). IsFront (bare add) (bare_part IsPart) 0 (add t x) (map frozen lines) t') (same_line words)
      (front (add t (frozen_text (line_of 0 words))) lines t' is)))

  -- so they are handed over
  pub handed : (t t' : T) (lines : List (List Text)) (f f' : ℕ) (r : Result (Unit {0}) SinkFault)
      → HasPut (frozen_bare add) (frozen_part IsPart) 0 t lines t' f f' r → HasPut (bare add) (bare_part IsPart) 0 t (map frozen lines) t' f f' r
  handed t t' lines f f' (Ok done) h = record { ok = h.ok ∙ all_lines t lines; err = tt; counts = h.counts }
  handed t t' lines f f' (Err e) h = record { ok = tt; err = front t lines t' h.err; counts = h.counts }
