-- Lines that are handed over: none, some and then others, and those of items one after another.
use Rattle.std.proofs.Common.{add-one, ◌≡◌, ℕ, zero, suc, ◌<◌, ◌≤◌, ◌+◌, List, [], ◌∷◌, ◌++◌, Result, Ok, Err, flat_map, drop, length, option_to_list, slice_get, slice_index_or, refl, ap, sym, subst, ◌∙◌, arith}
use Rattle.std.specs.Result.{IsErrAnd}
use Rattle.std.proofs.lemmas.Grind.{flat_map-append}
use Rattle.std.proofs.lemmas.List.{at_drop_more, at_drop_all}
use Rattle.byte_lines.specs.declared.sink.SinkFault.{SinkFault}
use Rattle.byte_lines.specs.declared.sink.SinkFault.TheVariants.{NoMemory}
use Rattle.report.specs.Taking.{HasPut}
use Rattle.report.proofs.Puts.{put_none, put_cut, put_then, put_failed}
use Rattle.text_model.specs.Words.{Text}

module _ {T : Type 0} {add : T → Text → T} {IsPart : T → Text → T → Type 0} {n : ℕ} where
  -- lines that are known as others
  pub put_as : {t t' : T} {f f' : ℕ} {r : Result (Unit {0}) SinkFault} {xs ys : List (List Text)} → xs ≡ ys → HasPut add IsPart n t xs t' f f' r → HasPut add IsPart n t ys t' f f' r
  put_as {t} {t'} {f} {f'} {r} is h = subst (λ (ls : List (List Text)). HasPut add IsPart n t ls t' f f' r) is h

  -- no line
  pub nothing : {t : T} {f : ℕ} {xs : List (List Text)} → [] ≡ xs → HasPut add IsPart n t xs t f f (Ok tt)
  nothing {t} {f} is = put_as is (put_none add IsPart n t f)

  -- some lines, and then the others
  pub put_both : {t t' t'' : T} {f f' f'' : ℕ} {r : Result (Unit {0}) SinkFault} {xs ys zs : List (List Text)} → zs ≡ xs ++ ys
      → HasPut add IsPart n t xs t' f f' (Ok tt) → HasPut add IsPart n t' ys t'' f' f'' r → HasPut add IsPart n t zs t'' f f'' r
  put_both {t} {t'} {t''} {f} {f'} {f''} {r} {xs} {ys} is first later = put_as (sym is) (put_then add IsPart n t t' t'' xs ys f f' f'' r first later)

  -- no more than a prefix of the first lines
  pub put_front : {t t' : T} {f f' : ℕ} {e : SinkFault} {r : Result (Unit {0}) SinkFault} {xs zs : List (List Text)} (ys : List (List Text)) → zs ≡ xs ++ ys
      → HasPut add IsPart n t xs t' f f' (Err e) → IsErrAnd r (λ x. x ≡ e) → HasPut add IsPart n t zs t' f f' r
  put_front {t} {t'} {f} {f'} {e} {r} {xs} ys is first fault =
      put_as (sym is) (put_failed add IsPart n t t' (xs ++ ys) f f' e r fault (put_cut add IsPart n t t' xs ys f f' e first))

  -- none, since memory ran out
  pub put_nothing : {r : Result (Unit {0}) SinkFault} (lines : List (List Text)) (t : T) (f : ℕ) → IsErrAnd r (λ x. x ≡ NoMemory) → HasPut add IsPart n t lines t f f r
  put_nothing lines t f fault =
      let none : HasPut add IsPart n t [] t f f (Err NoMemory) = record { ok = tt; err = refl; counts = record { rose = λ failed. cc; stays = λ _. refl; never_falls = omega arith } } in
      put_front lines refl none fault

-- the lines of items are those of the first and those of the others
pub of_first : {X : Type 0} (lines : X → List (List Text)) (all rest : List X) (x : X) → all ≡ x ∷ rest → flat_map lines all ≡ lines x ++ flat_map lines rest
of_first {X} lines all rest x is = ap (λ (xs : List X). flat_map lines xs) is

module _ {X : Type 0} where
  -- what is at an index and behind it
  there : (xs : List X) (i : ℕ) → drop i xs ≡ option_to_list (slice_get xs i) ++ drop (suc i) xs
  there [] zero = refl
  there [] (suc i) = refl
  there (x ∷ xs) zero = refl
  there (x ∷ xs) (suc i) = there xs i

  at_place : (xs : List X) (i : ℕ) → drop i xs ≡ option_to_list (slice_get xs i) ++ drop (i + 1) xs
  at_place xs i = there xs i ∙ ap (λ (k : ℕ). option_to_list (slice_get xs i) ++ drop k xs) (sym (add-one i))

  -- the lines of the items from a place on are those of the item there and those of the others
  pub of_place : (lines : X → List (List Text)) (xs : List X) (i : ℕ) → flat_map lines (drop i xs) ≡ flat_map lines (option_to_list (slice_get xs i)) ++ flat_map lines (drop (i + 1) xs)
  of_place lines xs i = ap (λ (l : List X). flat_map lines l) (at_place xs i) ∙ flat_map-append lines (option_to_list (slice_get xs i)) (drop (i + 1) xs)

  -- the item at a place and those behind it
  pub from_place : (xs : List X) (i : ℕ) (x : X) → i < length xs → x ≡ slice_index_or xs i x → drop i xs ≡ x ∷ drop (i + 1) xs
  from_place xs i x below is = at_drop_more (λ (l : List X). l) xs i x below ∙ ap (λ (y : X). y ∷ drop (i + 1) xs) (sym is)

  -- none is left
  pub past_places : (xs : List X) (i : ℕ) → length xs ≤ i → drop i xs ≡ []
  past_places xs i end = at_drop_all (λ (l : List X). l) xs i end
