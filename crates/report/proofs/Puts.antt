-- Lines that are handed over, some after others.
use Rattle.std.proofs.Common.{append_assoc, ◌≡◌, inl, inr, ℕ, List, [], ◌∷◌, ◌++◌, Result, Ok, Err, refl, ap, sym, subst, arith, map, drop, length, slice_index_or, ◌<◌, ◌≤◌, ◌+◌, ◌∙◌}
use Rattle.std.specs.Result.{IsErrAnd}
use Rattle.std.proofs.lemmas.List.{at_drop_more, at_drop_all, append-nil}
use Rattle.byte_lines.specs.Faults.{CountsFaults}
use Rattle.byte_lines.specs.declared.sink.SinkFault.{SinkFault}
use Rattle.text_model.specs.Words.{Text, line_of}
use Rattle.report.specs.Taking.{with_lines, IsFront, HasPut}

-- lines and then others are all of them
with_both : {T : Type 0} (add : T → Text → T) (n : ℕ) (t : T) (xs ys : List (List Text)) → with_lines add n (with_lines add n t xs) ys ≡ with_lines add n t (xs ++ ys)
with_both add n t [] ys = refl
with_both add n t (x ∷ xs) ys = with_both add n (add t (line_of n x)) xs ys

-- no line is a front
no_line : {T : Type 0} (add : T → Text → T) (IsPart : T → Text → T → Type 0) (n : ℕ) (t t' : T) (xs : List (List Text)) → t' ≡ t → IsFront add IsPart n t xs t'
no_line add IsPart n t t' [] same = same
no_line add IsPart n t t' (x ∷ xs) same = inl same

-- a front of lines is one of more lines
front_of_more : {T : Type 0} (add : T → Text → T) (IsPart : T → Text → T → Type 0) (n : ℕ) (t t' : T) (xs ys : List (List Text)) → IsFront add IsPart n t xs t' → IsFront add IsPart n t (xs ++ ys) t'
front_of_more add IsPart n t t' [] ys is = no_line add IsPart n t t' ys is
front_of_more add IsPart n t t' (x ∷ xs) ys (inl is) = inl is
front_of_more add IsPart n t t' (x ∷ xs) ys (inr (inl is)) = inr (inl is)
front_of_more add IsPart n t t' (x ∷ xs) ys (inr (inr is)) = inr (inr (front_of_more add IsPart n (add t (line_of n x)) t' xs ys is))

-- lines, and a front of others
front_after : {T : Type 0} (add : T → Text → T) (IsPart : T → Text → T → Type 0) (n : ℕ) (t t' : T) (xs ys : List (List Text)) → IsFront add IsPart n (with_lines add n t xs) ys t' → IsFront add IsPart n t (xs ++ ys) t'
front_after add IsPart n t t' [] ys is = is
front_after add IsPart n t t' (x ∷ xs) ys is = inr (inr (front_after add IsPart n (add t (line_of n x)) t' xs ys is))

-- no line was handed over
pub put_none : {T : Type 0} (add : T → Text → T) (IsPart : T → Text → T → Type 0) (n : ℕ) (t : T) (f : ℕ) → HasPut add IsPart n t [] t f f (Ok tt)
put_none add IsPart n t f = record { ok = refl; err = tt; counts = record { rose = λ failed. cc; stays = λ _. refl; never_falls = omega arith } }

-- of more lines no more than a front was handed over
pub put_cut : {T : Type 0} (add : T → Text → T) (IsPart : T → Text → T → Type 0) (n : ℕ) (t t' : T) (xs ys : List (List Text)) (f f' : ℕ) (e : SinkFault)
    → HasPut add IsPart n t xs t' f f' (Err e) → HasPut add IsPart n t (xs ++ ys) t' f f' (Err e)
put_cut add IsPart n t t' xs ys f f' e h = record { ok = tt; err = front_of_more add IsPart n t t' xs ys h.err; counts = h.counts }

-- the faults of a call are those of the calls after one without a fault
counts_on : {Fails Fails' : Type 0} (f g h : ℕ) → ¬ Fails → CountsFaults Fails f g → CountsFaults Fails' g h → CountsFaults Fails' f h
counts_on f g h none first second = rw (sym (first.stays none)) second

-- lines were handed over, and then others
pub put_then : {T : Type 0} (add : T → Text → T) (IsPart : T → Text → T → Type 0) (n : ℕ) (t t' t'' : T) (xs ys : List (List Text)) (f f' f'' : ℕ) (r : Result (Unit {0}) SinkFault)
    → HasPut add IsPart n t xs t' f f' (Ok tt) → HasPut add IsPart n t' ys t'' f' f'' r → HasPut add IsPart n t (xs ++ ys) t'' f f'' r
put_then add IsPart n t t' t'' xs ys f f' f'' (Ok done) a b = record {
  ok = b.ok ∙ ap (λ u. with_lines add n u ys) a.ok ∙ with_both add n t xs ys;
  err = tt;
  counts = counts_on f f' f'' (λ failed. cc) a.counts b.counts;
}
put_then add IsPart n t t' t'' xs ys f f' f'' (Err e) a b = record {
  ok = tt;
  err = front_after add IsPart n t t'' xs ys (subst (λ u. IsFront add IsPart n u ys t'') a.ok b.err);
  counts = counts_on f f' f'' (λ failed. cc) a.counts b.counts;
}

-- the lines of the items from a place on are the item's and then those of the others
left_is : {X : Type 0} (words : X → List Text) (xs : List X) (i : ℕ) (x : X) → i < length xs → x ≡ slice_index_or xs i x → map words (drop i xs) ≡ words x ∷ map words (drop (i + 1) xs)
left_is {X} words xs i x below is = at_drop_more (map words) xs i x below ∙ ap (λ (y : X). words y ∷ map words (drop (i + 1) xs)) (sym is)

-- an item's line was handed over, and then those of the others
pub put_next : {T X : Type 0} (add : T → Text → T) (IsPart : T → Text → T → Type 0) (n : ℕ) (words : X → List Text) (xs : List X) (i : ℕ) (x : X) → i < length xs → x ≡ slice_index_or xs i x
    → (t t' t'' : T) (f f' f'' : ℕ) (r : Result (Unit {0}) SinkFault)
    → HasPut add IsPart n t (words x ∷ []) t' f f' (Ok tt) → HasPut add IsPart n t' (map words (drop (i + 1) xs)) t'' f' f'' r → HasPut add IsPart n t (map words (drop i xs)) t'' f f'' r
put_next add IsPart n words xs i x below is t t' t'' f f' f'' r first later =
    subst (λ (ls : List (List Text)). HasPut add IsPart n t ls t'' f f'' r) (sym (left_is words xs i x below is))
    (put_then add IsPart n t t' t'' (words x ∷ []) (map words (drop (i + 1) xs)) f f' f'' r first later)

-- an item's line was not handed over whole
pub put_not : {T X : Type 0} (add : T → Text → T) (IsPart : T → Text → T → Type 0) (n : ℕ) (words : X → List Text) (xs : List X) (i : ℕ) (x : X) → i < length xs → x ≡ slice_index_or xs i x
    → (t t' : T) (f f' : ℕ) (e : SinkFault)
    → HasPut add IsPart n t (words x ∷ []) t' f f' (Err e) → HasPut add IsPart n t (map words (drop i xs)) t' f f' (Err e)
put_not add IsPart n words xs i x below is t t' f f' e first =
    subst (λ (ls : List (List Text)). HasPut add IsPart n t ls t' f f' (Err e)) (sym (left_is words xs i x below is))
    (put_cut add IsPart n t t' (words x ∷ []) (map words (drop (i + 1) xs)) f f' e first)

-- a fault that is passed on
pub put_failed : {T : Type 0} (add : T → Text → T) (IsPart : T → Text → T → Type 0) (n : ℕ) (t t' : T) (lines : List (List Text)) (f f' : ℕ) (e : SinkFault) (r : Result (Unit {0}) SinkFault)
    → IsErrAnd r (λ x. x ≡ e) → HasPut add IsPart n t lines t' f f' (Err e) → HasPut add IsPart n t lines t' f f' r
put_failed add IsPart n t t' lines f f' e (Ok done) same h = absurd same
put_failed add IsPart n t t' lines f f' e (Err x) same h = subst (λ (y : SinkFault). HasPut add IsPart n t lines t' f f' (Err y)) (sym same) h

-- no item is left
pub put_ended : {T X : Type 0} (add : T → Text → T) (IsPart : T → Text → T → Type 0) (n : ℕ) (words : X → List Text) (xs : List X) (i : ℕ) → length xs ≤ i
    → (t : T) (f : ℕ) → HasPut add IsPart n t (map words (drop i xs)) t f f (Ok tt)
put_ended add IsPart n words xs i end t f =
    subst (λ (ls : List (List Text)). HasPut add IsPart n t ls t f f (Ok tt)) (sym (at_drop_all (map words) xs i end)) (put_none add IsPart n t f)

-- ---- three lists of lines, one after another

-- of the first no more than a front
pub put_first : {T : Type 0} {add : T → Text → T} {IsPart : T → Text → T → Type 0} {n : ℕ} {t t' : T} {f f' : ℕ} {e : SinkFault} {r : Result (Unit {0}) SinkFault} (xs ys zs : List (List Text))
    → HasPut add IsPart n t xs t' f f' (Err e) → IsErrAnd r (λ x. x ≡ e) → HasPut add IsPart n t (xs ++ ys ++ zs) t' f f' r
put_first {T} {add} {IsPart} {n} {t} {t'} {f} {f'} {e} {r} xs ys zs first same =
    put_failed add IsPart n t t' (xs ++ ys ++ zs) f f' e r same (put_cut add IsPart n t t' (xs ++ ys) zs f f' e (put_cut add IsPart n t t' xs ys f f' e first))

-- of the second no more than a front
pub put_second : {T : Type 0} {add : T → Text → T} {IsPart : T → Text → T → Type 0} {n : ℕ} {t t' t'' : T} {f f' f'' : ℕ} {e : SinkFault} {r : Result (Unit {0}) SinkFault} (xs ys zs : List (List Text))
    → HasPut add IsPart n t xs t' f f' (Ok tt) → HasPut add IsPart n t' ys t'' f' f'' (Err e) → IsErrAnd r (λ x. x ≡ e) → HasPut add IsPart n t (xs ++ ys ++ zs) t'' f f'' r
put_second {T} {add} {IsPart} {n} {t} {t'} {t''} {f} {f'} {f''} {e} {r} xs ys zs first second same =
    put_failed add IsPart n t t'' (xs ++ ys ++ zs) f f'' e r same
    (put_cut add IsPart n t t'' (xs ++ ys) zs f f'' e (put_then add IsPart n t t' t'' xs ys f f' f'' (Err e) first second))

-- all of the first and the second
pub put_third : {T : Type 0} {add : T → Text → T} {IsPart : T → Text → T → Type 0} {n : ℕ} {t t' t'' u : T} {f f' f'' g : ℕ} {r : Result (Unit {0}) SinkFault} (xs ys zs : List (List Text))
    → HasPut add IsPart n t xs t' f f' (Ok tt) → HasPut add IsPart n t' ys t'' f' f'' (Ok tt) → HasPut add IsPart n t'' zs u f'' g r → HasPut add IsPart n t (xs ++ ys ++ zs) u f g r
put_third {T} {add} {IsPart} {n} {t} {t'} {t''} {u} {f} {f'} {f''} {g} {r} xs ys zs first second third =
    put_then add IsPart n t t'' u (xs ++ ys) zs f f'' g r (put_then add IsPart n t t' t'' xs ys f f' f'' (Ok tt) first second) third

-- ---- a list of lines

-- lines that are kept are all of them
pub kept_lines : (n : ℕ) (kept : List Text) (lines : List (List Text)) → with_lines (λ (ls : List Text) line. ls ++ line ∷ []) n kept lines ≡ kept ++ map (line_of n) lines
kept_lines n kept [] = sym (append-nil kept)
kept_lines n kept (words ∷ lines) = kept_lines n (kept ++ line_of n words ∷ []) lines ∙ append_assoc kept (line_of n words ∷ []) (map (line_of n) lines)

-- ---- two lists of lines, each known as another

-- of the first no more than a front
pub put_first_as : {T : Type 0} {add : T → Text → T} {IsPart : T → Text → T → Type 0} {n : ℕ} {t t' : T} {f f' : ℕ} {e : SinkFault} {r : Result (Unit {0}) SinkFault} (xs xs' ys : List (List Text)) → xs ≡ xs'
    → HasPut add IsPart n t xs t' f f' (Err e) → IsErrAnd r (λ x. x ≡ e) → HasPut add IsPart n t (xs' ++ ys) t' f f' r
put_first_as {T} {add} {IsPart} {n} {t} {t'} {f} {f'} {e} {r} xs xs' ys is first same =
    put_failed add IsPart n t t' (xs' ++ ys) f f' e r same
    (put_cut add IsPart n t t' xs' ys f f' e (subst (λ (ls : List (List Text)). HasPut add IsPart n t ls t' f f' (Err e)) is first))

-- all of the first
pub put_second_as : {T : Type 0} {add : T → Text → T} {IsPart : T → Text → T → Type 0} {n : ℕ} {t t' t'' : T} {f f' f'' : ℕ} {r : Result (Unit {0}) SinkFault} (xs xs' ys ys' : List (List Text)) → xs ≡ xs' → ys ≡ ys'
    → HasPut add IsPart n t xs t' f f' (Ok tt) → HasPut add IsPart n t' ys t'' f' f'' r → HasPut add IsPart n t (xs' ++ ys') t'' f f'' r
put_second_as {T} {add} {IsPart} {n} {t} {t'} {t''} {f} {f'} {f''} {r} xs xs' ys ys' is are first second =
    put_then add IsPart n t t' t'' xs' ys' f f' f'' r
    (subst (λ (ls : List (List Text)). HasPut add IsPart n t ls t' f f' (Ok tt)) is first)
    (subst (λ (ls : List (List Text)). HasPut add IsPart n t' ls t'' f' f'' r) are second)
