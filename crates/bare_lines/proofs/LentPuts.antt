-- What was handed over through a loan was handed over to whom it borrows.
use Rattle.std.proofs.Common.{◌≡◌, inl, inr, ℕ, List, [], ◌∷◌, Result, Ok, Err, refl, ap, sym, ◌∙◌, subst}
use Rattle.byte_lines.specs.declared.sink.SinkFault.{SinkFault}
use Rattle.text_forms.specs.of_text_model.Words.{Text, line_of}
use Rattle.report.specs.Taking.{HasPut, IsFront, with_lines}
use Rattle.bare_lines.specs.Lent.{lent, lent_part}

-- the state after lines
with_lent : {T : Type 0} (add : T → Text → T) (n g : ℕ) (t : T) (lines : List (List Text)) → with_lines (lent add) n (g, t) lines ≡ (g, with_lines add n t lines)
with_lent add n g t [] = refl
with_lent add n g t (words ∷ lines) = with_lent add n g (add t (line_of n words)) lines

-- the same after a front of them
front_lent : {T : Type 0} (add : T → Text → T) (IsPart : T → Text → T → Type 0) (n g : ℕ) (t : T) (lines : List (List Text)) (u : ℕ × T)
    → IsFront (lent add) (lent_part IsPart) n (g, t) lines u → (u.0 ≡ g) × IsFront add IsPart n t lines u.1
front_lent add IsPart n g t [] u is = (ap (λ x. x.0) is, ap (λ x. x.1) is)
front_lent add IsPart n g t (words ∷ lines) u (inl is) = (ap (λ x. x.0) is, inl (ap (λ x. x.1) is))
front_lent add IsPart n g t (words ∷ lines) u (inr (inl is)) = (is.0, inr (inl is.1))
front_lent add IsPart n g t (words ∷ lines) u (inr (inr is)) =
    let later = front_lent add IsPart n g (add t (line_of n words)) lines u is in (later.0, inr (inr later.1))

-- the loan has its name still, and lines were handed over
pub put_lent : {T : Type 0} (add : T → Text → T) (IsPart : T → Text → T → Type 0) (n g g' : ℕ) (t t' : T) (lines : List (List Text)) (f f' : ℕ) (r : Result (Unit {0}) SinkFault)
    → HasPut (lent add) (lent_part IsPart) n (g, t) lines (g', t') f f' r → (g' ≡ g) × HasPut add IsPart n t lines t' f f' r
put_lent add IsPart n g g' t t' lines f f' (Ok done) h =
    let is = h.ok ∙ with_lent add n g t lines in
    (ap (λ x. x.0) is, record { ok = ap (λ x. x.1) is; err = tt; counts = h.counts })
put_lent add IsPart n g g' t t' lines f f' (Err e) h =
    let front = front_lent add IsPart n g t lines (g', t') h.err in
    (front.0, record { ok = tt; err = front.1; counts = h.counts })

-- the same, where the one who borrowed it has it back once the name of the loan is the same
pub put_through : {T S : Type 0} {add : T → Text → T} {IsPart : T → Text → T → Type 0} {n g g' : ℕ} {t : T} {lines : List (List Text)} {f : ℕ} (taken : S → T) (faults : S → ℕ) (s s' : S)
    (r : Result (Unit {0}) SinkFault) → HasPut (lent add) (lent_part IsPart) n (g, t) lines (g', taken s) f (faults s) r → (g ≡ g' → s' ≡ s) → HasPut add IsPart n t lines (taken s') f (faults s') r
put_through {add = add} {IsPart = IsPart} {n = n} {g = g} {g' = g'} {t = t} {lines = lines} {f = f} taken faults s s' r h back =
    let both = put_lent add IsPart n g g' t (taken s) lines f (faults s) r h in
    subst (λ x. HasPut add IsPart n t lines (taken x) f (faults x) r) (sym (back (sym both.0))) both.1
