-- Lemmas on what a call takes of the source, and on the lines still to come.
use Rattle.std.proofs.Common.{◌≡◌, ℕ, ◌+◌, ◌-◌, ◌≤◌, ◌++◌, inl, inr, true, false, List, [], ◌∷◌, Option, Some, None, length, map, take, refl, sym, ap, subst, ◌∙◌, arith, append_assoc}
use Rattle.std.specs.Prelude.{suc, zero, IsTrue}
use Rattle.std.specs.Io.KnownBytes.{IsAtEnd, prepend_known}
use Rattle.std.proofs.lemmas.Bool.{le-leb}
use Rattle.std.proofs.lemmas.List.{append-nil, length-append, take_all}
use Rattle.byte_lines.specs.Answers.{HasTaken}
use Rattle.byte_lines.specs.Laws.{CallsAddUp, FreshGivesAll}
use Rattle.byte_lines.specs.Pieces.{has_feed, kept, line_feed, lines_of, pieces_of, with_first}
use Rattle.byte_lines.specs.Reader.{FitsIn, heeded, last_line, lines_after, lines_left, Reader, with_run}
use Rattle.byte_lines.proofs.PieceLemmas.{feed_cases, last_piece, pieces_of-feed, with_first-last}
use Rattle.byte_lines.proofs.ProgressLemmas.{ended_cases, kept_cases, with_run-kept}

-- ---- lines that go on a line begun

-- the pieces behind a run without a line feed
abbrev with_front : List ℕ → List (List ℕ) → List (List ℕ)
with_front run [] = last_piece run
with_front run (p ∷ ps) = (run ++ p) ∷ ps

with_front-nil : (ps : List (List ℕ)) → ps ≡ with_front [] ps
with_front-nil [] = refl
with_front-nil (p ∷ ps) = refl

with_front-cons : (b : ℕ) (bs : List ℕ) (ps : List (List ℕ)) → with_first b (with_front bs ps) ≡ with_front (b ∷ bs) ps
with_front-cons b bs [] = with_first-last b bs
with_front-cons b bs (p ∷ ps) = refl

pieces_of-run : (run rest : List ℕ) → has_feed run ≡ false → pieces_of (run ++ rest) ≡ with_front run (pieces_of rest)
pieces_of-run [] rest none = with_front-nil (pieces_of rest)
pieces_of-run (b ∷ bs) rest none =
    elim (feed_cases b) [
      | inl feed ↦ let h : has_feed (line_feed ∷ bs) ≡ false = subst (λ (x : ℕ). has_feed (x ∷ bs) ≡ false) feed none in cc
      | inr other ↦
          rw other (ap (λ (ps : List (List ℕ)). with_first b ps) (pieces_of-run bs rest (rw other at none)) ∙ with_front-cons b bs (pieces_of rest))
    ]

-- nothing more of a line begun, and a run in two parts
pub with_run-nil : (max : ℕ) (begun : Option (List ℕ)) → FitsIn max begun → with_run max begun [] ≡ begun
with_run-nil max None fits = refl
with_run-nil max (Some line) fits =
    ap (kept max) (append-nil line) ∙ rw (le-leb (length line) max (fits line refl)) refl

with_run-more : (max : ℕ) (begun : Option (List ℕ)) (run more : List ℕ) →
    with_run max begun (run ++ more) ≡ with_run max (with_run max begun run) more
with_run-more max None run more = refl
with_run-more max (Some line) run more =
    ap (kept max) (sym (append_assoc line run more)) ∙ sym (with_run-kept max (line ++ run) more)

-- a line that is not empty is given at the end
last_line-run : (max : ℕ) (begun : Option (List ℕ)) (b : ℕ) (bs : List ℕ) →
    last_line (with_run max begun (b ∷ bs)) ≡ with_run max begun (b ∷ bs) ∷ []
last_line-run max None b bs = refl
last_line-run max (Some line) b bs =
    elim (kept_cases max (line ++ b ∷ bs)) [
      | inl fits ↦ rw fits.1 (some line)
      | inr long ↦ rw long.1 refl
    ] where
      some : (front : List ℕ) → last_line (Some (front ++ b ∷ bs)) ≡ Some (front ++ b ∷ bs) ∷ []
      some [] = refl
      some (c ∷ cs) = refl

lines_after-front : (max : ℕ) (begun : Option (List ℕ)) (run : List ℕ) (ps : List (List ℕ)) → FitsIn max begun →
    lines_after max begun (with_front run ps) ≡ lines_after max (with_run max begun run) ps
lines_after-front max begun [] [] fits = ap last_line (sym (with_run-nil max begun fits))
lines_after-front max begun (b ∷ bs) [] fits = sym (last_line-run max begun b bs)
lines_after-front max begun run (p ∷ ps) fits =
    ap (λ (o : Option (List ℕ)). o ∷ map (kept max) ps) (with_run-more max begun run p)

-- a run without a line feed joins the line begun
lines_after-run : (max : ℕ) (begun : Option (List ℕ)) (run rest : List ℕ) → FitsIn max begun → has_feed run ≡ false →
    lines_after max begun (pieces_of (run ++ rest)) ≡ lines_after max (with_run max begun run) (pieces_of rest)
lines_after-run max begun run rest fits none =
    ap (λ (ps : List (List ℕ)). lines_after max begun ps) (pieces_of-run run rest none)
    ∙ lines_after-front max begun run (pieces_of rest) fits

lines_after-none : (max : ℕ) (ps : List (List ℕ)) → lines_after max (Some []) ps ≡ map (kept max) ps
lines_after-none max [] = refl
lines_after-none max (p ∷ ps) = refl

-- a run and a line feed end it
lines_after-line : (max : ℕ) (begun : Option (List ℕ)) (run rest : List ℕ) → has_feed run ≡ false →
    lines_after max begun (pieces_of (run ++ line_feed ∷ rest)) ≡ with_run max begun run ∷ lines_after max (Some []) (pieces_of rest)
lines_after-line max begun run rest none =
    ap (λ (ps : List (List ℕ)). lines_after max begun ps) (pieces_of-feed run rest none)
    ∙ ap (λ (ls : List (Option (List ℕ))). with_run max begun run ∷ ls) (sym (lines_after-none max (pieces_of rest)))

pub fresh_gives_all : FreshGivesAll
fresh_gives_all r bytes begun ahead =
    ap (λ (o : Option (List ℕ)). lines_after r.line_max o (pieces_of (r.ahead ++ bytes))) begun
    ∙ lines_after-none r.line_max (pieces_of (r.ahead ++ bytes))
    ∙ ap (λ (xs : List ℕ). lines_of r.line_max (xs ++ bytes)) ahead

-- ---- one step

pub take-nil : (n : ℕ) → heeded n [] ≡ []
take-nil n = take_all n [] (omega arith)

pub prepend_known-none : (known : Option (List ℕ)) → known ≡ prepend_known [] known
prepend_known-none None = refl
prepend_known-none (Some xs) = refl

-- nothing was taken
pub takes_nothing : (old new : Reader) (left : Option (List ℕ)) (given : List (Option (List ℕ))) → new.taken ≡ old.taken →
    (old.ended ≡ false → IsTrue new.ended → IsAtEnd left) →
    ((rest : List ℕ) → (IsTrue new.ended → rest ≡ []) → lines_left old rest ≡ given ++ lines_left new rest) →
    HasTaken old new left left given
takes_nothing old new left given same end is = record {
  bytes = [];
  count = omega (arith, same);
  told = prepend_known-none left;
  drained = end;
  lines = λ rest none.
      ap (λ (xs : List ℕ). lines_left old (xs ++ rest)) (take-nil (old.stream_max - old.taken)) ∙ is rest none;
}

-- a part came
pub takes_bytes : (old : Reader) (part : List ℕ) (held : ℕ) (left left' : Option (List ℕ)) → old.ended ≡ false → old.ahead ≡ [] →
    old.taken + length part ≤ old.stream_max → left ≡ prepend_known part left' →
    HasTaken old (record old { taken = old.taken + length part; ahead = part; held = held }) left left' []
takes_bytes old part held left left' going looked within gave = record {
  bytes = part;
  count = refl;
  told = gave;
  drained = λ still ended. cc;
  lines = λ rest none.
      ap (λ (xs : List ℕ). lines_left old (xs ++ rest)) (take_all (old.stream_max - old.taken) part (omega (arith, within)))
      ∙ ap (λ (xs : List ℕ). lines_after old.line_max old.begun (pieces_of (xs ++ (part ++ rest)))) looked;
}

-- a byte beyond the limit came
pub takes_beyond : (old : Reader) (byte held : ℕ) (left left' : Option (List ℕ)) → old.ended ≡ false →
    old.taken ≡ old.stream_max → left ≡ prepend_known (byte ∷ []) left' →
    HasTaken old (record old { taken = old.taken + 1; held = held }) left left' []
takes_beyond old byte held left left' going full gave = record {
  bytes = byte ∷ [];
  count = refl;
  told = gave;
  drained = λ still ended. cc;
  lines = λ rest none.
      let zero : old.stream_max - old.taken ≡ 0 = omega (arith, full) in
      ap (λ (n : ℕ). lines_left old (take n (byte ∷ []) ++ rest)) zero;
}

-- a look found no line feed
pub takes_run : (old : Reader) (begun : Option (List ℕ)) (held : ℕ) (left : Option (List ℕ)) → old.ended ≡ false → FitsIn old.line_max old.begun →
    has_feed old.ahead ≡ false → begun ≡ with_run old.line_max old.begun old.ahead →
    HasTaken old (record old { begun = begun; ahead = []; held = held }) left left []
takes_run old begun held left going fits none goes_on =
    takes_nothing old (record old { begun = begun; ahead = []; held = held }) left [] refl (λ still ended. cc) (λ rest over.
    lines_after-run old.line_max old.begun old.ahead rest fits none
    ∙ ap (λ (o : Option (List ℕ)). lines_after old.line_max o (pieces_of rest)) (sym goes_on))

-- a look found a line feed, behind this run
pub takes_line : (old new : Reader) (run ahead : List ℕ) (line : Option (List ℕ)) (given : List (Option (List ℕ))) (left : Option (List ℕ)) →
    old.ended ≡ false → old.ahead ≡ run ++ line_feed ∷ ahead → has_feed run ≡ false → line ≡ with_run old.line_max old.begun run → given ≡ line ∷ [] →
    new ≡ record old { begun = Some []; ahead = ahead; held = new.held; text = new.text; number = old.number + 1 } → HasTaken old new left left given
takes_line old new run ahead line given left going cut none goes_on is is_new =
    let next : Reader = record old { begun = Some []; ahead = ahead; held = new.held; text = new.text; number = old.number + 1 } in
    let all : HasTaken old next left left (line ∷ []) =
    takes_nothing old next left (line ∷ []) refl (λ still ended. cc) (λ rest over.
    ap (λ (xs : List ℕ). lines_after old.line_max old.begun (pieces_of (xs ++ rest))) cut
    ∙ ap (λ (xs : List ℕ). lines_after old.line_max old.begun (pieces_of xs)) (append_assoc run (line_feed ∷ ahead) rest)
    ∙ lines_after-line old.line_max old.begun run (ahead ++ rest) none
    ∙ ap (λ (o : Option (List ℕ)). o ∷ lines_after old.line_max (Some []) (pieces_of (ahead ++ rest))) (sym goes_on)) in
    subst (λ (r : Reader). HasTaken old r left left given) (sym is_new)
    (subst (λ (ls : List (Option (List ℕ))). HasTaken old next left left ls) (sym is) all)

-- the end came
pub takes_end : (old new : Reader) (given : List (Option (List ℕ))) (left : Option (List ℕ)) →
    old.ahead ≡ [] → IsAtEnd left → given ≡ last_line old.begun →
    new ≡ record old { begun = Some []; ahead = []; held = new.held; text = new.text; number = new.number; ended = true } →
    HasTaken old new left left given
takes_end old new given left looked end is is_new =
    let next : Reader = record old { begun = Some []; ahead = []; held = new.held; text = new.text; number = new.number; ended = true } in
    let all : HasTaken old next left left given =
    takes_nothing old next left given refl (λ still ended. end) (λ rest over.
    let empty : rest ≡ [] = over refl in
    subst (λ (xs : List ℕ). lines_left old xs ≡ given ++ lines_left next xs) (sym empty)
    (ap (λ (xs : List ℕ). lines_after old.line_max old.begun (pieces_of (xs ++ []))) looked ∙ sym is ∙ sym (append-nil given))) in
    subst (λ (r : Reader). HasTaken old r left left given) (sym is_new) all

-- ---- one step after another

pub prepend_known-more : (xs ys : List ℕ) (known : Option (List ℕ)) → prepend_known xs (prepend_known ys known) ≡ prepend_known (xs ++ ys) known
prepend_known-more xs ys None = refl
prepend_known-more xs ys (Some zs) = ap Some (sym (append_assoc xs ys zs))

-- a front of two parts, where the former has m places
pub take-two : (xs ys : List ℕ) (n m : ℕ) → n ≡ m - length xs → take m (xs ++ ys) ≡ take m xs ++ take n ys
take-two [] ys n m is = let same : n ≡ m = omega (arith, is) in ap (λ (k : ℕ). take k ys) (sym same) ∙ ap (λ (zs : List ℕ). zs ++ take n ys) (sym (take-nil m))
take-two (x ∷ xs) ys n zero is = let none : n ≡ 0 = omega (arith, is) in ap (λ (k : ℕ). take k ys) (sym none)
take-two (x ∷ xs) ys n (suc m) is = let less : n ≡ m - length xs = omega (arith, is) in ap (λ (zs : List ℕ). x ∷ zs) (take-two xs ys n m less)

nothing-length : (xs : List ℕ) → length xs ≡ 0 → xs ≡ []
nothing-length [] none = refl
nothing-length (x ∷ xs) none = absurd (omega (arith, none))

-- after the end nothing comes
pub quiet : (old new : Reader) (left left' : Option (List ℕ)) (given : List (Option (List ℕ))) (took : HasTaken old new left left' given) (n : ℕ) →
    (IsTrue old.ended → (new ≡ old) × (left' ≡ left)) → (rest : List ℕ) → (IsTrue new.ended → rest ≡ []) → IsTrue old.ended → heeded n took.bytes ++ rest ≡ []
quiet old new left left' given took n stays rest none over =
    let same = (stays over).0 in
    let taken : new.taken ≡ old.taken = ap (λ (r : Reader). r.taken) same in
    let zero : length took.bytes ≡ 0 = omega (arith, taken, took.count) in
    ap (λ (xs : List ℕ). take n xs ++ rest) (nothing-length took.bytes zero) ∙ ap (λ (xs : List ℕ). xs ++ rest) (take-nil n)
    ∙ none (subst (λ (r : Reader). IsTrue r.ended) (sym same) over)

pub calls_add_up : CallsAddUp
calls_add_up first mid last left left' left'' given more one next limit stays =
    let places : mid.stream_max - mid.taken ≡ first.stream_max - first.taken - length one.bytes = omega (arith, limit, one.count) in
    let now = take (mid.stream_max - mid.taken) next.bytes in
    record {
      bytes = one.bytes ++ next.bytes;
      count = omega (arith, one.count, next.count, length-append one.bytes next.bytes);
      told =
          one.told ∙ ap (λ (known : Option (List ℕ)). prepend_known one.bytes known) next.told
          ∙ prepend_known-more one.bytes next.bytes left'';
      drained = λ going ended.
          elim (ended_cases mid) [
            | inl still ↦ next.drained still ended
            | inr over ↦ subst IsAtEnd (sym (stays over).1) (one.drained going over)
          ];
      lines = λ rest none.
          ap (λ (xs : List ℕ). lines_left first (xs ++ rest)) (take-two one.bytes next.bytes (mid.stream_max - mid.taken) (first.stream_max - first.taken) places)
          ∙ ap (λ (xs : List ℕ). lines_left first xs) (append_assoc (take (first.stream_max - first.taken) one.bytes) now rest)
          ∙ one.lines (now ++ rest) (quiet mid last left' left'' more next (mid.stream_max - mid.taken) stays rest none)
          ∙ ap (λ (ls : List (Option (List ℕ))). given ++ ls) (next.lines rest none)
          ∙ sym (append_assoc given more (lines_left last rest));
    }
