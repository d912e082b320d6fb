-- Lemmas on how the lines that a reader gave lie among those of its stream.
use Rattle.std.proofs.Common.{◌≡◌, ℕ, ◌+◌, ◌-◌, ◌≤◌, ◌++◌, inl, inr, List, [], Option, Some, None, length, take, drop, refl, sym, ap, subst, ◌∙◌, arith, append_assoc}
use Rattle.std.specs.Prelude.{IsTrue}
use Rattle.std.specs.Io.KnownBytes.{append_known}
use Rattle.std.proofs.lemmas.List.{append-nil, drop-take, take-append-drop, take-take, take_all, take_rest}
use Rattle.byte_lines.specs.Laws.{BreakGivesWhole, EndGivesAll, GivesFirst, GivesFirstOfAll, NothingBeyond, TakesAddUp}
use Rattle.byte_lines.specs.Pieces.{lines_of, open_of, whole_of}
use Rattle.byte_lines.specs.Progress.{HasRead}
use Rattle.byte_lines.specs.Reader.{Reader, heeded}
use Rattle.byte_lines.proofs.PieceLemmas.{lines_of-append, lines_of-whole, whole_of-more, whole_of-whole}
use Rattle.byte_lines.proofs.ProgressLemmas.{ended_cases, kept-none}

-- all that came is heeded, as long as it is not too much
came-heeded : (bytes : List ℕ) (r : Reader) (left : Option (List ℕ)) (given : List (Option (List ℕ))) (read : HasRead bytes r left given) →
    r.taken ≤ r.stream_max → heeded r.stream_max read.came ≡ read.came
came-heeded bytes r left given read within = take_all r.stream_max read.came (omega (arith, read.taken))

-- at the end
heeded-through : (bytes : List ℕ) (r : Reader) (left : Option (List ℕ)) (given : List (Option (List ℕ))) (read : HasRead bytes r left given) →
    IsTrue r.ended → heeded r.stream_max read.came ≡ read.looked
heeded-through bytes r left given read ended =
    read.heeds ∙ ap (λ (xs : List ℕ). read.looked ++ xs) (read.through ended).ahead ∙ append-nil read.looked

pub gives_all : EndGivesAll
gives_all bytes r left given read ended within =
    let through = read.through ended in
    let all : read.came ≡ bytes = sym (read.cut ∙ ap (λ (xs : List ℕ). read.came ++ xs) through.drained ∙ append-nil read.came) in
    let looked : read.looked ≡ bytes = sym (heeded-through bytes r left given read ended) ∙ came-heeded bytes r left given read within ∙ all in
    (through.lines ∙ ap (λ (xs : List ℕ). lines_of r.line_max xs) looked, all, through.drained)

pub gives_whole : BreakGivesWhole
gives_whole bytes r left given read going looked =
    (read.among going).lines
    ∙ ap (λ (xs : List ℕ). lines_of r.line_max (whole_of xs)) (sym (read.heeds ∙ ap (λ (xs : List ℕ). read.looked ++ xs) looked ∙ append-nil read.looked))

pub gives_first : GivesFirst
gives_first bytes r left given read =
    elim (ended_cases r) [
      | inl going ↦
          let more = whole_of-more read.looked r.ahead in inl (
            lines_of r.line_max (whole_of (open_of read.looked ++ r.ahead)),
            ap (λ (xs : List ℕ). lines_of r.line_max (whole_of xs)) read.heeds
                ∙ ap (λ (xs : List ℕ). lines_of r.line_max xs) more.0
                ∙ lines_of-whole r.line_max read.looked (whole_of (open_of read.looked ++ r.ahead))
                ∙ ap (λ (ls : List (Option (List ℕ))). ls ++ lines_of r.line_max (whole_of (open_of read.looked ++ r.ahead))) (sym (read.among going).lines),
          )
      | inr ended ↦ inr (
        (read.through ended).drained,
        ap (λ (xs : List ℕ). lines_of r.line_max xs) (heeded-through bytes r left given read ended) ∙ sym (read.through ended).lines,
      )
    ]

pub gives_first_of_all : GivesFirstOfAll
gives_first_of_all bytes r left given read within =
    elim (ended_cases r) [
      | inl going ↦
          let all : bytes ≡ read.looked ++ (r.ahead ++ read.rest) =
          read.cut ∙ ap (λ (xs : List ℕ). xs ++ read.rest) (sym (came-heeded bytes r left given read within) ∙ read.heeds) ∙ append_assoc read.looked r.ahead read.rest in (
            lines_of r.line_max (open_of read.looked ++ (r.ahead ++ read.rest)),
            ap (λ (xs : List ℕ). lines_of r.line_max xs) all
                ∙ lines_of-append r.line_max read.looked (r.ahead ++ read.rest)
                ∙ ap (λ (ls : List (Option (List ℕ))). ls ++ lines_of r.line_max (open_of read.looked ++ (r.ahead ++ read.rest))) (sym (read.among going).lines),
          )
      | inr ended ↦ ([], sym ((gives_all bytes r left given read ended within).0) ∙ sym (append-nil given))
    ]

pub nothing_beyond : NothingBeyond
nothing_beyond bytes r left given read begun within =
    let came : read.came ≡ read.looked ++ r.ahead = sym (came-heeded bytes r left given read within) ∙ read.heeds in
    elim (ended_cases r) [
      | inl going ↦
          let among = read.among going in
          let whole : open_of read.looked ≡ [] = kept-none r.line_max (open_of read.looked) (sym among.begun ∙ begun) in
          (read.looked, came, among.lines ∙ ap (λ (xs : List ℕ). lines_of r.line_max xs) (whole_of-whole read.looked whole), inl whole)
      | inr ended ↦ (read.looked, came, (read.through ended).lines, inr (read.through ended).drained)
    ]

-- bytes and then others are all of them
pub append_known-more : (first : Option (List ℕ)) (piece more : List ℕ) → append_known (append_known first piece) more ≡ append_known first (piece ++ more)
append_known-more None piece more = refl
append_known-more (Some xs) piece more = ap Some (append_assoc xs piece more)

pub appends-append : TakesAddUp
appends-append first mid last piece more one next =
    next ∙ ap (λ (known : Option (List ℕ)). append_known known more) one ∙ append_known-more first piece more

-- a front, and a front of what is behind it
take-drop : (xs : List ℕ) (i n : ℕ) → take i xs ++ take n (drop i xs) ≡ take (i + n) xs
take-drop xs i n =
    ap (λ (ys : List ℕ). take i xs ++ ys) (sym (drop-take i n xs))
    ∙ ap (λ (ys : List ℕ). ys ++ drop i (take (i + n) xs)) (sym (take-take i (i + n) xs (omega arith)))
    ∙ take-append-drop i (take (i + n) xs)

-- more of the same bytes taken, from the slice of those that are left
pub appends-slice : (first mid last : Option (List ℕ)) (xs : List ℕ) (i n : ℕ) →
    mid ≡ append_known first (take i xs) → last ≡ append_known mid (take n (take (length xs - i) (drop i xs))) → last ≡ append_known first (take (i + n) xs)
appends-slice first mid last xs i n one next =
    let more : take n (take (length xs - i) (drop i xs)) ≡ take n (drop i xs) = ap (λ (ys : List ℕ). take n ys) (take_rest xs i) in
    subst (λ (ys : List ℕ). last ≡ append_known first ys) (ap (λ (ys : List ℕ). take i xs ++ ys) more ∙ take-drop xs i n)
    (appends-append first mid last (take i xs) (take n (take (length xs - i) (drop i xs))) one next)
