-- Lemmas on the pieces of a stream.
use Rattle.std.proofs.Common.{◌≡◌, ℕ, ◌<◌, ◌++◌, ◌⊎◌, inl, inr, Bool, true, false, List, [], ◌∷◌, Option, length, map, refl, sym, ap, subst, ◌∙◌, arith, append_assoc}
use Rattle.std.specs.Prelude.{◌==◌, ◌||◌, slice_index, suc, if◌then◌else◌}
use Rattle.std.proofs.lemmas.Bool.{eqb-true, eq-eqb, or_right}
use Rattle.std.proofs.lemmas.List.{append-nil, map-append}
use Rattle.std.proofs.lemmas.List.Folds.{list_any-append}
use Rattle.byte_lines.specs.Pieces.{has_feed, kept, line_feed, lines_of, open_of, pieces_of, whole_of, with_first}

-- a byte is a line feed, or it is none
pub feed_cases : (b : ℕ) → (b ≡ line_feed) ⊎ ((b == line_feed) ≡ false)
feed_cases b = elim (b == line_feed) as (λ t. (b == line_feed) ≡ t → (b ≡ line_feed) ⊎ (t ≡ false)) [
  | true ↦ λ e. inl (eqb-true b line_feed e)
  | false ↦ λ e. inr refl
] refl

-- bytes have a line feed, or they have none
pub has_feed-cases : (bytes : List ℕ) → (has_feed bytes ≡ true) ⊎ (has_feed bytes ≡ false)
has_feed-cases bytes = elim (has_feed bytes) as (λ t. (t ≡ true) ⊎ (t ≡ false)) [
  | true ↦ inl refl
  | false ↦ inr refl
]

-- no place has a line feed
pub no_feed : (bytes : List ℕ) → ((k : ℕ) → k < length bytes → ¬ ((slice_index bytes k == line_feed) ≡ true)) → has_feed bytes ≡ false
no_feed [] none = refl
no_feed (b ∷ bs) none =
    elim (feed_cases b) [
      | inl feed ↦ absurd (none 0 (omega arith) (eq-eqb b line_feed feed))
      | inr other ↦ rw other (no_feed bs (λ k below. none (suc k) (omega arith)))
    ]

-- in two parts
pub has_feed-append : (xs ys : List ℕ) → has_feed xs ≡ false → has_feed ys ≡ false → has_feed (xs ++ ys) ≡ false
has_feed-append xs ys none more = list_any-append (λ b. b == line_feed) xs ys ∙ rw none more

-- a piece goes up to the first line feed
pub pieces_of-feed : (piece rest : List ℕ) → has_feed piece ≡ false → pieces_of (piece ++ line_feed ∷ rest) ≡ piece ∷ pieces_of rest
pieces_of-feed [] rest none = refl
pieces_of-feed (b ∷ bs) rest none =
    elim (feed_cases b) [
      | inl feed ↦ let h : has_feed (line_feed ∷ bs) ≡ false = subst (λ (x : ℕ). has_feed (x ∷ bs) ≡ false) feed none in cc
      | inr other ↦ rw other (ap (λ (ps : List (List ℕ)). with_first b ps) (pieces_of-feed bs rest (rw other at none)))
    ]

-- the piece that the end ends, where it is not empty
abbrev pub last_piece : List ℕ → List (List ℕ)
last_piece [] = []
last_piece (b ∷ bs) = (b ∷ bs) ∷ []

pub with_first-last : (b : ℕ) (bs : List ℕ) → with_first b (last_piece bs) ≡ (b ∷ bs) ∷ []
with_first-last b [] = refl
with_first-last b (c ∷ bs) = refl

pub pieces_of-last : (piece : List ℕ) → has_feed piece ≡ false → pieces_of piece ≡ last_piece piece
pieces_of-last [] none = refl
pieces_of-last (b ∷ bs) none =
    elim (feed_cases b) [
      | inl feed ↦ let h : has_feed (line_feed ∷ bs) ≡ false = subst (λ (x : ℕ). has_feed (x ∷ bs) ≡ false) feed none in cc
      | inr other ↦ rw other (ap (λ (ps : List (List ℕ)). with_first b ps) (pieces_of-last bs (rw other at none)) ∙ with_first-last b bs)
    ]

-- the whole lines and the open one are all the bytes
pub whole-open : (bytes : List ℕ) → whole_of bytes ++ open_of bytes ≡ bytes
whole-open [] = refl
whole-open (b ∷ bs) =
    elim (has_feed (b ∷ bs)) as (λ t. (if t then b ∷ whole_of bs else []) ++ (if t then open_of bs else b ∷ bs) ≡ b ∷ bs) [
      | true ↦ ap (λ (xs : List ℕ). b ∷ xs) (whole-open bs)
      | false ↦ refl
    ]

-- the open line has no line feed
pub open_of-no_feed : (bytes : List ℕ) → has_feed (open_of bytes) ≡ false
open_of-no_feed [] = refl
open_of-no_feed (b ∷ bs) =
    elim (has_feed-cases (b ∷ bs)) [
      | inl some ↦ rw some (open_of-no_feed bs)
      | inr none ↦ rw none none
    ]

-- without a line feed all is open
pub open_of-all : (bytes : List ℕ) → has_feed bytes ≡ false → (whole_of bytes ≡ []) × (open_of bytes ≡ bytes)
open_of-all [] none = (refl, refl)
open_of-all (b ∷ bs) none = rw none (refl, refl)

-- with a line feed at the end
pub has_feed-feed : (bytes : List ℕ) → has_feed (bytes ++ line_feed ∷ []) ≡ true
has_feed-feed bytes = list_any-append (λ b. b == line_feed) bytes (line_feed ∷ []) ∙ or_right (has_feed bytes) true refl

-- which leaves nothing open
pub open_of-feed : (bytes : List ℕ) → open_of (bytes ++ line_feed ∷ []) ≡ []
open_of-feed [] = refl
open_of-feed (b ∷ bs) = rw (has_feed-feed (b ∷ bs)) (open_of-feed bs)

-- the whole lines have each line feed
has_feed-whole : (bytes : List ℕ) → has_feed (whole_of bytes) ≡ has_feed bytes
has_feed-whole [] = refl
has_feed-whole (b ∷ bs) =
    elim (has_feed-cases (b ∷ bs)) [
      | inl some ↦ rw some (ap (λ (t : Bool). (b == line_feed) || t) (has_feed-whole bs) ∙ some)
      | inr none ↦ rw none refl
    ]

-- nothing is open behind the whole lines
pub open_of-whole : (bytes : List ℕ) → open_of (whole_of bytes) ≡ []
open_of-whole [] = refl
open_of-whole (b ∷ bs) =
    elim (has_feed-cases (b ∷ bs)) [
      | inl some ↦
          let still : has_feed (b ∷ whole_of bs) ≡ true = ap (λ (t : Bool). (b == line_feed) || t) (has_feed-whole bs) ∙ some in
          rw some (rw still (open_of-whole bs))
      | inr none ↦ rw none refl
    ]

-- bytes with nothing open are all whole lines
pub whole_of-whole : (bytes : List ℕ) → open_of bytes ≡ [] → whole_of bytes ≡ bytes
whole_of-whole bytes whole =
    sym (append-nil (whole_of bytes)) ∙ ap (λ (xs : List ℕ). whole_of bytes ++ xs) (sym whole) ∙ whole-open bytes

-- if nothing is open, there is a line feed
whole-has_feed : (b : ℕ) (bs : List ℕ) → open_of (b ∷ bs) ≡ [] → (has_feed (b ∷ bs) ≡ true) × (open_of bs ≡ [])
whole-has_feed b bs whole =
    elim (has_feed-cases (b ∷ bs)) [
      | inl some ↦ (some, rw some at whole)
      | inr none ↦ let no : b ∷ bs ≡ [] = rw none at whole in cc
    ]

still-has_feed : (xs ys : List ℕ) → has_feed xs ≡ true → has_feed (xs ++ ys) ≡ true
still-has_feed xs ys some = list_any-append (λ b. b == line_feed) xs ys ∙ rw some refl

-- more bytes behind whole lines
pub whole_of-append : (bytes more : List ℕ) → open_of bytes ≡ [] → (whole_of (bytes ++ more) ≡ bytes ++ whole_of more) × (open_of (bytes ++ more) ≡ open_of more)
whole_of-append [] more whole = (refl, refl)
whole_of-append (b ∷ bs) more whole =
    let feed = whole-has_feed b bs whole in
    let still : has_feed (b ∷ bs ++ more) ≡ true = still-has_feed (b ∷ bs) more feed.0 in
    let rest = whole_of-append bs more feed.1 in
    rw still (ap (λ (xs : List ℕ). b ∷ xs) rest.0, rest.1)

with_first-append : (b : ℕ) (ps qs : List (List ℕ)) → 0 < length ps → with_first b (ps ++ qs) ≡ with_first b ps ++ qs
with_first-append b [] qs some = absurd (omega arith)
with_first-append b (p ∷ ps) qs some = refl

with_first-some : (b : ℕ) (ps : List (List ℕ)) → 0 < length (with_first b ps)
with_first-some b [] = omega arith
with_first-some b (p ∷ ps) = omega arith

pub pieces_of-some : (bytes : List ℕ) → has_feed bytes ≡ true → 0 < length (pieces_of bytes)
pieces_of-some [] some = cc
pieces_of-some (b ∷ bs) some =
    elim (b == line_feed) as (λ t. 0 < length (if t then [] ∷ pieces_of bs else with_first b (pieces_of bs))) [
      | true ↦ omega arith
      | false ↦ with_first-some b (pieces_of bs)
    ]

pub pieces_of-append : (bytes more : List ℕ) → open_of bytes ≡ [] → pieces_of (bytes ++ more) ≡ pieces_of bytes ++ pieces_of more
pieces_of-append [] more whole = refl
pieces_of-append (b ∷ bs) more whole =
    let feed = whole-has_feed b bs whole in
    let rest = pieces_of-append bs more feed.1 in
    elim (feed_cases b) [
      | inl is ↦ subst (λ (x : ℕ). pieces_of (x ∷ bs ++ more) ≡ pieces_of (x ∷ bs) ++ pieces_of more) (sym is) (ap (λ (ps : List (List ℕ)). [] ∷ ps) rest)
      | inr other ↦
          let later : has_feed bs ≡ true = rw other at feed.0 in
          rw other (ap (λ (ps : List (List ℕ)). with_first b ps) rest ∙ with_first-append b (pieces_of bs) (pieces_of more) (pieces_of-some bs later))
    ]

-- ---- the same of lines

-- the lines of whole lines and of what follows them
pub lines_of-whole : (max : ℕ) (bytes more : List ℕ) → lines_of max (whole_of bytes ++ more) ≡ lines_of max (whole_of bytes) ++ lines_of max more
lines_of-whole max bytes more =
    ap (λ (ps : List (List ℕ)). map (kept max) ps) (pieces_of-append (whole_of bytes) more (open_of-whole bytes))
    ∙ map-append (kept max) (pieces_of (whole_of bytes)) (pieces_of more)

-- the lines of bytes and of more bytes
pub lines_of-append : (max : ℕ) (bytes more : List ℕ) → lines_of max (bytes ++ more) ≡ lines_of max (whole_of bytes) ++ lines_of max (open_of bytes ++ more)
lines_of-append max bytes more =
    ap (λ (xs : List ℕ). lines_of max (xs ++ more)) (sym (whole-open bytes))
    ∙ ap (λ (xs : List ℕ). lines_of max xs) (append_assoc (whole_of bytes) (open_of bytes) more)
    ∙ lines_of-whole max bytes (open_of bytes ++ more)

-- what is whole and what is open, when more bytes come
pub whole_of-more : (bytes more : List ℕ) →
    (whole_of (bytes ++ more) ≡ whole_of bytes ++ whole_of (open_of bytes ++ more)) × (open_of (bytes ++ more) ≡ open_of (open_of bytes ++ more))
whole_of-more bytes more =
    let cut : bytes ++ more ≡ whole_of bytes ++ (open_of bytes ++ more) =
    ap (λ (xs : List ℕ). xs ++ more) (sym (whole-open bytes)) ∙ append_assoc (whole_of bytes) (open_of bytes) more in
    let both = whole_of-append (whole_of bytes) (open_of bytes ++ more) (open_of-whole bytes) in
    (ap whole_of cut ∙ both.0, ap open_of cut ∙ both.1)

-- a run without a line feed goes on the open line
pub whole_of-run : (bytes run : List ℕ) → has_feed run ≡ false → (whole_of (bytes ++ run) ≡ whole_of bytes) × (open_of (bytes ++ run) ≡ open_of bytes ++ run)
whole_of-run bytes run none =
    let more = whole_of-more bytes run in
    let all = open_of-all (open_of bytes ++ run) (has_feed-append (open_of bytes) run (open_of-no_feed bytes) none) in
    (more.0 ∙ ap (λ (xs : List ℕ). whole_of bytes ++ xs) all.0 ∙ append-nil (whole_of bytes), more.1 ∙ all.1)

-- a run and a line feed end the open line
pub lines_of-feed : (max : ℕ) (bytes run : List ℕ) → has_feed run ≡ false →
    (lines_of max (whole_of (bytes ++ (run ++ line_feed ∷ []))) ≡ lines_of max (whole_of bytes) ++ kept max (open_of bytes ++ run) ∷ [])
    × (open_of (bytes ++ (run ++ line_feed ∷ [])) ≡ [])
lines_of-feed max bytes run none =
    let all = bytes ++ (run ++ line_feed ∷ []) in
    let ends : open_of all ≡ [] = ap open_of (sym (append_assoc bytes run (line_feed ∷ []))) ∙ open_of-feed (bytes ++ run) in
    let one : lines_of max (open_of bytes ++ (run ++ line_feed ∷ [])) ≡ kept max (open_of bytes ++ run) ∷ [] =
    ap (λ (xs : List ℕ). lines_of max xs) (sym (append_assoc (open_of bytes) run (line_feed ∷ [])))
    ∙ ap (λ (ps : List (List ℕ)). map (kept max) ps) (pieces_of-feed (open_of bytes ++ run) [] (has_feed-append (open_of bytes) run (open_of-no_feed bytes) none)) in (
      ap (λ (xs : List ℕ). lines_of max xs) (whole_of-whole all ends)
          ∙ lines_of-append max bytes (run ++ line_feed ∷ [])
          ∙ ap (λ (ls : List (Option (List ℕ))). lines_of max (whole_of bytes) ++ ls) one,
      ends,
    )

-- the end of the stream ends the open line, where it is not empty
pub lines_of-end : (max : ℕ) (bytes : List ℕ) → lines_of max bytes ≡ lines_of max (whole_of bytes) ++ map (kept max) (last_piece (open_of bytes))
lines_of-end max bytes =
    ap (λ (xs : List ℕ). lines_of max xs) (sym (append-nil bytes))
    ∙ lines_of-append max bytes []
    ∙ ap (λ (ps : List (List ℕ)). lines_of max (whole_of bytes) ++ map (kept max) ps)
    (ap pieces_of (append-nil (open_of bytes)) ∙ pieces_of-last (open_of bytes) (open_of-no_feed bytes))
