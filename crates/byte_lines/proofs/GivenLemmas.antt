-- Lemmas on what a source gave and a reader gave of it, by what the source tells.
use Rattle.std.proofs.Common.{◌≡◌, ℕ, ◌-◌, ◌<◌, ◌++◌, inl, inr, List, [], ◌∷◌, Option, Some, None, length, map, take, refl, sym, ap, subst, ◌∙◌, arith, append_assoc}
use Rattle.std.specs.Prelude.{IsSome}
use Rattle.std.specs.Io.KnownBytes.{IsAtEnd, prepend_known}
use Rattle.std.proofs.lemmas.List.{append-nil, length-append, same_from_push, take_all, take_at}
use Rattle.std.proofs.lemmas.Option.{same_Some}
use Rattle.byte_lines.specs.Laws.{BeginsWithNone, CallGivesMore, FeedEndsBegun, FeedEndsOneMore, FeedGivesLine, GivenAddsUp, GivenAll, GivenFirst, GivenIsBetween, GivenWhole, StayingGivesNone}
use Rattle.byte_lines.specs.Pieces.{kept, line_feed, lines_of, open_of, pieces_of, whole_of}
use Rattle.byte_lines.specs.Reader.{heeded, lines_after, lines_left, with_run}
use Rattle.byte_lines.specs.Told.{given_between}
use Rattle.byte_lines.proofs.PieceLemmas.{has_feed-feed, lines_of-append, open_of-no_feed, pieces_of-feed, pieces_of-some}
use Rattle.byte_lines.proofs.ProgressLemmas.{ended_cases}
use Rattle.byte_lines.proofs.TakenLemmas.{fresh_gives_all, prepend_known-more, prepend_known-none, quiet, take-nil, take-two, with_run-nil}

-- ---- line feeds

pub feed_ends_one_more : FeedEndsOneMore
feed_ends_one_more max bytes =
    lines_of-append max bytes (line_feed ∷ [])
    ∙ ap (λ (ps : List (List ℕ)). lines_of max (whole_of bytes) ++ map (kept max) ps) (pieces_of-feed (open_of bytes) [] (open_of-no_feed bytes))

pub feed_ends_begun : FeedEndsBegun
feed_ends_begun r fits looked =
    ap (λ (xs : List ℕ). lines_after r.line_max r.begun (pieces_of (xs ++ line_feed ∷ []))) looked ∙ ap (λ (o : Option (List ℕ)). o ∷ []) (with_run-nil r.line_max r.begun fits)

lines_after-some : (max : ℕ) (begun : Option (List ℕ)) (ps : List (List ℕ)) → 0 < length ps → 0 < length (lines_after max begun ps)
lines_after-some max begun [] some = absurd (omega arith)
lines_after-some max begun (p ∷ ps) some = omega arith

pub feed_gives_line : FeedGivesLine
feed_gives_line r bytes =
    rw (← append_assoc r.ahead bytes (line_feed ∷ []))
    (lines_after-some r.line_max r.begun (pieces_of ((r.ahead ++ bytes) ++ line_feed ∷ [])) (pieces_of-some ((r.ahead ++ bytes) ++ line_feed ∷ []) (has_feed-feed (r.ahead ++ bytes))))

-- ---- what a source tells

pub given_is_between : GivenIsBetween
given_is_between None left' bytes some gave = cc
given_is_between (Some xs) None bytes some gave = cc
given_is_between (Some xs) (Some ys) bytes some gave =
    ap (λ (zs : List ℕ). take (length zs - length ys) zs) (same_Some xs (bytes ++ ys) gave)
    ∙ take_at bytes ys (length (bytes ++ ys) - length ys) (omega (arith, length-append bytes ys))

pub staying_gives_none : StayingGivesNone
staying_gives_none None = refl
staying_gives_none (Some xs) = let none : length xs - length xs ≡ 0 = omega arith in ap (λ (n : ℕ). take n xs) none

pub given_adds_up : GivenAddsUp
given_adds_up None None None before after = (refl, refl)
given_adds_up None None (Some zs) before after = cc
given_adds_up None (Some ys) last before after = cc
given_adds_up (Some xs) mid last before after =
    let one = given_between (Some xs) mid in
    let two = given_between mid last in
    let joined : Some xs ≡ prepend_known (one ++ two) last = before ∙ ap (λ (known : Option (List ℕ)). prepend_known one known) after ∙ prepend_known-more one two last in
    let is = given_is_between (Some xs) last (one ++ two) refl joined in
    (is, subst (λ (bytes : List ℕ). Some xs ≡ prepend_known bytes last) (sym is) joined)

-- what was given, told by what is left
told_between : (left left' : Option (List ℕ)) (bytes : List ℕ) → left ≡ prepend_known bytes left' → left ≡ prepend_known (given_between left left') left'
told_between None None bytes gave = refl
told_between None (Some ys) bytes gave = cc
told_between (Some xs) left' bytes gave =
    subst (λ (bs : List ℕ). Some xs ≡ prepend_known bs left') (sym (given_is_between (Some xs) left' bytes refl gave)) gave

-- a source goes on telling
still_told : (left left' : Option (List ℕ)) (bytes : List ℕ) → left ≡ prepend_known bytes left' → IsSome left → IsSome left'
still_told left None bytes gave some = subst (λ (o : Option (List ℕ)). IsSome o) gave some
still_told left (Some ys) bytes gave some = refl

-- ---- what a reader gave of it

pub begins_with_none : BeginsWithNone
begins_with_none r left begun ahead none going = record {
  gave = prepend_known-none left ∙ ap (λ (bytes : List ℕ). prepend_known bytes left) (sym (staying_gives_none left));
  taken = λ some. omega (arith, none, ap length (staying_gives_none left));
  lines = λ some rest over.
      fresh_gives_all r rest begun ahead
      ∙ sym (ap (λ (bytes : List ℕ). lines_of r.line_max (heeded r.stream_max bytes ++ rest)) (staying_gives_none left) ∙ ap (λ (xs : List ℕ). lines_of r.line_max (xs ++ rest)) (take-nil r.stream_max));
  drained = λ ended. cc;
}

pub call_gives_more : CallGivesMore
call_gives_more old new left left' result advances took stays first given had =
    let got = given_between first left in
    let all = given_adds_up first left left' had.gave (told_between left left' took.bytes took.told) in
    let cut : IsSome first → given_between first left' ≡ got ++ took.bytes =
    λ some. all.0 ∙ ap (λ (bytes : List ℕ). got ++ bytes) (given_is_between left left' took.bytes (still_told first left got had.gave some) took.told) in
    let now = heeded (old.stream_max - old.taken) took.bytes in
    record {
      gave = all.1;
      taken = λ some. omega (arith, took.count, had.taken some, ap length (cut some), length-append got took.bytes);
      lines = λ some rest none.
          let places : old.stream_max - old.taken ≡ old.stream_max - length got = omega (arith, had.taken some) in
          append_assoc given _ (lines_left new rest)
          ∙ ap (λ (ls : List (Option (List ℕ))). given ++ ls) (sym (took.lines rest none))
          ∙ had.lines some (now ++ rest) (quiet old new left left' _ took (old.stream_max - old.taken) stays rest none)
          ∙ ap (λ (xs : List ℕ). lines_of old.line_max xs)
          (sym (append_assoc (heeded old.stream_max got) now rest) ∙ ap (λ (xs : List ℕ). xs ++ rest) (sym (take-two got took.bytes (old.stream_max - old.taken) old.stream_max places)))
          ∙ (λ i. lines_of (sym advances.line_max i) (heeded (sym advances.stream_max i) (sym (cut some) i) ++ rest));
      drained = λ ended.
          elim (ended_cases old) [
            | inl going ↦ took.drained going ended
            | inr over ↦ subst IsAtEnd (sym (stays over).1) (had.drained over)
          ];
    }

pub given_all : GivenAll
given_all r None left given read ended ahead begun within = tt
given_all r (Some bytes) None given read ended ahead begun within = absurd (let no = read.gave in cc)
given_all r (Some bytes) (Some rest) given read ended ahead begun within =
    let got = given_between (Some bytes) (Some rest) in
    let empty : rest ≡ [] = read.drained ended in
    let all : got ≡ bytes = sym (same_Some bytes (got ++ rest) read.gave ∙ ap (λ (xs : List ℕ). got ++ xs) empty ∙ append-nil got) in
    sym (append-nil given)
    ∙ ap (λ (more : List (Option (List ℕ))). given ++ more) (sym (fresh_gives_all r [] begun ahead))
    ∙ read.lines refl [] (λ yes. refl)
    ∙ ap (λ (xs : List ℕ). lines_of r.line_max xs) (append-nil (heeded r.stream_max got) ∙ take_all r.stream_max got (omega (arith, read.taken refl)) ∙ all)

pub given_whole : GivenWhole
given_whole r first left given read told going looked =
    let heard = heeded r.stream_max (given_between first left) in
    let one : lines_left r (line_feed ∷ []) ≡ with_run r.line_max r.begun [] ∷ [] =
    ap (λ (xs : List ℕ). lines_after r.line_max r.begun (pieces_of (xs ++ line_feed ∷ []))) looked in
    (same_from_push given (lines_of r.line_max (whole_of heard)) (with_run r.line_max r.begun []) (kept r.line_max (open_of heard))
    (ap (λ (more : List (Option (List ℕ))). given ++ more) (sym one) ∙ read.lines told (line_feed ∷ []) (λ ended. cc) ∙ feed_ends_one_more r.line_max heard)).0

-- a list that is not empty has a last item
last_item : {A : Type 0} (xs : List A) → 0 < length xs → (front : List A) × (x : A) × (xs ≡ front ++ x ∷ [])
last_item [] some = absurd (omega arith)
last_item (x ∷ []) some = ([], x, refl)
last_item {A} (x ∷ y ∷ ys) some = let later = last_item (y ∷ ys) (omega arith) in (x ∷ later.0, later.1, ap (λ (zs : List A). x ∷ zs) later.2)

pub given_first : GivenFirst
given_first r first left given more read told going =
    let heard = heeded r.stream_max (given_between first left) in
    let last = last_item (lines_left r (more ++ line_feed ∷ [])) (feed_gives_line r more) in (
      last.0,
      (same_from_push (given ++ last.0) (lines_of r.line_max (whole_of (heard ++ more))) last.1 (kept r.line_max (open_of (heard ++ more)))
          (append_assoc given last.0 (last.1 ∷ []) ∙ ap (λ (xs : List (Option (List ℕ))). given ++ xs) (sym last.2)
          ∙ read.lines told (more ++ line_feed ∷ []) (λ ended. cc)
          ∙ ap (λ (xs : List ℕ). lines_of r.line_max xs) (sym (append_assoc heard more (line_feed ∷ []))) ∙ feed_ends_one_more r.line_max (heard ++ more))).0,
    )
