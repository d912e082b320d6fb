-- Lemmas on what a reader gave of a stream, step by step.
use Rattle.std.proofs.Common.{◌≡◌, ℕ, ◌+◌, ◌<◌, ◌≤◌, ◌++◌, ◌⊎◌, inl, inr, true, false, List, [], ◌∷◌, Option, Some, None, length, map, refl, sym, ap, subst, ◌∙◌, arith, append_assoc}
use Rattle.std.specs.Prelude.{IsTrue}
use Rattle.std.specs.Io.KnownBytes.{IsAtEnd, prepend_known}
use Rattle.std.proofs.lemmas.Bool.{le-leb, lt-leb, cases_lt}
use Rattle.std.proofs.lemmas.List.{append-nil, length-append, take_all, take_at}
use Rattle.byte_lines.specs.Pieces.{has_feed, kept, line_feed, lines_of, open_of, whole_of}
use Rattle.byte_lines.specs.Progress.{HasRead}
use Rattle.byte_lines.specs.Reader.{last_line, Reader, with_run}
use Rattle.byte_lines.specs.Turns.{Gives}
use Rattle.byte_lines.proofs.PieceLemmas.{last_piece, lines_of-end, lines_of-feed, whole_of-run}

-- a reader goes on, or it has come to the end
pub ended_cases : (r : Reader) → (r.ended ≡ false) ⊎ IsTrue r.ended
ended_cases r = elim (r.ended) as (λ t. (t ≡ false) ⊎ IsTrue t) [
  | true ↦ inr refl
  | false ↦ inl refl
]

-- ---- lines that are kept

-- a piece is kept, or it is too long
pub kept_cases : (max : ℕ) (piece : List ℕ) → ((length piece ≤ max) × (kept max piece ≡ Some piece)) ⊎ ((max < length piece) × (kept max piece ≡ None))
kept_cases max piece =
    elim (cases_lt max (length piece)) [
      | inl long ↦ inr (long, rw (lt-leb (length piece) max long) refl)
      | inr fits ↦ inl (fits, rw (le-leb (length piece) max fits) refl)
    ]

kept-long : (max : ℕ) (piece : List ℕ) → max < length piece → kept max piece ≡ None
kept-long max piece long = rw (lt-leb (length piece) max long) refl

kept-nil : (max : ℕ) → kept max [] ≡ Some []
kept-nil max = rw (le-leb 0 max (omega arith)) refl

-- a line of which nothing is begun is empty
pub kept-none : (max : ℕ) (piece : List ℕ) → kept max piece ≡ Some [] → piece ≡ []
kept-none max piece is =
    elim (kept_cases max piece) [
      | inl fits ↦ let same : Some piece ≡ Some [] = sym fits.1 ∙ is in cc
      | inr long ↦ let no : None ≡ Some [] = sym long.1 ∙ is in cc
    ]

-- a line begun and a run more
pub with_run-kept : (max : ℕ) (front run : List ℕ) → with_run max (kept max front) run ≡ kept max (front ++ run)
with_run-kept max front run =
    elim (kept_cases max front) [
      | inl fits ↦ rw fits.1 refl
      | inr long ↦ rw long.1 (sym (kept-long max (front ++ run) (omega (arith, long.0, length-append front run))))
    ]

last_line-kept : (max : ℕ) (front : List ℕ) → last_line (kept max front) ≡ map (kept max) (last_piece front)
last_line-kept max [] = rw (kept-nil max) refl
last_line-kept max (b ∷ bs) =
    elim (kept_cases max (b ∷ bs)) [
      | inl fits ↦ rw fits.1 refl
      | inr long ↦ rw long.1 refl
    ]

-- ---- what a source that tells its bytes gave

consumed : (left left' : Option (List ℕ)) (rest part : List ℕ) → left ≡ Some rest → left ≡ prepend_known part left' →
    (rest' : List ℕ) × (left' ≡ Some rest') × (rest ≡ part ++ rest')
consumed left None rest part told gave = let no : None ≡ Some rest = sym gave ∙ told in cc
consumed left (Some ys) rest part told gave = let same : Some rest ≡ Some (part ++ ys) = sym told ∙ gave in (ys, refl, cc)

none_left : (left : Option (List ℕ)) (rest : List ℕ) → left ≡ Some rest → IsAtEnd left → rest ≡ []
none_left None rest told end = cc
none_left (Some xs) rest told end = cc

-- ---- one step

-- a part came
pub gives-part : (old : Reader) (part : List ℕ) (held : ℕ) (left left' : Option (List ℕ)) → old.ended ≡ false → old.ahead ≡ [] →
    old.taken + length part ≤ old.stream_max → left ≡ prepend_known part left' →
    Gives old (record old { taken = old.taken + length part; ahead = part; held = held }) left left' []
gives-part old part held left left' going looked within gave bytes given read =
    let rest = consumed left left' read.rest part read.told gave in
    let before : read.came ≡ read.looked =
    sym (take_all old.stream_max read.came (omega (arith, read.taken))) ∙ read.heeds ∙ ap (λ (xs : List ℕ). read.looked ++ xs) looked ∙ append-nil read.looked in
    record {
      came = read.came ++ part;
      rest = rest.0;
      cut = read.cut ∙ ap (λ (xs : List ℕ). read.came ++ xs) rest.2 ∙ sym (append_assoc read.came part rest.0);
      told = rest.1;
      taken = omega (arith, read.taken, length-append read.came part);
      looked = read.looked;
      heeds =
          take_all old.stream_max (read.came ++ part) (omega (arith, read.taken, length-append read.came part))
          ∙ ap (λ (xs : List ℕ). xs ++ part) before;
      numbered = read.numbered ∙ ap length (sym (append-nil given));
      among = λ still. record { lines = append-nil given ∙ (read.among still).lines; begun = (read.among still).begun };
      through = λ ended. cc;
    }

-- a byte beyond the limit came
pub gives-over : (old : Reader) (byte held : ℕ) (left left' : Option (List ℕ)) → old.ended ≡ false →
    old.taken ≡ old.stream_max → left ≡ prepend_known (byte ∷ []) left' → Gives old (record old { taken = old.taken + 1; held = held }) left left' []
gives-over old byte held left left' going full gave bytes given read =
    let rest = consumed left left' read.rest (byte ∷ []) read.told gave in
    let length_is : length read.came ≡ old.stream_max = omega (arith, read.taken) in
    record {
      came = read.came ++ byte ∷ [];
      rest = rest.0;
      cut = read.cut ∙ ap (λ (xs : List ℕ). read.came ++ xs) rest.2 ∙ sym (append_assoc read.came (byte ∷ []) rest.0);
      told = rest.1;
      taken = omega (arith, read.taken, length-append read.came (byte ∷ []));
      looked = read.looked;
      heeds =
          take_at read.came (byte ∷ []) old.stream_max length_is
          ∙ sym (take_all old.stream_max read.came (omega (arith, length_is))) ∙ read.heeds;
      numbered = read.numbered ∙ ap length (sym (append-nil given));
      among = λ still. record { lines = append-nil given ∙ (read.among still).lines; begun = (read.among still).begun };
      through = λ ended. cc;
    }

-- a look found no line feed
pub gives-run : (old : Reader) (begun : Option (List ℕ)) (held : ℕ) (left : Option (List ℕ)) → old.ended ≡ false → has_feed old.ahead ≡ false →
    begun ≡ with_run old.line_max old.begun old.ahead → Gives old (record old { begun = begun; ahead = []; held = held }) left left []
gives-run old begun held left going none goes_on bytes given read =
    let run = whole_of-run read.looked old.ahead none in
    let among = read.among going in
    record {
      came = read.came;
      rest = read.rest;
      cut = read.cut;
      told = read.told;
      taken = read.taken;
      looked = read.looked ++ old.ahead;
      heeds = read.heeds ∙ sym (append-nil (read.looked ++ old.ahead));
      numbered = read.numbered ∙ ap length (sym (append-nil given));
      among = λ still. record {
        lines = append-nil given ∙ among.lines ∙ ap (λ (xs : List ℕ). lines_of old.line_max xs) (sym run.0);
        begun =
            goes_on ∙ ap (λ (o : Option (List ℕ)). with_run old.line_max o old.ahead) among.begun
            ∙ with_run-kept old.line_max (open_of read.looked) old.ahead ∙ ap (kept old.line_max) (sym run.1);
      };
      through = λ ended. cc;
    }

-- a look found a line feed, behind this run
pub gives-line : (old new : Reader) (run ahead : List ℕ) (line : Option (List ℕ)) (more : List (Option (List ℕ))) (left : Option (List ℕ)) →
    old.ended ≡ false → old.ahead ≡ run ++ line_feed ∷ ahead → has_feed run ≡ false → line ≡ with_run old.line_max old.begun run → more ≡ line ∷ [] →
    new ≡ record old { begun = Some []; ahead = ahead; held = new.held; text = new.text; number = old.number + 1 } → Gives old new left left more
gives-line old new run ahead line more left going cut none goes_on is is_new bytes given read =
    let among = read.among going in
    let feed = lines_of-feed old.line_max read.looked run none in
    let looked = read.looked ++ (run ++ line_feed ∷ []) in
    let line_is : line ≡ kept old.line_max (open_of read.looked ++ run) =
    goes_on ∙ ap (λ (o : Option (List ℕ)). with_run old.line_max o run) among.begun ∙ with_run-kept old.line_max (open_of read.looked) run in
    let all : read.looked ++ (run ++ line_feed ∷ ahead) ≡ looked ++ ahead =
    sym (append_assoc read.looked (run ++ line_feed ∷ []) ahead ∙ ap (λ (xs : List ℕ). read.looked ++ xs) (append_assoc run (line_feed ∷ []) ahead)) in
    let next : HasRead bytes (record old { begun = Some []; ahead = ahead; held = new.held; text = new.text; number = old.number + 1 }) left (given ++ line ∷ []) =
    record {
      came = read.came;
      rest = read.rest;
      cut = read.cut;
      told = read.told;
      taken = read.taken;
      looked = looked;
      heeds = read.heeds ∙ ap (λ (xs : List ℕ). read.looked ++ xs) cut ∙ all;
      numbered = omega (arith, read.numbered, length-append given (line ∷ []));
      among = λ still. record {
        lines =
            ap (λ (ls : List (Option (List ℕ))). ls ++ line ∷ []) among.lines
            ∙ ap (λ (o : Option (List ℕ)). lines_of old.line_max (whole_of read.looked) ++ o ∷ []) line_is ∙ sym feed.0;
        begun = sym (kept-nil old.line_max) ∙ ap (kept old.line_max) (sym feed.1);
      };
      through = λ ended. cc;
    } in
    subst (λ (r : Reader). HasRead bytes r left (given ++ more)) (sym is_new)
    (subst (λ (ls : List (Option (List ℕ))). HasRead bytes (record old { begun = Some []; ahead = ahead; held = new.held; text = new.text; number = old.number + 1 }) left (given ++ ls)) (sym is) next)

-- the end came
pub gives-end : (old new : Reader) (more : List (Option (List ℕ))) (left : Option (List ℕ)) →
    old.ended ≡ false → old.ahead ≡ [] → IsAtEnd left → more ≡ last_line old.begun → new.number ≡ old.number + length more →
    new ≡ record old { begun = Some []; ahead = []; held = new.held; text = new.text; number = new.number; ended = true } → Gives old new left left more
gives-end old new more left going looked end is number is_new bytes given read =
    let among = read.among going in
    let last : more ≡ map (kept old.line_max) (last_piece (open_of read.looked)) = is ∙ ap last_line among.begun ∙ last_line-kept old.line_max (open_of read.looked) in
    let next : HasRead bytes (record old { begun = Some []; ahead = []; held = new.held; text = new.text; number = new.number; ended = true }) left (given ++ more) =
    record {
      came = read.came;
      rest = read.rest;
      cut = read.cut;
      told = read.told;
      taken = read.taken;
      looked = read.looked;
      heeds = read.heeds ∙ ap (λ (xs : List ℕ). read.looked ++ xs) looked;
      numbered = omega (arith, number, read.numbered, length-append given more);
      among = λ still. cc;
      through = λ ended. record {
        lines =
            ap (λ (ls : List (Option (List ℕ))). ls ++ more) among.lines
            ∙ ap (λ (ls : List (Option (List ℕ))). lines_of old.line_max (whole_of read.looked) ++ ls) last ∙ sym (lines_of-end old.line_max read.looked);
        begun = refl;
        ahead = refl;
        drained = none_left left read.rest read.told end;
      };
    } in
    subst (λ (r : Reader). HasRead bytes r left (given ++ more)) (sym is_new) next
