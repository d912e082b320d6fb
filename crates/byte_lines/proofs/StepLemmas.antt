-- Lemmas on the steps of a reader as values.
use Rattle.std.proofs.Common.{◌≡◌, ◌≢◌, ℕ, ◌+◌, ◌<◌, ◌≤◌, ◌++◌, true, false, List, [], ◌∷◌, Option, Some, None, Result, Ok, Err, length, take, drop, refl, sym, ap, subst, ◌∙◌, arith, inl, inr}
use Rattle.std.specs.Prelude.{slice_index, IsErr}
use Rattle.std.specs.Io.KnownBytes.{IsAtEnd, prepend_known}
use Rattle.std.proofs.lemmas.Bool.{cases_lt, eqb-true}
use Rattle.std.proofs.lemmas.List.{take-append-drop, drop_more, get_or-take, length-take, length-drop}
use Rattle.memchr.specs.Find.{IsFirstByte, is_byte}
use Rattle.byte_lines.specs.Answers.{HasTaken, line_given, TextStays}
use Rattle.byte_lines.specs.Buffers.{Finishes}
use Rattle.byte_lines.specs.Pieces.{has_feed, kept, line_feed}
use Rattle.byte_lines.specs.Reader.{FitsIn, last_line, Reader, with_run}
use Rattle.byte_lines.specs.Progress.{HasRead}
use Rattle.byte_lines.specs.Turns.{Ends, EndsLine, GoesOn, IsReading, TakesMore, TakesOver, TakesPart}
use Rattle.byte_lines.specs.declared.lines.Line.{Line}
use Rattle.byte_lines.specs.declared.lines.Line.TheVariants.{Whole, TooLong, End}
use Rattle.byte_lines.specs.declared.lines.LineFault.{LineFault}
use Rattle.byte_lines.specs.declared.lines.LineFault.TheVariants.{ReadFault, TooMuch, NoMemory}
use Rattle.byte_lines.proofs.PieceLemmas.{no_feed}
use Rattle.byte_lines.proofs.ProgressLemmas.{gives-end, gives-line, gives-over, gives-part, gives-run, kept_cases}
use Rattle.byte_lines.proofs.TakenLemmas.{calls_add_up, takes_beyond, takes_bytes, takes_end, takes_line, takes_run}

-- no line feed was found: what was ahead goes on the line begun
pub looks_none : (old : Reader) (begun : Option (List ℕ)) (ahead : List ℕ) (held : ℕ) → IsReading old → FitsIn old.line_max old.begun → IsFirstByte (is_byte line_feed) old.ahead None →
    begun ≡ with_run old.line_max old.begun old.ahead → ahead ≡ [] → GoesOn old (record old { begun = begun; ahead = ahead; held = held })
looks_none old begun ahead held reading fits none goes_on empty =
    let without : has_feed old.ahead ≡ false = no_feed old.ahead (λ k below. none k (omega arith) below) in
    subst (λ (xs : List ℕ). GoesOn old (record old { begun = begun; ahead = xs; held = held })) (sym empty) (record {
      reader = refl;
      none = without;
      gives = λ left. gives-run old begun held left reading.ended without goes_on;
      took = λ left. takes_run old begun held left reading.ended fits without goes_on;
    })

-- how a line begun is given
given-finish : (begun : Option (List ℕ)) (old new : Reader) (line : Line) → Finishes begun old.text new.text line →
    (line_given (Ok line) new ≡ begun ∷ []) × TextStays old new (Ok line)
given-finish None old new line is =
    (ap (λ (l : Line). line_given (Ok l) new) is.0, subst (λ (l : Line). TextStays old new (Ok l)) (sym is.0) is.1)
given-finish (Some bytes) old new line is =
    (ap (λ (l : Line). line_given (Ok l) new) is.0 ∙ ap (λ (xs : List ℕ). Some xs ∷ []) is.1, subst (λ (l : Line). TextStays old new (Ok l)) (sym is.0) tt)

-- a line by itself that is whole has all its bytes
finished_text : (max : ℕ) (run old new : List ℕ) (mid : Option (List ℕ)) (line : Line) → mid ≡ kept max run → Finishes mid old new line → line ≡ Whole → new ≡ run
finished_text max run old new None line is ends whole = let long = ends.0 in cc
finished_text max run old new (Some bytes) line is ends whole =
    elim (kept_cases max run) [
      | inl fits ↦ let same : Some bytes ≡ Some run = is ∙ fits.1 in ends.1 ∙ (let h = same in cc)
      | inr long ↦ let none : Some bytes ≡ None = is ∙ long.1 in cc
    ]

-- a line feed was found at this place
pub looks_some : (old : Reader) (at : ℕ) (mid begun : Option (List ℕ)) (ahead text : List ℕ) (held : ℕ) (line : Line) → IsReading old →
    IsFirstByte (is_byte line_feed) old.ahead (Some at) → mid ≡ with_run old.line_max old.begun (take at old.ahead) →
    Finishes mid old.text text line → begun ≡ Some [] → ahead ≡ drop (at + 1) old.ahead →
    EndsLine old (record old { begun = begun; ahead = ahead; held = held; text = text; number = old.number + 1 }) line
looks_some old at mid begun ahead text held line reading found goes_on ends started passed =
    let new : Reader = record old { begun = begun; ahead = ahead; held = held; text = text; number = old.number + 1 } in
    let gives = given-finish mid old new line ends in
    let run = take at old.ahead in
    let none : has_feed run ≡ false = no_feed run (λ k below.
    let within : k < at = omega (arith, below, length-take at old.ahead) in
    rw (get_or-take at old.ahead k 0 within) (found.0.before k (omega arith) within)) in
    let feed : slice_index old.ahead at ≡ line_feed = eqb-true (slice_index old.ahead at) line_feed found.1 in
    let cut : old.ahead ≡ run ++ line_feed ∷ ahead =
    sym (take-append-drop at old.ahead)
    ∙ ap (λ (xs : List ℕ). run ++ xs) (drop_more old.ahead at 0 found.0.high)
    ∙ ap (λ (x : ℕ). run ++ x ∷ drop (at + 1) old.ahead) feed
    ∙ ap (λ (xs : List ℕ). run ++ line_feed ∷ xs) (sym passed) in
    let is : new ≡ record old { begun = Some []; ahead = ahead; held = held; text = text; number = old.number + 1 } =
    ap (λ (o : Option (List ℕ)). record old { begun = o; ahead = ahead; held = held; text = text; number = old.number + 1 }) started in
    record {
      reader = is;
      given = ap length gives.0;
      text = gives.1;
      ahead =
          let dropped : length ahead ≡ length (drop (at + 1) old.ahead) = ap length passed in
          omega (arith, length-drop (at + 1) old.ahead, found.0.high);
      gives = λ left. gives-line old new run ahead mid (line_given (Ok line) new) left reading.ended cut none goes_on gives.0 is;
      took = λ left. takes_line old new run ahead mid (line_given (Ok line) new) left reading.ended cut none goes_on gives.0 is;
      passes = record {
        run = run;
        cut = cut;
        first = none;
        text = λ started whole.
            finished_text old.line_max run old.text text mid line (goes_on ∙ ap (λ (o : Option (List ℕ)). with_run old.line_max o run) started) ends whole;
      };
    }

-- within the limit, no byte beyond it was taken
pub nothing_over : {P : Type 0} (over taken max : ℕ) → (0 < over → (taken ≡ max) × P) → taken + over ≤ max → over ≡ 0
nothing_over over taken max full within =
    elim (cases_lt 0 over) [
      | inl some ↦ let limit : taken ≡ max = (full some).0 in absurd (omega arith)
      | inr none ↦ omega arith
    ]

-- the end came, with this line
ends-with : (old : Reader) (taken number held : ℕ) (begun : Option (List ℕ)) (ahead text : List ℕ) (line : Line) → IsReading old → old.ahead ≡ [] →
    taken ≡ old.taken → begun ≡ Some [] → ahead ≡ [] →
    line_given (Ok line) (record old { text = text }) ≡ last_line old.begun → TextStays old (record old { text = text }) (Ok line) →
    number ≡ old.number + length (last_line old.begun) →
    Ends old (record old { taken = taken; begun = begun; ahead = ahead; held = held; text = text; number = number; ended = true; failed = false }) line
ends-with old taken number held begun ahead text line reading looked same started empty given stays counts =
    let new : Reader = record old { begun = Some []; ahead = []; held = held; text = text; number = number; ended = true } in
    let is : record old { taken = taken; begun = begun; ahead = ahead; held = held; text = text; number = number; ended = true; failed = false } ≡ new =
    let failed = reading.failed in cc in
    let given_is : line_given (Ok line) new ≡ last_line old.begun = given-text line (record old { text = text }) new refl ∙ given in
    let count : number ≡ old.number + length (line_given (Ok line) new) = counts ∙ ap (λ (ls : List (Option (List ℕ))). old.number + length ls) (sym given_is) in
    subst (λ (r : Reader). Ends old r line) (sym is) (record {
      reader = refl;
      text = text-text line old (record old { text = text }) new refl stays;
      number = count;
      gives = λ left end. gives-end old new (line_given (Ok line) new) left reading.ended looked end given_is count refl;
      took = λ left end. takes_end old new (line_given (Ok line) new) left looked end given_is refl;
    }) where
      given-text : (l : Line) (a b : Reader) → b.text ≡ a.text → line_given (Ok l) b ≡ line_given (Ok l) a
      given-text Whole a b same = ap (λ (xs : List ℕ). Some xs ∷ []) same
      given-text TooLong a b same = refl
      given-text End a b same = refl

      text-text : (l : Line) (r a b : Reader) → b.text ≡ a.text → TextStays r a (Ok l) → TextStays r b (Ok l)
      text-text Whole r a b same stays = tt
      text-text TooLong r a b same stays = same ∙ stays
      text-text End r a b same stays = same ∙ stays

-- with no line begun
pub ends_empty : (old : Reader) (taken held : ℕ) (begun : Option (List ℕ)) (ahead : List ℕ) → IsReading old → old.ahead ≡ [] →
    taken ≡ old.taken → begun ≡ Some [] → ahead ≡ [] → old.begun ≡ Some [] →
    Ends old (record old { taken = taken; begun = begun; ahead = ahead; held = held; ended = true; failed = false }) End
ends_empty old taken held begun ahead reading looked same started empty none =
    let nothing : last_line old.begun ≡ [] = ap last_line none in
    ends-with old taken old.number held begun ahead old.text End reading looked same started empty (sym nothing) refl
    (let zero : length (last_line old.begun) ≡ 0 = ap length nothing in omega arith)

-- with a line begun
last_line-begun : (begun : Option (List ℕ)) → begun ≢ Some [] → last_line begun ≡ begun ∷ []
last_line-begun None some = refl
last_line-begun (Some []) some = absurd (some refl)
last_line-begun (Some (b ∷ bs)) some = refl

pub ends_line : (old : Reader) (taken held : ℕ) (begun : Option (List ℕ)) (ahead text : List ℕ) (line : Line) → IsReading old → old.ahead ≡ [] →
    taken ≡ old.taken → begun ≡ Some [] → ahead ≡ [] → old.begun ≢ Some [] → Finishes old.begun old.text text line →
    Ends old (record old { taken = taken; begun = begun; ahead = ahead; held = held; text = text; number = old.number + 1; ended = true; failed = false }) line
ends_line old taken held begun ahead text line reading looked same started empty some ends =
    let gives = given-finish old.begun old (record old { text = text }) line ends in
    let last = last_line-begun old.begun some in
    ends-with old taken (old.number + 1) held begun ahead text line reading looked same started empty (gives.0 ∙ sym last) gives.1
    (ap (λ (ls : List (Option (List ℕ))). old.number + length ls) (sym last))

-- a part came
pub takes_part : (old : Reader) (taken held count : ℕ) (part : List ℕ) (left left' : Option (List ℕ)) → IsReading old → old.ahead ≡ [] →
    taken ≡ old.taken + count → length part ≡ count → old.taken + count ≤ old.stream_max → left ≡ prepend_known part left' → (count ≡ 0 → IsAtEnd left') →
    TakesPart old (record old { taken = taken; ahead = part; held = held }) left left' count
takes_part old taken held count part left left' reading looked more came within gave end =
    let all : old.taken + length part ≤ old.stream_max = omega (arith, came) in
    let same : taken ≡ old.taken + length part = omega (arith, came) in
    record {
      reader = ap (λ (n : ℕ). record old { taken = n; ahead = part; held = held }) more;
      within = within;
      came = came;
      end = end;
      gives = subst (λ (n : ℕ). (bytes : List ℕ) (given : List (Option (List ℕ))) → HasRead bytes old left given → HasRead bytes (record old { taken = n; ahead = part; held = held }) left' (given ++ []))
          (sym same) (gives-part old part held left left' reading.ended looked all gave);
      took = subst (λ (n : ℕ). HasTaken old (record old { taken = n; ahead = part; held = held }) left left' []) (sym same)
          (takes_bytes old part held left left' reading.ended looked all gave);
    }

-- a byte beyond the limit came
pub takes_over : (old : Reader) (taken held : ℕ) (ahead part : List ℕ) (left left' : Option (List ℕ)) → IsReading old → old.ahead ≡ [] →
    taken ≡ old.taken + 1 → ahead ≡ [] → old.taken ≡ old.stream_max → length part ≡ 1 → left ≡ prepend_known part left' →
    TakesOver old (record old { taken = taken; ahead = ahead; held = held; ended = false; failed = false }) left left'
takes_over old taken held ahead [] left left' reading looked more empty full one gave = absurd (omega arith)
takes_over old taken held ahead (b ∷ c ∷ bs) left left' reading looked more empty full one gave = absurd (omega arith)
takes_over old taken held ahead (b ∷ []) left left' reading looked more empty full one gave =
    let is : record old { taken = taken; ahead = ahead; held = held; ended = false; failed = false } ≡ record old { taken = old.taken + 1; held = held } =
    let ended = reading.ended in let failed = reading.failed in cc in
    subst (λ (r : Reader). TakesOver old r left left') (sym is) (record {
      reader = refl;
      full = full;
      gives = gives-over old b held left left' reading.ended full gave;
      took = takes_beyond old b held left left' reading.ended full gave;
    })

-- ---- one step after another

-- a step more before the end, with the lines that it gives
then : (first start new : Reader) (left left' left'' : Option (List ℕ)) (given : List (Option (List ℕ))) → HasTaken first start left left' [] →
    start.ended ≡ false → start.stream_max ≡ first.stream_max → HasTaken start new left' left'' given → HasTaken first new left left'' given
then first start new left left' left'' given took going limit more =
    calls_add_up first start new left left' left'' [] given took more limit (λ ended. cc)

-- a look, after which no line was given yet
pub took_look : (first start mid : Reader) (left left' : Option (List ℕ)) → HasTaken first start left left' [] →
    start.ended ≡ false → start.stream_max ≡ first.stream_max → GoesOn start mid → HasTaken first mid left left' []
took_look first start mid left left' took going limit on =
    then first start mid left left' left' [] took going limit (on.took left')

-- a line that was found
pub took_line : (first start new : Reader) (left left' : Option (List ℕ)) (line : Line) → HasTaken first start left left' [] →
    start.ended ≡ false → start.stream_max ≡ first.stream_max → EndsLine start new line → HasTaken first new left left' (line_given (Ok line) new)
took_line first start new left left' line took going limit ends =
    then first start new left left' left' (line_given (Ok line) new) took going limit (ends.took left')

-- what a read took
takes_of : (old new : Reader) (left left' : Option (List ℕ)) (result : Result ℕ LineFault) → TakesMore old new left left' result → HasTaken old new left left' []
takes_of old new left left' (Ok count) more = more.took
takes_of old new left left' (Err TooMuch) more = more.took
takes_of old new left left' (Err ReadFault) more = more.took
takes_of old new left left' (Err NoMemory) more = more.took

-- a read more, once all that was ahead is looked at
pub takes_more : (first start mid new : Reader) (left left' left'' : Option (List ℕ)) (result : Result ℕ LineFault) → HasTaken first start left left' [] → GoesOn start mid →
    start.ended ≡ false → start.stream_max ≡ first.stream_max → TakesMore mid new left' left'' result → HasTaken first new left left'' []
takes_more first start mid new left left' left'' result took on going limit more =
    then first mid new left left' left'' [] (took_look first start mid left left' took going limit on)
    (ap (λ (r : Reader). r.ended) on.reader ∙ going) (ap (λ (r : Reader). r.stream_max) on.reader ∙ limit) (takes_of mid new left' left'' result more)

-- no line is given where a read failed
given-error : (result : Result Line LineFault) (new : Reader) → IsErr result → line_given result new ≡ []
given-error (Ok line) new failed = cc
given-error (Err fault) new failed = refl

pub took_error : (first start mid new : Reader) (left left' left'' : Option (List ℕ)) (read : Result ℕ LineFault) (result : Result Line LineFault) → HasTaken first start left left' [] → GoesOn start mid →
    start.ended ≡ false → start.stream_max ≡ first.stream_max → TakesMore mid new left' left'' read → IsErr result → HasTaken first new left left'' (line_given result new)
took_error first start mid new left left' left'' read result took on going limit more failed =
    subst (λ (ls : List (Option (List ℕ))). HasTaken first new left left'' ls) (sym (given-error result new failed))
    (takes_more first start mid new left left' left'' read took on going limit more)

-- the end
pub took_end : (first start mid read new : Reader) (left left' left'' : Option (List ℕ)) (count : ℕ) (line : Line) → HasTaken first start left left' [] → GoesOn start mid →
    start.ended ≡ false → start.stream_max ≡ first.stream_max → TakesPart mid read left' left'' count → count ≡ 0 → Ends read new line → HasTaken first new left left'' (line_given (Ok line) new)
took_end first start mid read new left left' left'' count line took on going limit part none ends =
    then first read new left left'' left'' (line_given (Ok line) new)
    (takes_more first start mid read left left' left'' (Ok count) took on going limit part)
    (ap (λ (r : Reader). r.ended) part.reader ∙ ap (λ (r : Reader). r.ended) on.reader ∙ going)
    (ap (λ (r : Reader). r.stream_max) part.reader ∙ ap (λ (r : Reader). r.stream_max) on.reader ∙ limit)
    (ends.took left'' (part.end none))
