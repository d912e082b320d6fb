-- The texts of first lines whose `end` came are the first of all texts.
use Rattle.std.proofs.Common.{◌≡◌, ◌||◌, ℕ, List, [], ◌∷◌, ◌++◌, Bool, true, false, Option, ap, cond, filter, refl, sym, ◌∙◌}
use Rattle.std.specs.List.{onto_first}
use Rattle.std.proofs.lemmas.Bool.{false≢true, or_parts}
use Rattle.byte_lines.specs.Pieces.{lines_of, open_of, whole_of}
use Rattle.byte_lines.proofs.PieceLemmas.{lines_of-append}
use Rattle.check_loop.specs.Texts.{ended_texts, texts_in}
use Rattle.ended_lines.specs.Ended.{has_end, is_end_line}
use Rattle.text_forms.specs.of_text_model.Words.{Text}
use Rattle.text_forms.specs.of_tx_records.declared.limits.TheConstants.{LINE_LIMIT}
use Rattle.certificate_laws.specs.Laws.{texts_of_bytes}

-- the first of these texts are those
abbrev pub Begin : List (List (Option Text)) → List (List (Option Text)) → Type 0
Begin first texts = (later : List (List (Option Text))) × (texts ≡ first ++ later)

-- ---- only the last text may have no `end`

abbrev OnlyLast : List (List (Option Text)) → Type 0
OnlyLast [] = Unit {0}
OnlyLast (t ∷ ts) = has_end t ≡ false → ts ≡ []

only_onto : (l : Option Text) (ts : List (List (Option Text))) → OnlyLast ts → OnlyLast (onto_first l ts)
only_onto l [] h = λ e. refl
only_onto l (t ∷ ts) h = λ e. h (or_parts (is_end_line l) (has_end t) e).1

only_by : (b : Bool) (l : Option Text) (ts : List (List (Option Text))) → is_end_line l ≡ b → OnlyLast ts → OnlyLast (cond b ((l ∷ []) ∷ ts) (onto_first l ts))
only_by true l ts is h = λ e. absurd (false≢true (sym (or_parts (is_end_line l) false e).0 ∙ is))
only_by false l ts is h = only_onto l ts h

only_last : (lines : List (Option Text)) → OnlyLast (texts_in lines)
only_last [] = tt
only_last (l ∷ ls) = only_by (is_end_line l) l (texts_in ls) refl (only_last ls)

-- ---- one line more

-- onto the first text, by whether that has an `end`
begin_onto : (b : Bool) (l : Option Text) (t : List (Option Text)) (ts all : List (List (Option Text))) → has_end t ≡ b → is_end_line l ≡ false → (has_end t ≡ false → ts ≡ [])
    → Begin (cond b (t ∷ filter has_end ts) (filter has_end ts)) all → Begin (filter has_end ((l ∷ t) ∷ ts)) (onto_first l all)
begin_onto true l t ts all is other only h =
    let ended : (is_end_line l || has_end t) ≡ true = ap (λ c. c || has_end t) other ∙ is in
    (h.0, ap (onto_first l) h.1 ∙ sym (ap (λ c. cond c ((l ∷ t) ∷ filter has_end ts) (filter has_end ts) ++ h.0) ended))
begin_onto false l t ts all is other only h =
    let open_ : (is_end_line l || has_end t) ≡ false = ap (λ c. c || has_end t) other ∙ is in
    let none : cond (is_end_line l || has_end t) ((l ∷ t) ∷ filter has_end ts) (filter has_end ts) ≡ [] =
    ap (λ c. cond c ((l ∷ t) ∷ filter has_end ts) (filter has_end ts)) open_ ∙ ap (λ (us : List (List (Option Text))). filter has_end us) (only is) in
    (onto_first l all, sym (ap (λ (us : List (List (Option Text))). us ++ onto_first l all) none))

begin_by : (b : Bool) (l : Option Text) (ts all : List (List (Option Text))) → is_end_line l ≡ b → OnlyLast ts → Begin (filter has_end ts) all
    → Begin (filter has_end (cond b ((l ∷ []) ∷ ts) (onto_first l ts))) (cond b ((l ∷ []) ∷ all) (onto_first l all))
begin_by true l ts all is only h =
    (h.0, ap (λ (us : List (List (Option Text))). (l ∷ []) ∷ us) h.1 ∙ sym (ap (λ c. cond (c || false) ((l ∷ []) ∷ filter has_end ts) (filter has_end ts) ++ h.0) is))
begin_by false l [] all is only h =
    (onto_first l all, sym (ap (λ c. cond (c || false) ((l ∷ []) ∷ []) [] ++ onto_first l all) is))
begin_by false l (t ∷ ts) all is only h = begin_onto (has_end t) l t ts all refl is only h

-- ---- all lines

ended_begin : (lines more : List (Option Text)) → Begin (ended_texts lines) (texts_in (lines ++ more))
ended_begin [] more = (texts_in more, refl)
ended_begin (l ∷ ls) more = begin_by (is_end_line l) l (texts_in ls) (texts_in (ls ++ more)) refl (only_last ls) (ended_begin ls more)

-- those of first bytes are the first of all
pub came_begin : (came rest : List ℕ) → Begin (ended_texts (lines_of LINE_LIMIT (whole_of came))) (texts_of_bytes (came ++ rest))
came_begin came rest =
    let first : Begin (ended_texts (lines_of LINE_LIMIT (whole_of came))) (texts_in (lines_of LINE_LIMIT (whole_of came) ++ lines_of LINE_LIMIT (open_of came ++ rest))) =
    ended_begin (lines_of LINE_LIMIT (whole_of came)) (lines_of LINE_LIMIT (open_of came ++ rest)) in
    (first.0, ap texts_in (lines_of-append LINE_LIMIT came rest) ∙ first.1)
