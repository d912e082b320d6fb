-- A check of the certificates of a run answers yes to each.
use Rattle.std.proofs.Common.{◌≡◌, inl, inr, ℕ, ◌+◌, List, [], ◌∷◌, ◌++◌, Bool, true, Option, Some, Result, Ok, Err, ap, append-nil, append_assoc, drop, length, map, refl, subst, sym, take, ◌∙◌}
use Rattle.std.specs.Io.KnownBytes.{append_known}
use Rattle.std.specs.List.{AllByRecursion}
use Rattle.std.proofs.Math.Seq.{take-append_seam}
use Rattle.std.proofs.lemmas.List.{take-append-drop}
use Rattle.byte_lines.specs.Pieces.{lines_of, whole_of}
use Rattle.byte_lines.specs.Reader.{heeded}
use Rattle.check_loop.specs.Right.{IsCertificateText}
use Rattle.certificate_model.specs.Checked.{answer_text, answers_text}
use Rattle.check_loop.specs.Checked.{AreAnswers, Ends, HasAnswered, HasBegun, IsFront, IsPart, IsPartTaken}
use Rattle.check_loop.specs.Texts.{ended_texts, texts_in}
use Rattle.check_loop.specs.declared.fault.CheckFault.{CheckFault}
use Rattle.check_loop.specs.declared.fault.CheckFault.TheVariants as faults
use Rattle.text_forms.specs.of_text_model.Words.{Text, line_of}
use Rattle.text_forms.specs.of_tx_records.declared.limits.TheConstants.{LINE_LIMIT, STREAM_LIMIT}
use Rattle.certificate_laws.specs.Laws.{CertifiedAreAnsweredYes, NoneIsAnsweredNo, texts_of_bytes, yes_to}
use Rattle.certificate_laws.proofs.Fronts.{Begin, came_begin}
use Rattle.certificate_laws.proofs.Right.{all_right}

-- texts that are right
abbrev AreRight : List (List (Option Text)) → Type 0
AreRight texts = AllByRecursion IsCertificateText texts

-- ---- answers to right texts

all_yes : (texts : List (List (Option Text))) (answers : List Bool) → AreRight texts → AreAnswers IsCertificateText texts answers → answers ≡ map (λ text. true) texts
all_yes [] [] right are = refl
all_yes [] (b ∷ bs) right are = absurd are
all_yes (t ∷ ts) [] right are = absurd are
all_yes (t ∷ ts) (b ∷ bs) right are = ap (λ (c : Bool). c ∷ bs) (are.0.1 right.0) ∙ ap (λ (cs : List Bool). true ∷ cs) (all_yes ts bs right.1 are.1)

yes_written : (texts : List (List (Option Text))) (written : Text) → AreRight texts → HasAnswered IsCertificateText texts written → written ≡ yes_to texts
yes_written texts written right h = h.text ∙ ap (answers_text 1) (all_yes texts h.answers right h.are)

-- ---- the first of them

first_right : (first later : List (List (Option Text))) → AreRight (first ++ later) → AreRight first
first_right [] later right = tt
first_right (t ∷ ts) later right = (right.0, first_right ts later right.1)

yes_front : (n : ℕ) (first later : List (List (Option Text))) → IsFront (answers_text n (map (λ text. true) first)) (answers_text n (map (λ text. true) (first ++ later)))
yes_front n [] later = (answers_text n (map (λ text. true) later), refl)
yes_front n (t ∷ ts) later =
    let rest : IsFront (answers_text (n + 1) (map (λ text. true) ts)) (answers_text (n + 1) (map (λ text. true) (ts ++ later))) = yes_front (n + 1) ts later in
    let line : Text = line_of n (answer_text true ∷ []) in
    (rest.0, ap (λ (text : Text). line ++ text) rest.1 ∙ sym (append_assoc line (answers_text (n + 1) (map (λ text. true) ts)) rest.0))

front_then : (a b c : Text) → IsFront a b → IsFront b c → IsFront a c
front_then a b c h k = (h.0 ++ k.0, k.1 ∙ ap (λ (text : Text). text ++ k.0) h.1 ∙ append_assoc a h.0 k.0)

-- what was written to the first of right texts
module _ (texts : List (List (Option Text))) (written : Text) (right : AreRight texts) where
  front_of : (first : List (List (Option Text))) → Begin first texts → HasAnswered IsCertificateText first written → IsFront written (yes_to texts)
  front_of first begin h =
      let those : AreRight first = first_right first begin.0 (subst AreRight begin.1 right) in
      subst (λ (t : Text). IsFront t (yes_to texts)) (sym (yes_written first written those h))
      (subst (λ (ts : List (List (Option Text))). IsFront (yes_to first) (yes_to ts)) (sym begin.1) (yes_front 1 first begin.0))

-- what was begun of those
begun_of : (texts : List (List (Option Text))) (written : Text) → AreRight texts → (first : List (List (Option Text))) → Begin first texts → HasBegun IsCertificateText first written → IsFront written (yes_to texts)
begun_of texts written right first begin h =
    let more : Begin h.first texts =
    (h.later ++ begin.0, begin.1 ∙ ap (λ (ts : List (List (Option Text))). ts ++ begin.0) h.cut ∙ append_assoc h.first h.later begin.0) in
    front_then written h.text (yes_to texts) h.front (front_of texts h.text right h.first more h.answered)

-- ---- each ending

module _ (came rest written : List ℕ) (right : AreRight (texts_of_bytes (came ++ rest))) where
  -- where no byte is left
  all_came : rest ≡ [] → Begin (texts_in (lines_of LINE_LIMIT came)) (texts_of_bytes (came ++ rest))
  all_came none = ([], ap (λ (r : List ℕ). texts_of_bytes (came ++ r)) none ∙ ap texts_of_bytes (append-nil came) ∙ sym (append-nil (texts_of_bytes came)))

  -- within the limit of the stream
  heeded_begin : Begin (ended_texts (lines_of LINE_LIMIT (whole_of (heeded STREAM_LIMIT came)))) (texts_of_bytes (came ++ rest))
  heeded_begin =
      let front : List ℕ = take STREAM_LIMIT came in
      let back : List ℕ = drop STREAM_LIMIT came in
      let same : front ++ (back ++ rest) ≡ came ++ rest = sym (append_assoc front back rest) ∙ ap (λ (bytes : List ℕ). bytes ++ rest) (take-append-drop STREAM_LIMIT came) in
      subst (λ (bytes : List ℕ). Begin (ended_texts (lines_of LINE_LIMIT (whole_of front))) (texts_of_bytes bytes)) same (came_begin front (back ++ rest))

  by_part : IsPart IsCertificateText came rest written → IsFront written (yes_to (texts_of_bytes (came ++ rest)))
  by_part (inl h) = begun_of (texts_of_bytes (came ++ rest)) written right (ended_texts (lines_of LINE_LIMIT (whole_of came))) (came_begin came rest) h
  by_part (inr h) = begun_of (texts_of_bytes (came ++ rest)) written right (texts_in (lines_of LINE_LIMIT came)) (all_came h.0) h.1

  by_ending : (result : Result (Unit {0}) CheckFault) → Ends IsCertificateText came rest written result → IsFront written (yes_to (texts_of_bytes (came ++ rest)))
  by_ending (Ok done) h = front_of (texts_of_bytes (came ++ rest)) written right (texts_in (lines_of LINE_LIMIT came)) (all_came h.0) h.1
  by_ending (Err faults.ReadFault) h = front_of (texts_of_bytes (came ++ rest)) written right (ended_texts (lines_of LINE_LIMIT (whole_of came))) (came_begin came rest) h
  by_ending (Err faults.TooMuch) h = front_of (texts_of_bytes (came ++ rest)) written right (ended_texts (lines_of LINE_LIMIT (whole_of (heeded STREAM_LIMIT came)))) heeded_begin h
  by_ending (Err faults.WriteFault) h = by_part h.0
  by_ending (Err faults.NoMemory) h = by_part h

-- a prefix was taken
part_of : (had has : Option (List ℕ)) (written all : Text) → has ≡ append_known had written → IsFront written all → IsPartTaken had all has
part_of had has written all wrote front =
    (length written, wrote ∙ ap (append_known had) (sym (ap (take (length written)) front.1 ∙ take-append_seam written front.0)))

pub none_is_answered_no : NoneIsAnsweredNo
none_is_answered_no bytes text left had has result e check =
    let right : AreRight (texts_of_bytes (check.came ++ check.rest)) = subst (λ (t : Text). AreRight (texts_of_bytes t)) check.cut (all_right bytes text e) in
    let front : IsFront check.written (yes_to (texts_of_bytes text)) =
    subst (λ (t : Text). IsFront check.written (yes_to (texts_of_bytes t))) (sym check.cut) (by_ending check.came check.rest check.written right result check.ending) in
    part_of had has check.written (yes_to (texts_of_bytes text)) check.wrote front

pub certified_are_answered_yes : CertifiedAreAnsweredYes
certified_are_answered_yes bytes text left had has e check =
    let all : text ≡ check.came = check.cut ∙ ap (λ (rest : List ℕ). check.came ++ rest) check.ending.0 ∙ append-nil check.came in
    let right : AreRight (texts_of_bytes check.came) = subst (λ (t : Text). AreRight (texts_of_bytes t)) all (all_right bytes text e) in
    let yes : check.written ≡ yes_to (texts_of_bytes text) = yes_written (texts_of_bytes check.came) check.written right check.ending.1 ∙ ap (λ (t : Text). yes_to (texts_of_bytes t)) (sym all) in
    record { read = check.told ∙ ap Some check.ending.0; wrote = check.wrote ∙ ap (append_known had) yes }
