-- A certificate by its snapshot and its results.
use Rattle.std.proofs.Common.{◌≡◌, ◌↔◌, ◌++◌, Bool, true, false, List, [], ◌∷◌, Option, Some, None, Result, Ok, Err, IfOk, drop, length, nat_le, refl, ap, sym, ◌∙◌}
use Rattle.std.proofs.lemmas.Bool.{and_from, and_parts, false≢true}
use Rattle.std.proofs.lemmas.List.{map-append}
use Rattle.std.proofs.lemmas.List.Folds.{list_all-append}
use Rattle.std.proofs.lemmas.Option.{none-some, same_Some}
use Rattle.snapshot_reader.specs.of_certificate_lists.Rows.{snapshot_stops}
use Rattle.certificate_model.specs.Certificate.{certificate_lines, claim_lines, snapshot_lines}
use Rattle.certificate_model.specs.Fits.{Fits}
use Rattle.claim_lengths.specs.Laws.{ClaimsAreShort}
use Rattle.gov_model.specs.Snapshot.{Snapshot}
use Rattle.line_giver.specs.Giving.{known_after}
use Rattle.line_giver.specs.OfList.{whole_lines}
use Rattle.line_parts.specs.Parts.{lines_of}
use Rattle.line_parts.specs.Shapes.{is_next}
use Rattle.snapshot_counts.specs.Fitting.{IsFitting}
use Rattle.text_forms.specs.Lines.{are_short_lines, joined, joined_lines}
use Rattle.text_model.specs.of_tx_records.declared.limits.TheConstants.{LINE_LIMIT}
use Rattle.text_model.specs.Words.{Text}
use Rattle.check_loop.specs.Right.{IsCertificateText}
use Rattle.certificate_check.proofs.Plain.{none_next}

-- ---- lines

both_lines : (f : Snapshot) → lines_of (certificate_lines f) ≡ lines_of (snapshot_lines f) ++ lines_of (claim_lines f)
both_lines f =
    ap whole_lines (map-append joined (snapshot_lines f) (claim_lines f)) ∙ map-append Some (joined_lines (snapshot_lines f)) (joined_lines (claim_lines f))

same_rest : {A : Type 0} (xs ys zs : List A) → xs ++ ys ≡ xs ++ zs → ys ≡ zs
same_rest [] ys zs same = same
same_rest (x ∷ xs) ys zs same = same_rest xs ys zs (ap (λ (t : List _). drop 1 t) same)

-- ---- snapshots that fit

-- a line is not too long
abbrev is_short : List Text → Bool
is_short words = nat_le (length (joined words)) LINE_LIMIT

fitting : {f : Snapshot} → Fits f → IsFitting f
fitting fits = record { form = fits.form; epoch = fits.epoch; held = fits.held; mark = fits.mark }

snapshot_short : (f : Snapshot) → Fits f → are_short_lines (snapshot_lines f) ≡ true
snapshot_short f fits =
    (and_parts (are_short_lines (snapshot_lines f)) (are_short_lines (claim_lines f)) (sym (list_all-append is_short (snapshot_lines f) (claim_lines f)) ∙ fits.short)).0

fits_of : (f : Snapshot) → ClaimsAreShort → IsFitting f → are_short_lines (snapshot_lines f) ≡ true → Fits f
fits_of f claims is short = record {
  form = is.form;
  epoch = is.epoch;
  held = is.held;
  mark = is.mark;
  short = list_all-append is_short (snapshot_lines f) (claim_lines f) ∙ and_from (are_short_lines (snapshot_lines f)) (are_short_lines (claim_lines f)) short (claims f is.form);
}

-- ---- texts

-- every certificate has a snapshot that is read
abbrev pub ReadsAll : Option (List (Option Text)) → Option Snapshot → Type 0
ReadsAll given read = (f : Snapshot) (more : List (Option Text)) → IsFitting f → are_short_lines (snapshot_lines f) ≡ true → is_next snapshot_stops more ≡ false → given ≡ Some (lines_of (snapshot_lines f) ++ more) → read ≡ Some f

module _ (given : Option (List (Option Text))) (read : Option Snapshot) (all : ReadsAll given read) (lines : List (Option Text)) (known : given ≡ Some lines) where
  lines_are : (c : IsCertificateText lines) → lines ≡ lines_of (snapshot_lines c.is.snapshot) ++ lines_of (claim_lines c.is.snapshot)
  lines_are c = c.whole ∙ ap whole_lines c.is.text ∙ both_lines c.is.snapshot

  read_is : (c : IsCertificateText lines) → read ≡ Some c.is.snapshot
  read_is c =
      let f = c.is.snapshot in
      all f (lines_of (claim_lines f)) (fitting c.is.fits) (snapshot_short f c.is.fits) (none_next f) (known ∙ ap Some (lines_are c))

  -- where no snapshot was read, the text is no certificate
  pub not_read : read ≡ None → (false ≡ true) ↔ IsCertificateText lines
  not_read none = (λ e. absurd (false≢true e), λ c. absurd (none-some c.is.snapshot (sym none ∙ read_is c)))

  module _ (f : Snapshot) (was : read ≡ Some f) (claims : ClaimsAreShort) (fits : IsFitting f) (short : are_short_lines (snapshot_lines f) ≡ true) (answer : Bool) where
    certified : (more : List (Option Text)) → lines ≡ lines_of (snapshot_lines f) ++ more → more ≡ lines_of (claim_lines f) → IsCertificateText lines
    certified more cut is = record {
      texts = joined_lines (certificate_lines f);
      whole = cut ∙ ap (λ (t : List (Option Text)). lines_of (snapshot_lines f) ++ t) is ∙ sym (both_lines f);
      is = record { snapshot = f; fits = fits_of f claims fits short; text = refl };
    }

    claims_of : (more : List (Option Text)) → lines ≡ lines_of (snapshot_lines f) ++ more → IsCertificateText lines → more ≡ lines_of (claim_lines f)
    claims_of more cut c =
        let same : c.is.snapshot ≡ f = same_Some c.is.snapshot f (sym (read_is c) ∙ was) in
        same_rest (lines_of (snapshot_lines f)) more (lines_of (claim_lines f))
        (sym cut ∙ lines_are c ∙ ap (λ (s : Snapshot). lines_of (snapshot_lines s) ++ lines_of (claim_lines s)) same)

    by_rest : (mid : Option (List (Option Text))) → Some lines ≡ known_after (lines_of (snapshot_lines f)) mid
        → ((more : List (Option Text)) → mid ≡ Some more → (answer ≡ true) ↔ (more ≡ lines_of (claim_lines f))) → (answer ≡ true) ↔ IsCertificateText lines
    by_rest None left met = absurd (none-some lines (sym left))
    by_rest (Some more) left met =
        let cut : lines ≡ lines_of (snapshot_lines f) ++ more = same_Some lines (lines_of (snapshot_lines f) ++ more) left in
        (λ e. certified more cut ((met more refl).0 e), λ c. (met more refl).1 (claims_of more cut c))

-- the answer is that of the results, once a snapshot was read
pub answer_is : (given mid : Option (List (Option Text))) (read : Option Snapshot) (f : Snapshot) {E : Type 0} (answer : Result Bool E) (Of : Snapshot → Type 0) → ReadsAll given read → read ≡ Some f → ClaimsAreShort → IsFitting f
    → are_short_lines (snapshot_lines f) ≡ true → given ≡ known_after (lines_of (snapshot_lines f)) mid
    → IfOk answer (λ met. (s : Snapshot) (more : List (Option Text)) → Of s → mid ≡ Some more → (met ≡ true) ↔ (more ≡ lines_of (claim_lines s))) → Of f
    → IfOk answer (λ met. (lines : List (Option Text)) → given ≡ Some lines → (met ≡ true) ↔ IsCertificateText lines)
answer_is given mid read f (Err e) Of all was claims fits short left met of = tt
answer_is given mid read f (Ok b) Of all was claims fits short left met of = λ lines known.
    by_rest given read all lines known f was claims fits short b mid (sym known ∙ left) (λ more is. met f more of is)
