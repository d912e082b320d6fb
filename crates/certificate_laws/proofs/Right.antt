-- The certificates of a run are right.
use Rattle.std.proofs.Common.{◌≡◌, ℕ, List, [], ◌∷◌, Option, Some, ap, map, refl, subst, sym, ◌∙◌}
use Rattle.std.specs.List.{AllByRecursion}
use Rattle.std.proofs.lemmas.List.Elements.{All-from_recursion, recursion_from_All}
use Rattle.check_loop.specs.Right.{IsCertificateText}
use Rattle.certificate_model.specs.Certificate.{certificate_lines}
use Rattle.certificate_model.specs.Fits.{Fits}
use Rattle.text_forms.specs.Lines.{joined_lines}
use Rattle.text_forms.specs.of_gov_model.Snapshot.{Snapshot}
use Rattle.text_forms.specs.of_text_model.Words.{Text}
use Rattle.certificate_laws.specs.Laws.{CertificatesAreCut, CertificatesAreRight, CertificatesFit, certificates_of_bytes, texts_of_bytes}
use Rattle.certificate_laws.proofs.Ends.{cut_all, lines_as_given}
use Rattle.certificate_laws.proofs.Fitting.{AreOf, of_bytes}

pub certificates_fit : CertificatesFit
certificates_fit bytes text e =
    let of : AreOf text = of_bytes bytes text e in
    record { snapshots = of.snapshots; fit = All-from_recursion Fits of.snapshots of.fit; are = of.are }

pub certificates_are_cut : CertificatesAreCut
certificates_are_cut fs fit = cut_all fs (recursion_from_All Fits fs fit)

-- ---- right texts

each_right : (fs : List Snapshot) → AllByRecursion Fits fs → AllByRecursion IsCertificateText (map lines_as_given fs)
each_right [] h = tt
each_right (f ∷ fs) h = (record { texts = joined_lines (certificate_lines f); whole = refl; is = record { snapshot = f; fits = h.0; text = refl } }, each_right fs h.1)

pub all_right : (bytes : List ℕ) (text : Text) → certificates_of_bytes bytes ≡ Some text → AllByRecursion IsCertificateText (texts_of_bytes text)
all_right bytes text e =
    let of : AreOf text = of_bytes bytes text e in
    subst (λ (ts : List (List (Option Text))). AllByRecursion IsCertificateText ts) (sym (ap texts_of_bytes of.are ∙ cut_all of.snapshots of.fit)) (each_right of.snapshots of.fit)

pub certificates_are_right : CertificatesAreRight
certificates_are_right bytes text e = All-from_recursion IsCertificateText (texts_of_bytes text) (all_right bytes text e)
