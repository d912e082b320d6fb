-- Each certificate of a run is right, and a check answers yes to it. (Own)
use Rattle.std.specs.Prelude.{◌≡◌, ℕ, true, All, List, [], Option, Some, Result, Ok, flat_map, map}
use Rattle.std.specs.Io.KnownBytes.{append_known}
use Rattle.byte_lines.specs.Pieces.{lines_of}
use Rattle.check_loop.specs.Right.{IsCertificateText}
use Rattle.certificate_model.specs.Certificate.{certificate_lines, certificate_text}
use Rattle.certificate_model.specs.Checked.{answers_text, certificates_of_readings}
use Rattle.certificate_model.specs.Fits.{Fits}
use Rattle.check_loop.specs.Checked.{IsChecked, IsPartTaken}
use Rattle.check_loop.specs.Texts.{texts_in}
use Rattle.check_loop.specs.declared.fault.CheckFault.{CheckFault}
use Rattle.line_giver.specs.OfList.{whole_lines}
use Rattle.record_stream.specs.Records.{records_of}
use Rattle.text_forms.specs.Lines.{joined_lines}
use Rattle.text_forms.specs.of_gov_model.Snapshot.{Snapshot}
use Rattle.text_forms.specs.of_text_model.Words.{Text}
use Rattle.text_forms.specs.of_tx_records.declared.limits.TheConstants.{LINE_LIMIT}

-- the certificates of the run over bytes
-- none, unless it begins with a genesis that breaks no genesis rule
abbrev pub certificates_of_bytes : List ℕ → Option Text
certificates_of_bytes bytes = certificates_of_readings (records_of bytes)

-- the lines of bytes as texts, each up to its `end`, as a check reads them
abbrev pub texts_of_bytes : List ℕ → List (List (Option Text))
texts_of_bytes bytes = texts_in (lines_of LINE_LIMIT bytes)

-- the certificates of these snapshots, one after the other
abbrev pub certificates_text : List Snapshot → Text
certificates_text fs = flat_map certificate_text fs

-- a text is the certificates of snapshots, each of which fits
pub record AreCertificates (text : Text) : Type 0 where
  pub snapshots : List Snapshot
  pub fit : All Fits snapshots
  pub are : text ≡ certificates_text snapshots

-- the certificates of the run over bytes are of snapshots that fit
abbrev pub CertificatesFit : Type 0
CertificatesFit = (bytes : List ℕ) (text : Text) → certificates_of_bytes bytes ≡ Some text → AreCertificates text

-- the certificates of snapshots that fit are cut into the lines of each
abbrev pub CertificatesAreCut : Type 0
CertificatesAreCut = (fs : List Snapshot) → All Fits fs
    → texts_of_bytes (certificates_text fs) ≡ map (λ f. whole_lines (joined_lines (certificate_lines f))) fs

-- the certificates of the run over bytes are cut into texts each of which is right
abbrev pub CertificatesAreRight : Type 0
CertificatesAreRight = (bytes text : List ℕ) → certificates_of_bytes bytes ≡ Some text → All IsCertificateText (texts_of_bytes text)

-- the answer yes to each of these texts, numbered from 1
abbrev pub yes_to : List (List (Option Text)) → Text
yes_to texts = answers_text 1 (map (λ text. true) texts)

-- no byte is left, and yes was written to each of these texts
pub record HasAnsweredYes (texts : List (List (Option Text))) (left had has : Option (List ℕ)) : Type 0 where
  pub read : left ≡ Some []
  pub wrote : has ≡ append_known had (yes_to texts)

-- a check of the certificates of the run over bytes that is done answered yes to each
abbrev pub CertifiedAreAnsweredYes : Type 0
CertifiedAreAnsweredYes = (bytes text : List ℕ) (left had has : Option (List ℕ)) → certificates_of_bytes bytes ≡ Some text
    → IsChecked IsCertificateText text left had has (Ok tt) → HasAnsweredYes (texts_of_bytes text) left had has

-- whatever ends a check of them, it wrote a prefix of these answers: none is no
abbrev pub NoneIsAnsweredNo : Type 0
NoneIsAnsweredNo = (bytes text : List ℕ) (left had has : Option (List ℕ)) (result : Result (Unit {0}) CheckFault) → certificates_of_bytes bytes ≡ Some text
    → IsChecked IsCertificateText text left had has result → IsPartTaken had (yes_to (texts_of_bytes text)) has
