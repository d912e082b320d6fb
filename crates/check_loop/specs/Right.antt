-- The lines of certificates. A line is its bytes, and none if it is too long. (Own)
use Rattle.std.specs.Prelude.{◌≡◌, List, Option}
use Rattle.certificate_model.specs.Checked.{IsCertificate}
use Rattle.line_giver.specs.OfList.{whole_lines}
use Rattle.text_model.specs.Words.{Text}

-- no line is too long, and they are the certificate of a snapshot that fits
pub record IsCertificateText (lines : List (Option Text)) : Type 0 where
  pub texts : List Text
  pub whole : lines ≡ whole_lines texts
  pub is : IsCertificate texts
