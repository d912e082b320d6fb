-- The texts of checkpoints and of certificates, cut into their lines. (Own)
use Rattle.std.specs.Prelude.{◌≡◌, ℕ, ◌++◌, true, false, List}
use Rattle.std.specs.List.{list_any}
use Rattle.byte_lines.specs.Pieces.{has_feed, lines_of}
use Rattle.certificate_model.specs.Certificate.{certificate_lines, certificate_text}
use Rattle.checkpoint_model.specs.Checkpoint.{checkpoint_lines, checkpoint_text}
use Rattle.line_giver.specs.OfList.{whole_lines}
use Rattle.text_forms.specs.Lines.{are_short_lines, joined_lines, text_of_bare}
use Rattle.text_forms.specs.of_gov_model.Snapshot.{Snapshot}
use Rattle.text_forms.specs.of_run_model.World.{World}
use Rattle.text_forms.specs.of_text_model.Words.{Text}
use Rattle.text_forms.specs.of_tx_records.declared.limits.TheConstants.{LINE_LIMIT}

-- a text of lines, of which none has a line feed in it and none is too long, is cut into these
-- lines, and what follows it into its own
abbrev pub TextIsCut : Type 0
TextIsCut = (lines : List (List Text)) (more : List ℕ) → list_any has_feed (joined_lines lines) ≡ false → are_short_lines lines ≡ true
    → lines_of LINE_LIMIT (text_of_bare lines ++ more) ≡ whole_lines (joined_lines lines) ++ lines_of LINE_LIMIT more

-- no line of a checkpoint has a line feed in it
abbrev pub LinesHaveNoFeed : Type 0
LinesHaveNoFeed = (w : World) (line : ℕ) → list_any has_feed (joined_lines (checkpoint_lines w line)) ≡ false

-- if no line of a checkpoint after line 0 is too long, none is after any line
abbrev pub LinesStayShort : Type 0
LinesStayShort = (w : World) (line : ℕ) → are_short_lines (checkpoint_lines w 0) ≡ true → are_short_lines (checkpoint_lines w line) ≡ true

-- the text of such a checkpoint is cut into its lines, and what follows it into its own
abbrev pub CheckpointIsCut : Type 0
CheckpointIsCut = (w : World) (line : ℕ) (more : List ℕ) → are_short_lines (checkpoint_lines w 0) ≡ true
    → lines_of LINE_LIMIT (checkpoint_text w line ++ more) ≡ whole_lines (joined_lines (checkpoint_lines w line)) ++ lines_of LINE_LIMIT more

-- no line of a certificate has a line feed in it
abbrev pub CertificateHasNoFeed : Type 0
CertificateHasNoFeed = (f : Snapshot) → list_any has_feed (joined_lines (certificate_lines f)) ≡ false

-- the text of a certificate, of whose lines none is too long, is cut into its lines,
-- and what follows it into its own
abbrev pub CertificateIsCut : Type 0
CertificateIsCut = (f : Snapshot) (more : List ℕ) → are_short_lines (certificate_lines f) ≡ true
    → lines_of LINE_LIMIT (certificate_text f ++ more) ≡ whole_lines (joined_lines (certificate_lines f)) ++ lines_of LINE_LIMIT more
