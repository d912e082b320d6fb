-- The checkpoint and the outlook of a ledger that a caller holds. (Own)
use Rattle.std.specs.Prelude.{◌≡◌, Some, None}
use Rattle.checkpoint_model.specs.Checkpoint.{checkpoint_text}
use Rattle.outlook_model.specs.Outlook.{outlook_lines}
use Rattle.run_model.specs.World.{World}
use Rattle.text_forms.specs.Lines.{text_of_bare}
use Rattle.text_model.specs.Words.{Text}
use Rattle.embedded.specs.Standing.{Standing}
use Rattle.embedded.specs.declared.ending.Ending.{Ending}
use Rattle.embedded.specs.declared.ending.Ending.TheVariants as endings

-- what making its checkpoint did: the text alone changes, and that stays, too, where it is not done
abbrev pub ShowsCheckpoint : Standing → Standing → Ending → Type 0
ShowsCheckpoint s s' endings.Done = (w : World) × (s.world ≡ Some w) × (s' ≡ record s { text = checkpoint_text w s.line })
ShowsCheckpoint s s' endings.Closed = (s.world ≡ None) × (s' ≡ s)
ShowsCheckpoint s s' endings.Full = ⊥
ShowsCheckpoint s s' endings.NoMemory = s' ≡ s

-- the text of an outlook
abbrev pub outlook_text : World → Text
outlook_text w = text_of_bare (outlook_lines w)

-- what its outlook did, which uses it up: it is closed, and its text stays
abbrev pub EndsInOutlook : Standing → Standing → Ending → Type 0
EndsInOutlook s s' endings.Done = (w : World) × (s.world ≡ Some w) × (s' ≡ record { world = None; line = s.line; text = outlook_text w })
EndsInOutlook s s' endings.Closed = (s.world ≡ None) × (s' ≡ s)
EndsInOutlook s s' endings.Full = ⊥
EndsInOutlook s s' endings.NoMemory = s'.world ≡ None
