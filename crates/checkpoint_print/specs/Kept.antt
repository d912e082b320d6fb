-- Lines that are kept without their line feeds. (Own)
use Rattle.std.specs.Prelude.{◌-◌, length, take}
use Rattle.text_model.specs.Words.{Text}

-- a line without its last byte
abbrev pub without_feed : Text → Text
without_feed line = take (length line - 1) line
