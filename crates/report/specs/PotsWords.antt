-- The word before the pots in their line. (Own)
use Rattle.std.specs.Prelude.{codes}
use Rattle.report.specs.declared.pots.PotsWord.{PotsWord}
use Rattle.report.specs.declared.pots.PotsWord.TheVariants.{Genesis, Pots}
use Rattle.text_model.specs.Words.{Text}

-- the word
abbrev pub pots_word_text : PotsWord → Text
pots_word_text Genesis = codes "genesis"
pots_word_text Pots = codes "pots"
