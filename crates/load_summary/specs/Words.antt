-- The words of a line as the program has them. (Own)
use Rattle.std.specs.Prelude.{decimal}
use Rattle.text_model.specs.Words as texts
use Rattle.load_summary.specs.declared.words.Word.{Word}
use Rattle.load_summary.specs.declared.words.Word.TheVariants.{Name, Number, Sum}

-- its bytes
abbrev pub word_text : Word → texts.Text
word_text (Name name) = name.now
word_text (Number n) = decimal n
word_text (Sum n) = decimal n
