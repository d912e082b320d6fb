-- The words of a line that a print of a state does not have. (Own)
use Rattle.std.specs.Prelude.{List}
use Rattle.certificate_model.specs.Certificate.{mark_words}
use Rattle.frozen_print.specs.declared.line.FrozenLine.{FrozenLine}
use Rattle.frozen_print.specs.declared.line.FrozenLine.TheVariants.{Epoch, Drep, Pool, Mark}
use Rattle.frozen_print.specs.Words.{pool_words, words_of_epoch}
use Rattle.text_forms.specs.Snapshots.{expiry_words}
use Rattle.text_model.specs.Words.{Text}

-- its words
abbrev pub frozen_words : FrozenLine → List Text
frozen_words (Epoch epoch version treasury) = words_of_epoch epoch version treasury
frozen_words (Drep drep) = expiry_words drep.now
frozen_words (Pool pool) = pool_words pool.now
frozen_words (Mark stake) = mark_words stake.now
