use Rattle.text_model.specs.Replies.{pots_words}
use Rattle.report.proofs.Joined.{word_then}
use Rattle.report.proofs.pots.push_pots.Goals as goal

pub returns : goal.returns
returns c =
    word_then c.args.line.now.items c.push_word.new.line.items c.push_amounts.new.line.items c.args.word.now _ (pots_words c.args.word.now c.args.pots.now)
    c.in_ok-push_word.ensures c.in_ok-push_amounts.ensures (c.amounts_of.ensures c.args.word.now)
