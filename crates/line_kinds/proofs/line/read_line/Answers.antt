-- What was read is compared with its line.
use Rattle.std.proofs.Common.{◌≡◌, ◌≢◌, ap, sym, ◌∙◌, rules}
use Rattle.text_model.specs.Words.{line_of}
use Rattle.line_kinds.specs.Cuts.{inside}
use Rattle.line_kinds.proofs.Backs.{reads_none, reads_other, reads_some}
use Rattle.line_kinds.proofs.line.read_line.Goals as goal

pub returns-in_default : goal.returns-in_default
returns-in_default g c = let k = g.K.LineKind in reads_none k.reading c.laws.ensures.plain c.laws.ensures.back (sym c.read_words.ensures ∙ c.in_default.is)

pub returns-then-eq : goal.returns-then-eq
returns-then-eq g c =
    let k = g.K.LineKind in
    let made : c.as_slice.result.now ≡ line_of 0 (k.words c.in-Some.item) = search rules in
    let same : c.inner.result.now ≡ c.args.line.now = search rules in
    reads_some k.reading c.laws.ensures.formed c.laws.ensures.plain c.laws.ensures.back c.in-Some.item (sym c.read_words.ensures ∙ c.in-Some.is) (ap inside (sym made) ∙ sym c.inner.ensures ∙ same)

pub returns-else-eq : goal.returns-else-eq
returns-else-eq g c =
    let k = g.K.LineKind in
    let made : c.as_slice.result.now ≡ line_of 0 (k.words c.in-Some.item) = search rules in
    let other : c.inner.result.now ≢ c.args.line.now = search rules in
    reads_other k.reading c.laws.ensures.plain c.laws.ensures.back c.in-Some.item (sym c.read_words.ensures ∙ c.in-Some.is) (λ e. other (c.inner.ensures ∙ ap inside made ∙ e))
