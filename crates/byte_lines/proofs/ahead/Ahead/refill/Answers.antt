use Rattle.std.proofs.Common.{◌∙◌, ap, sym, List, ℕ, take, drop, length, arith}
use Rattle.std.proofs.lemmas.List.{take_at}
use Rattle.std.specs.Io.KnownBytes.{prepend_known}
use Rattle.byte_lines.proofs.ahead.Ahead.refill.Goals as goal

pub returns-clause-gave : goal.returns-clause-gave
returns-clause-gave g c =
    let part = c.read_front.new.part in
    let old = c.if-is_empty.self-inside.part in
    c.in_ok-count.ensures.reads.gave
    ∙ ap (λ (xs : List ℕ). prepend_known (take c.in_ok-count.count xs) (g.S.Source.left c.read_front.new.source))
    (sym (take_at part (drop (length part) old.items) old.len (omega (arith, c.deref_mut.ensures.len, c.read_front.auto.part))))
