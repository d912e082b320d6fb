-- The texts so far were answered, and no read or write failed.
use Rattle.std.proofs.Common.{◌≡◌, ℕ, List, Some}
use Rattle.ended_source.specs.Ended.{IsCalm}
use Rattle.check_loop.proofs.Endings.{IsLimited, Stands}
use Rattle.check_loop.proofs.run.answer_texts.Given as goal

abbrev pub invariant-loop-number : goal.invariant-loop-number
invariant-loop-number g l = record {
  calm : IsCalm l.lines;
  limits : IsLimited l.lines;
  reads : g.S.Source.faults l.source ≡ g.S.Source.faults l.fn.source;
  writes : g.K.Sink.faults l.sink ≡ g.K.Sink.faults l.fn.sink;
  stands : (bytes : List ℕ) → g.S.Source.left l.fn.source ≡ Some bytes → Stands g.C.TextChecker.IsRight bytes l.lines (g.S.Source.left l.source) (g.K.Sink.taken l.fn.sink) (g.K.Sink.taken l.sink) l.number;
}
