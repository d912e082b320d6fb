use Rattle.std.proofs.Common.{◌≡◌, ◌-◌, ◌≤◌, [], true}
use Rattle.byte_lines.specs.Answers.{HasTaken}
use Rattle.byte_lines.specs.Pieces.{has_feed}
use Rattle.byte_lines.specs.Turns.{Gives}
use Rattle.byte_lines.proofs.lines.Lines.read_line.Given as goal

-- no line was given yet; a turn was made only where no line feed was ahead
abbrev pub invariant-loop-line : goal.invariant-loop-line
invariant-loop-line g l = record {
  reader : l.self ≡ record l.fn.self { taken = l.self.taken; begun = l.self.begun; ahead = l.self.ahead; held = l.self.held };
  grows : l.fn.self.taken ≤ l.self.taken;
  within : l.self.taken ≤ l.self.stream_max;
  gives : Gives l.fn.self l.self (g.S.Source.left l.fn.source) (g.S.Source.left l.source) [];
  took : HasTaken l.fn.self l.self (g.S.Source.left l.fn.source) (g.S.Source.left l.source) [];
  fresh : has_feed l.fn.self.ahead ≡ true → l.self ≡ l.fn.self;
  counts : g.S.Source.faults l.source ≡ g.S.Source.faults l.fn.source;
  asks : has_feed l.fn.self.ahead ≡ true → l.source ≡ l.fn.source;
}

abbrev pub decreases-loop-line : goal.decreases-loop-line
decreases-loop-line g l = l.self.stream_max - l.self.taken
