-- All lines, with the first line of a checkpoint and without.
use Rattle.std.proofs.Common.{Bool, [], subst}
use Rattle.line_giver.specs.Giving.{lines_of_giving}
use Rattle.line_giver.proofs.Passing.{passes_both, passes_of}
use Rattle.state_reader.specs.Reads.{IsHead}
use Rattle.state_reader.proofs.Reading.{all_read, none_read}
use Rattle.state_reader.proofs.all.read_all.Goals as goal

pub returns-then-not-is_head-clause-reads : goal.returns-then-not-is_head-clause-reads
returns-then-not-is_head-clause-reads g c =
    let known = lines_of_giving (g.G.LineGiver.giving c.has_head.new.giver) in
    none_read c.has_head.ensures.passes (subst (λ (b : Bool). IsHead known b) c.if-not-is_head.true c.in_ok-is_head.ensures.is) c.in_ok-pass_all.ensures.all

pub returns-in_err-pass_all-2-clause-passes : goal.returns-in_err-pass_all-2-clause-passes
returns-in_err-pass_all-2-clause-passes g c = passes_both (passes_both (passes_of [] c.has_head.ensures.passes) c.read_lists.ensures.some) c.pass_all-2.ensures.passes

pub returns-clause-reads : goal.returns-clause-reads
returns-clause-reads g c =
    let known = lines_of_giving (g.G.LineGiver.giving c.has_head.new.giver) in
    all_read c.in_ok-gathered.gathered c.has_head.ensures.passes (subst (λ (b : Bool). IsHead known b) c.if-not-is_head.false c.in_ok-is_head.ensures.is)
    c.in_ok-gathered.ensures.passes c.read_lists.ensures.some c.in_ok-gathered.ensures.world c.in_ok-pass_all-2.ensures.all

pub returns-clause-passes : goal.returns-clause-passes
returns-clause-passes g c = passes_both (passes_both (passes_of [] c.has_head.ensures.passes) c.read_lists.ensures.some) c.pass_all-2.ensures.passes
