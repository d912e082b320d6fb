use Rattle.std.proofs.Common.{Some}
use Rattle.line_giver.specs.OfList.{texts_of}
use Rattle.embedded.specs.Resumed.{IsCut}
use Rattle.embedded.proofs.Cut.{begins_none, cut_by, long_is_none, none_by, resumes_with}
use Rattle.embedded.proofs.resumed.resumed.Goals as goal

pub returns-in-Some-clause-ok : goal.returns-in-Some-clause-ok
returns-in-Some-clause-ok g c =
    let cut : IsCut c.args.text.now (Some (texts_of c.as_slice.result.now)) = cut_by c.args.text.now c.in_ok-lines.field-0 c.in-Some.lines c.as_slice.result.now c.in-Some.is c.as_slice.ensures.value c.in_ok-lines.ensures in
    resumes_with g.R.RunState.world c.args.text.now (texts_of c.as_slice.result.now) cut c.of_checkpoint.result c.of_checkpoint.ensures.made c.of_checkpoint.ensures.only

pub returns-in-Some-clause-bad : goal.returns-in-Some-clause-bad
returns-in-Some-clause-bad g c = λ bad.
    let cut : IsCut c.args.text.now (Some (texts_of c.as_slice.result.now)) = cut_by c.args.text.now c.in_ok-lines.field-0 c.in-Some.lines c.as_slice.result.now c.in-Some.is c.as_slice.ensures.value c.in_ok-lines.ensures in
    begins_none c.args.text.now (texts_of c.as_slice.result.now) cut (c.of_checkpoint.ensures.bad bad)

pub returns-in-None-clause-bad : goal.returns-in-None-clause-bad
returns-in-None-clause-bad g c = λ bad. long_is_none c.args.text.now (none_by c.args.text.now c.in_ok-lines.field-0 c.in-None.is c.in_ok-lines.ensures)
