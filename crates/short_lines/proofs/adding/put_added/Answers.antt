use Rattle.std.proofs.Common.{ℕ, [], map}
use Rattle.std.proofs.lemmas.List.{at_drop_more}
use Rattle.gov_ids.specs.declared.CredKind.TheVariants.{Key}
use Rattle.gov_ids.specs.declared.Credential.{Credential}
use Rattle.report.proofs.Puts.{put_ended}
use Rattle.shortfall_model.specs.ShortLines.{add_words}
use Rattle.report.proofs.Handed.{put_both, put_front}
use Rattle.short_lines.proofs.adding.put_added.Goals as goal

abbrev nobody : Credential × ℕ
nobody = (record { hash = []; kind = Key }, 0)

pub returns-in_err-put_drep : goal.returns-in_err-put_drep
returns-in_err-put_drep g c =
    c.loop-drep.invariant (g.T.LineTaker.taken c.put_drep.new.to) (g.T.LineTaker.faults c.put_drep.new.to) c.from_residual.result
    (put_front _ (at_drop_more (map add_words) c.args.dreps.now c.loop-drep.drep-index nobody c.loop-drep-test.true) c.in_err-put_drep.ensures c.from_residual.ensures.1)

pub loop-drep-preserved : goal.loop-drep-preserved
loop-drep-preserved g c = λ t f r later.
    c.loop-drep.invariant t f r
    (put_both (at_drop_more (map add_words) c.args.dreps.now c.loop-drep.drep-index nobody c.loop-drep-test.true) c.in_ok-put_drep.ensures later)

pub returns : goal.returns
returns g c =
    c.loop-drep.invariant (g.T.LineTaker.taken c.loop-drep.to) (g.T.LineTaker.faults c.loop-drep.to) _
    (put_ended g.T.LineTaker.with_line g.T.LineTaker.IsPart c.args.line add_words c.args.dreps.now c.loop-drep.drep-index c.loop-drep-test.false (g.T.LineTaker.taken c.loop-drep.to) (g.T.LineTaker.faults c.loop-drep.to))
