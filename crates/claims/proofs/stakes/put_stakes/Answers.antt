use Rattle.std.proofs.Common.{[], ◌∷◌}
use Rattle.claims.specs.Lines.{registered, stake_lines}
use Rattle.gov_ids.specs.declared.Drep.TheVariants as drep
use Rattle.report.proofs.Handed.{put_both, put_front}
use Rattle.claims.proofs.StakesAre.{stakes_both}
use Rattle.claims.proofs.stakes.put_stakes.Goals as goal

pub returns-in_err-put_registered : goal.returns-in_err-put_registered
returns-in_err-put_registered g c =
    put_front (stake_lines c.args.c.now.sums (drep.Abstain ∷ drep.NoConfidence ∷ [])) (stakes_both c.args.c.now.sums (registered c.args.dreps.now) (drep.Abstain ∷ drep.NoConfidence ∷ []))
    c.in_err-put_registered.ensures c.from_residual.ensures.1

pub returns : goal.returns
returns g c =
    put_both (stakes_both c.args.c.now.sums (registered c.args.dreps.now) (drep.Abstain ∷ drep.NoConfidence ∷ [])) c.in_ok-put_registered.ensures c.put_predefined.ensures
