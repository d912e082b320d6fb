use Rattle.std.proofs.Common.{[], ◌∷◌}
use Rattle.claims.specs.Lines.{stake_lines}
use Rattle.gov_ids.specs.declared.Drep.TheVariants as drep
use Rattle.report.proofs.Handed.{put_both, put_front}
use Rattle.claims.proofs.StakesAre.{stakes_both}
use Rattle.claims.proofs.stakes.put_predefined.Goals as goal

pub returns-in_err-put_stake : goal.returns-in_err-put_stake
returns-in_err-put_stake g c =
    put_front (stake_lines c.args.c.now.sums (drep.NoConfidence ∷ [])) (stakes_both c.args.c.now.sums (drep.Abstain ∷ []) (drep.NoConfidence ∷ [])) c.in_err-put_stake.ensures c.from_residual.ensures.1

pub returns : goal.returns
returns g c = put_both (stakes_both c.args.c.now.sums (drep.Abstain ∷ []) (drep.NoConfidence ∷ [])) c.in_ok-put_stake.ensures c.put_stake-2.ensures
