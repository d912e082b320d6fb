use Rattle.std.proofs.Common.{[], ◌∷◌, codes, map}
use Rattle.claims.specs.Blocks.{all_blocks}
use Rattle.claims.proofs.StakesAre.{stakes_are}
use Rattle.report.proofs.Handed.{put_as}
use Rattle.report.proofs.Puts.{put_first, put_second, put_third}
use Rattle.run_model.specs.Report.{stakes_of}
use Rattle.text_model.specs.EpochLines.{stake_words}
use Rattle.claims.proofs.claims.put_numbered.Goals as goal

pub returns-in_err-put_stakes : goal.returns-in_err-put_stakes
returns-in_err-put_stakes g c = λ s of.
    put_first (map stake_words (stakes_of s)) (all_blocks s) ((codes "end" ∷ []) ∷ [])
    (put_as (stakes_are s c.args.f.now c.args.c.now c.as_slice.result.now of c.as_slice.ensures) c.in_err-put_stakes.ensures) c.from_residual.ensures.1

pub returns-in_err-put_blocks : goal.returns-in_err-put_blocks
returns-in_err-put_blocks g c = λ s of.
    put_second (map stake_words (stakes_of s)) (all_blocks s) ((codes "end" ∷ []) ∷ [])
    (put_as (stakes_are s c.args.f.now c.args.c.now c.as_slice.result.now of c.as_slice.ensures) c.in_ok-put_stakes.ensures) (c.in_err-put_blocks.ensures s of) c.from_residual-in_err-put_blocks.ensures.1

pub returns : goal.returns
returns g c = λ s of.
    put_third (map stake_words (stakes_of s)) (all_blocks s) ((codes "end" ∷ []) ∷ [])
    (put_as (stakes_are s c.args.f.now c.args.c.now c.as_slice.result.now of c.as_slice.ensures) c.in_ok-put_stakes.ensures) (c.in_ok-put_blocks.ensures s of) c.put_end.ensures
