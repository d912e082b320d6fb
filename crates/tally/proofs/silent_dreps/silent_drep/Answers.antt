use Rattle.std.proofs.Common.{ℕ, Some, None, ap, sym, ◌∙◌}
use Rattle.gov_actions.specs.declared.action.Vote.TheVariants.{No}
use Rattle.tally.proofs.SilentDreps.{found_drep, no_drep}
use Rattle.tally.proofs.silent_dreps.silent_drep.Goals as goal

pub returns-in_default : goal.returns-in_default
returns-in_default c = sym (no_drep c.args.f.now c.args.c.now c.args.voter.now c.args.f.now.dreps c.in_default.not-Drep)

pub returns-in_err-expiry : goal.returns-in_err-expiry
returns-in_err-expiry c =
    c.from_residual.ensures
    ∙ found_drep c.args.f.now c.args.c.now c.args.voter.now c.in-Drep.drep c.args.f.now.dreps c.as_slice.result.now None c.in-Drep.is c.as_slice.ensures c.in_err-expiry.ensures

pub returns : goal.returns
returns c =
    ap (λ (n : ℕ). Some (n, No)) c.drep_weight.ensures
    ∙ found_drep c.args.f.now c.args.c.now c.args.voter.now c.in-Drep.drep c.args.f.now.dreps c.as_slice.result.now (Some c.in_ok-expiry.expiry) c.in-Drep.is c.as_slice.ensures c.in_ok-expiry.ensures
