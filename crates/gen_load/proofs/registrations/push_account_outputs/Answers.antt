use Rattle.std.proofs.Common.{ℕ, ◌<◌, [], ◌∷◌, ◌++◌, arith}
use Rattle.load_model.specs.Stream.{account_output}
use Rattle.gen_load.proofs.Ranges.{bytes_first}
use Rattle.gen_load.proofs.registrations.push_account_outputs.Goals as goal

pub loop-account-preserved : goal.loop-account-preserved
loop-account-preserved c =
    let below : c.loop-account.account < c.args.end = omega arith in
    record {
      text = bytes_first (λ (i : ℕ). account_output c.args.seed i ++ 44 ∷ []) c.loop-account.account c.args.end _ _ _ below c.push_account_output.ensures.text c.loop-account.invariant.text;
      from = omega arith;
      room = omega arith;
    }
