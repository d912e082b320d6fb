use Rattle.std.proofs.Common.{ℕ, ◌+◌, ◌<◌, ap, arith}
use Rattle.load_model.specs.Amounts.{account_count, account_deposit, first_account, spent_by_registration, weight}
use Rattle.gen_load.proofs.Ranges.{sum_first}
use Rattle.gen_load.proofs.accounts.spent_by.Goals as goal

pub loop-account-preserved : goal.loop-account-preserved
loop-account-preserved c =
    let end : ℕ = first_account c.args.registration + account_count c.args.accounts c.args.registration in
    let below : c.loop-account.account < end = omega arith in
    record {
      spent = sum_first (λ i. weight c.args.seed i + account_deposit) c.loop-account.account end c.loop-account.spent (c.weight_of.result + 2) (spent_by_registration c.args.seed c.args.accounts c.args.registration)
          below (ap (λ (w : ℕ). w + 2) c.weight_of.ensures.weight) c.loop-account.invariant.spent;
      from = omega arith;
      most = omega arith;
    }
