use Rattle.std.proofs.Common.{ℕ, ◌<◌, ◌∷◌, arith}
use Rattle.load_model.specs.Stream.{account_cert}
use Rattle.gen_load.proofs.Ranges.{bytes_first}
use Rattle.gen_load.proofs.Commas.{certs_first}
use Rattle.gen_load.proofs.registrations.push_account_certs.Goals as goal

pub loop-account-init : goal.loop-account-init
loop-account-init c = record {
  text = certs_first account_cert c.args.first c.args.end _ _ c.requires.some c.push_account_cert.ensures.text;
  from = omega arith;
  room = omega arith;
}

pub loop-account-preserved : goal.loop-account-preserved
loop-account-preserved c =
    let below : c.loop-account.account < c.args.end = omega arith in
    record {
      text = bytes_first (λ (i : ℕ). 44 ∷ account_cert i) c.loop-account.account c.args.end _ _ _ below c.push_further_cert.ensures.text c.loop-account.invariant.text;
      from = omega arith;
      room = omega arith;
    }
