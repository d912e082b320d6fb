use Rattle.std.proofs.Common.{◌+◌, ◌≤◌, Option, subst, arith}
use Rattle.gov_ids.specs.declared.Credential.{Credential}
use Rattle.coin_frac.specs.declared.TheConstants.{SUPPLY_LIMIT}
use Rattle.stake_book.specs.Stakes.{stake_at, with_stake}
use Rattle.stake_book.specs.Sums.{weight_in}
use Rattle.stake_book.proofs.raise_stake.Goals as goal

pub change-requires : goal.change-requires
change-requires c =
    let a = c.args.accounts.now in
    record {
      enough = omega arith;
      within = subst (λ (p : Option Credential). weight_in (with_stake p (λ c'. stake_at a.live c' + c.args.gained) a).live ≤ SUPPLY_LIMIT) c.in-Some.is c.requires.room;
    }
