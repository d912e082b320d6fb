use Rattle.std.proofs.Common.{◌+◌, ◌≤◌, ap, arith, subst, sym, ◌∙◌}
use Rattle.gov_ids.specs.Orders.{credential_cmp}
use Rattle.book_records.specs.Outputs.{lovelace_in}
use Rattle.coin_frac.specs.declared.TheConstants.{SUPPLY_LIMIT}
use Rattle.maps.specs.Replaced.{with_option}
use Rattle.accounts.specs.Accounts.{Accounts}
use Rattle.stake_book.specs.Stakes.{Stakes, AreKept, HasRoom, registrations, accounts_of, balances_in, stake_at, with_account}
use Rattle.stake_book.proofs.Kept.{registration_kept}
use Rattle.stake_book.proofs.Paying.{room_is}
use Rattle.stake_book.proofs.Registrations.{registrations-with_entry}
use Rattle.stake_book.proofs.Weights.{weight_within}
use Rattle.stake_book.proofs.StakeBook.set_account.Goals as goal

pub change-requires : goal.change-requires
change-requires c =
    let s : Stakes = record { outputs = c.self.inside.outputs; accounts = c.self.inside.accounts } in
    let room : HasRoom 0 (with_account c.args.c c.args.to s) = room_is c.args.c c.args.to s c.self.invariant.live (subst (λ (s : Stakes). lovelace_in s.outputs.outputs + balances_in (with_option credential_cmp c.args.c c.args.to (accounts_of s)) ≤ SUPPLY_LIMIT) (sym c.self.view_is) c.requires.room) in
    let kept : AreKept (with_account c.args.c c.args.to s) = registration_kept c.args.c c.args.to s.outputs s.accounts c.self.invariant room in
    record { enough = omega arith; within = weight_within (with_account c.args.c c.args.to s) kept }

pub invariant_of-self-2 : goal.invariant_of-self-2
invariant_of-self-2 c =
    let s : Stakes = record { outputs = c.self.inside.outputs; accounts = c.self.inside.accounts } in
    let room : HasRoom 0 (with_account c.args.c c.args.to s) = room_is c.args.c c.args.to s c.self.invariant.live (subst (λ (s : Stakes). lovelace_in s.outputs.outputs + balances_in (with_option credential_cmp c.args.c c.args.to (accounts_of s)) ≤ SUPPLY_LIMIT) (sym c.self.view_is) c.requires.room) in
    subst (λ (s : Stakes). AreKept s) (λ i. record { outputs = s.outputs; accounts = sym c.in_ok-change.ensures.ok i }) (registration_kept c.args.c c.args.to s.outputs s.accounts c.self.invariant room)

pub returns-clause-registered : goal.returns-clause-registered
returns-clause-registered c =
    ap (λ (a : Accounts). registrations a.live) c.in_ok-change.ensures.ok
    ∙ registrations-with_entry c.args.c (record { stake = stake_at c.self.inside.accounts.live c.args.c; registered = c.args.to }) c.self.inside.accounts.live c.self.invariant.live
    ∙ ap (λ (s : Stakes). with_option credential_cmp c.args.c c.args.to (accounts_of s)) c.self.view_is
