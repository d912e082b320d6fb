use Rattle.std.proofs.Common.{Option, ap, sym, subst, ◌∙◌, arith}
use Rattle.gov_ids.specs.Orders.{credential_cmp}
use Rattle.book_records.specs.declared.Registered.{Registered}
use Rattle.maps.specs.Maps.{changed_at}
use Rattle.accounts.specs.Accounts.{Accounts}
use Rattle.stake_book.specs.Ended.{entry_without}
use Rattle.stake_book.specs.Stakes.{Stakes, AreKept, whole_entry, with_account}
use Rattle.stake_book.proofs.Ended.{clear_room, clear_makes}
use Rattle.stake_book.proofs.Kept.{registration_kept}
use Rattle.stake_book.proofs.Weights.{weight_within}
use Rattle.stake_book.proofs.StakeBook.clear_at.Goals as goal

pub change-requires : goal.change-requires
change-requires c =
    let s : Stakes = record { outputs = c.self.inside.outputs; accounts = c.self.inside.accounts } in
    let to : Option Registered = (entry_without c.args.leaving.now (whole_entry s.accounts.live c.args.c)).registered in
    let kept : AreKept (with_account c.args.c to s) = registration_kept c.args.c to s.outputs s.accounts c.self.invariant (clear_room c.args.leaving.now s c.args.c c.self.invariant) in
    record { enough = omega arith; within = weight_within (with_account c.args.c to s) kept }

pub invariant_of-self-2 : goal.invariant_of-self-2
invariant_of-self-2 c =
    let s : Stakes = record { outputs = c.self.inside.outputs; accounts = c.self.inside.accounts } in
    let to : Option Registered = (entry_without c.args.leaving.now (whole_entry s.accounts.live c.args.c)).registered in
    let kept : AreKept (with_account c.args.c to s) = registration_kept c.args.c to s.outputs s.accounts c.self.invariant (clear_room c.args.leaving.now s c.args.c c.self.invariant) in
    subst (λ (s : Stakes). AreKept s) (λ i. record { outputs = s.outputs; accounts = sym c.in_ok-change.ensures.ok i }) kept

pub returns-clause-live : goal.returns-clause-live
returns-clause-live c =
    let s : Stakes = record { outputs = c.self.inside.outputs; accounts = c.self.inside.accounts } in
    ap (λ (a : Accounts). a.live) c.in_ok-change.ensures.ok
    ∙ clear_makes c.args.leaving.now s c.args.c c.self.invariant
    ∙ ap (λ (s : Stakes). changed_at credential_cmp c.args.c (entry_without c.args.leaving.now) s.accounts.live) c.self.view_is
