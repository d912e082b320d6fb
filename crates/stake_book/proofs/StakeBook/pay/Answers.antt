use Rattle.std.proofs.Common.{◌≡◌, true, is_some, Option, option_map, ap, sym, subst, ◌∙◌, arith}
use Rattle.gov_ids.specs.Orders.{credential_cmp}
use Rattle.book_records.specs.declared.Entry.{Entry}
use Rattle.book_records.specs.declared.Registered.{Registered}
use Rattle.maps.specs.Maps.{has_key}
use Rattle.stake_book.specs.Paid.{rewarded, with_payment}
use Rattle.stake_book.specs.Stakes.{Stakes, AreKept, HasRoom, accounts_of, registered_at, with_account}
use Rattle.stake_book.proofs.Kept.{registration_kept}
use Rattle.stake_book.proofs.Paying.{pay_room, pay_makes}
use Rattle.stake_book.proofs.Registrations.{value_at-registrations}
use Rattle.stake_book.proofs.Weights.{weight_within}
use Rattle.stake_book.proofs.StakeBook.pay.Goals as goal

pub change-requires : goal.change-requires
change-requires c =
    let s : Stakes = record { outputs = c.self.inside.outputs; accounts = c.self.inside.accounts } in
    let room : has_key credential_cmp (accounts_of s) c.args.c.now ≡ true → HasRoom c.args.amount s = subst (λ (s : Stakes). has_key credential_cmp (accounts_of s) c.args.c.now ≡ true → HasRoom c.args.amount s) (sym c.self.view_is) c.requires.room in
    let to : Option Registered = option_map (rewarded c.args.amount) (registered_at s.accounts.live c.args.c.now) in
    let kept : AreKept (with_account c.args.c.now to s) = registration_kept c.args.c.now to s.outputs s.accounts c.self.invariant (pay_room c.args.c.now c.args.amount s c.self.invariant room) in
    record { enough = omega arith; within = weight_within (with_account c.args.c.now to s) kept }

pub invariant_of-self-2 : goal.invariant_of-self-2
invariant_of-self-2 c =
    let s : Stakes = record { outputs = c.self.inside.outputs; accounts = c.self.inside.accounts } in
    let room : has_key credential_cmp (accounts_of s) c.args.c.now ≡ true → HasRoom c.args.amount s = subst (λ (s : Stakes). has_key credential_cmp (accounts_of s) c.args.c.now ≡ true → HasRoom c.args.amount s) (sym c.self.view_is) c.requires.room in
    let to : Option Registered = option_map (rewarded c.args.amount) (registered_at s.accounts.live c.args.c.now) in
    let kept : AreKept (with_account c.args.c.now to s) = registration_kept c.args.c.now to s.outputs s.accounts c.self.invariant (pay_room c.args.c.now c.args.amount s c.self.invariant room) in
    subst (λ (s : Stakes). AreKept s) (λ i. record { outputs = s.outputs; accounts = sym c.in_ok-before.ensures.ok i }) kept

pub returns-clause-paid : goal.returns-clause-paid
returns-clause-paid c =
    let s : Stakes = record { outputs = c.self.inside.outputs; accounts = c.self.inside.accounts } in
    c.is_some.ensures ∙ ap (λ (e : Entry). is_some e.registered) c.in_ok-before.ensures.before
    ∙ ap (λ (o : Option Registered). is_some o) (sym (value_at-registrations s.accounts.live c.args.c.now c.self.invariant.live))
    ∙ ap (λ (s : Stakes). has_key credential_cmp (accounts_of s) c.args.c.now) c.self.view_is

pub returns-clause-registered : goal.returns-clause-registered
returns-clause-registered c =
    let s : Stakes = record { outputs = c.self.inside.outputs; accounts = c.self.inside.accounts } in
    let room : has_key credential_cmp (accounts_of s) c.args.c.now ≡ true → HasRoom c.args.amount s = subst (λ (s : Stakes). has_key credential_cmp (accounts_of s) c.args.c.now ≡ true → HasRoom c.args.amount s) (sym c.self.view_is) c.requires.room in
    pay_makes c.args.c.now c.args.amount s c.self.invariant room _ c.in_ok-before.ensures.ok
    ∙ ap (λ (s : Stakes). with_payment c.args.c.now c.args.amount (accounts_of s)) c.self.view_is
