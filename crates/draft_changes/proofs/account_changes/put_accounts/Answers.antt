use Rattle.std.proofs.Common.{List, Option, ap, arith, subst, ◌∙◌}
use Rattle.std.specs.declared.cmp.Ordering.{Ordering}
use Rattle.gov_ids.specs.declared.Credential.{Credential}
use Rattle.gov_ids.specs.Derived.{credential_is}
use Rattle.book_records.specs.declared.Registered.{Registered}
use Rattle.maps.specs.Maps.{IsMap}
use Rattle.stake_book.specs.Stakes.{Stakes, accounts_of, balances_in}
use Rattle.draft_changes.specs.Changed.{with_registered}
use Rattle.draft_changes.specs.declared.account_changes.Written.{Written}
use Rattle.draft_changes.proofs.Lowering.{IsLaying, laying_begins, laying_next, laying_room}
use Rattle.draft_changes.proofs.account_changes.put_accounts.Goals as goal

pub loop-credential-init : goal.loop-credential-init
loop-credential-init c =
    let g = c.into_iter-credential-iterator.ensures.into_iter_gives in
    laying_begins c.args.left.now.entries c.args.changed.entries _ c.args.stake.now g.0 (subst (λ (cmp : Credential → Credential → Ordering). IsMap cmp c.args.changed.entries) credential_is g.5)
    c.requires.in_order c.requires.room c.requires.lower

pub set_account-requires : goal.set_account-requires
set_account-requires c =
    let left = c.args.left.now.entries in
    let now = c.loop-credential.stake in
    let h = subst (λ (es : List (Credential × Written)). IsLaying left c.args.changed.entries es c.args.stake.now now) c.in-Some.ensures.steps c.loop-credential.invariant in
    record {
      room = omega (
        arith,
        laying_room left c.args.changed.entries c.next.new.self c.args.stake.now now c.in-Some.credential c.in-Some.written h,
        ap (λ (to : Option Registered). balances_in (with_registered c.in-Some.credential to (accounts_of now))) c.standing.ensures,
      );
    }

pub loop-credential-preserved : goal.loop-credential-preserved
loop-credential-preserved c =
    let left = c.args.left.now.entries in
    let now = c.loop-credential.stake in
    let e = c.in_ok-set_account.ensures in
    laying_next left c.args.changed.entries c.next.new.self c.args.stake.now now c.in-Some.credential c.in-Some.written
    (subst (λ (es : List (Credential × Written)). IsLaying left c.args.changed.entries es c.args.stake.now now) c.in-Some.ensures.steps c.loop-credential.invariant)
    c.set_account.new.self
    (e.registered ∙ ap (λ (to : Option Registered). with_registered c.in-Some.credential to (accounts_of now)) c.standing.ensures)
    (ap (λ (s : Stakes). s.outputs) e.ok)
    e.frozen
