use Rattle.std.proofs.Common.{◌≡◌, ◌≤◌, List, ap, sym, subst, ◌∙◌}
use Rattle.gov_ids.specs.declared.Credential.{Credential}
use Rattle.gov_ids.specs.Orders.{credential_cmp}
use Rattle.book_records.specs.declared.Entry.{Entry}
use Rattle.coin_frac.specs.declared.TheConstants.{SUPPLY_LIMIT}
use Rattle.maps.specs.Maps.{value_at}
use Rattle.maps.specs.Replaced.{with_option}
use Rattle.accounts.specs.Accounts.{Accounts, with_entry, entered}
use Rattle.stake_book.specs.Changes.{entry_after, or_nothing, taken_by, unless_nothing}
use Rattle.stake_book.specs.Stakes.{stake_at, whole_entry}
use Rattle.stake_book.specs.Summed.{AreSummed, CanBecome, HasBecome}
use Rattle.stake_book.specs.Sums.{weight_in}
use Rattle.stake_book.proofs.Becoming.{whole_is, nothing_or, with_entry_is, can_become, summed_after}
use Rattle.stake_book.proofs.summed.SummedAccounts.change.Goals as goal

pub change-requires : goal.change-requires
change-requires c =
    let a : Accounts = c.self.inside.accounts in
    let before : Entry = or_nothing (value_at credential_cmp a.live c.args.c) in
    let w : before ≡ whole_entry a.live c.args.c = whole_is a.live c.args.c in
    let within : weight_in (with_entry c.args.c (entry_after c.args.by.now (whole_entry a.live c.args.c)) a.live) ≤ SUPPLY_LIMIT =
    subst (λ (a : Accounts). weight_in (with_entry c.args.c (entry_after c.args.by.now (whole_entry a.live c.args.c)) a.live) ≤ SUPPLY_LIMIT) (sym c.self.view_is) c.requires.within in
    let enough = subst (λ (a : Accounts). taken_by c.args.by.now ≤ stake_at a.live c.args.c) (sym c.self.view_is) c.requires.enough in (
      subst (λ (e : Entry). CanBecome e (entry_after c.args.by.now e) c.self.inside.sums) (sym w) (can_become c.self.inside.sums c.args.c a.live c.self.invariant (entry_after c.args.by.now (whole_entry a.live c.args.c)) within),
      subst (λ (e : Entry). taken_by c.args.by.now ≤ e.stake) (sym w) enough,
    )

pub invariant_of-self-2 : goal.invariant_of-self-2
invariant_of-self-2 c =
    let a : Accounts = c.self.inside.accounts in
    let before : Entry = or_nothing (value_at credential_cmp a.live c.args.c) in
    let w : before ≡ whole_entry a.live c.args.c = whole_is a.live c.args.c in
    let within : weight_in (with_entry c.args.c (entry_after c.args.by.now (whole_entry a.live c.args.c)) a.live) ≤ SUPPLY_LIMIT =
    subst (λ (a : Accounts). weight_in (with_entry c.args.c (entry_after c.args.by.now (whole_entry a.live c.args.c)) a.live) ≤ SUPPLY_LIMIT) (sym c.self.view_is) c.requires.within in
    let live : with_option credential_cmp c.args.c (unless_nothing (entry_after c.args.by.now before)) a.live ≡ with_entry c.args.c (entry_after c.args.by.now (whole_entry a.live c.args.c)) a.live =
    with_entry_is c.args.c (entry_after c.args.by.now before) a.live ∙ ap (λ (e : Entry). with_entry c.args.c (entry_after c.args.by.now e) a.live) w in
    let become : HasBecome (whole_entry a.live c.args.c) (entry_after c.args.by.now (whole_entry a.live c.args.c)) c.self.inside.sums c.change.new.follower =
    subst (λ (e : Entry). HasBecome e (entry_after c.args.by.now e) c.self.inside.sums c.change.new.follower) w
    (subst (λ (e : Entry). HasBecome before e c.self.inside.sums c.change.new.follower) (nothing_or (entry_after c.args.by.now before)) c.in_ok-before.ensures.follower) in
    let after = summed_after c.self.inside.sums c.args.c a.live c.self.invariant (entry_after c.args.by.now (whole_entry a.live c.args.c)) c.change.new.follower within become in
    subst (λ (es : List (Credential × Entry)). AreSummed c.change.new.follower es) (sym (ap (λ (a : Accounts). a.live) c.in_ok-before.ensures.ok ∙ live)) after

pub returns-clause-ok : goal.returns-clause-ok
returns-clause-ok c =
    let a : Accounts = c.self.inside.accounts in
    let before : Entry = or_nothing (value_at credential_cmp a.live c.args.c) in
    let w : before ≡ whole_entry a.live c.args.c = whole_is a.live c.args.c in
    let live : with_option credential_cmp c.args.c (unless_nothing (entry_after c.args.by.now before)) a.live ≡ with_entry c.args.c (entry_after c.args.by.now (whole_entry a.live c.args.c)) a.live =
    with_entry_is c.args.c (entry_after c.args.by.now before) a.live ∙ ap (λ (e : Entry). with_entry c.args.c (entry_after c.args.by.now e) a.live) w in
    c.in_ok-before.ensures.ok ∙ (λ i. record a { live = live i })
    ∙ ap (λ (a : Accounts). entered c.args.c (entry_after c.args.by.now (whole_entry a.live c.args.c)) a) c.self.view_is

pub returns-clause-before : goal.returns-clause-before
returns-clause-before c =
    let a : Accounts = c.self.inside.accounts in
    let before : Entry = or_nothing (value_at credential_cmp a.live c.args.c) in
    let w : before ≡ whole_entry a.live c.args.c = whole_is a.live c.args.c in
    c.or_nothing.ensures ∙ ap or_nothing c.in_ok-before.ensures.value ∙ w ∙ ap (λ (a : Accounts). whole_entry a.live c.args.c) c.self.view_is
