use Rattle.std.proofs.Common.{◌≡◌, ◌==◌, List, length, true, ap, sym, ◌∙◌}
use Rattle.std.proofs.lemmas.Bool.{eqb-true}
use Rattle.std.specs.declared.cmp.Ordering.{Ordering}
use Rattle.gov_ids.specs.Derived.{credential_is}
use Rattle.gov_ids.specs.declared.Credential.{Credential}
use Rattle.book_records.specs.declared.Entry.{Entry}
use Rattle.maps.specs.Maps.{in_order}
use Rattle.stake_book.specs.Stakes.{registrations, accounts_of, without_dreps}
use Rattle.stake_book.specs.declared.leaving.Leaving.TheVariants.{Dreps}
use Rattle.stake_book.proofs.Ended.{registrations_without, any_drep_order, no_drep}
use Rattle.stake_book.proofs.StakeBook.clear_dreps.Goals as goal

pub returns-then-is_empty-clause-registered : goal.returns-then-is_empty-clause-registered
returns-then-is_empty-clause-registered c =
    let none : (length c.args.dreps.now == 0) ≡ true = sym c.is_empty.ensures ∙ c.if-is_empty.true in
    sym (no_drep c.args.dreps.now (accounts_of c.args.self.now) (eqb-true (length c.args.dreps.now) 0 none))

pub returns-clause-registered : goal.returns-clause-registered
returns-clause-registered c =
    ap (λ (es : List (Credential × Entry)). registrations es) c.in_ok-clear.ensures.live
    ∙ registrations_without (Dreps c.in_ok-dreps.dreps) c.args.self.now.accounts.live
    ∙ ap (λ (cs : List Credential). without_dreps cs (accounts_of c.args.self.now)) c.in_ok-dreps.ensures
    ∙ ap (λ (cmp : Credential → Credential → Ordering). without_dreps (in_order cmp c.args.dreps.now) (accounts_of c.args.self.now)) credential_is
    ∙ any_drep_order c.args.dreps.now (accounts_of c.args.self.now)
