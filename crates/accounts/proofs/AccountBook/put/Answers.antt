use Rattle.std.proofs.Common.{◌≡◌, Bool, true, false, cond, ap, sym, ◌∙◌}
use Rattle.gov_ids.specs.declared.Credential.{Credential}
use Rattle.gov_ids.specs.Orders.{credential_cmp}
use Rattle.gov_ids.specs.Derived.{credential_is}
use Rattle.book_records.specs.declared.Entry.{Entry}
use Rattle.maps.specs.Maps.{with_value, without_key}
use Rattle.accounts.specs.Accounts.{Accounts, entered}
use Rattle.accounts.proofs.AccountBook.put.Goals as goal

-- the two ways in which an entry is put
abbrev both : Credential → Entry → Accounts → Bool → Accounts
both c e a b = record a { live = cond b (without_key credential_cmp c a.live) (with_value credential_cmp c e a.live) }

pub returns-in_ok-remove-clause-ok : goal.returns-in_ok-remove-clause-ok
returns-in_ok-remove-clause-ok c =
    let view : Accounts = c.self.inside.view in
    let changed : c.remove.new.self ≡ both c.args.c c.args.e view true = c.in_ok-remove.ensures.ok ∙ (λ i. record view { live = without_key (credential_is i) c.args.c view.live }) in
    changed ∙ ap (both c.args.c c.args.e view) (sym (sym c.is_empty.ensures ∙ c.if-is_empty.true)) ∙ ap (λ (a : Accounts). entered c.args.c c.args.e a) c.self.view_is

pub returns-in_ok-remove-clause-frozen : goal.returns-in_ok-remove-clause-frozen
returns-in_ok-remove-clause-frozen c = ap (λ (a : Accounts). a.frozen) (returns-in_ok-remove-clause-ok c)

pub returns-in_ok-put-clause-ok : goal.returns-in_ok-put-clause-ok
returns-in_ok-put-clause-ok c =
    let view : Accounts = c.self.inside.view in
    let changed : c.put.new.self ≡ both c.args.c c.args.e view false = c.in_ok-put.ensures.ok ∙ (λ i. record view { live = with_value (credential_is i) c.args.c c.args.e view.live }) in
    changed ∙ ap (both c.args.c c.args.e view) (sym (sym c.is_empty.ensures ∙ c.if-is_empty.false)) ∙ ap (λ (a : Accounts). entered c.args.c c.args.e a) c.self.view_is

pub returns-in_ok-put-clause-frozen : goal.returns-in_ok-put-clause-frozen
returns-in_ok-put-clause-frozen c = ap (λ (a : Accounts). a.frozen) (returns-in_ok-put-clause-ok c)
