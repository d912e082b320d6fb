use Rattle.std.proofs.Common.{ℕ, ◌+◌, ◌<◌, ◌^◌, Option, option_map, unwrap_or, ap, subst, sym, ◌∙◌}
use Rattle.std.specs.Option.{ForSome}
use Rattle.std.specs.Prelude.{if◌then◌else◌}
use Rattle.gov_ids.specs.Derived.{credential_is}
use Rattle.gov_ids.specs.Orders.{credential_cmp}
use Rattle.book_records.specs.declared.DrepState.{DrepState}
use Rattle.maps.specs.Maps.{value_at}
use Rattle.draft_changes.specs.ChangedDreps.{ChangedDreps, awakened, laid_over}
use Rattle.draft_changes.proofs.Awaking.{drep_now}
use Rattle.draft_changes.proofs.drep_changes.DrepChanges.latest.Goals as goal

pub returns : goal.returns
returns c =
    let a = c.self.inside in
    let book = c.args.book.now in
    let q = c.args.c.now in
    let fits : ForSome c.get.result (λ (s : DrepState). s.expiry + c.dormant.result < 2 ^ 64) =
    subst (λ (o : Option DrepState). ForSome o (λ (s : DrepState). s.expiry + c.dormant.result < 2 ^ 64)) (sym c.get.ensures.value)
    (subst (λ (n : ℕ). ForSome (value_at credential_cmp book.dreps q) (λ (s : DrepState). s.expiry + n < 2 ^ 64)) (sym c.dormant.ensures) c.requires.fit) in
    let before = c.awakened-before.ensures fits
    ∙ (λ i. if a.refreshed then option_map (awakened c.args.epoch (c.dormant.ensures i)) (c.get.ensures.value i) else c.get.ensures.value i) in
    let changed = c.copied.ensures ∙ c.get-2.ensures.value ∙ (λ i. value_at (credential_is i) a.entries.entries q) in
    c.unwrap_or.ensures ∙ (λ i. unwrap_or (changed i) (before i))
    ∙ sym (drep_now a.entries.entries a.refreshed c.args.epoch book.dormant book.dreps q c.self.invariant c.get.ensures.in_order)
    ∙ ap (λ (x : ChangedDreps). value_at credential_cmp (laid_over x c.args.epoch book).dreps q) c.self.view_is
