use Rattle.std.proofs.Common.{◌≡◌, ◌+◌, ◌^◌, ◌<◌, true, Option, option_map, ap, sym, subst, ◌∙◌, rules}
use Rattle.std.specs.Option.{ForSome}
use Rattle.std.specs.Prelude.{if◌then◌else◌}
use Rattle.book_records.specs.declared.DrepState.{DrepState}
use Rattle.maps.proofs.Retained.{written_and_kept, entries_where_all}
use Rattle.maps.specs.Maps.{each_value}
use Rattle.draft_changes.specs.ChangedDreps.{AllAddable, ChangedDreps, awakened, with_refresh}
use Rattle.draft_changes.specs.Changed.{dormant_by}
use Rattle.draft_changes.proofs.drep_changes.DrepChanges.refresh.Goals as goal

pub returns : goal.returns
returns c =
    let a = c.self.inside in
    let n = c.dormant-dormant.result in
    let entries = a.entries.entries in
    let fit : AllAddable n entries =
    subst (λ m. AllAddable m entries) (sym c.dormant-dormant.ensures)
    (subst (λ b. AllAddable (dormant_by b c.args.book.now.dormant) entries) c.if-self.false
    (subst (λ (x : ChangedDreps). AllAddable (dormant_by x.refreshed c.args.book.now.dormant) x.dreps) (sym c.self.view_is) c.requires.fit)) in
    let written : c.retain.new.self.entries ≡ each_value (λ q to. option_map (awakened c.args.epoch n) to) entries =
    written_and_kept _ (λ (to : Option DrepState). ForSome to (λ (s : DrepState). s.expiry + n < 2 ^ 64)) (λ k to. true) (λ k to. option_map (awakened c.args.epoch n) to) _ (λ k v b w g t fits. search rules) entries _ fit c.retain.ensures.filtered
    ∙ entries_where_all (each_value (λ q to. option_map (awakened c.args.epoch n) to) entries) in
    (λ i. record { dreps = written i; refreshed = true })
    ∙ (λ i. record { dreps = each_value (λ q to. option_map (awakened c.args.epoch (c.dormant-dormant.ensures i)) to) entries; refreshed = true })
    ∙ ap (λ b. if b then record { dreps = entries; refreshed = a.refreshed } else record {
      dreps = each_value (λ q to. option_map (awakened c.args.epoch c.args.book.now.dormant) to) entries;
      refreshed = true;
    }) (sym c.if-self.false)
    ∙ ap (λ (x : ChangedDreps). with_refresh c.args.epoch c.args.book.now.dormant x) c.self.view_is
