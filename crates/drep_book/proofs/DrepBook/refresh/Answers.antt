use Rattle.std.proofs.Common.{◌≡◌, ◌+◌, ◌^◌, ◌<◌, ℕ, true, if◌then◌else◌, ap, sym, subst, ◌∙◌, rules}
use Rattle.book_records.specs.declared.DrepState.{DrepState}
use Rattle.book_records.specs.Dormancy.{is_kept_active, extended, with_dormant_added, AllFit}
use Rattle.maps.proofs.Retained.{written_and_kept, entries_where_all}
use Rattle.drep_book.specs.Dreps.{Dreps}
use Rattle.drep_book.proofs.NoneAdded.{none_added}
use Rattle.drep_book.proofs.DrepBook.refresh.Goals as goal

pub returns-then-self-eq0-clause-dreps : goal.returns-then-self-eq0-clause-dreps
returns-then-self-eq0-clause-dreps c =
    let none : c.args.self.now.dormant ≡ 0 = ap (λ (b : Dreps). b.dormant) (sym c.self.view_is) ∙ c.if-self-eq0.true in
    sym (none_added c.args.epoch c.args.self.now.dreps) ∙ ap (λ (n : ℕ). with_dormant_added c.args.epoch n c.args.self.now.dreps) (sym none)

pub returns-clause-dreps : goal.returns-clause-dreps
returns-clause-dreps c =
    let n = c.self.inside.dormant in
    let fit = subst (λ (b : Dreps). AllFit b.dormant b.dreps) (sym c.self.view_is) c.requires.fit in
    written_and_kept _ (λ (d : DrepState). d.expiry + n < 2 ^ 64) (λ k d. true) (λ k d. if is_kept_active c.args.epoch n d then extended n d else d) _ (λ k v b w g t fits. search rules) c.self.inside.dreps.entries _ fit c.retain.ensures.filtered
    ∙ entries_where_all _
    ∙ ap (λ (b : Dreps). with_dormant_added c.args.epoch b.dormant b.dreps) c.self.view_is
