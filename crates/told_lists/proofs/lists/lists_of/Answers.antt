use Rattle.std.proofs.Common.{◌≡◌, ℕ, Some, map, true, sym, subst}
use Rattle.text_forms.specs.Lines.{are_short_lines}
use Rattle.text_forms.specs.Snapshots.{action_words}
use Rattle.state_lists.specs.declared.lists.StateLists.{StateLists}
use Rattle.resumable_lists.specs.Shown.{IsShown}
use Rattle.shown_lists.specs.Only.{IsOnly}
use Rattle.told_lists.specs.Told.{IsListed, told_by}
use Rattle.told_lists.proofs.ListParts.{are_shown, lists_only, no_epoch, no_live, own_ids}
use Rattle.told_lists.proofs.lists.lists_of.Goals as goal

pub returns-in_default-clause-told : goal.returns-in_default-clause-told
returns-in_default-clause-told c = no_live c.args.gathered (rw c.in_default.is at c.in_ok-governed.ensures)

pub epoch_of-requires : goal.epoch_of-requires
epoch_of-requires c = own_ids c.args.gathered (c.in-Some.governed, c.in-Some.books) (rw c.in-Some.is at c.in_ok-governed.ensures)

pub returns-in_default-2-clause-told : goal.returns-in_default-2-clause-told
returns-in_default-2-clause-told c =
    no_epoch c.args.gathered (c.in-Some.governed, c.in-Some.books) (rw c.in-Some.is at c.in_ok-governed.ensures) (rw c.in_default-2.is at c.in_ok-epoch.ensures)

pub returns-clause-told : goal.returns-clause-told
returns-clause-told c =
    subst (λ (x : StateLists × ℕ). IsOnly (λ (x : StateLists × ℕ). IsListed x.0) told_by c.args.gathered (Some x)) (sym c.state_of.ensures)
    (lists_only c.args.gathered (c.in-Some.governed, c.in-Some.books) (rw c.in-Some.is at c.in_ok-governed.ensures) c.in-Some-2.epoch (rw c.in-Some-2.is at c.in_ok-epoch.ensures))

pub returns-clause-shown : goal.returns-clause-shown
returns-clause-shown c =
    subst (λ (x : StateLists × ℕ). are_short_lines (map action_words x.0.books.proposals) ≡ true → IsShown x.0) (sym c.state_of.ensures)
    (are_shown c.args.gathered (c.in-Some.governed, c.in-Some.books) (rw c.in-Some.is at c.in_ok-governed.ensures) c.in-Some-2.epoch (rw c.in-Some-2.is at c.in_ok-epoch.ensures) c.requires)
