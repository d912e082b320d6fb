use Rattle.std.proofs.Common.{◌≡◌, ap, subst, sym, ◌∙◌}
use Rattle.gov_ids.specs.Orders.{credential_cmp}
use Rattle.gov_ids.proofs.Totals.{credential_total}
use Rattle.maps.proofs.Kept.{IsMap-with_values}
use Rattle.maps.specs.Maps.{IsMap}
use Rattle.stake_book.specs.Stakes.{Stakes}
use Rattle.resumed_books.proofs.Noted.{frozen_are}
use Rattle.resumed_books.specs.Noted.{added_to}
use Rattle.resumed_books.proofs.frozen.with_frozen.Goals as goal

pub note_none-requires : goal.note_none-requires
note_none-requires c =
    let entries = c.args.entries in
    let f = c.freeze.new.self in
    let live = subst (λ (s : Stakes). IsMap credential_cmp s.accounts.frozen) (sym c.freeze.ensures.fields) c.freeze.ensures.kept.live in
    subst (λ (s : Stakes). IsMap credential_cmp s.accounts.frozen) (sym c.in_ok-note_entries.ensures) (IsMap-with_values credential_total entries f.accounts.frozen live)

pub returns : goal.returns
returns c =
    let entries = c.args.entries in
    let added : c.as_slice-2.result.now ≡ added_to entries c.args.stake.accounts.live =
    c.as_slice-2.ensures.value ∙ c.in_ok-added.ensures ∙ (λ i. added_to (c.as_slice.ensures i) (c.book.ensures.value i).live) ∙ ap (λ (s : Stakes). added_to entries s.accounts.live) c.freeze.ensures.fields in
    frozen_are entries c.args.stake c.freeze.new.self c.note_entries.new.stake c.note_none.new.stake c.as_slice-2.result.now c.requires c.freeze.ensures.kept.live c.freeze.ensures.fields
    c.in_ok-note_entries.ensures added c.in_ok-note_none.ensures
