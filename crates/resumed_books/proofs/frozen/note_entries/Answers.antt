use Rattle.std.proofs.Common.{subst, sym, ◌∙◌}
use Rattle.gov_ids.specs.Orders.{credential_cmp}
use Rattle.gov_ids.proofs.Totals.{credential_total}
use Rattle.maps.proofs.Kept.{IsMap-with_value}
use Rattle.maps.specs.Maps.{IsMap, with_values}
use Rattle.stake_book.specs.Stakes.{Stakes}
use Rattle.resumed_books.proofs.Noted.{noted_next}
use Rattle.resumed_books.specs.Noted.{with_frozen}
use Rattle.resumed_books.proofs.frozen.note_entries.Goals as goal

pub loop-credential-init : goal.loop-credential-init
loop-credential-init c =
    let s = c.args.stake.now in
    record {
      in_order = c.requires;
      rest = λ i. with_frozen (with_values credential_cmp (c.as_slice-credential-items.ensures i) s.accounts.frozen) s;
    }

pub loop-credential-preserved : goal.loop-credential-preserved
loop-credential-preserved c =
    let items = c.as_slice-credential-items.result.now in
    let i = c.loop-credential.credential-index in
    let old = c.loop-credential.stake in
    let h = c.loop-credential.invariant in
    let put = c.in_ok-note_entry.ensures in
    record {
      in_order = subst (λ (s : Stakes). IsMap credential_cmp s.accounts.frozen) (sym put) (IsMap-with_value credential_total _ _ old.accounts.frozen h.in_order);
      rest = noted_next items i _ old c.note_entry.new.stake c.loop-credential-test.true put ∙ h.rest;
    }
