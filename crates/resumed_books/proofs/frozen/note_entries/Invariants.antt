use Rattle.std.proofs.Common.{◌≡◌, drop}
use Rattle.gov_ids.specs.Orders.{credential_cmp}
use Rattle.maps.specs.Maps.{IsMap, with_values}
use Rattle.resumed_books.specs.Noted.{with_frozen}
use Rattle.resumed_books.proofs.frozen.note_entries.Given as goal

-- what is left noted over the entries so far is all noted
abbrev pub invariant-loop-credential : goal.invariant-loop-credential
invariant-loop-credential l = record {
  in_order : IsMap credential_cmp l.stake.accounts.frozen;
  rest : with_frozen (with_values credential_cmp (drop l.credential-index l.credential-items) l.stake.accounts.frozen) l.stake
      ≡ with_frozen (with_values credential_cmp l.fn.entries l.fn.stake.accounts.frozen) l.fn.stake;
}
