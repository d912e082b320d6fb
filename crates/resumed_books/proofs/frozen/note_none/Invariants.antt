use Rattle.std.proofs.Common.{◌≡◌, drop}
use Rattle.gov_ids.specs.Orders.{credential_cmp}
use Rattle.maps.specs.Maps.{IsMap, without_keys}
use Rattle.resumed_books.specs.Noted.{with_frozen}
use Rattle.resumed_books.proofs.frozen.note_none.Given as goal

-- the entries so far without those that are left are the entries without all
abbrev pub invariant-loop-credential : goal.invariant-loop-credential
invariant-loop-credential l = record {
  in_order : IsMap credential_cmp l.stake.accounts.frozen;
  rest : with_frozen (without_keys credential_cmp (drop l.credential-index l.credentials) l.stake.accounts.frozen) l.stake
      ≡ with_frozen (without_keys credential_cmp l.credentials l.fn.stake.accounts.frozen) l.fn.stake;
}
