-- What the balances come to, at most, after one registration is set.
use Rattle.std.proofs.Common.{◌+◌, ◌≤◌, List, Option, Some, None, arith}
use Rattle.std.specs.BTreeMap.{is_at}
use Rattle.std.proofs.lemmas.Map.Entries.{sum_by-insert_entry, sum_by-remove_entry}
use Rattle.gov_ids.specs.declared.Credential.{Credential}
use Rattle.gov_ids.specs.Orders.{credential_cmp}
use Rattle.gov_ids.proofs.Totals.{credential_total}
use Rattle.book_records.specs.declared.Registered.{Registered}
use Rattle.maps.specs.Maps.{IsMap}
use Rattle.maps.specs.Replaced.{with_option}
use Rattle.maps.specs.Words.{amount}
use Rattle.stake_book.specs.Stakes.{balances_in}

pub balances_within : (c : Credential) (to : Option Registered) (es : List (Credential × Registered)) → IsMap credential_cmp es → balances_in (with_option credential_cmp c to es) ≤ balances_in es + amount (λ (r : Registered). r.rewards) to
balances_within c None es h = omega (arith, sum_by-remove_entry (λ (r : Registered). r.rewards) (is_at (credential_cmp c)) es)
balances_within c (Some r) es h = omega (arith, sum_by-insert_entry (λ (r : Registered). r.rewards) credential_total es c r h)
