-- Old values put back one after another, and that there is room at each step. (Own)
use Rattle.std.specs.Prelude.{ℕ, ◌+◌, ◌≤◌, List, Option, fold, take}
use Rattle.std.specs.declared.cmp.Ordering.{Ordering}
use Rattle.maps.specs.Maps.{without_key}
use Rattle.maps.specs.Replaced.{with_option}
use Rattle.gov_ids.specs.declared.Credential.{Credential}
use Rattle.gov_ids.specs.declared.OutRef.{OutRef}
use Rattle.gov_ids.specs.declared.Voter.{Voter}
use Rattle.gov_ids.specs.Orders.{credential_cmp, outref_cmp, voter_cmp}
use Rattle.book_records.specs.declared.Output.{Output}
use Rattle.book_records.specs.declared.Registered.{Registered}
use Rattle.book_records.specs.Outputs.{lovelace_in}
use Rattle.coin_frac.specs.declared.TheConstants.{SUPPLY_LIMIT}
use Rattle.gov_actions.specs.declared.action.Proposal.{Proposal}
use Rattle.gov_actions.specs.declared.action.Vote.{Vote}
use Rattle.stake_book.specs.Stakes.{balances_in}
use Rattle.undo_model.specs.Undone.{with_old}

-- the map without the entries at these names
abbrev pub without_named : {K X : Type 0} → (K → K → Ordering) → List (K × Option X) → List (K × X) → List (K × X)
without_named cmp olds es = fold (λ fs old. without_key cmp old.0 fs) es olds

-- after each number of old outputs, they and these balances are at most the supply limit
abbrev pub OutputsFit : ℕ → List (OutRef × Option Output) → List (OutRef × Output) → Type 0
OutputsFit balances olds es = (n : ℕ) → lovelace_in (with_old outref_cmp (take n olds) es) + balances ≤ SUPPLY_LIMIT

-- after each number of old accounts, their balances and this lovelace are at most the supply limit
abbrev pub AccountsFit : ℕ → List (Credential × Option Registered) → List (Credential × Registered) → Type 0
AccountsFit lovelace olds es = (n : ℕ) → lovelace + balances_in (with_old credential_cmp (take n olds) es) ≤ SUPPLY_LIMIT

-- a proposal on which the vote of a voter is this one, or none
abbrev pub with_old_vote : Voter → Option Vote → Proposal → Proposal
with_old_vote v to p = record p { votes = with_option voter_cmp v to p.votes }
