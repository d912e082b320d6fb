-- What payments change in accounts and state; outputs and frozen entries remain.
-- (EPOCH of the formal specification)
use Rattle.std.specs.Prelude.{◌≡◌, ℕ, ◌+◌, ◌-◌, List}
use Rattle.book_records.specs.declared.Registered.{Registered}
use Rattle.gov_actions.specs.declared.state.EnactState.{EnactState}
use Rattle.gov_ids.specs.declared.Credential.{Credential}
use Rattle.gov_ids.specs.Orders.{credential_cmp}
use Rattle.payments.specs.Amounts.{accounts_credited, claimed_of, unclaimed_of}
use Rattle.stake_book.specs.Stakes.{Stakes, accounts_of}
use Rattle.view_map.specs.View.{frozen_of}

-- these accounts have their amounts, and the state has this treasury
pub record AreCredited (ps : List (Credential × ℕ)) (accounts : List (Credential × Registered)) (treasury : ℕ) (stake : Stakes) (state : EnactState) (after : Stakes) (left : EnactState) : Type 0 where
  pub credited : accounts_of after ≡ accounts_credited ps accounts
  pub outputs : after.outputs ≡ stake.outputs
  pub frozen : frozen_of credential_cmp after.accounts ≡ frozen_of credential_cmp stake.accounts
  pub held : left ≡ record state { treasury = treasury }

-- the treasury has what no account claims
abbrev pub ArePaidOut : List (Credential × ℕ) → Stakes → EnactState → Stakes → EnactState → Type 0
ArePaidOut ps stake state after left =
    AreCredited ps (accounts_of stake) (state.treasury + unclaimed_of (accounts_of stake) ps) stake state after left

-- the treasury paid what accounts claim
abbrev pub ArePaidFrom : List (Credential × ℕ) → Stakes → EnactState → Stakes → EnactState → Type 0
ArePaidFrom ps stake state after left =
    AreCredited ps (accounts_of stake) (state.treasury - claimed_of (accounts_of stake) ps) stake state after left
