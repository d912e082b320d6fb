-- What is said of each part of payments, said of all together.
use Rattle.std.proofs.Common.{◌≡◌, ℕ, List, Result, Ok, Err, IfOk}
use Rattle.book_records.specs.declared.Registered.{Registered}
use Rattle.gov_actions.specs.declared.state.EnactState.{EnactState}
use Rattle.gov_ids.specs.declared.Credential.{Credential}
use Rattle.gov_ids.specs.Orders.{credential_cmp}
use Rattle.payments.specs.Amounts.{accounts_credited}
use Rattle.payments.specs.Credited.{AreCredited}
use Rattle.stake_book.specs.Stakes.{Stakes, accounts_of}
use Rattle.view_map.specs.View.{frozen_of}

-- the accounts and the state that payments leave, where they end well
pub all_credited : {E : Type 0} (r : Result (Stakes × EnactState) E) (ps : List (Credential × ℕ)) (accounts : List (Credential × Registered)) (treasury : ℕ) (stake : Stakes) (state : EnactState)
    → IfOk r (λ x. accounts_of x.0 ≡ accounts_credited ps accounts)
    → IfOk r (λ x. x.0.outputs ≡ stake.outputs)
    → IfOk r (λ x. frozen_of credential_cmp x.0.accounts ≡ frozen_of credential_cmp stake.accounts)
    → IfOk r (λ x. x.1 ≡ record state { treasury = treasury })
    → IfOk r (λ x. AreCredited ps accounts treasury stake state x.0 x.1)
all_credited (Ok x) ps accounts treasury stake state credited outputs frozen held = record { credited = credited; outputs = outputs; frozen = frozen; held = held }
all_credited (Err e) ps accounts treasury stake state credited outputs frozen held = tt
