-- The table of who may vote on what: three roles by the seven types of actions. (CIP-1694, Ratification: who votes on each type)
use Rattle.std.specs.Prelude.{◌≡◌, Bool, true, false, List, [], ◌∷◌, None, Some, map, refl}
use Rattle.gov_actions.specs.declared.action.Action.{Action}
use Rattle.gov_actions.specs.declared.action.Action.TheVariants as actions
use Rattle.gov_actions.specs.Voting.{may_vote}
use Rattle.gov_ids.specs.declared.Voter.{Voter}
use Rattle.gov_ids.specs.declared.Voter.TheVariants as voter
use Rattle.ledger_rows.proofs.Base.{key, pool, account_on, share, h32, no_update}

-- each type; of changes of parameters one without and one with a security parameter
abbrev types : List Action
types =
    actions.NoConfidence None ∷
    actions.UpdateCommittee None [] ((key 0x60, 50) ∷ []) (share 1 2) ∷
    actions.NewConstitution None (h32 2) None ∷
    actions.HardForkInitiation None (11, 0) ∷
    actions.ParameterChange None (record no_update { key_deposit = Some 1 }) None ∷
    actions.ParameterChange None (record no_update { key_deposit = Some 1; min_fee_a = Some 1 }) None ∷
    actions.TreasuryWithdrawals ((account_on 1 (key 0x12), 1) ∷ []) None ∷
    actions.Info ∷
    []

-- on which of them a voter may vote
abbrev votes_on : Voter → List Bool
votes_on v = map (may_vote v) types

pub committee : votes_on (voter.Committee (key 0x71)) ≡ false ∷ false ∷ true ∷ true ∷ true ∷ true ∷ true ∷ true ∷ []
committee = refl

pub dreps : votes_on (voter.Drep (key 0x30)) ≡ true ∷ true ∷ true ∷ true ∷ true ∷ true ∷ true ∷ true ∷ []
dreps = refl

pub pools : votes_on (voter.Pool (pool 0x50)) ≡ true ∷ true ∷ false ∷ true ∷ false ∷ true ∷ false ∷ true ∷ []
pools = refl
