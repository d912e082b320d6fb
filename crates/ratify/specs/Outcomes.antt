-- What a list of ratified proposals leaves.
-- (CIP-1694, Ratification and Lifecycle; RATIFY and ENACT of the formal specification)
use Rattle.std.specs.Prelude.{ℕ, Bool, ◌&&◌, not, List, filter, nat_lt}
use Rattle.gov_ids.specs.declared.ActionId.{ActionId}
use Rattle.gov_actions.specs.declared.action.Proposal.{Proposal}
use Rattle.gov_actions.specs.declared.state.EnactState.{EnactState}
use Rattle.gov_model.specs.Enacted.{enacted_after}
use Rattle.gov_model.specs.Ratified.{ids_of, is_one_of, order_of}
use Rattle.gov_model.specs.Snapshot.{Snapshot}
use Rattle.snapshots.specs.declared.frozen.Frozen.{Frozen}

-- the state after these proposals were enacted, in order of priority
abbrev pub state_by : Snapshot → List ActionId → EnactState
state_by s ids = enacted_after s (filter (is_one_of ids) (order_of s))

-- the proposal is none of these, and its last epoch has passed
abbrev pub is_over : ℕ → List ActionId → Proposal → Bool
is_over epoch ids a = not (is_one_of ids a) && nat_lt a.expires_after epoch

-- the frozen proposals that are over, in order of submission
abbrev pub expired_by : Frozen → List ActionId → List ActionId
expired_by f ids = ids_of (filter (is_over f.epoch ids) f.proposals)
