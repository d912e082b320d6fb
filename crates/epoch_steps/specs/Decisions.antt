-- What a snapshot decides and reports. (CIP-1694, Ratification; RATIFY of the formal specification)
use Rattle.std.specs.Prelude.{◌≡◌, ℕ, List, filter}
use Rattle.gov_actions.specs.declared.action.Proposal.{Proposal}
use Rattle.gov_actions.specs.declared.state.EnactState.{EnactState}
use Rattle.gov_ids.specs.declared.Account.{Account}
use Rattle.gov_ids.specs.declared.ActionId.{ActionId}
use Rattle.gov_model.specs.Enacted.{enacted_after}
use Rattle.gov_model.specs.Ratified.{expired_of, is_one_of, order_of, ratified_of, tallies_of}
use Rattle.gov_model.specs.Snapshot.{Snapshot}
use Rattle.epoch_pass.specs.Reported.{AreDecided}
use Rattle.frozen_reads.specs.Targets.{targets_among}
use Rattle.run_model.specs.Report.{stakes_of}
use Rattle.epoch_steps.specs.declared.pass.Decided.{Decided}

-- what it ratifies, in the order in which it is enacted: run_model's `enacted_proposals`
abbrev pub enacted_by : Snapshot → List Proposal
enacted_by s = filter (is_one_of (ratified_of s)) (order_of s)

-- all of it
abbrev pub decided_of : Snapshot → Decided
decided_of s = record {
  ratified = ratified_of s;
  expired = expired_of s (ratified_of s);
  state = enacted_after s (enacted_by s);
  tallies = tallies_of s (ratified_of s);
  stakes = stakes_of s;
  targets = targets_among (ratified_of s) (order_of s);
}

-- these are the lists, the state and the targets of what it decides
pub record AreOfPass (f : Snapshot) (enacted over : List ActionId) (state : EnactState) (due : List (Account × ℕ)) : Type 0 where
  pub lists : AreDecided f enacted over
  pub state_is : state ≡ enacted_after f (enacted_by f)
  pub targets_are : due ≡ targets_among (ratified_of f) (order_of f)
