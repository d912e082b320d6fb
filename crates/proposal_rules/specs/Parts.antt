-- The rules on a proposal before those of its action, and after them.
-- (CIP-1694, Governance actions; GOV of the formal specification)
use Rattle.std.specs.Prelude.{◌==◌, not, List, [], ◌∷◌}
use Rattle.gov_model.specs.Lineage.{may_follow, follows_version}
use Rattle.tx_records.specs.of_gov_actions.declared.action.Action.{Action}
use Rattle.tx_records.specs.declared.tx.ProposalRecord.{ProposalRecord}
use Rattle.tx_records.specs.declared.rules.TheConstants.{PROPOSAL_DEPOSIT_WRONG, RETURN_WRONG_NETWORK, RETURN_ACCOUNT_UNKNOWN, PREVIOUS_WRONG, CANNOT_FOLLOW}
use Rattle.ledger_model.specs.Ledger.{Ledger, params_of, is_account}
use Rattle.ledger_model.specs.Checks.{Check, breaks, breaks_keeping}

-- the rules on the deposit and the account that gets it back
abbrev pub deposit_checks : Ledger → Ledger → ProposalRecord → List Check
deposit_checks l d p =
    breaks_keeping PROPOSAL_DEPOSIT_WRONG (params_of l).gov_action_deposit (not (p.deposit == (params_of l).gov_action_deposit)) ∷
    breaks RETURN_WRONG_NETWORK (not (p.account.network == l.network)) ∷
    breaks RETURN_ACCOUNT_UNKNOWN (not (is_account d p.account.cred)) ∷
    []

-- the rules on what the action follows
abbrev pub lineage_checks : Ledger → Action → List Check
lineage_checks l a =
    breaks PREVIOUS_WRONG (not (may_follow l.proposals l.state.last a)) ∷
    breaks CANNOT_FOLLOW (not (follows_version l.proposals l.state.last l.state.version a)) ∷
    []
