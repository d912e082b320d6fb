-- The targets of withdrawals. (CIP-1694, Governance actions: treasury withdrawals)
use Rattle.std.specs.Prelude.{ℕ, List, filter, flat_map}
use Rattle.gov_actions.specs.declared.action.Proposal.{Proposal}
use Rattle.gov_ids.specs.declared.Account.{Account}
use Rattle.gov_ids.specs.declared.ActionId.{ActionId}
use Rattle.gov_model.specs.Ratified.{is_one_of}
use Rattle.run_model.specs.Boundary.{targets_of}

-- the targets of those proposals whose ids are among these, in order
abbrev pub targets_among : List ActionId → List Proposal → List (Account × ℕ)
targets_among ids ps = flat_map (λ (p : Proposal). targets_of p.action) (filter (is_one_of ids) ps)
