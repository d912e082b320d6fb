-- What a ledger requires before proposals are added. (Own)
use Rattle.std.specs.Prelude.{◌≡◌, ℕ, List, None}
use Rattle.gov_actions.specs.declared.action.Proposal.{Proposal}
use Rattle.gov_ids.specs.declared.TxId.{TxId}
use Rattle.gov_model.specs.Proposals.{proposal_of}

-- none of these was proposed by this transaction
abbrev pub IsUnknown : TxId → List Proposal → Type 0
IsUnknown id ps = (i : ℕ) → proposal_of (record { tx = id; index = i }) ps ≡ None
