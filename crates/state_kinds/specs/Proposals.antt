-- What the words of the line of a proposal read as. (Own)
use Rattle.std.specs.Prelude.{Bool, ◌&&◌, if◌then◌else◌, List, [], ◌∷◌, Option, Some, None, bytes_eq, codes, decimal}
use Rattle.maps.specs.Words.{none_or}
use Rattle.gov_ids.specs.Spelling.{◌>>=◌, account_of, account_text, action_id_of, action_id_text}
use Rattle.gov_actions.specs.declared.action.ActionKind.{ActionKind}
use Rattle.gov_actions.specs.declared.action.ActionKind.TheVariants as kind
use Rattle.gov_actions.specs.declared.action.Proposal.{Proposal}
use Rattle.gov_actions.specs.Kinds.{kind_of, previous_of}
use Rattle.text_forms.specs.Ids.{is_account_id, is_action_id}
use Rattle.text_model.specs.ActionWords.{kind_text}
use Rattle.text_model.specs.Words.{Text, or_none}
use Rattle.tx_records.specs.Limits.{is_u64}
use Rattle.line_kinds.specs.Cuts.{word_at}
use Rattle.line_kinds.specs.Numbers.{number_of}
use Rattle.book_kinds.specs.Words.{or_none_of}
use Rattle.state_kinds.specs.declared.proposals.ProposalRow.{ProposalRow}

-- what the line of a proposal says of it
abbrev pub row_of : Proposal → ProposalRow
row_of p = record {
  id = p.id;
  kind = kind_of p.action;
  deposit = p.deposit;
  account = p.account;
  expires_after = p.expires_after;
  previous = previous_of p.action;
}

-- the type of an action
abbrev pub kind_of_text : Text → Option ActionKind
kind_of_text t =
    if bytes_eq t (codes "NoConfidence") then Some kind.NoConfidence
    else if bytes_eq t (codes "UpdateCommittee") then Some kind.UpdateCommittee
    else if bytes_eq t (codes "NewConstitution") then Some kind.NewConstitution
    else if bytes_eq t (codes "HardForkInitiation") then Some kind.HardForkInitiation
    else if bytes_eq t (codes "ParameterChange") then Some kind.ParameterChange
    else if bytes_eq t (codes "TreasuryWithdrawals") then Some kind.TreasuryWithdrawals
    else if bytes_eq t (codes "Info") then Some kind.Info
    else None

-- a proposal without its action
abbrev pub proposal_in : List Text → Option ProposalRow
proposal_in ws = do
  id ← action_id_of (word_at 1 ws)
  kind ← kind_of_text (word_at 2 ws)
  deposit ← number_of (word_at 4 ws)
  account ← account_of (word_at 6 ws)
  expires_after ← number_of (word_at 8 ws)
  previous ← or_none_of action_id_of (word_at 10 ws)
  Some (record { id = id; kind = kind; deposit = deposit; account = account; expires_after = expires_after; previous = previous })

-- its words
abbrev pub proposal_line : ProposalRow → List Text
proposal_line r =
    codes "proposal" ∷ action_id_text r.id ∷ kind_text r.kind ∷
    codes "deposit" ∷ decimal r.deposit ∷ codes "return" ∷ account_text r.account ∷
    codes "expires" ∷ decimal r.expires_after ∷ codes "previous" ∷ or_none action_id_text r.previous ∷
    []

-- its form
abbrev pub is_proposal_line : ProposalRow → Bool
is_proposal_line r = is_action_id r.id && is_u64 r.deposit && is_account_id r.account && is_u64 r.expires_after && none_or is_action_id r.previous
