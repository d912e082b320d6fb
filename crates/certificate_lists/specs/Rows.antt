-- The lines of the snapshot of a certificate, and what they say. (Own)
use Rattle.std.specs.Prelude.{ℕ, Bool, ◌&&◌, ◌++◌, List, [], ◌∷◌, codes, decimal, flat_map, map, option_map}
use Rattle.std.specs.List.{list_all}
use Rattle.maps.specs.Words.{none_or}
use Rattle.gov_ids.specs.declared.ActionId.{ActionId}
use Rattle.gov_ids.specs.declared.Voter.{Voter}
use Rattle.gov_actions.specs.declared.action.Action.{Action}
use Rattle.gov_actions.specs.declared.action.Proposal.{Proposal}
use Rattle.gov_actions.specs.declared.action.Vote.{Vote}
use Rattle.gov_model.specs.Sides.{members_of}
use Rattle.gov_model.specs.Snapshot.{Snapshot}
use Rattle.text_forms.specs.Actions.{is_version}
use Rattle.text_forms.specs.Books as books
use Rattle.text_forms.specs.Ids.{is_unit}
use Rattle.text_forms.specs.Snapshots.{expiry_words}
use Rattle.text_forms.specs.States.{are_last_ids, are_params}
use Rattle.text_model.specs.ParamLines.{param_lines}
use Rattle.text_model.specs.StateLines.{account_words, hot_outside, hot_words, words_of_enacted}
use Rattle.text_model.specs.Words.{Text, version_text}
use Rattle.tx_records.specs.Limits.{is_u64}
use Rattle.certificate_model.specs.Certificate.{mark_words}
use Rattle.action_kinds.specs.Lines.{action_line, is_action_line}
use Rattle.book_kinds.specs.Books.{is_vote_line, vote_line}
use Rattle.book_kinds.specs.Frozen.{is_pool_account_line, pool_account_line}
use Rattle.state_kinds.specs.declared.proposals.ProposalRow.{ProposalRow}
use Rattle.state_kinds.specs.Proposals.{is_proposal_line, proposal_line}
use Rattle.state_kinds.specs.States.{committee_line, constitution_line, is_constitution_line, is_member_line, member_line}
use Rattle.checkpoint_lists.specs.Rows.{are_rows, rows_of}
use Rattle.checkpoint_lists.specs.Shown.{member_row, pool_account_row, proposal_row}
use Rattle.certificate_lists.specs.declared.rows.GovernedRows.{GovernedRows}
use Rattle.certificate_lists.specs.declared.rows.SnapshotRows.{SnapshotRows}
use Rattle.certificate_lists.specs.declared.rows.VoterRows.{VoterRows}

-- ---- the first line

-- the epoch that ends, with the version and the treasury at its beginning
abbrev pub certificate_line : ℕ × (ℕ × ℕ) × ℕ → List Text
certificate_line h =
    codes "certificate" ∷ codes "epoch" ∷ decimal h.0 ∷ codes "version" ∷ version_text h.1 ∷ codes "treasury" ∷ decimal h.2 ∷ []

-- its form
abbrev pub is_certificate_line : ℕ × (ℕ × ℕ) × ℕ → Bool
is_certificate_line h = is_u64 h.0 && is_version h.1 && is_u64 h.2

-- ---- the lines

-- the epoch, and how it was governed
abbrev pub governed_rows : GovernedRows → List (List Text)
governed_rows g =
    certificate_line g.head ∷ constitution_line g.constitution ∷ committee_line g.threshold ∷ []
    ++ map member_line g.members
    ++ map hot_words g.hot
    ++ words_of_enacted g.last ∷ []

-- who votes
abbrev pub voter_rows : VoterRows → List (List Text)
voter_rows v = map expiry_words v.dreps ++ map pool_account_line v.pools ++ map mark_words v.mark ++ map account_words v.entries

-- a proposal without its action and with its votes, and its action
abbrev pub WholeRow : Type 0
WholeRow = (ProposalRow × List (ActionId × (Voter × Vote))) × (ActionId × Action)

-- the lines of a proposal
abbrev pub whole_rows : WholeRow → List (List Text)
whole_rows x = rows_of proposal_line vote_line x.0 ++ action_line x.1 ∷ []

-- all lines, group by group
abbrev pub snapshot_rows : SnapshotRows → List (List Text)
snapshot_rows s = governed_rows s.governed ++ param_lines s.params ++ voter_rows s.voters ++ flat_map whole_rows s.proposals

-- ---- their form: what a single line shows

-- the epoch, and how it was governed
abbrev pub has_governed_form : GovernedRows → Bool
has_governed_form g =
    is_certificate_line g.head && is_constitution_line g.constitution && none_or is_unit g.threshold
    && list_all is_member_line g.members && list_all books.is_hot g.hot && are_last_ids g.last

-- who votes
abbrev pub has_voter_form : VoterRows → Bool
has_voter_form v =
    list_all books.is_frozen_drep v.dreps && list_all is_pool_account_line v.pools && list_all books.is_stake v.mark && list_all books.is_entry v.entries

-- a proposal
abbrev pub is_whole_row : WholeRow → Bool
is_whole_row x = are_rows is_proposal_line is_vote_line x.0 && is_action_line x.1

-- all of them
abbrev pub has_snapshot_form : SnapshotRows → Bool
has_snapshot_form s = has_governed_form s.governed && are_params s.params && has_voter_form s.voters && list_all is_whole_row s.proposals

-- ---- what the lines of a snapshot say

-- the epoch, and how it was governed
abbrev pub governed_shown : Snapshot → GovernedRows
governed_shown f = record {
  head = (f.epoch, f.start.version, f.start.treasury);
  constitution = (f.start.document, f.start.script);
  threshold = option_map (λ c. c.threshold) f.start.committee;
  members = map (member_row f.hot) (members_of f.start.committee);
  hot = hot_outside f.start.committee f.hot;
  last = f.start.last;
}

-- who votes
abbrev pub voters_shown : Snapshot → VoterRows
voters_shown f = record { dreps = f.dreps; pools = map (pool_account_row f) f.mark; mark = f.mark; entries = f.entries }

-- a proposal without its action, and that
abbrev pub whole_row : Proposal → WholeRow
whole_row p = (proposal_row p, (p.id, p.action))

-- all of it
abbrev pub rows_shown : Snapshot → SnapshotRows
rows_shown f = record { governed = governed_shown f; params = f.start.params; voters = voters_shown f; proposals = map whole_row f.proposals }

-- ---- the lines after them

-- none of the lines after a snapshot begins like a line of these
abbrev pub snapshot_stops : List Text
snapshot_stops = codes "proposal " ∷ codes "account " ∷ codes "mark " ∷ codes "pool " ∷ codes "drep " ∷ []
