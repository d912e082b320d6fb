-- What the lines of the checkpoint of plain lists say, and which lists they say. (Own)
use Rattle.std.specs.Prelude.{◌≡◌, ℕ, ◌==◌, Bool, List, nat_le, not, map, true}
use Rattle.std.specs.List.{list_all}
use Rattle.maps.specs.Words.{none_or, repeats}
use Rattle.gov_ids.specs.Orders.{action_id_cmp, credential_cmp, pool_cmp, voter_cmp}
use Rattle.gov_actions.specs.declared.action.Proposal.{Proposal}
use Rattle.text_forms.specs.of_gov_model.Ratified.{ids_of}
use Rattle.text_forms.specs.of_ledger_model.Supply.{pots_of}
use Rattle.tx_records.specs.declared.limits.TheConstants.{LEAST_MAJOR}
use Rattle.tx_records.specs.Limits.{is_network, is_u32}
use Rattle.text_forms.specs.Ids.{is_map}
use Rattle.checkpoint_model.specs.Resumable.{live_of, unvoted}
use Rattle.resume_checks.specs.Forms.{are_accounts_of}
use Rattle.state_lists.specs.declared.lists.StateLists.{StateLists}
use Rattle.state_lists.specs.Worlds.{ledger_of_lists, world_of_lists}
use Rattle.book_rows.specs.Assets.{are_assets}
use Rattle.checkpoint_reader.specs.declared.read.Gathered.{Gathered}
use Rattle.checkpoint_reader.specs.Gathered.{gathered_shown}
use Rattle.committee_rows.specs.Shown.{IsGoverning}

-- the votes on each proposal are in order, each voter once
abbrev pub have_votes_in_order : List Proposal → Bool
have_votes_in_order ps = list_all (λ (p : Proposal). is_map voter_cmp p.votes) ps

-- lists that the lines of their checkpoint say: a state that can be resumed has such lists
pub record IsListed (s : StateLists) : Type 0 where
  pub network : is_network s.clock.network ≡ true
  pub length : is_u32 s.clock.epoch_length ≡ true
  pub version : nat_le LEAST_MAJOR s.state.version.0 ≡ true
  pub assets : list_all (λ o. are_assets o.1.assets) s.books.outputs ≡ true
  pub accounts : is_map credential_cmp s.books.accounts ≡ true
  pub governing : IsGoverning (s.state.committee, s.books.hot)
  pub mark : is_map pool_cmp s.stakes.mark ≡ true
  pub pool_accounts : are_accounts_of s.stakes.mark s.frozen.pool_accounts ≡ true
  -- no two live proposals have one id; the frozen ones are live ones with other votes
  pub ids : not (repeats action_id_cmp (ids_of s.books.proposals)) ≡ true
  pub frozen : map unvoted (live_of s.frozen.proposals s.books.proposals) ≡ map unvoted s.frozen.proposals
  pub votes : have_votes_in_order s.books.proposals ≡ true
  pub frozen_votes : have_votes_in_order s.frozen.proposals ≡ true
  -- what is pending is of the current epoch
  pub pending : none_or (λ u. u.epoch == s.clock.epoch) s.pending ≡ true
  pub pots : pots_of (ledger_of_lists s) ≡ s.pots

-- what the lines of their checkpoint say, made after a line
abbrev pub told_by : StateLists × ℕ → Gathered
told_by x = gathered_shown (world_of_lists x.0) x.1
