-- What the lines of a checkpoint show of plain lists, before they are tested. (Own)
use Rattle.std.specs.Prelude.{◌≡◌, true, map}
use Rattle.std.specs.List.{list_all}
use Rattle.maps.specs.Words.{none_or}
use Rattle.tx_records.specs.Limits.{is_u64}
use Rattle.ledger_model.specs.Supply.{pots_of}
use Rattle.text_forms.specs.Books.{are_rewards, is_stake}
use Rattle.text_forms.specs.Lines.{are_short_lines}
use Rattle.text_forms.specs.Snapshots.{action_words}
use Rattle.text_forms.specs.States.{is_state}
use Rattle.checkpoint_model.specs.Resumable.{live_of, unvoted}
use Rattle.resume_checks.specs.Forms.{have_frozen_form, have_items_form}
use Rattle.state_lists.specs.declared.lists.StateLists.{StateLists}
use Rattle.state_lists.specs.Worlds.{frozen_of_lists, ledger_of_lists}

-- each item has the form of the formats, and what the lines say twice is the same
pub record IsShown (s : StateLists) : Type 0 where
  pub state : is_state s.state ≡ true
  pub items : have_items_form (ledger_of_lists s) ≡ true
  pub frozen : have_frozen_form (frozen_of_lists s) ≡ true
  pub pending : none_or are_rewards s.pending ≡ true
  pub mark : list_all is_stake s.stakes.mark ≡ true
  pub set : list_all is_stake s.stakes.set ≡ true
  pub go : list_all is_stake s.stakes.go ≡ true
  pub noted_fees : is_u64 s.stakes.fees ≡ true
  pub counted : is_u64 s.counted ≡ true
  -- the pots are those of the lists
  pub pots : pots_of (ledger_of_lists s) ≡ s.pots
  -- the frozen proposals are live and in the same order, except for their votes
  pub proposals : map unvoted (live_of s.frozen.proposals s.books.proposals) ≡ map unvoted s.frozen.proposals
  -- no line of an action is too long
  pub short : are_short_lines (map action_words s.books.proposals) ≡ true
