-- The words of a line of the state. (Own)
use Rattle.std.specs.Prelude.{List}
use Rattle.state_lines.specs.SnapshotNames.{snapshot_text}
use Rattle.state_lines.specs.declared.actions.Proposed.{Proposed}
use Rattle.state_lines.specs.declared.state_line.StateLine.{StateLine}
use Rattle.state_lines.specs.declared.state_line.StateLine.TheVariants.{Now, Constitution, Committee, Member, Hot, Enacted, Drep, Pool, NextTerms, Account, Output, Asset, Proposal, Vote, Snapshot, NotedFees, Pending, NonePending, PendingReward}
use Rattle.text_model.specs.StateLines.{account_words, asset_words, committee_words, drep_words, hot_words, next_words, none_pending_words, noted_fees_words, output_words, pending_reward_words, pending_words, pool_words, snapshot_words, words_of_constitution, words_of_enacted, words_of_member, words_of_now, words_of_proposal, words_of_vote}
use Rattle.text_model.specs.Words.{Text}

-- of a proposal
abbrev pub proposed_words : Proposed → List Text
proposed_words p = words_of_proposal p.id p.action.now p.deposit p.account p.expires_after

-- of a line
abbrev pub state_words : StateLine → List Text
state_words (Now slot epoch version dormant) = words_of_now slot epoch version dormant
state_words (Constitution document script) = words_of_constitution document.now script.now
state_words (Committee committee) = committee_words committee.now
state_words (Member member hot) = words_of_member member.now hot.now
state_words (Hot cold hot) = hot_words (cold.now, hot.now)
state_words (Enacted last) = words_of_enacted last.now
state_words (Drep credential drep) = drep_words (credential.now, drep.now)
state_words (Pool id pool) = pool_words id.now pool.now
state_words (NextTerms id terms) = next_words id.now terms.now
state_words (Account credential entry) = account_words (credential.now, entry.now)
state_words (Output reference output) = output_words (reference.now, output.now)
state_words (Asset held) = asset_words held.now
state_words (Proposal proposed) = proposed_words proposed
state_words (Vote id cast) = words_of_vote id.now cast.now
state_words (Snapshot name stake) = snapshot_words (snapshot_text name) stake.now
state_words (NotedFees fees) = noted_fees_words fees
state_words (Pending update) = pending_words update.now
state_words NonePending = none_pending_words
state_words (PendingReward reward) = pending_reward_words reward.now
