-- What a record of this outcome adds to the counts of a summary, and what `load` tells. (Own)
use Rattle.std.specs.Prelude.{[]}
use Rattle.ledger_model.specs.Supply.{pots_of}
use Rattle.load_options.specs.declared.command.LoadCommand.{LoadCommand}
use Rattle.load_summary.specs.Counting.{block_counted, crossing_counted, other_counted, reply_counted, summary_with}
use Rattle.load_summary.specs.declared.counts.LoadCounts.{LoadCounts}
use Rattle.replay_loop.specs.declared.outcome.Outcome.{Outcome}
use Rattle.replay_loop.specs.declared.outcome.Outcome.TheVariants.{Answered, Pots, Block, Crossed, State, Assets}
use Rattle.replay_loop.specs.Loads.{summary_text}
use Rattle.replay_loop.specs.Plays.{Telling, nothing_ahead}

-- the counts with it
abbrev pub outcome_counted : LoadCounts → Outcome → LoadCounts
outcome_counted c (Answered reply) = reply_counted c reply
outcome_counted c (Pots word pots) = other_counted c
outcome_counted c Block = block_counted c
outcome_counted c (Crossed report pots) = crossing_counted c report.tallies
outcome_counted c State = other_counted c
outcome_counted c Assets = other_counted c

-- the command, and what was counted so far
pub record Counted : Type 0 where
  pub command : LoadCommand
  pub counts : LoadCounts

-- nothing for a record, and the summary at the end
abbrev pub counts_told : Telling Counted
counts_told = record {
  aheads = nothing_ahead;
  keeps = λ k n w o. record k { counts = outcome_counted k.counts o };
  tells = λ k n w o. [];
  closes = λ k w n. summary_text (summary_with k.command.seed k.command.accounts k.command.epochs k.counts (pots_of w.ledger));
}
