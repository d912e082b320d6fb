-- The reply to a record of a followed stream, and the chain that the record leaves. (Own)
use Rattle.std.specs.Prelude.{ℕ, not, List, [], ◌∷◌, Option, Some, None, fold}
use Rattle.tx_records.specs.declared.reply.Reply.{Reply}
use Rattle.tx_records.specs.declared.reply.Reply.TheVariants.{Accepted, Refused}
use Rattle.tx_records.specs.declared.reply.Rule.{Rule}
use Rattle.run_model.specs.of_ledger_model.Checks.{Check, breaks_keeping, first_among}
use Rattle.run_model.specs.Step.{acceptance_of, refusal_of}
use Rattle.run_model.specs.World.{World}
use Rattle.follow_records.specs.declared.record.FollowRecord.{FollowRecord}
use Rattle.follow_records.specs.declared.record.FollowRecord.TheVariants.{Plain, Rollback}
use Rattle.follow_records.specs.declared.rules.TheConstants.{ROLLBACK_UNKNOWN}
use Rattle.follow_model.specs.Chain.{Chain, is_known_block, no_records, taken_back_to, with_record, world_of_chain}

-- the rule on a rollback
abbrev pub rollback_checks : World → Chain → ℕ → List Check
rollback_checks w c slot = breaks_keeping ROLLBACK_UNKNOWN w.ledger.slot (not (is_known_block w c slot)) ∷ []

-- the first rule that the record breaks
abbrev pub follow_refusal : World → Chain → FollowRecord → Option Rule
follow_refusal start c (Plain r) = refusal_of (world_of_chain start c) r
follow_refusal start c (Rollback slot) = first_among (rollback_checks (world_of_chain start c) c slot)

-- the chain after a record that breaks no rule
abbrev pub chain_after_accepted : Chain → FollowRecord → Chain
chain_after_accepted c (Plain r) = with_record r c
chain_after_accepted c (Rollback slot) = taken_back_to slot c

-- the reply to a record that breaks no rule
abbrev pub follow_acceptance : FollowRecord → Reply
follow_acceptance (Plain r) = acceptance_of r
follow_acceptance (Rollback slot) = Accepted

-- the chain and the reply, by the first rule that is broken
abbrev pub follow_step_by : Option Rule → Chain → FollowRecord → Chain × Reply
follow_step_by (Some rule) c r = (c, Refused rule)
follow_step_by None c r = (chain_after_accepted c r, follow_acceptance r)

-- the chain after a record, and the reply
abbrev pub follow_step : World → Chain → FollowRecord → Chain × Reply
follow_step start c r = follow_step_by (follow_refusal start c r) c r

-- the chain after these records
abbrev pub chain_after_all : World → Chain → List FollowRecord → Chain
chain_after_all start c rs = fold (λ d r. (follow_step start d r).0) c rs

-- the replies to these records
abbrev pub follow_replies : World → Chain → List FollowRecord → List Reply
follow_replies start c [] = []
follow_replies start c (r ∷ rs) = (follow_step start c r).1 ∷ follow_replies start (follow_step start c r).0 rs

-- the World after these records of a stream that begins with the World start
abbrev pub followed_world : World → List FollowRecord → World
followed_world start rs = world_of_chain start (chain_after_all start no_records rs)
