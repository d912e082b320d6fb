-- When a ledger with its undo log is the state of a followed stream. (Own)
use Rattle.std.specs.Prelude.{◌≡◌, List}
use Rattle.follow_model.specs.Chain.{Chain, no_records, world_of_chain}
use Rattle.follow_model.specs.Follow.{chain_after_all}
use Rattle.follow_model.specs.Laws.{IsFollowed}
use Rattle.follow_records.specs.declared.record.FollowRecord.{FollowRecord}
use Rattle.run_model.specs.Genesis.{world_of_genesis}
use Rattle.run_model.specs.World.{World}
use Rattle.tx_records.specs.declared.genesis.Genesis.{Genesis}
use Rattle.undo_log.specs.Logs.{Log}
use Rattle.following.specs.Logged.{IsLogOf}
use Rattle.following.specs.declared.followed.Followed.{Followed}

-- the World and the log of a stream that began with the World start and has this chain
pub record Follows (w : World) (log : Log) (start : World) (c : Chain) : Type 0 where
  pub genesis : Genesis
  pub records : List FollowRecord
  pub followed : IsFollowed genesis records
  pub begins : start ≡ world_of_genesis genesis
  pub chain : c ≡ chain_after_all start no_records records
  pub world : w ≡ world_of_chain start c
  pub logged : IsLogOf start c.kept w log

-- the same of a state
abbrev pub follows_state : Followed → World → Chain → Type 0
follows_state s start c = Follows s.held.ledger s.log start c
