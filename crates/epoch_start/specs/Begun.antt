-- The World in which the epoch of books begins. (NEWEPOCH of the formal specification)
use Rattle.std.specs.Prelude.{List, filter_map, option_map}
use Rattle.gov_ids.specs.declared.Account.{Account}
use Rattle.gov_ids.specs.declared.PoolId.{PoolId}
use Rattle.run_model.specs.Boundary.{frozen_anew}
use Rattle.run_model.specs.Genesis.{no_snapshot}
use Rattle.run_model.specs.World.{World}
use Rattle.ledger_books.specs.declared.Books.{Books}
use Rattle.ledger_books.specs.Parts.{world_of_books}
use Rattle.snapshots.specs.declared.frozen.FrozenPool.{FrozenPool}

-- these books are frozen anew, whatever was frozen before, and nothing is counted
abbrev pub begun_of : Books → World
begun_of b = frozen_anew (world_of_books b 0 (no_snapshot b.state))

-- the reward accounts of the frozen pools that are registered
abbrev pub accounts_of_pools : List FrozenPool → List (PoolId × Account)
accounts_of_pools pools = filter_map (λ (p : FrozenPool). option_map (λ (a : Account). (p.pool, a)) p.account) pools
