-- The result of a pass over all frozen proposals. (CIP-1694, Ratification)
use Rattle.std.specs.Prelude.{◌≡◌, map}
use Rattle.maps.specs.Words.{with_fronts}
use Rattle.gov_model.specs.Laws.{HaveDistinctIds}
use Rattle.gov_model.specs.Ratified.{IsRatified, order_of, ratified_of, tallies_of}
use Rattle.gov_model.specs.Snapshot.{Snapshot}
use Rattle.ratify.specs.Outcomes.{state_by}
use Rattle.ratify.specs.Passes.{passing_after, tally_after}

-- the pass after all in order of priority, and its tallies, are those of the ratified list
pub record IsOfOneList (s : Snapshot) : Type 0 where
  pub list : (passing_after s (order_of s)).ratified ≡ ratified_of s
  pub ratified : IsRatified s (ratified_of s)
  pub state : (passing_after s (order_of s)).state ≡ state_by s (ratified_of s)
  pub tallies : map (tally_after s) (with_fronts (order_of s)) ≡ tallies_of s (ratified_of s)

-- this holds of each snapshot whose proposals have distinct ids
abbrev pub WholeIsRatified : Type 0
WholeIsRatified = (s : Snapshot) → HaveDistinctIds s.proposals → IsOfOneList s
