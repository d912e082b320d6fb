-- What a pass comes to over a snapshot with ids of its own: its list is the one that is ratified, and all else goes by that.
use Rattle.std.proofs.Common.{◌≡◌, List, Result, Ok, Err, IfOk, ap, ◌∙◌}
use Rattle.drep_pulser.specs.Count.{Ended}
use Rattle.gov_ids.specs.declared.ActionId.{ActionId}
use Rattle.gov_model.specs.Laws.{HaveDistinctIds, OneListIsRatified}
use Rattle.gov_model.specs.Ratified.{IsRatified, ratified_of}
use Rattle.gov_model.specs.Snapshot.{Snapshot}
use Rattle.epoch_steps.specs.of_ratify.declared.outcome.Outcome.{Outcome}
use Rattle.snapshots.specs.declared.frozen.Frozen.{Frozen}
use Rattle.tally.specs.Counted.{AreOf, ForSnapshot}

-- the outcome's list is ratified of each snapshot that the frozen epoch and its count are of
abbrev pub Ratifies : Frozen → Ended → Outcome → Type 0
Ratifies f c o = ForSnapshot f c (λ x. IsRatified x o.ratified)

module _ (law : OneListIsRatified) (s : Snapshot) (f : Frozen) (c : Ended) (are : AreOf s f c) (own : HaveDistinctIds s.proposals) where
  one_list : (o : Outcome) → Ratifies f c o → o.ratified ≡ ratified_of s
  one_list o is = (law s own).1 o.ratified (is s are)

  pub ratified_is : {E : Type 0} (r : Result Outcome E) → IfOk r (Ratifies f c) → IfOk r (λ o. o.ratified ≡ ratified_of s)
  ratified_is (Ok o) is = one_list o is
  ratified_is (Err e) is = tt

  -- a part of the outcome that is told by its list
  pub by_ratified : {E A : Type 0} (part : Outcome → A) (by : Snapshot → List ActionId → A) (r : Result Outcome E) → IfOk r (Ratifies f c)
      → IfOk r (λ o. ForSnapshot f c (λ x. part o ≡ by x o.ratified)) → IfOk r (λ o. part o ≡ by s (ratified_of s))
  by_ratified part by (Ok o) is told = told s are ∙ ap (by s) (one_list o is)
  by_ratified part by (Err e) is told = tt
