-- A pass that hands over the parts and the verdict of each proposal that it looks at. (Own)
use Rattle.std.specs.Prelude.{◌≡◌, ℕ, List, ◌++◌, Result, Ok, Err, IfOk, flat_map, zip}
use Rattle.byte_lines.specs.declared.sink.SinkFault.{SinkFault}
use Rattle.certificate_model.specs.Certificate.{claim_of_proposal}
use Rattle.gov_actions.specs.declared.action.Proposal.{Proposal}
use Rattle.gov_model.specs.Ratified.{order_of, ratified_of, tallies_of}
use Rattle.gov_model.specs.Snapshot.{Snapshot}
use Rattle.maps.specs.Words.{fronts_from}
use Rattle.ratify.specs.declared.passing.Passing.{Passing}
use Rattle.ratify.specs.Passes.{passing_after, tally_after}
use Rattle.report.specs.Taking.{HasPut}
use Rattle.text_model.specs.Words.{Text}

-- whether it was done, without what it gave
abbrev pub done_of : {A E : Type 0} → Result A E → Result (Unit {0}) E
done_of (Ok x) = Ok tt
done_of (Err e) = Err e

-- the lines of these proposals, which are looked at after those of front
abbrev pub blocks_from : Snapshot → List Proposal → List Proposal → List (List Text)
blocks_from s front more = flat_map (λ x. claim_of_proposal s (x.1, tally_after s x)) (fronts_from front more)

-- the lines of all proposals
abbrev pub all_blocks : Snapshot → List (List Text)
all_blocks s = flat_map (claim_of_proposal s) (zip (order_of s) (tallies_of s (ratified_of s)))

-- the lines of these proposals were handed over, after whichever front the pass was, and the pass
-- has looked at them
pub record IsPassed {T : Type 0} (add : T → Text → T) (IsPart : T → Text → T → Type 0) (n : ℕ) (t t' : T) (faults faults' : ℕ) (s : Snapshot) (before : Passing) (more : List Proposal)
    (result : Result Passing SinkFault) : Type 0 where
  pub put : (front : List Proposal) → before ≡ passing_after s front → HasPut add IsPart n t (blocks_from s front more) t' faults faults' (done_of result)
  pub after : (front : List Proposal) → before ≡ passing_after s front → IfOk result (λ p. p ≡ passing_after s (front ++ more))
