use Rattle.std.proofs.Common.{◌≡◌, ℕ, List, [], sum_by, ap, sym, ◌∙◌, arith}
use Rattle.std.proofs.lemmas.List.{drop_all}
use Rattle.std.proofs.lemmas.List.Sums.{sum_by-drop_more}
use Rattle.gov_ids.specs.declared.CredKind.TheVariants.{Key}
use Rattle.gov_ids.specs.declared.Credential.{Credential}
use Rattle.gov_ids.specs.declared.Drep.TheVariants as drep
use Rattle.drep_pulser.specs.Count.{sum_for}
use Rattle.tally.specs.Adding.{with_side, with_sides}
use Rattle.tally.proofs.DrepSides.{sides_of_dreps, dreps_counted}
use Rattle.tally.proofs.dreps.drep_count.Goals as goal

abbrev nobody : Credential × ℕ
nobody = (record { hash = []; kind = Key }, 0)

pub with_side-count-requires-clause-fits : goal.with_side-count-requires-clause-fits
with_side-count-requires-clause-fits c =
    let items = c.as_slice-drep-items.result.now in
    let weigh : Credential × ℕ → ℕ = λ d. sum_for c.args.c.now.sums (drep.Registered d.0) in
    let more = sum_by-drop_more weigh items c.loop-drep.drep-index nobody c.loop-drep-test.true in
    let all : sum_by weigh items ≡ sum_by weigh c.args.f.now.dreps = ap (sum_by weigh) c.as_slice-drep-items.ensures in
    omega (arith, more, all, c.stake.ensures.sum, c.loop-drep.invariant.room, c.requires.fits)

pub returns : goal.returns
returns c = λ s e is.
    let f = c.args.f.now in
    let counts = c.args.c.now in
    let a = c.args.a.now in
    let items = c.as_slice-drep-items.result.now in
    let none = drop_all c.loop-drep.drep-index items c.loop-drep-test.false in
    let all : c.loop-drep.count ≡ with_sides (0, 0) (sides_of_dreps f counts a f.dreps) =
    sym (ap (λ (ds : List (Credential × ℕ)). with_sides c.loop-drep.count (sides_of_dreps f counts a ds)) none)
    ∙ c.loop-drep.invariant.rest
    ∙ ap (λ (ds : List (Credential × ℕ)). with_sides (0, 0) (sides_of_dreps f counts a ds)) c.as_slice-drep-items.ensures in
    c.with_side.ensures ∙ (λ i. with_side (all i) (c.stake-2.ensures.sum i) (c.no_confidence_side.ensures i)) ∙ dreps_counted f counts a s e is
