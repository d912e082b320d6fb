use Rattle.std.proofs.Common.{◌≡◌, List, [], ap, sym, subst, ◌∙◌}
use Rattle.std.specs.List.{All}
use Rattle.std.proofs.lemmas.List.{append-nil}
use Rattle.claims.specs.Blocks.{all_blocks, blocks_from}
use Rattle.claims.proofs.Priorities.{all_are}
use Rattle.gov_actions.specs.declared.action.Proposal.{Proposal}
use Rattle.gov_actions.specs.Kinds.{in_order_of_priority}
use Rattle.gov_ids.specs.Orders.{voter_cmp}
use Rattle.gov_model.specs.Laws.{HaveDistinctIds}
use Rattle.gov_model.specs.Snapshot.{Snapshot}
use Rattle.maps.specs.Maps.{IsMap}
use Rattle.ratify.specs.Wholes.{WholeIsRatified}
use Rattle.report.proofs.Handed.{put_as, put_front, put_nothing}
use Rattle.snapshots.specs.declared.frozen.Frozen.{Frozen}
use Rattle.snapshots.specs.Frozen.{frozen_copy_of}
use Rattle.claims.proofs.blocks.put_blocks.Goals as goal

-- the lines of the whole pass over the frozen proposals are those of all
whole : WholeIsRatified → (s : Snapshot) (f : Frozen) (ps : List Proposal) → f ≡ frozen_copy_of s → HaveDistinctIds f.proposals → ps ≡ f.proposals → blocks_from s [] (in_order_of_priority ps) ≡ all_blocks s
whole law s f ps of distinct same =
    ap (λ (l : List Proposal). blocks_from s [] (in_order_of_priority l)) (same ∙ ap (λ (g : Frozen). g.proposals) of)
    ∙ all_are s (law s (subst (λ (g : Frozen). HaveDistinctIds g.proposals) of distinct))

pub put_priorities-requires-clause-voters : goal.put_priorities-requires-clause-voters
put_priorities-requires-clause-voters g c =
    subst (λ (ps : List Proposal). All (λ (a : Proposal). IsMap voter_cmp a.votes) ps) (sym c.as_slice.ensures) c.requires.voters

pub returns-in_err-passing : goal.returns-in_err-passing
returns-in_err-passing g c = λ s of. put_nothing (all_blocks s) (g.T.LineTaker.taken c.args.to.now) (g.T.LineTaker.faults c.args.to.now) c.from_residual.ensures.1

pub returns-in_err-put_priorities : goal.returns-in_err-put_priorities
returns-in_err-put_priorities g c = λ s of.
    put_front [] (sym (append-nil (all_blocks s)))
    (put_as (whole c.whole_is_ratified.ensures s c.args.f.now c.as_slice.result.now of.frozen c.requires.proposals c.as_slice.ensures)
    ((c.in_err-put_priorities.ensures s of).put [] (c.in_ok-passing.ensures.passed s of.frozen)))
    c.from_residual-in_err-put_priorities.ensures.1

pub returns : goal.returns
returns g c = λ s of.
    put_as (whole c.whole_is_ratified.ensures s c.args.f.now c.as_slice.result.now of.frozen c.requires.proposals c.as_slice.ensures)
    ((c.in_ok-put_priorities.ensures s of).put [] (c.in_ok-passing.ensures.passed s of.frozen))
