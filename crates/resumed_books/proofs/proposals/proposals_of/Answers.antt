use Rattle.std.proofs.Common.{◌≡◌, List, [], ◌∷◌, ◌++◌, append_assoc, ap, arith, length, sym, ◌∙◌}
use Rattle.std.specs.Vec.Iter.{into_iter_items}
use Rattle.std.proofs.lemmas.List.{append-nil}
use Rattle.gov_actions.specs.declared.action.Proposal.{Proposal}
use Rattle.resumed_books.proofs.Put.{none_left}
use Rattle.resumed_books.proofs.Stored.{absent_before, room_before, ordered_at}
use Rattle.resumed_books.proofs.proposals.proposals_of.Goals as goal

pub loop-proposal-preserved : goal.loop-proposal-preserved
loop-proposal-preserved c =
    let h = c.loop-proposal.invariant in
    let p = c.in-Some.proposal in
    let rest = into_iter_items c.next.new.self in
    let left = into_iter_items c.loop-proposal.proposal-iterator in
    let store = c.loop-proposal.store in
    let steps : left ≡ p ∷ rest = c.in-Some.ensures.steps.0 in
    record {
      left =
          let was = h.left in
          let gone = c.in-Some.ensures.steps.1 in
          let short = ap (λ (xs : List Proposal). length xs) steps in
          omega arith;
      all = ap (λ (ps : List Proposal). ps ++ rest) c.in_ok-add.ensures.ok ∙ append_assoc store (p ∷ []) rest ∙ ap (λ (ps : List Proposal). store ++ ps) (sym steps) ∙ h.all;
    }

pub add-requires : goal.add-requires
add-requires c =
    let h = c.loop-proposal.invariant in
    let p = c.in-Some.proposal in
    let rest = into_iter_items c.next.new.self in
    let store = c.loop-proposal.store in
    let all = ap (λ (ps : List Proposal). store ++ ps) (sym c.in-Some.ensures.steps.0) ∙ h.all in
    record {
      absent = absent_before store p rest c.args.proposals all c.requires.ids;
      fits = room_before store p rest c.args.proposals all c.requires.fits;
      ordered = ordered_at store p rest c.args.proposals all c.requires.votes;
    }

pub returns : goal.returns
returns c =
    let h = c.loop-proposal.invariant in
    let store = c.loop-proposal.store in
    let none = none_left (into_iter_items c.loop-proposal.proposal-iterator) _ h.left c.in-None.ensures.steps.0 in
    sym (append-nil store) ∙ ap (λ (ps : List Proposal). store ++ ps) (sym none) ∙ h.all
