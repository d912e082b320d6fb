use Rattle.std.proofs.Common.{◌≡◌, ◌∙◌, ◌+◌, ◌<◌, List, [], ◌∷◌, ◌++◌, ap, sym, subst, length, arith}
use Rattle.std.proofs.lemmas.List.{append-nil, length-append}
use Rattle.gov_actions.specs.declared.action.Purpose.{Purpose}
use Rattle.gov_ids.specs.declared.ActionId.{ActionId}
use Rattle.lineage.specs.Walks.{IsWalk, Reach}
use Rattle.lineage.specs.contracts.kept.Walk.{the_view}
use Rattle.lineage.proofs.Adopting.{adopted_length}
use Rattle.lineage.proofs.Finding.{adopted_last}
use Rattle.lineage.proofs.kept.Walk.run.Goals as goal

pub loop-purpose-smaller : goal.loop-purpose-smaller
loop-purpose-smaller c =
    let front = c.pop.new.self.items in
    let popped : c.self.inside.pending.items ≡ front ++ (c.in-Some.purpose, c.in-Some.id) ∷ [] = c.in-Some.ensures.items in
    let mid : Reach = record { orphans = c.self.inside.orphans.keys; pending = front } in
    let less : length c.adopt.new.self.pending + length c.adopt.new.self.orphans < length c.loop-purpose.self.pending + length c.loop-purpose.self.orphans =
    omega (
      arith,
      ap (λ (v : Reach). length v.pending + length v.orphans) c.in_ok-adopt.ensures,
      adopted_length c.in-Some.purpose c.children.result.now mid,
      ap (λ (v : Reach). length v.pending) c.self.view_is,
      ap (λ (v : Reach). length v.orphans) c.self.view_is,
      ap length popped,
      length-append front ((c.in-Some.purpose, c.in-Some.id) ∷ []),
    ) in
    less

pub loop-purpose-preserved : goal.loop-purpose-preserved
loop-purpose-preserved c = λ rest last walk.
    let store = c.args.store.now in
    let now : IsWalk store rest last (the_view c.self.inside) = subst (λ (v : Reach). IsWalk store rest last v) (sym c.self.view_is) (c.loop-purpose.invariant rest last walk) in
    subst (λ (v : Reach). IsWalk store rest last v) (sym c.in_ok-adopt.ensures)
    (adopted_last store rest last (the_view c.self.inside) c.pop.new.self.items c.in-Some.purpose c.in-Some.id c.children.result.now c.in-Some.ensures.items c.children.ensures now)

pub returns-clause-walks : goal.returns-clause-walks
returns-clause-walks c = λ rest last walk.
    let store = c.args.store.now in
    let now : IsWalk store rest last (the_view c.self.inside) = subst (λ (v : Reach). IsWalk store rest last v) (sym c.self.view_is) (c.loop-purpose.invariant rest last walk) in
    subst (λ (es : List (Purpose × ActionId)). IsWalk store rest last (record { orphans = c.self.inside.orphans.keys; pending = es }))
    (c.in_default.ensures.items ∙ append-nil c.pop.new.self.items) now
