use Rattle.std.proofs.Common.{Bool, [], ◌∷◌, ap, subst, ◌∙◌}
use Rattle.std.specs.Cmp.{IsTotalOrder}
use Rattle.genesis_problems.specs.declared.problem.GenesisProblem.TheVariants.{Repeated}
use Rattle.genesis_problems.specs.Problems.{name_test, told_with}
use Rattle.genesis_problems.proofs.Indexes.{denied, seen_is, seen_next, told_next}
use Rattle.genesis_problems.proofs.names.tell_repeated.Goals as goal

pub loop-index-preserved : goal.loop-index-preserved
loop-index-preserved g c =
    let same = g.met.T.Name.Name.is_order in
    let name = g.T.Named.name in
    let xs = c.args.entries.now in
    let i = c.loop-index.index in
    let x = c.index-entries-index.result in
    let keys = c.loop-index.names.keys in
    let total = subst (λ R. IsTotalOrder R) same g.met.T.Name.Ord.total in
    let was = seen_is same name xs i x c.loop-index-test.true c.index-entries-index.is c.name.ensures keys c.loop-index.invariant.seen total in
    record {
      seen = seen_next same name xs i x c.loop-index-test.true c.index-entries-index.is c.name.ensures keys c.loop-index.invariant.seen c.insert.new.self.keys c.in_ok-is_new.ensures.keys;
      rest =
          told_next (name_test g.T.Name.Name.order c.args.list _) name xs i x c.loop-index.told.items c.tell.new.told.items c.loop-index-test.true
          (c.in_ok-tell.ensures ∙ ap (λ (b : Bool). told_with ((b, Repeated c.args.list i) ∷ []) c.loop-index.told.items) (denied _ _ c.in_ok-is_new.ensures.added ∙ was))
          ∙ c.loop-index.invariant.rest;
    }
