use Rattle.std.proofs.Common.{List, fold, map, refl, ◌∙◌}
use Rattle.maps.specs.Maps.{with_key}
use Rattle.genesis_books.proofs.Walks.{walk_on}
use Rattle.genesis_books.proofs.entries.names_of.Goals as goal

pub loop-entry-init : goal.loop-entry-init
loop-entry-init g c = rw c.new-names.ensures.empty refl

pub loop-entry-preserved : goal.loop-entry-preserved
loop-entry-preserved g c =
    let order = g.T.Name.Name.order in
    let keys = c.loop-entry.names.keys in
    walk_on (λ (xs : List _) ks. fold (λ s k. with_key order k s) ks (map g.T.Named.name xs)) (λ ks x. with_key order (g.T.Named.name x) ks) (λ x xs s. refl)
    c.args.entries.now c.loop-entry.entry-index c.entry-item.result keys c.insert.new.self.keys c.loop-entry-test.true
    (c.in_ok-insert.ensures.keys ∙ (λ i. with_key (g.met.T.Name.Name.is_order i) (c.name.ensures i) keys) ∙ (λ i. with_key order (g.T.Named.name (c.entry-item.is i)) keys))
    ∙ c.loop-entry.invariant
