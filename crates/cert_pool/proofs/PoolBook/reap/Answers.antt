use Rattle.std.proofs.Common.{◌≡◌, List, not, ap, subst, sym, ◌∙◌, rules}
use Rattle.gov_ids.specs.declared.PoolId.{PoolId}
use Rattle.gov_ids.specs.Orders.{pool_cmp}
use Rattle.book_records.specs.declared.pool.Pool.{Pool}
use Rattle.book_records.specs.Pools.{turned, retires_at, with_terms_turned}
use Rattle.maps.proofs.Kept.{IsMap-each_value, IsMap-entries_where}
use Rattle.maps.proofs.Retained.{written_and_kept_all}
use Rattle.cert_pool.specs.Keys.{AreCounted, IsIndexed}
use Rattle.cert_pool.specs.Reaping.{left_of}
use Rattle.cert_pool.proofs.PoolBook.reap.Goals as goal

left : (c : goal.After-drop-self-inside) → c.retain.new.self.entries ≡ left_of c.args.epoch c.self.inside.pools.entries
left c =
    written_and_kept_all _ (λ p (t : Pool). not (retires_at c.args.epoch t)) (λ p t. turned t) _ (λ k v b w g t. search rules) c.self.inside.pools.entries _ c.retain.ensures.filtered

pub invariant_of-self : goal.invariant_of-self
invariant_of-self c =
    let epoch = c.args.epoch in
    let pools = c.self.inside.pools.entries in
    subst (λ (es : List (PoolId × Pool)). IsIndexed es c.in_ok-keys.keys) (sym (left c))
    (record {
      in_order = IsMap-entries_where pool_cmp (λ p t. not (retires_at epoch t)) (with_terms_turned pools) (IsMap-each_value pool_cmp (λ p t. turned t) pools c.self.invariant.in_order);
      counted = subst (λ (es : List (PoolId × Pool)). AreCounted (left_of epoch es) c.in_ok-keys.keys) (sym c.self.view_is) c.in_ok-keys.ensures;
    })

pub returns-clause-left : goal.returns-clause-left
returns-clause-left c = left c ∙ ap (λ (es : List (PoolId × Pool)). left_of c.args.epoch es) c.self.view_is
