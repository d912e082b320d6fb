use Rattle.std.proofs.Common.{◌≡◌, ℕ, ◌-◌, List, Option, Some, unwrap_or, ap, sym, arith, ◌∙◌}
use Rattle.std.specs.BTreeMap.{is_at}
use Rattle.std.specs.Map.{set_value}
use Rattle.maps.proofs.Placed.{set_value-changed_at}
use Rattle.maps.specs.Maps.{changed_at, value_at, without_key}
use Rattle.cert_pool.specs.Keys.{count_at, count_in_key, key_cmp}
use Rattle.cert_pool.proofs.Kept.{count_at-last, count_at-lowered, key_total}
use Rattle.cert_pool.proofs.keys.KeyCounts.lower_at.Goals as goal

pub returns-then-left-eq0 : goal.returns-then-left-eq0
returns-then-left-eq0 c = λ k.
    let counts = c.self.inside.counts.entries in
    let key = c.args.key.now in
    let last : count_at counts key - 1 ≡ 0 = omega (arith, c.of.ensures, c.saturating_sub-left.ensures, c.if-left-eq0.true, ap (λ (es : List (List ℕ × ℕ)). count_at es key) c.self.view_is) in
    let lowered : count_at (without_key key_cmp key counts) k ≡ count_at counts k - count_in_key k (Some key) = count_at-last key counts k c.self.invariant last in
    ap (λ (es : List (List ℕ × ℕ)). count_at es k) c.remove.ensures.entries ∙ lowered ∙ ap (λ (es : List (List ℕ × ℕ)). count_at es k - count_in_key k (Some key)) c.self.view_is

pub returns-in-Some : goal.returns-in-Some
returns-in-Some c = λ k.
    let counts = c.self.inside.counts.entries in
    let key = c.args.key.now in
    let n = c.saturating_sub-left.result in
    let before = c.in-Some.count.now in
    let found : value_at key_cmp counts key ≡ Some before = sym c.in-Some.ensures.value in
    let is : n ≡ before - 1 =
    c.saturating_sub-left.ensures ∙ ap (λ m. m - 1) (c.of.ensures ∙ ap (λ (es : List (List ℕ × ℕ)). count_at es key) (sym c.self.view_is) ∙ ap (λ (o : Option ℕ). unwrap_or o 0) found) in
    let written = (c.get_mut.follows.holds n).0
    ∙ ap (λ m. set_value (is_at (key_cmp key)) counts m) is
    ∙ set_value-changed_at key_total key (λ m. m - 1) before counts c.self.invariant found in
    let lowered : count_at (changed_at key_cmp key (λ m. m - 1) counts) k ≡ count_at counts k - count_in_key k (Some key) = count_at-lowered key counts k in
    ap (λ (es : List (List ℕ × ℕ)). count_at es k) written ∙ lowered ∙ ap (λ (es : List (List ℕ × ℕ)). count_at es k - count_in_key k (Some key)) c.self.view_is
