use Rattle.std.proofs.Common.{◌≡◌, ℕ, ◌+◌, List, Option, Some, None, ap, sym, ◌∙◌}
use Rattle.std.specs.Option.{SomeIff}
use Rattle.maps.specs.Maps.{with_value}
use Rattle.cert_pool.specs.Keys.{count_at, count_in_key, key_cmp}
use Rattle.cert_pool.proofs.Kept.{count_at-raised}
use Rattle.cert_pool.proofs.keys.KeyCounts.raise.Goals as goal

-- a sum that fits is there
raised_is : (o : Option ℕ) (n m : ℕ) (P : Type 0) → o ≡ Some n → SomeIff o P m → n ≡ m
raised_is None n m P e h = cc
raised_is (Some k) n m P e h = let same : k ≡ n = cc in sym same ∙ h.1

pub returns-in_ok-insert-clause-ok : goal.returns-in_ok-insert-clause-ok
returns-in_ok-insert-clause-ok c = λ k.
    let counts = c.self.inside.counts.entries in
    let key = c.in-Some.key in
    let count : c.in_ok-count.count ≡ count_at counts key + 1 =
    raised_is c.checked_add.result c.in_ok-count.count (c.of.result + 1) _ c.in_ok-count.ensures.ok_part c.checked_add.ensures
    ∙ ap (λ n. n + 1) (c.of.ensures ∙ ap (λ (es : List (List ℕ × ℕ)). count_at es key) (sym c.self.view_is)) in
    let put : c.insert.new.self.entries ≡ with_value key_cmp key (count_at counts key + 1) counts =
    c.in_ok-insert.ensures.entries ∙ ap (λ n. with_value key_cmp key n counts) count in
    let raised : count_at (with_value key_cmp key (count_at counts key + 1) counts) k ≡ count_at counts k + count_in_key k c.args.key = rw c.in-Some.is (count_at-raised key counts k) in
    ap (λ (es : List (List ℕ × ℕ)). count_at es k) put ∙ raised ∙ ap (λ (es : List (List ℕ × ℕ)). count_at es k + count_in_key k c.args.key) c.self.view_is
