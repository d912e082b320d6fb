use Rattle.std.proofs.Common.{ℕ, ◌+◌, cond, ◌||◌, List, Option, ap, sym, ◌∙◌}
use Rattle.book_records.specs.declared.pool.PoolTerms.{PoolTerms}
use Rattle.book_records.specs.Hashes.{same_hash}
use Rattle.book_records.specs.Pools.{is_key_of}
use Rattle.maps.specs.Words.{holds, some_and}
use Rattle.cert_pool.specs.Keys.{count_in_key}
use Rattle.cert_pool.proofs.Kept.{keys_apart}
use Rattle.cert_pool.proofs.keys.keys_of.Goals as goal

pub returns-in-Some : goal.returns-in-Some
returns-in-Some c = λ key.
    let now = c.args.pool.now.terms.key in
    ap (λ (o : Option PoolTerms). cond (holds same_hash now key || some_and (is_key_of key) o) 1 0) c.in-Some.is
    ∙ keys_apart now c.in-Some.terms.key key
    ∙ ap (λ (o : Option (List ℕ)). count_in_key key now + count_in_key key o) (sym c.another.ensures)
