use Rattle.std.proofs.Common.{◌≡◌, ℕ, ◌+◌, ap, ◌∙◌, arith}
use Rattle.coin_frac.specs.Totals.{total_of}
use Rattle.maps.specs.Maps.{with_value}
use Rattle.frozen_lists.proofs.Adding.{amount_within, total_after}
use Rattle.frozen_lists.proofs.deposits.add.Goals as goal

pub overflow_add-sum : goal.overflow_add-sum
overflow_add-sum g c = omega (arith, c.get.ensures.value, amount_within g.K.Ord.cmp c.args.k c.args.deposits.now, c.requires.fits)

pub put-requires : goal.put-requires
put-requires g c =
    let d = c.args.deposits.now in
    let same : total_of (with_value g.K.Ord.cmp c.args.k (c.get.result + c.args.n) d) ≡ total_of d + c.args.n =
    ap (λ (x : ℕ). total_of (with_value g.K.Ord.cmp c.args.k (x + c.args.n) d)) c.get.ensures.value ∙ total_after g.K.Ord.cmp g.met.K.Ord.total c.args.k c.args.n d c.get.ensures.in_order in
    record { fits = omega (arith, same, c.requires.fits) }

pub returns-clause-amounts : goal.returns-clause-amounts
returns-clause-amounts g c =
    let d = c.args.deposits.now in
    c.in_ok-put.ensures.ok ∙ ap (λ (x : ℕ). with_value g.K.Ord.cmp c.args.k (x + c.args.n) d) c.get.ensures.value

pub returns-clause-total : goal.returns-clause-total
returns-clause-total g c =
    let d = c.args.deposits.now in
    ap (λ es. total_of es) (c.in_ok-put.ensures.ok ∙ ap (λ (x : ℕ). with_value g.K.Ord.cmp c.args.k (x + c.args.n) d) c.get.ensures.value)
    ∙ total_after g.K.Ord.cmp g.met.K.Ord.total c.args.k c.args.n d c.get.ensures.in_order
