use Rattle.std.proofs.Common.{◌≡◌, ℕ, ◌+◌, List, Option, Some, unwrap_or, ap, subst, sym, ◌∙◌, arith, rules}
use Rattle.stake_book.specs.Sums.{IsRaised, amount_at}
use Rattle.stake_book.proofs.Raised.{amount_within, raised}
use Rattle.stake_book.proofs.amounts.raise.Goals as goal

pub overflow_add-amount : goal.overflow_add-amount
overflow_add-amount g c =
    let there : c.or_insert-amount.result.now ≡ amount_at g.K.Ord.cmp c.args.amounts.now.entries c.in-Some.k = c.or_insert-amount.ensures.value ∙ ap (λ (x : Option ℕ). unwrap_or x 0) c.in_ok-amounts.ensures.value in
    omega (arith, there, amount_within g.K.Ord.cmp c.args.amounts.now.entries c.in-Some.k, c.requires.fits)

pub returns-clause-ok : goal.returns-clause-ok
returns-clause-ok g c =
    let there : c.or_insert-amount.result.now ≡ amount_at g.K.Ord.cmp c.args.amounts.now.entries c.in-Some.k = c.or_insert-amount.ensures.value ∙ ap (λ (x : Option ℕ). unwrap_or x 0) c.in_ok-amounts.ensures.value in
    let up = raised g.met.K.Ord.total c.in-Some.k (c.or_insert-amount.result.now + c.args.gained) c.args.gained c.args.amounts.now.entries c.entry.ensures.ordered (λ i. there i + c.args.gained) in
    rw c.in-Some.is (subst (λ (es : List (g.row.K.Denot × ℕ)). IsRaised g.K.Ord.cmp (Some c.in-Some.k) c.args.gained c.args.amounts.now.entries es) (sym (search rules)) up)
