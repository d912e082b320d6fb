use Rattle.std.proofs.Common.{◌≡◌, ℕ, ◌+◌, ◌-◌, List, Option, unwrap_or, ap, sym, ◌∙◌, arith}
use Rattle.maps.specs.Maps.{with_value, without_key}
use Rattle.stake_book.specs.Sums.{amount_at}
use Rattle.stake_book.proofs.Raised.{lowered, taken, written_gone, written_there}
use Rattle.stake_book.proofs.amounts.lower.Goals as goal

pub returns-in_default-get_mut : goal.returns-in_default-get_mut
returns-in_default-get_mut g c =
    let none : 0 ≡ amount_at g.K.Ord.cmp c.args.amounts.now.entries c.in-Some.k = ap (λ (x : Option ℕ). unwrap_or x 0) c.in_default-get_mut.ensures.value in
    absurd (c.if-lost-eq0.false (omega (arith, none, c.requires.enough c.in-Some.k c.in-Some.is)))

pub overflow_sub-left : goal.overflow_sub-left
overflow_sub-left g c =
    let there : c.in-Some-get_mut.amount.now ≡ amount_at g.K.Ord.cmp c.args.amounts.now.entries c.in-Some.k = ap (λ (x : Option ℕ). unwrap_or x 0) c.in-Some-get_mut.ensures.value in
    omega (arith, there, c.requires.enough c.in-Some.k c.in-Some.is)

pub returns-then-left-eq0 : goal.returns-then-left-eq0
returns-then-left-eq0 g c =
    let es : List (g.row.K.Denot × ℕ) = c.args.amounts.now.entries in
    let there : c.in-Some-get_mut.amount.now ≡ amount_at g.K.Ord.cmp es c.in-Some.k = ap (λ (x : Option ℕ). unwrap_or x 0) c.in-Some-get_mut.ensures.value in
    let all : c.args.lost ≡ amount_at g.K.Ord.cmp es c.in-Some.k = omega (arith, there, c.requires.enough c.in-Some.k c.in-Some.is, c.if-left-eq0.true) in
    let left : ℕ = c.in-Some-get_mut.amount.now - c.args.lost in
    let gone : c.remove.new.self.entries ≡ without_key g.K.Ord.cmp c.in-Some.k es =
    c.remove.ensures.entries ∙ ap (λ (es : List (g.row.K.Denot × ℕ)). without_key g.K.Ord.cmp c.in-Some.k es) (c.get_mut.follows.holds left).0 ∙ written_gone g.K.Ord.cmp c.in-Some.k left es in
    rw c.in-Some.is (rw gone (taken g.met.K.Ord.total c.in-Some.k 0 c.args.lost es c.get_mut.ensures.ordered all))

pub returns-else-left-eq0 : goal.returns-else-left-eq0
returns-else-left-eq0 g c =
    let es : List (g.row.K.Denot × ℕ) = c.args.amounts.now.entries in
    let left : ℕ = c.in-Some-get_mut.amount.now - c.args.lost in
    let there : c.in-Some-get_mut.amount.now ≡ amount_at g.K.Ord.cmp es c.in-Some.k = ap (λ (x : Option ℕ). unwrap_or x 0) c.in-Some-get_mut.ensures.value in
    let rest : left + c.args.lost ≡ amount_at g.K.Ord.cmp es c.in-Some.k = omega (arith, there, c.requires.enough c.in-Some.k c.in-Some.is) in
    let written : (c.get_mut.follows.lender left).entries ≡ with_value g.K.Ord.cmp c.in-Some.k left es =
    (c.get_mut.follows.holds left).0 ∙ written_there g.met.K.Ord.total c.in-Some.k left c.in-Some-get_mut.amount.now es c.get_mut.ensures.ordered (sym c.in-Some-get_mut.ensures.value) in
    rw c.in-Some.is (rw written (lowered g.met.K.Ord.total c.in-Some.k left c.args.lost es c.get_mut.ensures.ordered rest))
