use Rattle.std.proofs.Common.{◌≡◌, ℕ, zero, suc, ◌+◌, ◌<◌, ◌==◌, ◌&&◌, false, List, [], ◌∷◌, sum_by, refl, ap, sym, ◌∙◌, arith, rules, tests}
use Rattle.std.specs.List.{list_all}
use Rattle.std.proofs.lemmas.Iterator.{YieldsList-from_slice}
use Rattle.std.proofs.lemmas.Iterator.Search.{all_from_yields_List}
use Rattle.std.proofs.lemmas.List.Sums.{sum_by-cons}
use Rattle.gov_ids.specs.declared.Account.{Account}
use Rattle.proposal_rules.proofs.withdrawals.is_nothing_paid.Goals as goal

no_zero : (n : ℕ) → 0 < n → (n == 0) ≡ false
no_zero n h = search (rules, tests)

both_zero : (m n : ℕ) → ((m == 0) && (n == 0)) ≡ (m + n == 0)
both_zero zero n = ap (λ k. k == 0) (omega arith)
both_zero (suc m) n = ap (λ b. b && (n == 0)) (no_zero (suc m) (omega arith)) ∙ sym (no_zero (suc m + n) (omega arith))

all_zero : (ts : List (Account × ℕ)) → list_all (λ t. t.1 == 0) ts ≡ (sum_by (λ (t : Account × ℕ). t.1) ts == 0)
all_zero [] = refl
all_zero (t ∷ ts) =
    ap (λ b. (t.1 == 0) && b) (all_zero ts) ∙ both_zero t.1 (sum_by (λ (t : Account × ℕ). t.1) ts) ∙ ap (λ n. n == 0) (sym (sum_by-cons (λ (t : Account × ℕ). t.1) t ts))

pub returns : goal.returns
returns c =
    all_from_yields_List (λ t. t.1 == 0) _ _ _ c.all.ensures.ran (YieldsList-from_slice c.args.targets.now cc) (λ x b q k. search (rules, tests)) ∙ all_zero c.args.targets.now
