-- What several references hold, one more reference after the other.
use Rattle.std.proofs.Common.{ℕ, ◌+◌, ◌<◌, List, [], ◌∷◌, ◌++◌, ◌||◌, get_or, length, take, sym, subst, ◌∙◌, arith}
use Rattle.std.proofs.lemmas.List.{length-append, take_more}
use Rattle.std.proofs.lemmas.List.Folds.{list_any-append}
use Rattle.std.proofs.lemmas.List.Sums.{sum_by-append}
use Rattle.gov_ids.specs.declared.OutRef.{OutRef}
use Rattle.ledger_model.specs.Ledger.{Ledger}
use Rattle.ledger_model.specs.UtxoRules.{lovelace_at}
use Rattle.utxo_rules.specs.declared.holdings.Spent.{Spent}
use Rattle.utxo_rules.specs.Spent.{IsSpent, both, has_assets_at}

module _ (l : Ledger) where
  and_more : (xs ys : List OutRef) (s t : Spent) → IsSpent l xs s → IsSpent l ys t → IsSpent l (xs ++ ys) (both s t)
  and_more xs ys s t some others = record {
    sum = omega (arith, sum_by-append (lovelace_at l) xs ys, some.sum, others.sum);
    fits = omega (arith, length-append xs ys, some.fits, others.fits);
    assets = (λ j. some.assets j || others.assets j) ∙ sym (list_any-append (has_assets_at l) xs ys);
  }

  -- with what the next reference holds
  pub spent_more : (refs : List OutRef) (i : ℕ) (d : OutRef) (s t : Spent) → i < length refs → IsSpent l (take i refs) s → IsSpent l (get_or refs i d ∷ []) t
      → IsSpent l (take (i + 1) refs) (both s t)
  spent_more refs i d s t h some next =
      subst (λ (xs : List OutRef). IsSpent l xs (both s t)) (sym (take_more refs i d h)) (and_more (take i refs) (get_or refs i d ∷ []) s t some next)
