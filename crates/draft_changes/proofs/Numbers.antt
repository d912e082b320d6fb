-- The numbers of the changes of accounts, after one more change.
use Rattle.std.proofs.Common.{◌≡◌, ℕ, ◌+◌, ◌<◌, ◌≤◌, List, Bool, true, false, cond, Option, Some, sym, subst, ◌∙◌, arith}
use Rattle.std.specs.Ordering.{eq_by_cmp}
use Rattle.gov_ids.specs.Orders.{credential_cmp}
use Rattle.gov_ids.specs.declared.Credential.{Credential}
use Rattle.gov_ids.proofs.Totals.{credential_total}
use Rattle.maps.proofs.Kept.{IsMap-with_value}
use Rattle.maps.proofs.Lookups.{value_at-with_value}
use Rattle.maps.specs.Maps.{value_at, with_value}
use Rattle.draft_changes.specs.Numbered.{AreNumbered}
use Rattle.draft_changes.specs.declared.account_changes.Written.{Written}

-- the value at a key passes if what was put and the value before do
passes : {X : Type 0} (P : X → Type 0) (b : Bool) (put x : X) (was : Option X) → P put → (was ≡ Some x → P x) → cond b (Some put) was ≡ Some x → P x
passes P true put x was p f e = let is : put ≡ x = cc in subst P is p
passes P false put x was p f e = f e

module _ {X : Type 0} (P : X → Type 0) (c : Credential) (put : X) (es : List (Credential × X)) where
  each_put : P put → ((q : Credential) (x : X) → value_at credential_cmp es q ≡ Some x → P x) → (q : Credential) (x : X) → value_at credential_cmp (with_value credential_cmp c put es) q ≡ Some x → P x
  each_put p f q x e = passes P (eq_by_cmp credential_cmp c q) put x (value_at credential_cmp es q) p (f q x) (sym (value_at-with_value credential_total c put es q) ∙ e)

module _ (changes : ℕ) (left : List (Credential × ℕ)) (entries : List (Credential × Written)) (h : AreNumbered changes left entries) where
  -- a registration that was written
  pub numbered_set : (c : Credential) (w : Written) (after : List (Credential × Written)) → after ≡ with_value credential_cmp c w entries → w.number ≤ changes + 1 → AreNumbered (changes + 1) left after
  numbered_set c w after is few = subst (λ (es : List (Credential × Written)). AreNumbered (changes + 1) left es) (sym is) (record {
    entries_map = IsMap-with_value credential_total c w entries h.entries_map;
    left_map = h.left_map;
    written = each_put (λ (x : Written). x.number ≤ changes + 1) c w entries few (λ q x e. omega (arith, h.written q x e));
    after_start = h.after_start;
    leaving = λ q n e. omega (arith, h.leaving q n e);
  })

  -- a DRep that left
  pub numbered_leave : (c : Credential) (after : List (Credential × ℕ)) → after ≡ with_value credential_cmp c (changes + 1) left → AreNumbered (changes + 1) after entries
  numbered_leave c after is = subst (λ (es : List (Credential × ℕ)). AreNumbered (changes + 1) es entries) (sym is) (record {
    entries_map = h.entries_map;
    left_map = IsMap-with_value credential_total c (changes + 1) left h.left_map;
    written = λ q x e. omega (arith, h.written q x e);
    after_start = each_put (λ n. 0 < n) c (changes + 1) left (omega arith) h.after_start;
    leaving = each_put (λ n. n ≤ changes + 1) c (changes + 1) left (omega arith) (λ q n e. omega (arith, h.leaving q n e));
  })
