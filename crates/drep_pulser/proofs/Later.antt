-- The later of two credentials.
use Rattle.std.proofs.Common.{◌≡◌, Bool, true, false, ◌&&◌, refl, ap, sym, ◌∙◌}
use Rattle.std.specs.declared.cmp.Ordering.{Ordering}
use Rattle.std.specs.declared.cmp.Ordering.TheVariants.{Less, Equal, Greater}
use Rattle.std.specs.Ordering.{is_lt, ordering_reverse}
use Rattle.maps.proofs.Ties.{is_less}
use Rattle.gov_ids.specs.declared.Credential.{Credential}
use Rattle.gov_ids.specs.Orders.{credential_cmp}
use Rattle.gov_ids.proofs.Totals.{credential_total}

and_true : (a b : Bool) → (a ≡ true → b ≡ true) → a ≡ (a && b)
and_true true b h = sym (h refl)
and_true false b h = refl

true_and : (a b : Bool) → (b ≡ true → a ≡ true) → b ≡ (a && b)
true_and a true h = ap (λ a. a && true) (sym (h refl))
true_and true false h = refl
true_and false false h = refl

-- what comes past x comes past what comes before x
pub past_later : (x y : Credential) → is_lt (credential_cmp y x) ≡ true → (c : Credential) → is_lt (credential_cmp x c) ≡ (is_lt (credential_cmp x c) && is_lt (credential_cmp y c))
past_later x y before c = and_true _ _ (λ past. ap is_lt (credential_total.trans y x c (is_less _ before) (is_less _ past)))

not_before : (x y c : Credential) (r : Ordering) → credential_cmp y x ≡ r → is_lt r ≡ false → credential_cmp y c ≡ Less → credential_cmp x c ≡ Less
not_before x y c Less p e q = cc
not_before x y c Equal p e q = sym (credential_total.congr y x c p) ∙ q
not_before x y c Greater p e q = credential_total.trans x y c (credential_total.antisymm x y ∙ ap ordering_reverse p) q

-- what comes past the latter of two comes past the former
pub past_former : (x y c : Credential) → is_lt (credential_cmp y x) ≡ false → is_lt (credential_cmp y c) ≡ true → is_lt (credential_cmp x c) ≡ true
past_former x y c before past = ap is_lt (not_before x y c _ refl before (is_less _ past))

pub past_other : (x y : Credential) → is_lt (credential_cmp y x) ≡ false → (c : Credential) → is_lt (credential_cmp y c) ≡ (is_lt (credential_cmp x c) && is_lt (credential_cmp y c))
past_other x y before c = true_and _ _ (past_former x y c before)
