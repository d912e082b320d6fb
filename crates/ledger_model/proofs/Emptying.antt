-- Accounts that give their balances, one after the other.
use Rattle.std.proofs.Common.{◌≡◌, List, [], ◌∷◌, Bool, true, false, cond, ◌||◌, refl, ap, ◌∙◌}
use Rattle.std.proofs.lemmas.Cmp.{eq_by_cmp_equiv}
use Rattle.maps.specs.Maps.{changed_at, changed_where}
use Rattle.maps.specs.Words.{among}
use Rattle.gov_ids.proofs.Totals.{credential_total}
use Rattle.gov_ids.specs.declared.Credential.{Credential}
use Rattle.gov_ids.specs.Orders.{credential_cmp}
use Rattle.gov_ids.specs.Same.{same_credential}
use Rattle.gov_model.specs.of_book_records.declared.Registered.{Registered}
use Rattle.ledger_model.specs.Changes.{emptied}

-- emptied at once, or first for the one and then for the others
either : (a b : Bool) (r : Registered) → cond (a || b) (emptied r) r ≡ cond b (emptied (cond a (emptied r) r)) (cond a (emptied r) r)
either true true r = refl
either true false r = refl
either false true r = refl
either false false r = refl

-- accounts of these credentials without their balances
abbrev pub emptied_among : List Credential → List (Credential × Registered) → List (Credential × Registered)
emptied_among ks es = changed_where (λ c r. among same_credential c ks) emptied es

pub emptied_among-cons : (k : Credential) (ks : List Credential) (es : List (Credential × Registered)) → emptied_among (k ∷ ks) es ≡ emptied_among ks (changed_at credential_cmp k emptied es)
emptied_among-cons k ks [] = refl
emptied_among-cons k ks (e ∷ es) =
    let entry = either (same_credential e.0 k) (among same_credential e.0 ks) e.1
    ∙ ap (λ a. cond (among same_credential e.0 ks) (emptied (cond a (emptied e.1) e.1)) (cond a (emptied e.1) e.1)) ((eq_by_cmp_equiv credential_total).symm e.0 k) in
    λ i. (e.0, entry i) ∷ emptied_among-cons k ks es i

pub emptied_among-none : (es : List (Credential × Registered)) → emptied_among [] es ≡ es
emptied_among-none [] = refl
emptied_among-none (e ∷ es) = ap (λ (l : List (Credential × Registered)). e ∷ l) (emptied_among-none es)
