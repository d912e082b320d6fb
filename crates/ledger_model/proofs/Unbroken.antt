-- What it means that no check of several lists is broken.
use Rattle.std.proofs.Common.{◌≡◌, ℕ, ◌+◌, List, [], ◌∷◌, ◌++◌, Bool, true, false, ◌||◌, cond, Option, Some, None, is_none, find, refl, ap, sym, ◌∙◌}
use Rattle.std.specs.List.{list_any}
use Rattle.std.specs.Option.{option_map}
use Rattle.maps.specs.Words.{or_else}
use Rattle.tx_records.specs.declared.reply.Rule.{Rule}
use Rattle.tx_records.specs.Rules.{placed}
use Rattle.ledger_model.specs.Checks.{Check, per_place_from, first_among, is_broken, rule_of}
use Rattle.ledger_model.proofs.CheckLaws.{first_among-append, first_among-per_place}

-- no check is broken
pub record IsUnbroken (cs : List Check) : Type 0 where
  pub none : first_among cs ≡ None

pub unbroken_from : (o : Option Rule) → is_none o ≡ true → o ≡ None
unbroken_from None h = refl
unbroken_from (Some r) h = cc

neither : (a b : Option Rule) → or_else a b ≡ None → (a ≡ None) × (b ≡ None)
neither None b h = (refl, h)
neither (Some r) b h = cc

pub unbroken-append : (cs ds : List Check) → IsUnbroken (cs ++ ds) → IsUnbroken cs × IsUnbroken ds
unbroken-append cs ds h =
    let both : (first_among cs ≡ None) × (first_among ds ≡ None) = neither (first_among cs) (first_among ds) (sym (first_among-append cs ds) ∙ h.none) in
    (record { none = both.0 }, record { none = both.1 })

by_head : (c : Check) (cs : List Check) (b : Bool) → option_map rule_of (cond b (Some c) (find is_broken cs)) ≡ None → (b ≡ false) × IsUnbroken cs
by_head c cs true h = cc
by_head c cs false h = (refl, record { none = h })

pub unbroken-cons : (c : Check) (cs : List Check) → IsUnbroken (c ∷ cs) → (c.broken ≡ false) × IsUnbroken cs
unbroken-cons c cs h = by_head c cs c.broken h.none

pub none_broken : (cs : List Check) → IsUnbroken cs → list_any (λ (k : Check). k.broken) cs ≡ false
none_broken [] h = refl
none_broken (c ∷ cs) h =
    let both = unbroken-cons c cs h in
    ap (λ b. b || list_any (λ (k : Check). k.broken) cs) both.0 ∙ none_broken cs both.1

pub not_placed : (n : ℕ) (o : Option Rule) → option_map (placed n) o ≡ None → o ≡ None
not_placed n None h = refl
not_placed n (Some r) h = cc

pub unbroken-per_place : {X : Type 0} (checks : ℕ → X → List Check) (n : ℕ) (x : X) (xs : List X)
    → IsUnbroken (per_place_from checks n (x ∷ xs)) → IsUnbroken (checks n x) × IsUnbroken (per_place_from checks (n + 1) xs)
unbroken-per_place checks n x xs h =
    let both : (option_map (placed n) (first_among (checks n x)) ≡ None) × (first_among (per_place_from checks (n + 1) xs) ≡ None) =
    neither (option_map (placed n) (first_among (checks n x))) (first_among (per_place_from checks (n + 1) xs)) (sym (first_among-per_place checks n x xs) ∙ h.none) in
    (record { none = not_placed n (first_among (checks n x)) both.0 }, record { none = both.1 })
