-- What outputs hold, one after another, and which credentials have stake.
use Rattle.std.proofs.Common.{◌≡◌, ℕ, ◌+◌, ◌<◌, ◌==◌, ◌||◌, List, [], ◌∷◌, Bool, true, false, cond, Option, Some, None, nat_lt, drop, get_or, length, refl, ap, sym, subst, ◌∙◌, arith}
use Rattle.std.specs.List.{list_all}
use Rattle.std.proofs.lemmas.Bool.{and_from, and_parts, eqb-false, eqb-true, ltb-false, ltb-true}
use Rattle.std.proofs.lemmas.Cmp.{eq_by_cmp_equiv}
use Rattle.std.proofs.lemmas.List.{at_drop_more}
use Rattle.std.proofs.lemmas.List.Sums.{sum_by-cons}
use Rattle.std.specs.Map.{values_of}
use Rattle.gov_ids.specs.declared.Credential.{Credential}
use Rattle.gov_ids.specs.declared.OutRef.{OutRef}
use Rattle.gov_ids.specs.Same.{same_credential}
use Rattle.gov_ids.proofs.Exacts.{credential_exact}
use Rattle.gov_ids.proofs.Totals.{credential_total}
use Rattle.book_records.specs.declared.Output.{Output}
use Rattle.book_records.specs.Outputs.{lovelace_in}
use Rattle.maps.proofs.Ties.{same_key}
use Rattle.maps.specs.Maps.{entries_where}
use Rattle.maps.specs.Words.{holds, none_or}
use Rattle.account_rows.specs.Entries.{held_for, stake_in}

-- ---- one output after another

first_held : (b : Bool) (o : OutRef × Output) (kept : List (OutRef × Output)) → lovelace_in (cond b (o ∷ kept) kept) ≡ cond b o.1.lovelace 0 + lovelace_in kept
first_held true o kept = sum_by-cons (λ (x : Output). x.lovelace) o.1 (values_of kept)
first_held false o kept = omega arith

pub stake_in-cons : (o : OutRef × Output) (os : List (OutRef × Output)) (q : Credential) → stake_in (o ∷ os) q ≡ held_for o.1 q + stake_in os q
stake_in-cons o os q = first_held (holds same_credential o.1.address.stake q) o (entries_where (λ r (x : Output). holds same_credential x.address.stake q) os)

module _ (os : List (OutRef × Output)) (i : ℕ) (o : OutRef × Output) (l : i < length os) (at : o ≡ get_or os i o) where
  -- those from the place i on are o and those after it
  from_here : {Y : Type 0} (F : List (OutRef × Output) → Y) → F (drop i os) ≡ F (o ∷ drop (i + 1) os)
  from_here F = at_drop_more F os i o l ∙ ap (λ (x : OutRef × Output). F (x ∷ drop (i + 1) os)) (sym at)

  pub stake_from : (q : Credential) → stake_in (drop i os) q ≡ held_for o.1 q + stake_in (drop (i + 1) os) q
  stake_from q = from_here (λ (xs : List (OutRef × Output)). stake_in xs q) ∙ stake_in-cons o (drop (i + 1) os) q

  pub lovelace_from : lovelace_in (drop i os) ≡ o.1.lovelace + lovelace_in (drop (i + 1) os)
  lovelace_from = from_here lovelace_in ∙ sum_by-cons (λ (x : Output). x.lovelace) o.1 (values_of (drop (i + 1) os))

-- ---- credentials with stake

module _ (F : Credential → Bool) where
  -- an output holds no lovelace, has no stake part, or its stake part passes
  abbrev pub passes : Output → Bool
  passes o = none_or (λ c. (o.lovelace == 0) || F c) o.address.stake

  passing : (s : Option Credential) (n : ℕ) (q : Credential) → none_or (λ c. (n == 0) || F c) s ≡ true → 0 < cond (holds same_credential s q) n 0 → F q ≡ true
  passing None n q p h = absurd (omega arith)
  passing (Some c) n q p h = elim (same_credential c q) as (λ b. same_credential c q ≡ b → 0 < cond b n 0 → F q ≡ true) [
    | true ↦ λ t h. elim (n == 0) as (λ b. (n == 0) ≡ b → (b || F c) ≡ true → F q ≡ true) [
      | true ↦ λ none p. absurd (omega (arith, eqb-true n 0 none))
      | false ↦ λ some p. ap F (sym (same_key credential_exact c q t)) ∙ p
    ] refl p
    | false ↦ λ t h. absurd (omega arith)
  ] refl h

  -- where each output passes, so does each credential with stake
  pub stake_passes : (os : List (OutRef × Output)) (q : Credential) → list_all (λ (o : OutRef × Output). passes o.1) os ≡ true → 0 < stake_in os q → F q ≡ true
  stake_passes [] q all h = absurd (omega arith)
  stake_passes (o ∷ os) q all h =
      let parts = and_parts (passes o.1) (list_all (λ (x : OutRef × Output). passes x.1) os) all in
      elim (nat_lt 0 (stake_in os q)) as (λ b. nat_lt 0 (stake_in os q) ≡ b → F q ≡ true) [
        | true ↦ λ t. stake_passes os q parts.1 (ltb-true 0 (stake_in os q) t)
        | false ↦ λ t. passing o.1.address.stake o.1.lovelace q parts.0 (omega (arith, stake_in-cons o os q, ltb-false 0 (stake_in os q) t, h))
      ] refl

  -- and an output passes if each credential with stake does
  held_passes : (s : Option Credential) (n : ℕ) → ((q : Credential) → 0 < cond (holds same_credential s q) n 0 → F q ≡ true) → none_or (λ c. (n == 0) || F c) s ≡ true
  held_passes None n all = refl
  held_passes (Some c) n all = elim (n == 0) as (λ b. (n == 0) ≡ b → (b || F c) ≡ true) [
    | true ↦ λ t. refl
    | false ↦ λ t. all c (subst (λ b. 0 < cond b n 0) (sym ((eq_by_cmp_equiv credential_total).refl c)) (omega (arith, eqb-false n 0 t)))
  ] refl

  pub all_pass : (os : List (OutRef × Output)) → ((q : Credential) → 0 < stake_in os q → F q ≡ true) → list_all (λ (o : OutRef × Output). passes o.1) os ≡ true
  all_pass [] all = refl
  all_pass (o ∷ os) all =
      and_from (passes o.1) (list_all (λ (x : OutRef × Output). passes x.1) os)
      (held_passes o.1.address.stake o.1.lovelace (λ q h. all q (omega (arith, stake_in-cons o os q, h))))
      (all_pass os (λ q h. all q (omega (arith, stake_in-cons o os q, h))))
