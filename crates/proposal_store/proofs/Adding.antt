-- The counts of the cold keys that live proposals add: one more and one less, one proposal more, and what leaves them as they are.
use Rattle.std.proofs.Common.{◌≡◌, ℕ, zero, suc, ◌+◌, ◌-◌, ◌||◌, List, [], ◌∷◌, ◌++◌, Bool, true, false, cond, map, nat_lt, Option, unwrap_or, refl, ap, sym, ◌∙◌, arith}
use Rattle.std.specs.List.{list_any}
use Rattle.std.specs.Ordering.{eq_by_cmp}
use Rattle.std.proofs.lemmas.Bool.{lt-ltb}
use Rattle.std.proofs.lemmas.Cmp.{eq_by_cmp_equiv}
use Rattle.std.proofs.lemmas.List.Sums.{sum_by-append, sum_by-cons}
use Rattle.gov_actions.specs.declared.action.Action.{Action}
use Rattle.gov_actions.specs.declared.action.Action.TheVariants as action
use Rattle.gov_actions.specs.declared.action.Proposal.{Proposal}
use Rattle.gov_ids.specs.declared.Credential.{Credential}
use Rattle.gov_ids.specs.Orders.{credential_cmp}
use Rattle.gov_ids.specs.Same.{same_credential}
use Rattle.gov_ids.proofs.Totals.{credential_total}
use Rattle.gov_model.specs.Hot.{adds_member}
use Rattle.maps.proofs.Placed.{value_at_tied}
use Rattle.maps.specs.Maps.{value_at}
use Rattle.proposal_store.specs.Added.{count_among, count_at, is_proposed, members_added, times_added}

-- cold keys with their counts
abbrev pub Counts : Type 0
Counts = List (Credential × ℕ)

-- ---- one more and one less

-- this one has what is told, the others what they had
abbrev pub IsAt : Credential → Option ℕ → Counts → Counts → Type 0
IsAt k o old new = (c : Credential) → value_at credential_cmp new c ≡ cond (eq_by_cmp credential_cmp k c) o (value_at credential_cmp old c)

-- and its count is as f makes it
pub counted : (k : Credential) (o : Option ℕ) (old new : Counts) (f : ℕ → ℕ) → IsAt k o old new → unwrap_or o 0 ≡ f (count_at old k)
    → (c : Credential) → count_at new c ≡ cond (same_credential c k) (f (count_at old c)) (count_at old c)
counted k o old new f at is c =
    ap (λ (x : Option ℕ). unwrap_or x 0) (at c)
    ∙ elim (eq_by_cmp credential_cmp k c) as (λ b. eq_by_cmp credential_cmp k c ≡ b → unwrap_or (cond b o (value_at credential_cmp old c)) 0 ≡ cond b (f (count_at old c)) (count_at old c)) [
      | true ↦ λ t. is ∙ ap (λ (x : Option ℕ). f (unwrap_or x 0)) (sym (value_at_tied credential_total k c old t))
      | false ↦ λ _. refl
    ] refl
    ∙ ap (λ b. cond b (f (count_at old c)) (count_at old c)) ((eq_by_cmp_equiv credential_total).symm k c)

one_more : (b : Bool) (n : ℕ) → cond b (n + 1) n ≡ n + cond b 1 0
one_more true n = refl
one_more false n = omega arith

one_less : (b : Bool) (n : ℕ) → cond b (n - 1) n ≡ n - cond b 1 0
one_less true n = refl
one_less false n = omega arith

pub raised : (k : Credential) (o : Option ℕ) (old new : Counts) → IsAt k o old new → unwrap_or o 0 ≡ count_at old k + 1 → (c : Credential) → count_at new c ≡ count_at old c + cond (same_credential c k) 1 0
raised k o old new at is c = counted k o old new (λ n. n + 1) at is c ∙ one_more (same_credential c k) (count_at old c)

pub lowered : (k : Credential) (o : Option ℕ) (old new : Counts) → IsAt k o old new → unwrap_or o 0 ≡ count_at old k - 1 → (c : Credential) → count_at new c ≡ count_at old c - cond (same_credential c k) 1 0
lowered k o old new at is c = counted k o old new (λ n. n - 1) at is c ∙ one_less (same_credential c k) (count_at old c)

-- ---- the proposals

either : (a b : ℕ) → nat_lt 0 (a + b) ≡ (nat_lt 0 a || nat_lt 0 b)
either zero b = ap (nat_lt 0) (omega arith)
either (suc a) b = lt-ltb 0 (suc a + b) (omega arith) ∙ sym (ap (λ t. t || nat_lt 0 b) (lt-ltb 0 (suc a) (omega arith)))

any_counted : (c : Credential) (add : List (Credential × ℕ)) → nat_lt 0 (count_among c add) ≡ list_any (λ m. same_credential c m.0) add
any_counted c [] = refl
any_counted c (m ∷ add) =
    ap (nat_lt 0) (sum_by-cons (λ (x : Credential × ℕ). cond (same_credential c x.0) 1 0) m add)
    ∙ either (cond (same_credential c m.0) 1 0) (count_among c add)
    ∙ elim (same_credential c m.0) as (λ b. (nat_lt 0 (cond b 1 0) || nat_lt 0 (count_among c add)) ≡ (b || list_any (λ x. same_credential c x.0) add)) [ true ↦ refl | false ↦ any_counted c add ]

adds_is : (c : Credential) (a : Action) → nat_lt 0 (count_among c (members_added a)) ≡ adds_member c a
adds_is c (action.UpdateCommittee previous remove add threshold) = any_counted c add
adds_is c (action.NoConfidence previous) = refl
adds_is c (action.NewConstitution previous document script) = refl
adds_is c (action.HardForkInitiation previous version) = refl
adds_is c (action.ParameterChange previous update policy) = refl
adds_is c (action.TreasuryWithdrawals targets policy) = refl
adds_is c action.Info = refl

-- a live proposal adds the key if and only if the count is above 0
pub proposed_is : (c : Credential) (ps : List Proposal) → nat_lt 0 (times_added c ps) ≡ is_proposed c ps
proposed_is c [] = refl
proposed_is c (p ∷ ps) =
    ap (nat_lt 0) (sum_by-cons (λ (q : Proposal). count_among c (members_added q.action)) p ps)
    ∙ either (count_among c (members_added p.action)) (times_added c ps)
    ∙ (λ i. adds_is c p.action i || proposed_is c ps i)

-- one proposal more
pub added_last : (c : Credential) (ps : List Proposal) (p : Proposal) → times_added c (ps ++ p ∷ []) ≡ times_added c ps + count_among c (members_added p.action)
added_last c ps p =
    let count = λ (q : Proposal). count_among c (members_added q.action) in
    omega (arith, sum_by-append count ps (p ∷ []), sum_by-cons count p [])

-- a change that keeps each action
pub kept_by : (g : Proposal → Proposal) → ((p : Proposal) → (g p).action ≡ p.action) → (c : Credential) (ps : List Proposal) → times_added c (map g ps) ≡ times_added c ps
kept_by g same c [] = refl
kept_by g same c (p ∷ ps) =
    let count = λ (q : Proposal). count_among c (members_added q.action) in
    sum_by-cons count (g p) (map g ps)
    ∙ (λ i. count_among c (members_added (same p i)) + kept_by g same c ps i)
    ∙ sym (sum_by-cons count p ps)
