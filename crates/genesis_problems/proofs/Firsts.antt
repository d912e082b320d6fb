-- The rule of the first problem, group after group.
use Rattle.std.proofs.Common.{◌≡◌, ℕ, ◌+◌, List, [], ◌∷◌, ◌++◌, Bool, true, false, cond, not, ◌||◌, Option, Some, None, length, map, take, refl, ap, sym, ◌∙◌, append_assoc, ◌==◌}
use Rattle.std.specs.declared.cmp.Ordering.{Ordering}
use Rattle.std.specs.Cmp.{IsTotalOrder}
use Rattle.std.specs.List.{list_any}
use Rattle.std.specs.Ordering.{eq_by_cmp}
use Rattle.std.proofs.lemmas.Cmp.{eq_by_cmp_equiv}
use Rattle.std.proofs.lemmas.List.{length-append, take_at}
use Rattle.std.proofs.lemmas.List.Folds.{list_any-append}
use Rattle.maps.proofs.Fresh.{seen_or_repeats, seen_or_repeats-none}
use Rattle.maps.proofs.Joined.{or_pairs}
use Rattle.maps.specs.Maps.{has_member}
use Rattle.maps.specs.Words.{or_else, repeats}
use Rattle.tx_records.specs.declared.genesis.GenesisRule.{GenesisRule}
use Rattle.tx_records.specs.declared.genesis.GenesisRule.TheVariants as rule
use Rattle.genesis_problems.specs.declared.problem.GenesisList.{GenesisList}
use Rattle.genesis_problems.specs.declared.problem.GenesisProblem.{GenesisProblem}
use Rattle.genesis_problems.specs.declared.problem.GenesisProblem.TheVariants.{Repeated, WrongNetwork}
use Rattle.genesis_problems.specs.Laws.{first_rule, rule_of}
use Rattle.genesis_problems.specs.Problems.{found_among, is_named_before, name_test, name_test, name_tests, network_test, network_tests, per_index_from}
use Rattle.genesis_problems.proofs.Telling.{Tests, found-append}

rule-append : (ps qs : List GenesisProblem) → first_rule (ps ++ qs) ≡ or_else (first_rule ps) (first_rule qs)
rule-append [] qs = refl
rule-append (p ∷ ps) qs = refl

-- the rule of the first problem that these tests find
abbrev pub first_found : Tests → Option GenesisRule
first_found tests = first_rule (found_among tests)

pub first_found-append : (a b : Tests) → first_found (a ++ b) ≡ or_else (first_found a) (first_found b)
first_found-append a b = ap first_rule (found-append a b) ∙ rule-append (found_among a) (found_among b)

-- whether one of these tests finds a problem
abbrev pub any_found : Tests → Bool
any_found tests = list_any (λ t. t.0) tests

-- the tests are of one rule: their first problem is of it, and comes exactly where one finds a problem
abbrev pub IsOf : GenesisRule → Tests → Type 0
IsOf r tests = first_found tests ≡ cond (any_found tests) (Some r) None

joined : (r : GenesisRule) (a b : Bool) → or_else (cond a (Some r) None) (cond b (Some r) None) ≡ cond (a || b) (Some r) None
joined r true b = refl
joined r false b = refl

pub of-append : (r : GenesisRule) (a b : Tests) → IsOf r a → IsOf r b → IsOf r (a ++ b)
of-append r a b p q =
    first_found-append a b
    ∙ (λ i. or_else (p i) (q i))
    ∙ joined r (any_found a) (any_found b)
    ∙ ap (λ (x : Bool). cond x (Some r) None) (sym (list_any-append (λ (t : Bool × GenesisProblem). t.0) a b))

pub of_one : (b : Bool) (p : GenesisProblem) → IsOf (rule_of p) ((b, p) ∷ [])
of_one true p = refl
of_one false p = refl

module _ {Y : Type 0} (tests : ℕ → Y → Tests) where
  pub of_each : (r : GenesisRule) → ((i : ℕ) (y : Y) → IsOf r (tests i y)) → (n : ℕ) (ys : List Y) → IsOf r (per_index_from tests n ys)
  of_each r h n [] = refl
  of_each r h n (y ∷ ys) = of-append r (tests n y) (per_index_from tests (n + 1) ys) (h n y) (of_each r h (n + 1) ys)

  pub any_each : (p : Y → Bool) → ((i : ℕ) (y : Y) → any_found (tests i y) ≡ p y) → (n : ℕ) (ys : List Y) → any_found (per_index_from tests n ys) ≡ list_any p ys
  any_each p h n [] = refl
  any_each p h n (y ∷ ys) =
      list_any-append (λ (t : Bool × GenesisProblem). t.0) (tests n y) (per_index_from tests (n + 1) ys)
      ∙ λ i. h n y i || any_each p h (n + 1) ys i

pub or_none : (b : Bool) → (b || false) ≡ b
or_none true = refl
or_none false = refl

any-map : {X Y : Type 0} (p : Y → Bool) (f : X → Y) (xs : List X) → list_any p (map f xs) ≡ list_any (λ x. p (f x)) xs
any-map p f [] = refl
any-map p f (x ∷ xs) = ap (λ (b : Bool). p (f x) || b) (any-map p f xs)

-- ---- networks

pub networks_of : (network : ℕ) (list : GenesisList) (ns : List ℕ) → IsOf rule.WrongNetwork (network_tests network list ns)
networks_of network list ns = of_each (network_test network list) rule.WrongNetwork (λ i n. of_one (not (n == network)) (WrongNetwork list i)) 0 ns

pub networks_found : {X : Type 0} (network : ℕ) (list : GenesisList) (f : X → ℕ) (xs : List X) → any_found (network_tests network list (map f xs)) ≡ list_any (λ x. not (f x == network)) xs
networks_found network list f xs =
    any_each (network_test network list) (λ n. not (n == network)) (λ i n. or_none (not (n == network))) 0 (map f xs)
    ∙ any-map (λ n. not (n == network)) f xs

-- ---- names

any_either : {A : Type 0} (r p q : A → Bool) (xs : List A) → ((x : A) → r x ≡ (p x || q x)) → list_any r xs ≡ (list_any p xs || list_any q xs)
any_either r p q [] h = refl
any_either r p q (x ∷ xs) h = (λ i. h x i || any_either r p q xs h i) ∙ or_pairs (p x) (q x) (list_any p xs) (list_any q xs)

or_four : (h s e r : Bool) → (h || ((s || e) || r)) ≡ ((h || s) || (e || r))
or_four true s e r = refl
or_four false true e r = refl
or_four false false e r = refl

pub names_of : {K : Type 0} (cmp : K → K → Ordering) (list : GenesisList) (names : List K) → IsOf rule.Repeated (name_tests cmp list names)
names_of cmp list names = of_each (name_test cmp list names) rule.Repeated (λ i k. of_one (is_named_before cmp names i k) (Repeated list i)) 0 names

module _ {K : Type 0} {cmp : K → K → Ordering} (o : IsTotalOrder cmp) (list : GenesisList) where
  member-more : (front : List K) (x q : K) → has_member cmp (front ++ x ∷ []) q ≡ (has_member cmp front q || eq_by_cmp cmp x q)
  member-more front x q =
      list_any-append (eq_by_cmp cmp q) front (x ∷ [])
      ∙ ap (λ (b : Bool). has_member cmp front q || b) (or_none (eq_by_cmp cmp q x) ∙ (eq_by_cmp_equiv o).symm q x)

  -- a name of the rest stands before if and only if it is one of the front, or the rest repeats
  named_after : (front rest : List K) → any_found (per_index_from (name_test cmp list (front ++ rest)) (length front) rest) ≡ seen_or_repeats cmp front rest
  named_after front [] = refl
  named_after front (x ∷ rest) =
      let later : any_found (per_index_from (name_test cmp list (front ++ x ∷ rest)) (length front + 1) rest) ≡ seen_or_repeats cmp (front ++ x ∷ []) rest =
      ap (λ (l : List K). any_found (per_index_from (name_test cmp list l) (length front + 1) rest)) (sym (append_assoc front (x ∷ []) rest))
      ∙ ap (λ (n : ℕ). any_found (per_index_from (name_test cmp list (front ++ x ∷ [] ++ rest)) n rest)) (sym (length-append front (x ∷ [])))
      ∙ named_after (front ++ x ∷ []) rest in
      let here : has_member cmp (take (length front) (front ++ x ∷ rest)) x ≡ has_member cmp front x =
      ap (λ (l : List K). has_member cmp l x) (take_at front (x ∷ rest) (length front) refl) in
      (λ i. here i || later i)
      ∙ ap (λ (b : Bool). has_member cmp front x || (b || repeats cmp rest)) (any_either (has_member cmp (front ++ x ∷ [])) (has_member cmp front) (eq_by_cmp cmp x) rest (member-more front x))
      ∙ or_four (has_member cmp front x) (list_any (has_member cmp front) rest) (list_any (eq_by_cmp cmp x) rest) (repeats cmp rest)

  pub names_found : (names : List K) → any_found (name_tests cmp list names) ≡ repeats cmp names
  names_found names = named_after [] names ∙ seen_or_repeats-none cmp names
