-- The ranges of all workers together have each entry that is left, once.
use Rattle.std.proofs.Common.{◌≡◌, ℕ, zero, suc, ◌+◌, ◌-◌, ◌*◌, ◌/◌, ◌<◌, ◌≤◌, List, [], ◌∷◌, ◌++◌, Bool, true, false, cond, not, ◌&&◌, ◌||◌, ◌==◌, filter, take, length, Option, Some, None, slice_index_or, sum_by, replicate, if◌then◌else◌, refl, ap, sym, subst, ◌∙◌, add-one, arith}
use Rattle.std.specs.declared.cmp.Ordering.{Ordering}
use Rattle.std.specs.declared.cmp.Ordering.TheVariants.{Less, Equal, Greater}
use Rattle.std.specs.Ordering.{MatchOrdering, is_lt, nat_cmp, ordering_then}
use Rattle.std.proofs.lemmas.Bool.Decides.{nat_tests}
use Rattle.std.proofs.lemmas.Cmp.{ranked}
use Rattle.std.proofs.lemmas.List.{take_all, take-append-le}
use Rattle.std.proofs.lemmas.List.Elements.{filter_agree}
use Rattle.std.proofs.lemmas.List.Sums.{sum_by-cons, sum_by_more}
use Rattle.std.proofs.lemmas.Nat.{div-add-mod', le-div}
use Rattle.gov_ids.specs.declared.Credential.{Credential}
use Rattle.gov_ids.specs.declared.Drep.{Drep}
use Rattle.gov_ids.specs.Orders.{credential_cmp, drep_cmp}
use Rattle.book_records.specs.declared.Entry.{Entry}
use Rattle.gov_model.specs.Stake.{votes_by}
use Rattle.maps.proofs.Joined.{summed, zero_either}
use Rattle.maps.specs.Maps.{comes_past, has_key}
use Rattle.drep_pulser.specs.Count.{Count, sum_for}
use Rattle.drep_pulser.specs.Facts.{IsCountIn, weight_by}
use Rattle.drep_pulser.specs.Parts.{IsSharedIn, by_drep, entries_left, is_beyond}
use Rattle.drep_pulser.proofs.Closing.{shared_by}
use Rattle.drep_pulser.proofs.Later.{past_former}
use Rattle.drep_pulser.proofs.Parted.{same_keys}
use Rattle.par_count.specs.Ranges.{IsShareOf, first_byte, last_before, last_below, share_of}

not_less : (a b : ℕ) → b ≤ a → is_lt (nat_cmp a b) ≡ false
not_less a b le =
    elim (nat_cmp a b) as (λ r. MatchOrdering r (a < b) (a ≡ b) (b < a) → is_lt r ≡ false) [
      | Less ↦ λ lt. absurd (omega arith)
      | Equal ↦ λ e. refl
      | Greater ↦ λ g. refl
    ] (ranked a b (nat_cmp a b) refl)

then_equal : (r : Ordering) → is_lt r ≡ false → is_lt (ordering_then (ordering_then r Equal) Equal) ≡ false
then_equal Less e = e
then_equal Equal e = refl
then_equal Greater e = refl

-- the last credential below a byte does not come before that below a lesser one
in_turn : (a b : ℕ) → b ≤ a → is_lt (credential_cmp (last_below a) (last_below b)) ≡ false
in_turn a b le = then_equal (nat_cmp (a - 1) (b - 1)) (not_less (a - 1) (b - 1) (omega arith))

module _ (workers : ℕ) where
  -- the byte at which a range begins is at most that at which the next one does
  rising : (w : ℕ) → 0 < workers → first_byte w workers ≤ first_byte (w + 1) workers
  rising w some = le-div (w * 256 / workers) ((w + 1) * 256) workers some (omega (arith, div-add-mod' (w * 256) workers))

  -- whether a credential is after those before a worker's range
  abbrev past_edge : ℕ → Credential → Bool
  past_edge w c = if w == 0 then true else if w == workers then false else is_lt (credential_cmp (last_below (first_byte w workers)) c)

  not_last : (w : ℕ) → w < workers → (w == workers) ≡ false
  not_last w lt = grind (arith, nat_tests)

  not_first : (w : ℕ) → (w + 1 == 0) ≡ false
  not_first w = grind (arith, nat_tests)

  after_edge : (first last : Bool) (k c : Credential) → last ≡ false
      → comes_past credential_cmp (if first || last then None else Some k) c ≡ (if first then true else if last then false else is_lt (credential_cmp k c))
  after_edge true last k c e = refl
  after_edge false true k c e = cc
  after_edge false false k c e = refl

  until_edge : (first last : Bool) (k c : Credential) → first ≡ false
      → is_beyond (if first || last then None else Some k) c ≡ (if first then true else if last then false else is_lt (credential_cmp k c))
  until_edge true last k c e = cc
  until_edge false true k c e = refl
  until_edge false false k c e = refl

  -- a worker's range is what comes past the edge before it, and not past the next
  pub share_is : (w : ℕ) (es : List (Credential × Entry)) → w < workers → share_of w workers es ≡ filter (λ (e : Credential × Entry). past_edge w e.0 && not (past_edge (w + 1) e.0)) es
  share_is w es lt =
      filter_agree _ _ (λ (e : Credential × Entry). λ i.
      after_edge (w == 0) (w == workers) (last_below (first_byte w workers)) e.0 (not_last w lt) i
      && not (until_edge (w + 1 == 0) (w + 1 == workers) (last_below (first_byte (w + 1) workers)) e.0 (not_first w) i)) es

  -- what comes past an edge comes past the one before
  earlier : (first last further : Bool) (j k c : Credential) → last ≡ false → is_lt (credential_cmp k j) ≡ false
      → (if further then false else is_lt (credential_cmp k c)) ≡ true → (if first then true else if last then false else is_lt (credential_cmp j c)) ≡ true
  earlier true last further j k c e order past = refl
  earlier false true further j k c e order past = cc
  earlier false false true j k c e order past = cc
  earlier false false false j k c e order past = past_former j k c order past

  past_before : (w : ℕ) (c : Credential) → w < workers → past_edge (w + 1) c ≡ true → past_edge w c ≡ true
  past_before w c lt past =
      earlier (w == 0) (w == workers) (w + 1 == workers) (last_below (first_byte w workers)) (last_below (first_byte (w + 1) workers)) c (not_last w lt)
      (in_turn (first_byte (w + 1) workers) (first_byte w workers) (rising w (omega arith)))
      (ap (λ b. if b then true else if w + 1 == workers then false else is_lt (credential_cmp (last_below (first_byte (w + 1) workers)) c)) (sym (not_first w)) ∙ past)

module _ {A : Type 0} (f : A → ℕ) (v : A → Bool) where
  with_one : (b : Bool) (x : A) (xs : List A) → sum_by f (filter v (cond b (x ∷ xs) xs)) ≡ cond b (cond (v x) (f x) 0) 0 + sum_by f (filter v xs)
  with_one true x xs = elim (v x) as (λ b. sum_by f (cond b (x ∷ filter v xs) (filter v xs)) ≡ cond b (f x) 0 + sum_by f (filter v xs)) [ true ↦ sum_by-cons f x (filter v xs) | false ↦ omega arith ]
  with_one false x xs = omega arith

  once : (p q : Bool) (n : ℕ) → (q ≡ true → p ≡ true) → cond (not q) n 0 ≡ cond (not p) n 0 + cond (p && not q) n 0
  once true true n h = refl
  once true false n h = omega arith
  once false true n h = let never : false ≡ true = h refl in cc
  once false false n h = omega arith

  -- what q keeps out is what p keeps out and what passes p alone
  pub parted : (p q : A → Bool) (xs : List A) → ((x : A) → q x ≡ true → p x ≡ true)
      → sum_by f (filter v (filter (λ x. not (q x)) xs)) ≡ sum_by f (filter v (filter (λ x. not (p x)) xs)) + sum_by f (filter v (filter (λ x. p x && not (q x)) xs))
  parted p q [] h = refl
  parted p q (x ∷ xs) h =
      omega (
        arith,
        parted p q xs h,
        once (p x) (q x) (cond (v x) (f x) 0) (h x),
        with_one (not (q x)) x (filter (λ x. not (q x)) xs),
        with_one (not (p x)) x (filter (λ x. not (p x)) xs),
        with_one (p x && not (q x)) x (filter (λ x. p x && not (q x)) xs),
      )

none_pass : {A : Type 0} (xs : List A) → filter (λ x. false) xs ≡ []
none_pass [] = refl
none_pass (x ∷ xs) = none_pass xs

all_pass : {A : Type 0} (xs : List A) → filter (λ x. true) xs ≡ xs
all_pass [] = refl
all_pass {A} (x ∷ xs) = ap (λ (l : List A). x ∷ l) (all_pass xs)

behind_all : (workers : ℕ) (c : Credential) → 0 < workers → not (past_edge workers workers c) ≡ true
behind_all workers c some =
    let first : (workers == 0) ≡ false = grind (arith, nat_tests) in
    let last : (workers == workers) ≡ true = grind (arith, nat_tests) in
    λ i. not (if first i then true else if last i then false else is_lt (credential_cmp (last_below (first_byte workers workers)) c))

module _ (es : List (Credential × Entry)) (c : Count) (parts : List (List ℕ)) (each : (w : ℕ) (p : List ℕ) → w < length parts → IsShareOf es c w (length parts) (slice_index_or parts w p)) where
  abbrev stake : List (Credential × Entry) → Drep → ℕ
  stake left d = sum_by (weight_by c.deposits) (filter (votes_by d) left)

  abbrev before : ℕ → List (Credential × Entry)
  before w = filter (λ (e : Credential × Entry). not (past_edge (length parts) w e.0)) (entries_left c es)

  one_part : (w : ℕ) (d : Drep) → w < length parts → sum_for (by_drep c.sums (slice_index_or parts w [])) d ≡ cond (has_key drep_cmp c.sums d) (stake (share_of w (length parts) (entries_left c es)) d) 0
  one_part w d lt =
      let h = each w [] lt in
      h.sums d ∙ ap (λ b. cond b (stake (share_of w (length parts) (entries_left c es)) d) 0) (same_keys c.sums (slice_index_or parts w []) d h.each)

  -- the parts of the first workers have the stakes of the entries before the next edge
  so_far : (w : ℕ) (d : Drep) → w ≤ length parts → sum_by (λ (p : List ℕ). sum_for (by_drep c.sums p) d) (take w parts) ≡ cond (has_key drep_cmp c.sums d) (stake (before w) d) 0
  so_far zero d le =
      zero_either (has_key drep_cmp c.sums d) ∙ ap (λ (l : List (Credential × Entry)). cond (has_key drep_cmp c.sums d) (stake l d) 0) (sym (none_pass (entries_left c es)))
  so_far (suc w) d le =
      let lt : w < length parts = omega arith in
      let left = entries_left c es in
      let more : stake (before (w + 1)) d ≡ stake (before w) d + stake (share_of w (length parts) left) d =
      parted (weight_by c.deposits) (votes_by d) (λ (e : Credential × Entry). past_edge (length parts) w e.0) (λ (e : Credential × Entry). past_edge (length parts) (w + 1) e.0) left (λ (e : Credential × Entry). past_before (length parts) w e.0 lt)
      ∙ ap (λ (l : List (Credential × Entry)). stake (before w) d + stake l d) (sym (share_is (length parts) w left lt)) in
      let next : sum_by (λ (p : List ℕ). sum_for (by_drep c.sums p) d) (take (w + 1) parts) ≡ cond (has_key drep_cmp c.sums d) (stake (before (w + 1)) d) 0 =
      sum_by_more (λ (p : List ℕ). sum_for (by_drep c.sums p) d) parts w [] lt
      ∙ summed (has_key drep_cmp c.sums d) _ _ (stake (before w) d) (stake (share_of w (length parts) left) d) (stake (before (w + 1)) d) (so_far w d (omega arith)) (one_part w d lt) more in
      subst (λ (n : ℕ). sum_by (λ (p : List ℕ). sum_for (by_drep c.sums p) d) (take n parts) ≡ cond (has_key drep_cmp c.sums d) (stake (before n) d) 0) (add-one w) next

  pub shared : IsCountIn es c → 0 < length parts → IsSharedIn es c parts
  shared h some = shared_by es c h parts (λ d.
      ap (λ (ps : List (List ℕ)). sum_by (λ (p : List ℕ). sum_for (by_drep c.sums p) d) ps) (sym (take_all (length parts) parts (omega arith)))
      ∙ so_far (length parts) d (omega arith)
      ∙ ap (λ (l : List (Credential × Entry)). cond (has_key drep_cmp c.sums d) (stake l d) 0)
      (filter_agree _ _ (λ (e : Credential × Entry). behind_all (length parts) e.0 some) (entries_left c es) ∙ all_pass (entries_left c es)))

-- what the workers leave, written back in its place
pub left_behind : (es : List (Credential × Entry)) (walk : Count) (parts taken rest : List (List ℕ)) (n : ℕ) → IsCountIn es walk → length parts ≡ length taken → length taken ≡ n → 0 < n
    → ((w : ℕ) (p : List ℕ) → w < length taken → IsShareOf es walk w (length taken) (slice_index_or parts w p)) → IsSharedIn es walk (take n (parts ++ rest))
left_behind es walk parts taken rest n h same count some each =
    let written : take n (parts ++ rest) ≡ parts = take-append-le n parts rest (omega arith) ∙ take_all n parts (omega arith) in
    let shares : (w : ℕ) (p : List ℕ) → w < length parts → IsShareOf es walk w (length parts) (slice_index_or parts w p) =
    λ w p lt. subst (λ (m : ℕ). IsShareOf es walk w m (slice_index_or parts w p)) (sym same) (each w p (omega (arith, same, lt))) in
    subst (λ (ps : List (List ℕ)). IsSharedIn es walk ps) (sym written) (shared es walk parts shares h (omega arith))
