-- The count where some have voted and others are silent, and what one vote more changes.
use Rattle.std.proofs.Common.{◌≡◌, ℕ, ◌+◌, ◌-◌, ◌^◌, ◌<◌, ◌≤◌, List, [], ◌∷◌, drop, get_or, length, Bool, true, false, cond, Option, Some, None, IfSome, option_map, unwrap_or, refl, ap, sym, subst, ◌∙◌, arith}
use Rattle.std.specs.Ordering.{eq_by_cmp, is_eq}
use Rattle.std.specs.declared.cmp.Ordering.TheVariants.{Less}
use Rattle.std.specs.List.{AllByRecursion}
use Rattle.std.specs.List.Sorted.{IsStrictlySortedBy}
use Rattle.std.specs.Map.{keys_of, values_of}
use Rattle.std.proofs.lemmas.Cmp.{eq_by_cmp_equiv}
use Rattle.std.proofs.lemmas.List.{drop_all, drop_more}
use Rattle.std.proofs.lemmas.List.Sums.{sum_by-le-sum_by}
use Rattle.gov_ids.specs.declared.CredKind.TheVariants.{Key}
use Rattle.gov_ids.specs.declared.Voter.{Voter}
use Rattle.gov_ids.specs.declared.Voter.TheVariants.{Committee}
use Rattle.gov_ids.specs.Orders.{voter_cmp}
use Rattle.gov_ids.proofs.Totals.{voter_total}
use Rattle.gov_actions.specs.declared.action.Vote.{Vote}
use Rattle.gov_actions.specs.declared.action.Vote.TheVariants.{Yes, No, Abstain}
use Rattle.maps.specs.Maps.{IsMap, changed_at, each_value, sum_values, value_at, without_key}
use Rattle.maps.proofs.Kept.{IsMap-changed_where}
use Rattle.maps.proofs.Lookups.{none_below, value_at-changed_at}
use Rattle.maps.proofs.Placed.{changed_at_absent}
use Rattle.maps.proofs.Sums.{sum_values-changed_at, sum_values-without_key}
use Rattle.maps.proofs.Ties.{all_tied, is_equal}
use Rattle.tally.specs.Adding.{IsPartOf, total_of, with_side, with_vote, without_side, yes_of}
use Rattle.tally.specs.Silent.{Standing, count_of_standing}

-- each voter on the side of its vote, if it voted
abbrev pub cast : List (Voter × Vote) → Standing → Standing
cast votes voters = each_value (λ k s. (s.0, unwrap_or (value_at voter_cmp votes k) s.1)) voters

-- one voter on the side of its vote
abbrev pub moved : Voter × Vote → Standing → Standing
moved e voters = changed_at voter_cmp e.0 (λ s. (s.0, e.1)) voters

-- what these voters weigh
abbrev pub weight_of : Standing → ℕ
weight_of voters = sum_values (λ s. s.0) voters

-- the count is that of all where only those vote whose votes are not left
pub record IsSoFar (all : Standing) (votes left : List (Voter × Vote)) (count : ℕ × ℕ) : Type 0 where
  pub voters : Standing
  pub in_order : IsMap voter_cmp voters
  pub left_in_order : IsMap voter_cmp left
  pub counts : count ≡ count_of_standing voters
  pub weight : weight_of voters ≡ weight_of all
  pub rest : cast left voters ≡ cast votes all
  pub silent : AllByRecursion (λ k. value_at voter_cmp voters k ≡ value_at voter_cmp all k) (keys_of left)

same_side : (b now : Bool) (s : ℕ × Vote) (v : Vote) (later : Option Vote) → now ≡ b → (b ≡ true → later ≡ None)
    → ◌≡◌ {A = ℕ × Vote} ((cond b (s.0, v) s).0, unwrap_or later (cond b (s.0, v) s).1) (s.0, unwrap_or (cond now (Some v) later) s.1)
same_side true now s v later e none =
    ap (λ (o : Option Vote). (s.0, unwrap_or o v)) (none refl) ∙ ap (λ b. (s.0, unwrap_or (cond b (Some v) later) s.1)) (sym e)
same_side false now s v later e none = ap (λ b. (s.0, unwrap_or (cond b (Some v) later) s.1)) (sym e)

-- one vote, and then those after it
one_first : (e : Voter × Vote) (left : List (Voter × Vote)) → AllByRecursion (λ q. voter_cmp e.0 q ≡ Less) (keys_of left)
    → (voters : Standing) → cast left (moved e voters) ≡ cast (e ∷ left) voters
one_first e left above [] = refl
one_first e left above (m ∷ voters) =
    let equal = eq_by_cmp_equiv voter_total in
    let none : eq_by_cmp voter_cmp e.0 m.0 ≡ true → value_at voter_cmp left m.0 ≡ None =
    λ t. none_below voter_cmp m.0 left (all_tied voter_total m.0 e.0 (keys_of left) (is_equal _ (equal.symm m.0 e.0 ∙ t)) above) in
    λ i. (m.0, same_side (eq_by_cmp voter_cmp e.0 m.0) (eq_by_cmp voter_cmp m.0 e.0) m.1 e.1 (value_at voter_cmp left m.0) (equal.symm m.0 e.0) none i) ∷ one_first e left above voters i

-- the sides of the others are unchanged
others : (e : Voter × Vote) (voters all : Standing) (ks : List Voter) → AllByRecursion (λ q. voter_cmp e.0 q ≡ Less) ks
    → AllByRecursion (λ k. value_at voter_cmp voters k ≡ value_at voter_cmp all k) ks → AllByRecursion (λ k. value_at voter_cmp (moved e voters) k ≡ value_at voter_cmp all k) ks
others e voters all [] above h = tt
others e voters all (k ∷ ks) above h =
    let apart : eq_by_cmp voter_cmp e.0 k ≡ false = ap is_eq above.0 in (
      value_at-changed_at voter_total e.0 (λ (s : ℕ × Vote). (s.0, e.1)) voters k
          ∙ ap (λ b. cond b (option_map (λ (s : ℕ × Vote). (s.0, e.1)) (value_at voter_cmp voters k)) (value_at voter_cmp voters k)) apart ∙ h.0,
      others e voters all ks above.1 h.1,
    )

cast_none : (voters : Standing) → cast [] voters ≡ voters
cast_none [] = refl
cast_none (m ∷ voters) = ap (λ (l : Standing). m ∷ l) (cast_none voters)

yes-le-total : (s : ℕ × Vote) → yes_of s ≤ total_of s
yes-le-total (w, Yes) = omega arith
yes-le-total (w, No) = omega arith
yes-le-total (w, Abstain) = omega arith

total-le-weight : (s : ℕ × Vote) → total_of s ≤ s.0
total-le-weight (w, Yes) = omega arith
total-le-weight (w, No) = omega arith
total-le-weight (w, Abstain) = omega arith

-- a side beside the rest of a count
without : (n r : ℕ × ℕ) (s : ℕ × Vote) → r.0 + yes_of s ≡ n.0 → r.1 + total_of s ≡ n.1 → without_side n s.0 s.1 ≡ r
without n r (w, Yes) ayes total =
    let first : n.0 - w ≡ r.0 = omega (arith, ayes) in
    let second : n.1 - w ≡ r.1 = omega (arith, total) in
    λ i. (first i, second i)
without n r (w, No) ayes total =
    let first : n.0 ≡ r.0 = omega (arith, ayes) in
    let second : n.1 - w ≡ r.1 = omega (arith, total) in
    λ i. (first i, second i)
without n r (w, Abstain) ayes total =
    let first : n.0 ≡ r.0 = omega (arith, ayes) in
    let second : n.1 ≡ r.1 = omega (arith, total) in
    λ i. (first i, second i)

with_is : (r n : ℕ × ℕ) (s : ℕ × Vote) → n.0 ≡ r.0 + yes_of s → n.1 ≡ r.1 + total_of s → with_side r s.0 s.1 ≡ n
with_is r n (w, Yes) ayes total = λ i. (sym ayes i, sym total i)
with_is r n (w, No) ayes total =
    let first : r.0 ≡ n.0 = omega (arith, ayes) in
    λ i. (first i, sym total i)
with_is r n (w, Abstain) ayes total =
    let first : r.0 ≡ n.0 = omega (arith, ayes) in
    let second : r.1 ≡ n.1 = omega (arith, total) in
    λ i. (first i, second i)

as_they_are : (all : Standing) (ks : List Voter) → AllByRecursion (λ k. value_at voter_cmp all k ≡ value_at voter_cmp all k) ks
as_they_are all [] = tt
as_they_are all (k ∷ ks) = (refl, as_they_are all ks)

-- nobody has voted
pub begun : (all : Standing) (votes : List (Voter × Vote)) (count : ℕ × ℕ) → count ≡ count_of_standing all → IsMap voter_cmp all → IsMap voter_cmp votes → IsSoFar all votes votes count
begun all votes count is ordered votes_ordered =
    record { voters = all; in_order = ordered; left_in_order = votes_ordered; counts = is; weight = refl; rest = refl; silent = as_they_are all (keys_of votes) }

-- all have voted who vote
ended : (all : Standing) (votes : List (Voter × Vote)) (count : ℕ × ℕ) → IsSoFar all votes [] count → count ≡ count_of_standing (cast votes all)
ended all votes count h = h.counts ∙ ap count_of_standing (sym (cast_none h.voters) ∙ h.rest)

-- yes is at most the total, and the total at most what all weigh
pub part_of : (all : Standing) (votes left : List (Voter × Vote)) (count : ℕ × ℕ) → IsSoFar all votes left count → count.0 ≤ count.1
part_of all votes left count h = subst (λ (n : ℕ × ℕ). n.0 ≤ n.1) (sym h.counts) (sum_by-le-sum_by yes_of total_of (values_of h.voters) yes-le-total)

pub room_in : (all : Standing) (votes left : List (Voter × Vote)) (count : ℕ × ℕ) → IsSoFar all votes left count → count.1 ≤ weight_of all
room_in all votes left count h =
    omega (arith, ap (λ (n : ℕ × ℕ). n.1) h.counts, h.weight, sum_by-le-sum_by total_of (λ (s : ℕ × Vote). s.0) (values_of h.voters) total-le-weight)

module _ (all : Standing) (votes : List (Voter × Vote)) (e : Voter × Vote) (left : List (Voter × Vote)) (count : ℕ × ℕ) (h : IsSoFar all votes (e ∷ left) count) where
  -- one has voted more
  one_more : (next : ℕ × ℕ) → next ≡ count_of_standing (moved e h.voters) → weight_of (moved e h.voters) ≡ weight_of all → IsSoFar all votes left next
  unfolding IsStrictlySortedBy
  one_more next is weight = record {
    voters = moved e h.voters;
    in_order = IsMap-changed_where voter_cmp (λ q (s : ℕ × Vote). eq_by_cmp voter_cmp e.0 q) (λ s. (s.0, e.1)) h.voters h.in_order;
    left_in_order = h.left_in_order.1;
    counts = is;
    weight = weight;
    rest = one_first e left h.left_in_order.0 h.voters ∙ h.rest;
    silent = others e h.voters all (keys_of left) h.left_in_order.0 h.silent.1;
  }

  -- one that does not count
  stranger : value_at voter_cmp h.voters e.0 ≡ None → IsSoFar all votes left count
  stranger none =
      let same : h.voters ≡ moved e h.voters = sym (changed_at_absent voter_cmp e.0 (λ (s : ℕ × Vote). (s.0, e.1)) h.voters none) in
      one_more count (h.counts ∙ ap count_of_standing same) (sym (ap weight_of same) ∙ h.weight)

  module _ (s : ℕ × Vote) (there : value_at voter_cmp h.voters e.0 ≡ Some s) where
    -- yes and total of the others
    abbrev rest : ℕ × ℕ
    rest = count_of_standing (without_key voter_cmp e.0 h.voters)

    yes_there : rest.0 + yes_of s ≡ count.0
    yes_there = sum_values-without_key yes_of voter_cmp e.0 s h.voters there ∙ sym (ap (λ (n : ℕ × ℕ). n.0) h.counts)

    total_there : rest.1 + total_of s ≡ count.1
    total_there = sum_values-without_key total_of voter_cmp e.0 s h.voters there ∙ sym (ap (λ (n : ℕ × ℕ). n.1) h.counts)

    without_is : without_side count s.0 s.1 ≡ rest
    without_is = without count rest s yes_there total_there

    counted : IsSoFar all votes left (with_side (without_side count s.0 s.1) s.0 e.1)
    counted =
        let to : ℕ × Vote → ℕ × Vote = λ s. (s.0, e.1) in
        let ayes : (count_of_standing (moved e h.voters)).0 ≡ rest.0 + yes_of (s.0, e.1) =
        omega (arith, sum_values-changed_at yes_of voter_cmp voter_total e.0 to s h.voters h.in_order there, sum_values-without_key yes_of voter_cmp e.0 s h.voters there) in
        let total : (count_of_standing (moved e h.voters)).1 ≡ rest.1 + total_of (s.0, e.1) =
        omega (arith, sum_values-changed_at total_of voter_cmp voter_total e.0 to s h.voters h.in_order there, sum_values-without_key total_of voter_cmp e.0 s h.voters there) in
        let weight : weight_of (moved e h.voters) ≡ weight_of all =
        omega (arith, sum_values-changed_at (λ (s : ℕ × Vote). s.0) voter_cmp voter_total e.0 to s h.voters h.in_order there, h.weight) in
        one_more (with_side (without_side count s.0 s.1) s.0 e.1)
        (ap (λ (n : ℕ × ℕ). with_side n s.0 e.1) without_is ∙ with_is rest (count_of_standing (moved e h.voters)) (s.0, e.1) ayes total) weight

    part : weight_of all < 2 ^ 64 → IsPartOf count s
    part fits =
        let others = without_key voter_cmp e.0 h.voters in
        let less : rest.0 ≤ rest.1 = sum_by-le-sum_by yes_of total_of (values_of others) yes-le-total in
        let room : rest.1 ≤ weight_of others = sum_by-le-sum_by total_of (λ s. s.0) (values_of others) total-le-weight in
        let all_of : weight_of others + s.0 ≡ weight_of h.voters = sum_values-without_key (λ (s : ℕ × Vote). s.0) voter_cmp e.0 s h.voters there in
        let roomy : rest.1 + s.0 < 2 ^ 64 = omega (arith, room, all_of, h.weight, fits) in
        record {
          yes = omega (arith, yes_there);
          total = omega (arith, total_there);
          part = subst (λ (n : ℕ × ℕ). n.0 ≤ n.1) (sym without_is) less;
          fits = subst (λ (n : ℕ × ℕ). n.1 + s.0 < 2 ^ 64) (sym without_is) roomy;
        }

  -- the count with the next vote
  voted : IsSoFar all votes left (with_vote count (value_at voter_cmp all e.0) e.1)
  voted =
      elim (value_at voter_cmp all e.0) as (λ o. value_at voter_cmp h.voters e.0 ≡ o → IsSoFar all votes left (with_vote count o e.1)) [
        | None ↦ λ is. stranger is
        | Some s ↦ λ is. counted s is
      ] h.silent.0

  votable : weight_of all < 2 ^ 64 → IfSome (value_at voter_cmp all e.0) (λ s. IsPartOf count s)
  votable fits =
      elim (value_at voter_cmp all e.0) as (λ o. value_at voter_cmp h.voters e.0 ≡ o → IfSome o (λ s. IsPartOf count s)) [
        | None ↦ λ is. tt
        | Some s ↦ λ is. part s is fits
      ] h.silent.0

-- the votes of a loop
abbrev nobody : Voter × Vote
nobody = (Committee (record { hash = []; kind = Key }), Yes)

module _ (all : Standing) (votes items : List (Voter × Vote)) (i : ℕ) (count : ℕ × ℕ) where
  -- the one at i comes next
  pub next_votable : (side : Option (ℕ × Vote)) → IsSoFar all votes (drop i items) count → i < length items → side ≡ value_at voter_cmp all (get_or items i nobody).0 → weight_of all < 2 ^ 64 → IfSome side (λ s. IsPartOf count s)
  next_votable side h lt is fits =
      subst (λ (o : Option (ℕ × Vote)). IfSome o (λ s. IsPartOf count s)) (sym is)
      (votable all votes (get_or items i nobody) (drop (i + 1) items) count (subst (λ (left : List (Voter × Vote)). IsSoFar all votes left count) (drop_more items i nobody lt) h) fits)

  pub next_voted : (side : Option (ℕ × Vote)) (next : ℕ × ℕ) → IsSoFar all votes (drop i items) count → i < length items → side ≡ value_at voter_cmp all (get_or items i nobody).0
      → next ≡ with_vote count side (get_or items i nobody).1 → IsSoFar all votes (drop (i + 1) items) next
  next_voted side next h lt is with =
      subst (λ (n : ℕ × ℕ). IsSoFar all votes (drop (i + 1) items) n) (sym (with ∙ ap (λ (o : Option (ℕ × Vote)). with_vote count o (get_or items i nobody).1) is))
      (voted all votes (get_or items i nobody) (drop (i + 1) items) count (subst (λ (left : List (Voter × Vote)). IsSoFar all votes left count) (drop_more items i nobody lt) h))

  pub all_voted : IsSoFar all votes (drop i items) count → length items ≤ i → count ≡ count_of_standing (cast votes all)
  all_voted h le = ended all votes count (subst (λ (left : List (Voter × Vote)). IsSoFar all votes left count) (drop_all i items le) h)
