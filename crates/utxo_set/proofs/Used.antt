-- A set of keys in any order, and the list of them in order.
use Rattle.std.proofs.Common.{◌≡◌, ℕ, ◌+◌, ◌<◌, List, [], ◌∷◌, ◌++◌, Bool, true, false, cond, not, ◌&&◌, ◌||◌, Option, None, Some, length, map, fold, Bor, get_or, arith, refl, ap, sym, subst, ◌∙◌}
use Rattle.std.specs.declared.cmp.Ordering.{Ordering}
use Rattle.std.specs.declared.cmp.Ordering.TheVariants.{Less, Equal, Greater}
use Rattle.std.specs.Ordering.{is_eq, is_lt, eq_by_cmp, match_ordering}
use Rattle.std.specs.Cmp.{IsTotalOrder}
use Rattle.std.specs.FinMap.{IsAntisymmetric}
use Rattle.std.specs.List.{list_any, IsDistinct}
use Rattle.std.specs.List.Sorted.{IsPermutation, IsSorted, IsStrictlySortedBy}
use Rattle.std.specs.Map.Iter.{deref}
use Rattle.std.proofs.lemmas.Cmp.{eq_by_cmp_equiv}
use Rattle.std.proofs.lemmas.List.{map-append, length-map, get_or-map}
use Rattle.std.proofs.lemmas.List.Sorted.{IsPermutation-map, list_any-IsPermutation}
use Rattle.std.proofs.lemmas.Map.Keys.{IsDistinct-IsPermutation, apart_from_distinct, sorted_from_all_adjacent}
use Rattle.gov_ids.proofs.Exacts.{txid_exact}
use Rattle.gov_ids.proofs.Sames.{txid_same}
use Rattle.gov_ids.proofs.Totals.{txid_total}
use Rattle.gov_ids.specs.contracts.TxIdPartialEq.TheImpl as txid_eq
use Rattle.gov_ids.specs.declared.TxId.{TxId}
use Rattle.gov_ids.specs.Orders.{txid_cmp}
use Rattle.gov_ids.specs.Same.{same_txid}
use Rattle.maps.proofs.Same.{set_from_has_member}
use Rattle.maps.proofs.Sets.{IsSet-in_order, IsSet-with_key, IsSet-without_member, has_member-in_order, has_member-with_key, has_member-without_member}
use Rattle.maps.proofs.Ties.{is_less, turned}
use Rattle.maps.specs.Maps.{IsSet, comes_past, has_member, in_order, key_after, with_key, without_member}
use Rattle.utxo_set.specs.Utxos.{comes_below}

or_cond : (a b : Bool) → cond a true b ≡ (a || b)
or_cond true b = refl
or_cond false b = refl

not_cond : (a b : Bool) → cond a false b ≡ (not a && b)
not_cond true b = refl
not_cond false b = refl

module _ {K : Type 0} {cmp : K → K → Ordering} (o : IsTotalOrder cmp) (exact : IsAntisymmetric cmp) where
  -- keys with the members of a list in order are that list, in order
  pub in_order_from_members : (ks ls : List K) → IsSet cmp ls → ((q : K) → has_member cmp ks q ≡ has_member cmp ls q) → in_order cmp ks ≡ ls
  in_order_from_members ks ls h is = set_from_has_member o exact (in_order cmp ks) ls (IsSet-in_order o ks) h (λ q. has_member-in_order o ks q ∙ is q)

  -- with one key more, wherever it is
  pub in_order-with_key : (k : K) (old new : List K) → ((q : K) → has_member cmp new q ≡ cond (eq_by_cmp cmp k q) true (has_member cmp old q)) → in_order cmp new ≡ with_key cmp k (in_order cmp old)
  in_order-with_key k old new is =
      in_order_from_members new (with_key cmp k (in_order cmp old)) (IsSet-with_key o k (in_order cmp old) (IsSet-in_order o old)) (
      λ q.
      is q ∙ or_cond (eq_by_cmp cmp k q) (has_member cmp old q) ∙ ap (λ b. eq_by_cmp cmp k q || b) (sym (has_member-in_order o old q))
      ∙ sym (has_member-with_key o k (in_order cmp old) q)
      )

  -- without one key, wherever the others are
  pub in_order-without_member : (k : K) (old new : List K) → ((q : K) → has_member cmp new q ≡ cond (eq_by_cmp cmp k q) false (has_member cmp old q)) → in_order cmp new ≡ without_member cmp k (in_order cmp old)
  in_order-without_member k old new is =
      in_order_from_members new (without_member cmp k (in_order cmp old)) (IsSet-without_member cmp k (in_order cmp old) (IsSet-in_order o old)) (
      λ q.
      is q ∙ not_cond (eq_by_cmp cmp k q) (has_member cmp old q) ∙ ap (λ b. not (eq_by_cmp cmp k q) && b) (sym (has_member-in_order o old q))
      ∙ sym (has_member-without_member o k (in_order cmp old) q (IsSet-in_order o old))
      )

  -- a key above one that comes past comes past too
  past_above : (after : Option K) (k x : K) → comes_past cmp after k ≡ true → cmp k x ≡ Less → comes_past cmp after x ≡ true
  past_above None k x p h = refl
  past_above (Some a) k x p h = ap is_lt (o.trans a k x (is_less _ p) h)

  -- what is chosen where a key comes between
  abbrev chosen : Option K → K → Option K → Option K
  chosen after k next = cond (comes_past cmp after k && comes_below cmp next k) (Some k) next

  passed : (after : Option K) (k : K) (ks : List K) (b : Bool) → comes_past cmp after k ≡ b → key_after cmp after (with_key cmp k ks) ≡ cond (b && comes_below cmp (key_after cmp after ks) k) (Some k) (key_after cmp after ks)
  passed after k [] true p = ap (λ b. cond b (Some k) None) p
  passed after k [] false p = ap (λ b. cond b (Some k) None) p
  passed after k (x ∷ ks) b p =
      elim (cmp k x) as (λ r. cmp k x ≡ r → key_after cmp after (match_ordering r (k ∷ x ∷ ks) (x ∷ ks) (x ∷ with_key cmp k ks)) ≡ cond (b && comes_below cmp (key_after cmp after (x ∷ ks)) k) (Some k) (key_after cmp after (x ∷ ks))) [
        | Less ↦ λ r. below after k x ks b p r
        | Equal ↦ λ r. level after k x ks b p r
        | Greater ↦ λ r. above after k x ks b p r (passed after k ks b p)
      ] refl
    where
      below : (after : Option K) (k x : K) (ks : List K) (b : Bool) → comes_past cmp after k ≡ b → cmp k x ≡ Less → key_after cmp after (k ∷ x ∷ ks) ≡ cond (b && comes_below cmp (key_after cmp after (x ∷ ks)) k) (Some k) (key_after cmp after (x ∷ ks))
      below after k x ks true p r =
          let past : comes_past cmp after x ≡ true = past_above after k x p r in
          let lower : comes_below cmp (key_after cmp after (x ∷ ks)) k ≡ true = ap (λ b. comes_below cmp (cond b (Some x) (key_after cmp after ks)) k) past ∙ ap is_lt r in
          ap (λ b. cond b (Some k) (key_after cmp after (x ∷ ks))) p ∙ ap (λ b. cond b (Some k) (key_after cmp after (x ∷ ks))) (sym lower)
      below after k x ks false p r = ap (λ b. cond b (Some k) (key_after cmp after (x ∷ ks))) p

      level : (after : Option K) (k x : K) (ks : List K) (b : Bool) → comes_past cmp after k ≡ b → cmp k x ≡ Equal → key_after cmp after (x ∷ ks) ≡ cond (b && comes_below cmp (key_after cmp after (x ∷ ks)) k) (Some k) (key_after cmp after (x ∷ ks))
      level after k x ks true p r =
          let past : comes_past cmp after x ≡ true = ap (comes_past cmp after) (sym (exact k x r)) ∙ p in
          let lower : comes_below cmp (key_after cmp after (x ∷ ks)) k ≡ false = ap (λ b. comes_below cmp (cond b (Some x) (key_after cmp after ks)) k) past ∙ ap is_lt r in
          ap (λ b. cond b (Some k) (key_after cmp after (x ∷ ks))) (sym lower)
      level after k x ks false p r = refl

      above : (after : Option K) (k x : K) (ks : List K) (b : Bool) → comes_past cmp after k ≡ b → cmp k x ≡ Greater
          → key_after cmp after (with_key cmp k ks) ≡ cond (b && comes_below cmp (key_after cmp after ks) k) (Some k) (key_after cmp after ks)
          → key_after cmp after (x ∷ with_key cmp k ks) ≡ cond (b && comes_below cmp (key_after cmp after (x ∷ ks)) k) (Some k) (key_after cmp after (x ∷ ks))
      above after k x ks true p r is =
          elim (comes_past cmp after x) as (λ c. cond c (Some x) (key_after cmp after (with_key cmp k ks)) ≡ cond (comes_below cmp (cond c (Some x) (key_after cmp after ks)) k) (Some k) (cond c (Some x) (key_after cmp after ks))) [
            | true ↦ ap (λ q. cond (is_lt q) (Some k) (Some x)) (sym r)
            | false ↦ is
          ]
      above after k x ks false p r is =
          elim (comes_past cmp after x) as (λ c. cond c (Some x) (key_after cmp after (with_key cmp k ks)) ≡ cond c (Some x) (key_after cmp after ks)) [ true ↦ refl | false ↦ is ]

  -- the next key, with one key more
  pub key_after-with_key : (after : Option K) (k : K) (ks : List K) → key_after cmp after (with_key cmp k ks) ≡ cond (comes_past cmp after k && comes_below cmp (key_after cmp after ks) k) (Some k) (key_after cmp after ks)
  key_after-with_key after k ks = passed after k ks (comes_past cmp after k) refl

-- the keys in order, with one key more at the end
pub in_order-push : {K : Type 0} (cmp : K → K → Ordering) (ks : List K) (k : K) → in_order cmp (ks ++ k ∷ []) ≡ with_key cmp k (in_order cmp ks)
in_order-push {K} cmp ks k = folded ks []
  where
    folded : (ks s : List K) → fold (λ t q. with_key cmp q t) s (ks ++ k ∷ []) ≡ with_key cmp k (fold (λ t q. with_key cmp q t) s ks)
    folded [] s = refl
    folded (q ∷ qs) s = folded qs (with_key cmp q s)

-- what an insert says of members gives the list of used ids with one more
pub used_with : (k : TxId) (old new : List TxId) → ((q : TxId) → list_any (txid_eq.eq-value.it q) new ≡ cond (txid_eq.eq-value.it k q) true (list_any (txid_eq.eq-value.it q) old)) → in_order txid_cmp new ≡ with_key txid_cmp k (in_order txid_cmp old)
used_with k old new is =
    in_order-with_key txid_total txid_exact k old new
    (subst (λ (eq : TxId → TxId → Bool). (q : TxId) → list_any (eq q) new ≡ cond (eq k q) true (list_any (eq q) old)) txid_same is)

-- and what a removal says of them, with one less
pub used_without : (k : TxId) (old new : List TxId) → ((q : TxId) → list_any (txid_eq.eq-value.it q) new ≡ cond (txid_eq.eq-value.it k q) false (list_any (txid_eq.eq-value.it q) old)) → in_order txid_cmp new ≡ without_member txid_cmp k (in_order txid_cmp old)
used_without k old new is =
    in_order-without_member txid_total txid_exact k old new
    (subst (λ (eq : TxId → TxId → Bool). (q : TxId) → list_any (eq q) new ≡ cond (eq k q) false (list_any (eq q) old)) txid_same is)

-- a set has what is in the list of it
pub is_used : (k : TxId) (ks : List TxId) → list_any (txid_eq.eq-value.it k) ks ≡ has_member txid_cmp (in_order txid_cmp ks) k
is_used k ks = ap (λ (eq : TxId → TxId → Bool). list_any (eq k) ks) txid_same ∙ sym (has_member-in_order txid_total ks k)

-- the next id among those so far, with one id more
pub next_turn : (after : Option TxId) (ys : List (Bor TxId)) (x : Bor TxId) (next before : Option TxId) (b : Bool) → next ≡ key_after txid_cmp after (in_order txid_cmp (map deref ys)) → before ≡ next
    → b ≡ (comes_past txid_cmp after x.now && comes_below txid_cmp before x.now) → cond b (Some x.now) next ≡ key_after txid_cmp after (in_order txid_cmp (map deref (ys ++ x ∷ [])))
next_turn after ys x next before b is same e =
    let so_far : List TxId = in_order txid_cmp (map deref ys) in
    let more : in_order txid_cmp (map deref (ys ++ x ∷ [])) ≡ with_key txid_cmp x.now so_far = ap (λ (l : List TxId). in_order txid_cmp l) (map-append deref ys (x ∷ [])) ∙ in_order-push txid_cmp (map deref ys) x.now in
    ap (λ c. cond c (Some x.now) next) (e ∙ ap (λ (n : Option TxId). comes_past txid_cmp after x.now && comes_below txid_cmp n x.now) same)
    ∙ ap (λ (n : Option TxId). cond (comes_past txid_cmp after x.now && comes_below txid_cmp n x.now) (Some x.now) n) is
    ∙ sym (key_after-with_key txid_total txid_exact after x.now so_far) ∙ ap (λ (l : List TxId). key_after txid_cmp after l) (sym more)

-- what neither follows another nor ties with it is below it
strictly : (x y : TxId) (r : Ordering) → txid_cmp x y ≡ r → is_lt (txid_cmp y x) ≡ false → eq_by_cmp txid_cmp x y ≡ false → r ≡ Less
strictly x y Less p low apart = refl
strictly x y Equal p low apart = let tie : eq_by_cmp txid_cmp x y ≡ true = ap is_eq p in cc
strictly x y Greater p low apart = let below : is_lt (txid_cmp y x) ≡ true = ap is_lt (turned txid_total x y Greater p) in cc

-- ids that do not fall, each once, rise
rising : (ls : List (Bor TxId)) → IsSorted (λ (a b : Bor TxId). txid_cmp a.now b.now) ls → IsDistinct same_txid (map deref ls) → IsSet txid_cmp (map deref ls)
unfolding IsStrictlySortedBy
rising [] sorted once = tt
rising (l ∷ ls) sorted once =
    sorted_from_all_adjacent txid_total (map deref (l ∷ ls)) l.now (
    λ k h.
    let within : k + 1 < length (l ∷ ls) = subst (λ (n : ℕ). k + 1 < n) (length-map (l ∷ ls) deref) h in
    let at : get_or (map deref (l ∷ ls)) k l.now ≡ (get_or (l ∷ ls) k l).now = get_or-map deref (l ∷ ls) k l l.now (omega arith) in
    let next : get_or (map deref (l ∷ ls)) (k + 1) l.now ≡ (get_or (l ∷ ls) (k + 1) l).now = get_or-map deref (l ∷ ls) (k + 1) l l.now within in
    strictly (get_or (map deref (l ∷ ls)) k l.now) (get_or (map deref (l ∷ ls)) (k + 1) l.now) _ refl
    ((λ i. is_lt (txid_cmp (next i) (at i))) ∙ sorted k l (omega arith) within)
    (apart_from_distinct same_txid (map deref (l ∷ ls)) k (k + 1) l.now once (omega arith) h)
    )

-- ids of a sort, each once, are the list in order
pub sorted_ids : (old new : List (Bor TxId)) (ks : List TxId) → map deref old ≡ ks → IsDistinct txid_eq.eq-value.it ks → IsPermutation old new → IsSorted (λ (a b : Bor TxId). txid_cmp a.now b.now) new → map deref new ≡ in_order txid_cmp ks
sorted_ids old new ks is once same sorted =
    let moved : IsPermutation ks (map deref new) = subst (λ (l : List TxId). IsPermutation l (map deref new)) is (IsPermutation-map deref old new same) in
    let apart : IsDistinct same_txid (map deref new) = IsDistinct-IsPermutation same_txid (λ x y. (eq_by_cmp_equiv txid_total).symm x y) ks (map deref new) moved (subst (λ (eq : TxId → TxId → Bool). IsDistinct eq ks) txid_same once) in
    sym (in_order_from_members txid_total txid_exact ks (map deref new) (rising new sorted apart) (λ q. list_any-IsPermutation (eq_by_cmp txid_cmp q) ks (map deref new) moved))
