-- Outputs that leave and come: what they hold together.
use Rattle.std.proofs.Common.{◌≡◌, ℕ, ◌+◌, ◌<◌, List, [], ◌∷◌, ◌++◌, Bool, true, false, cond, ◌||◌, Option, Some, None, map, sum_by, take, length, refl, ap, sym, subst, ◌∙◌, arith, append_assoc, length-append}
use Rattle.std.proofs.lemmas.Bool.{or_parts}
use Rattle.std.specs.List.{AllByRecursion, IsDistinct, list_any, enumerate_from}
use Rattle.std.specs.Map.{keys_of, values_of}
use Rattle.std.proofs.lemmas.List.Sums.{sum_by-cons}
use Rattle.std.specs.Ordering.{is_eq}
use Rattle.std.specs.declared.cmp.Ordering.{Ordering}
use Rattle.std.specs.declared.cmp.Ordering.TheVariants.{Less, Equal, Greater}
use Rattle.std.proofs.lemmas.Cmp.{eq_by_cmp_equiv}
use Rattle.std.proofs.lemmas.List.Folds.{list_any-append}
use Rattle.std.proofs.Math.Seq.{take-append_seam}
use Rattle.maps.specs.Maps.{value_at, has_member, sum_values, with_values, without_keys}
use Rattle.maps.specs.Words.{amount}
use Rattle.maps.proofs.Lookups.{value_at-without_keys}
use Rattle.maps.proofs.Several.{sum_values-with_values, sum_values-without_keys}
use Rattle.maps.proofs.Ties.{is_equal}
use Rattle.gov_ids.specs.declared.OutRef.{OutRef}
use Rattle.gov_ids.specs.declared.TxId.{TxId}
use Rattle.gov_ids.specs.Orders.{outref_cmp, txid_cmp}
use Rattle.gov_ids.specs.Same.{same_outref}
use Rattle.gov_ids.proofs.Exacts.{outref_exact}
use Rattle.gov_ids.proofs.Totals.{outref_total}
use Rattle.book_records.specs.declared.Output.{Output}
use Rattle.ledger_model.specs.Ledger.{Ledger, output_at}
use Rattle.ledger_model.specs.Checks.{Check, per_place_from}
use Rattle.ledger_model.specs.UtxoRules.{is_spent_before}
use Rattle.book_records.specs.Outputs.{lovelace_in}
use Rattle.ledger_model.specs.Sound.{IsSound}
use Rattle.ledger_model.proofs.Unbroken.{IsUnbroken, unbroken-per_place}

-- the references of a list that no check finds earlier in it stand once
module _ (all : List OutRef) where
  abbrev AreFresh : List OutRef → List OutRef → Type 0
  AreFresh front rs = AllByRecursion (λ r. list_any (same_outref r) front ≡ false) rs

  fresh-parts : (front : List OutRef) (x : OutRef) (rs : List OutRef) → AreFresh (front ++ x ∷ []) rs → AreFresh front rs × AllByRecursion (λ r. same_outref x r ≡ false) rs
  fresh-parts front x [] h = (tt, tt)
  fresh-parts front x (r ∷ rs) h =
      let parts : (list_any (same_outref r) front ≡ false) × ((same_outref r x || false) ≡ false) = or_parts _ _ (sym (list_any-append (same_outref r) front (x ∷ [])) ∙ h.0) in
      let more : AreFresh front rs × AllByRecursion (λ r. same_outref x r ≡ false) rs = fresh-parts front x rs h.1 in
      ((parts.0, more.0), ((eq_by_cmp_equiv outref_total).symm x r ∙ (or_parts _ _ parts.1).0, more.1))

  -- no reference of rs stands in the front before it
  pub all_fresh : (checks : ℕ → OutRef → List Check)
      → ((i : ℕ) (r : OutRef) → IsUnbroken (checks i r) → is_spent_before all i r ≡ false)
      → (front rs : List OutRef) → front ++ rs ≡ all → IsUnbroken (per_place_from checks (length front) rs)
      → AreFresh front rs × IsDistinct same_outref rs
  unfolding IsDistinct
  all_fresh checks says front [] e h = (tt, tt)
  all_fresh checks says front (r ∷ rs) e h =
      let both : IsUnbroken (checks (length front) r) × IsUnbroken (per_place_from checks (length front + 1) rs) = unbroken-per_place checks (length front) r rs h in
      let here : list_any (same_outref r) (take (length front) all) ≡ false = says (length front) r both.0 in
      let seam : take (length front) all ≡ front = ap (λ (list : List OutRef). take (length front) list) (sym e) ∙ take-append_seam front (r ∷ rs) in
      let n : length (front ++ r ∷ []) ≡ length front + 1 = length-append front (r ∷ []) in
      let more : AreFresh (front ++ r ∷ []) rs × IsDistinct same_outref rs =
      all_fresh checks says (front ++ r ∷ []) rs (append_assoc front (r ∷ []) rs ∙ e) (subst (λ (k : ℕ). IsUnbroken (per_place_from checks k rs)) (sym n) both.1) in
      let parts : AreFresh front rs × AllByRecursion (λ q. same_outref r q ≡ false) rs = fresh-parts front r rs more.0 in
      ((ap (λ (list : List OutRef). list_any (same_outref r) list) (sym seam) ∙ here, parts.0), (parts.1, more.1))

-- an output of a transaction whose id is not used is not there
not_first : (id : TxId) (i : ℕ) (used : List TxId) (e : OutRef × Output) (rest : Option Output) (r : Ordering) → outref_cmp (record { tx = id; index = i }) e.0 ≡ r
    → has_member txid_cmp used id ≡ false → has_member txid_cmp used e.0.tx ≡ true → rest ≡ None → cond (is_eq r) (Some e.1) rest ≡ None
not_first id i used e rest Less c n h more = more
not_first id i used e rest Equal c n h more =
    let one : id ≡ e.0.tx = ap (λ (r : OutRef). r.tx) (outref_exact (record { tx = id; index = i }) e.0 c) in
    let yes : has_member txid_cmp used id ≡ true = ap (λ (t : TxId). has_member txid_cmp used t) one ∙ h in cc
not_first id i used e rest Greater c n h more = more

pub not_there : (id : TxId) (i : ℕ) (used : List TxId) (es : List (OutRef × Output)) → has_member txid_cmp used id ≡ false
    → AllByRecursion (λ (r : OutRef). has_member txid_cmp used r.tx ≡ true) (keys_of es) → value_at outref_cmp es (record { tx = id; index = i }) ≡ None
not_there id i used [] n h = refl
not_there id i used (e ∷ es) n h =
    not_first id i used e (value_at outref_cmp es (record { tx = id; index = i })) (outref_cmp (record { tx = id; index = i }) e.0) refl n h.0 (not_there id i used es n h.1)

-- and it is not there after some have left
cond_none : (b : Bool) (o : Option Output) → o ≡ None → cond b None o ≡ None
cond_none true o h = refl
cond_none false o h = h

pub not_there_after : (l : Ledger) (id : TxId) (i : ℕ) (rs : List OutRef) → IsSound l → has_member txid_cmp l.used id ≡ false
    → value_at outref_cmp (without_keys outref_cmp rs l.outputs) (record { tx = id; index = i }) ≡ None
not_there_after l id i rs s n =
    value_at-without_keys outref_total rs l.outputs (record { tx = id; index = i })
    ∙ cond_none (has_member outref_cmp rs (record { tx = id; index = i })) (value_at outref_cmp l.outputs (record { tx = id; index = i })) (not_there id i l.used l.outputs n s.ids_used)

-- outputs with these indices, from n on
module _ (id : TxId) {X : Type 0} (kept : X → Output) where
  abbrev placed_output : ℕ × X → OutRef × Output
  placed_output p = (record { tx = id; index = p.0 }, kept p.1)

  abbrev pub made_from : ℕ → List X → List (OutRef × Output)
  made_from n xs = map placed_output (enumerate_from n xs)

  other_index : (i j : ℕ) (b : Bool) → i < j → same_outref (record { tx = id; index = i }) (record { tx = id; index = j }) ≡ b → b ≡ false
  other_index i j true lt e = absurd (
      let one : i ≡ j = ap (λ (r : OutRef). r.index) (outref_exact (record { tx = id; index = i }) (record { tx = id; index = j }) (is_equal _ e)) in omega arith
      )
  other_index i j false lt e = refl

  later_indices : (i n : ℕ) (xs : List X) → i < n → AllByRecursion (λ r. same_outref (record { tx = id; index = i }) r ≡ false) (keys_of (made_from n xs))
  later_indices i n [] lt = tt
  later_indices i n (x ∷ xs) lt = (other_index i n _ lt refl, later_indices i (n + 1) xs (omega arith))

  pub made_once : (n : ℕ) (xs : List X) → IsDistinct same_outref (keys_of (made_from n xs))
  unfolding IsDistinct
  made_once n [] = tt
  made_once n (x ∷ xs) = (later_indices n (n + 1) xs (omega arith), made_once (n + 1) xs)

  pub made_not_there : (P : OutRef → Type 0) → ((i : ℕ) → P (record { tx = id; index = i })) → (n : ℕ) (xs : List X) → AllByRecursion P (keys_of (made_from n xs))
  made_not_there P h n [] = tt
  made_not_there P h n (x ∷ xs) = (h n, made_not_there P h (n + 1) xs)

  pub sum_values-made : (f : Output → ℕ) (n : ℕ) (xs : List X) → sum_values f (made_from n xs) ≡ sum_by (λ x. f (kept x)) xs
  sum_values-made f n [] = refl
  sum_values-made f n (x ∷ xs) = omega (arith, sum_values-made f (n + 1) xs, sum_by-cons f (kept x) (values_of (made_from (n + 1) xs)), sum_by-cons (λ x. f (kept x)) x xs)

  pub sum-made : (n : ℕ) (xs : List X) → lovelace_in (made_from n xs) ≡ sum_by (λ x. (kept x).lovelace) xs
  sum-made = sum_values-made (λ (o : Output). o.lovelace)

-- what is spent and what is made of anything that outputs hold, beside what there was
pub outputs_settled : (f : Output → ℕ) (l : Ledger) (rs : List OutRef) (new : List (OutRef × Output)) → IsSound l → IsDistinct same_outref rs
    → IsDistinct same_outref (keys_of new) → AllByRecursion (λ r. value_at outref_cmp (without_keys outref_cmp rs l.outputs) r ≡ None) (keys_of new)
    → sum_values f (with_values outref_cmp new (without_keys outref_cmp rs l.outputs)) + sum_by (λ r. amount f (output_at l r)) rs ≡ sum_values f l.outputs + sum_values f new
outputs_settled f l rs new s once new_once fresh =
    omega (
      arith,
      sum_values-with_values outref_total f new (without_keys outref_cmp rs l.outputs) new_once fresh,
      sum_values-without_keys outref_total outref_exact f rs l.outputs s.outputs once,
    )
