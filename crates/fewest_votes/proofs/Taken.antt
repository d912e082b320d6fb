-- Silent DReps that are taken one after the other, until their Yes reaches the threshold.
use Rattle.std.proofs.Common.{◌≡◌, ℕ, ◌+◌, ◌-◌, ◌^◌, ◌<◌, ◌≤◌, List, [], ◌∷◌, ◌++◌, Bool, true, false, cond, Some, drop, length, min, slice_index_or, take, refl, ap, sym, subst, ◌∙◌, arith, add-zero, length-append}
use Rattle.std.proofs.lemmas.List.{drop_all, drop_more, take_at}
use Rattle.std.specs.List.{find}
use Rattle.std.proofs.lemmas.List.Sums.{sum_by-append, sum_by-cons}
use Rattle.coin_frac.specs.Fraction.{Fraction}
use Rattle.coin_frac.specs.Reaches.{reaches}
use Rattle.gov_ids.specs.declared.Credential.{Credential}
use Rattle.gov_actions.specs.declared.action.Proposal.{Proposal}
use Rattle.shortfall_model.specs.declared.short.Short.TheVariants as short
use Rattle.shortfall_model.specs.Silent.{fronts_of, is_silent, short_by, stakes_of, suffice, yes_without_last}
use Rattle.fewest_votes.specs.Ranked.{short_by_front, silent_among}
use Rattle.fewest_votes.proofs.FrontsFound.{found_front, later}
use Rattle.fewest_votes.proofs.Reached.{IsShare, most, stopped, whole}

abbrev Dreps : Type 0
Dreps = List (Credential × ℕ)

-- ---- who is left

-- one that voted is passed
pub passed : (a : Proposal) (ds : Dreps) (i : ℕ) (d : Credential × ℕ) → i < length ds → is_silent a (slice_index_or ds i d).0 ≡ false → silent_among a (drop i ds) ≡ silent_among a (drop (i + 1) ds)
passed a ds i d within e =
    ap (silent_among a) (drop_more ds i d within)
    ∙ ap (λ (b : Bool). cond b (slice_index_or ds i d ∷ silent_among a (drop (i + 1) ds)) (silent_among a (drop (i + 1) ds))) e

-- one that did not is the next
pub next : (a : Proposal) (ds : Dreps) (i : ℕ) (d : Credential × ℕ) → i < length ds → is_silent a (slice_index_or ds i d).0 ≡ true
    → silent_among a (drop i ds) ≡ slice_index_or ds i d ∷ silent_among a (drop (i + 1) ds)
next a ds i d within e =
    ap (silent_among a) (drop_more ds i d within)
    ∙ ap (λ (b : Bool). cond b (slice_index_or ds i d ∷ silent_among a (drop (i + 1) ds)) (silent_among a (drop (i + 1) ds))) e

-- ---- the sum

-- the sum so far, up to the greatest number of 64 bits
abbrev pub IsSum : ℕ → Dreps → ℕ → Type 0
IsSum ayes ds n = n ≡ min (ayes + stakes_of ds) most

pub no_sum : (ayes : ℕ) → ayes < 2 ^ 64 → IsSum ayes [] ayes
no_sum ayes h = omega (arith, h)

stakes_more : (ds : Dreps) (d : Credential × ℕ) → stakes_of (ds ++ d ∷ []) ≡ stakes_of ds + d.1
stakes_more ds d = omega (arith, sum_by-append (λ (x : Credential × ℕ). x.1) ds (d ∷ []), sum_by-cons (λ (x : Credential × ℕ). x.1) d [])

min_more : (n m k : ℕ) → min (min n most + m) most ≡ min (n + m) most
min_more n m k = omega arith

pub sum_more : (ayes n : ℕ) (ds : Dreps) (d : Credential × ℕ) → IsSum ayes ds n → IsSum ayes (ds ++ d ∷ []) (min (n + d.1) most)
sum_more ayes n ds d e =
    let more : ayes + stakes_of ds + d.1 ≡ ayes + stakes_of (ds ++ d ∷ []) = omega (arith, stakes_more ds d) in
    ap (λ (m : ℕ). min (m + d.1) most) e ∙ min_more (ayes + stakes_of ds) d.1 0 ∙ ap (λ (m : ℕ). min m most) more

pub suffices_is : (t : Fraction) (count : ℕ × ℕ) (ds : Dreps) (n : ℕ) (b : Bool) → IsShare count.1 t → IsSum count.0 ds n → reaches n count.1 t ≡ b → suffice t count ds ≡ b
suffices_is t count ds n b is e r = sym (stopped (count.0 + stakes_of ds) count.1 t is) ∙ sym (ap (λ (m : ℕ). reaches m count.1 t) e) ∙ r

-- ---- one after the other

-- those taken before the place i do not reach, and with those that are left are all
pub record AreTaken (t : Fraction) (count : ℕ × ℕ) (a : Proposal) (ds : Dreps) (i : ℕ) (taken : Dreps) (n : ℕ) : Type 0 where
  pub left : later (suffice t count) taken (silent_among a (drop i ds)) ≡ later (suffice t count) [] (silent_among a ds)
  pub sum : IsSum count.0 taken n
  pub short : reaches n count.1 t ≡ false
  pub none : suffice t count [] ≡ false

-- none is taken
pub taken_none : (t : Fraction) (count : ℕ × ℕ) (a : Proposal) (ds : Dreps) (taken : Dreps) → IsShare count.1 t → count.0 < 2 ^ 64 → reaches count.0 count.1 t ≡ false → taken ≡ [] → AreTaken t count a ds 0 taken count.0
taken_none t count a ds taken is room fails e =
    subst (λ (xs : Dreps). AreTaken t count a ds 0 xs count.0) (sym e)
    (record { left = refl; sum = no_sum count.0 room; short = fails; none = suffices_is t count [] count.0 false is (no_sum count.0 room) fails })

-- one that voted is passed
pub taken_past : (t : Fraction) (count : ℕ × ℕ) (a : Proposal) (ds : Dreps) (i : ℕ) (taken taken' : Dreps) (n n' : ℕ) (d : Credential × ℕ) → i < length ds → is_silent a (slice_index_or ds i d).0 ≡ false
    → taken' ≡ taken → n' ≡ n → AreTaken t count a ds i taken n → AreTaken t count a ds (i + 1) taken' n'
taken_past t count a ds i taken taken' n n' d within e same sum h =
    subst (λ (x : Dreps × ℕ). AreTaken t count a ds (i + 1) x.0 x.1) (λ j. (sym same j, sym sum j))
    (record { left = sym (ap (later (suffice t count) taken) (passed a ds i d within e)) ∙ h.left; sum = h.sum; short = h.short; none = h.none })

-- one that did not vote is taken, and does not reach either
pub taken_more : (t : Fraction) (count : ℕ × ℕ) (a : Proposal) (ds : Dreps) (i : ℕ) (taken taken' : Dreps) (n n' : ℕ) (d : Credential × ℕ) → IsShare count.1 t → i < length ds → is_silent a (slice_index_or ds i d).0 ≡ true
    → taken' ≡ taken ++ slice_index_or ds i d ∷ [] → n' ≡ min (n + (slice_index_or ds i d).1) most → reaches n' count.1 t ≡ false
    → AreTaken t count a ds i taken n → AreTaken t count a ds (i + 1) taken' n'
taken_more t count a ds i taken taken' n n' d is within e more sum fails h =
    let p = suffice t count in
    let x : Credential × ℕ = slice_index_or ds i d in
    let xs : Dreps = taken ++ x ∷ [] in
    let sums : IsSum count.0 xs n' = sum ∙ sum_more count.0 n taken x h.sum in
    let short : p xs ≡ false = suffices_is t count xs n' false is sums fails in
    let rest = silent_among a (drop (i + 1) ds) in
    let left : later p xs rest ≡ later p [] (silent_among a ds) =
    sym (ap (λ (b : Bool). cond b (Some xs) (later p xs rest)) short) ∙ sym (ap (later p taken) (next a ds i d within e)) ∙ h.left in
    subst (λ (ys : Dreps). AreTaken t count a ds (i + 1) ys n') (sym more) (record { left = left; sum = sums; short = fails; none = h.none })

-- ---- the answers

without_last : (ds : Dreps) (d : Credential × ℕ) → take (length (ds ++ d ∷ []) - 1) (ds ++ d ∷ []) ≡ ds
without_last ds d = take_at ds (d ∷ []) (length (ds ++ d ∷ []) - 1) (omega (arith, length-append ds (d ∷ [])))

-- the DReps so far and the one that reaches are the shortest front
pub reached : (t : Fraction) (count : ℕ × ℕ) (silent ds rest : Dreps) (d : Credential × ℕ) (n : ℕ) → IsShare count.1 t → IsSum count.0 ds n → reaches n count.1 t ≡ false
    → suffice t count [] ≡ false → later (suffice t count) ds (d ∷ rest) ≡ later (suffice t count) [] silent → reaches (min (n + d.1) most) count.1 t ≡ true
    → short.Least (ds ++ d ∷ []) count.0 count.1 t n ≡ short_by_front t count silent
reached t count silent ds rest d n is sum fails none left ayes =
    let p = suffice t count in
    let es : Dreps = ds ++ d ∷ [] in
    let enough : p es ≡ true = suffices_is t count es (min (n + d.1) most) true is (sum_more count.0 n ds d sum) ayes in
    let last : n ≡ count.0 + stakes_of ds = whole n (count.0 + stakes_of ds) (min (n + d.1) most) count.1 t is sum fails ayes in
    let first : find p (fronts_of silent) ≡ Some es =
    found_front p silent ∙ ap (λ (b : Bool). cond b (Some []) (later p [] silent)) none ∙ sym left ∙ ap (λ (b : Bool). cond b (Some es) (later p es rest)) enough in
    let sum_is : n ≡ yes_without_last count.0 es = last ∙ ap (λ (xs : Dreps). count.0 + stakes_of xs) (sym (without_last ds d)) in
    ap (λ (m : ℕ). short.Least es count.0 count.1 t m) sum_is ∙ sym (ap (short_by t count) first)

-- none reaches
pub not_reached : (t : Fraction) (count : ℕ × ℕ) (silent ds : Dreps) → suffice t count [] ≡ false → later (suffice t count) ds [] ≡ later (suffice t count) [] silent
    → short.None count.0 count.1 t ≡ short_by_front t count silent
not_reached t count silent ds none left =
    let p = suffice t count in
    sym (ap (short_by t count) (found_front p silent ∙ ap (λ (b : Bool). cond b (Some []) (later p [] silent)) none ∙ sym left))

-- it is reached without any
pub reached_at_once : (t : Fraction) (count : ℕ × ℕ) (silent : Dreps) → suffice t count [] ≡ true → short.Least [] count.0 count.1 t count.0 ≡ short_by_front t count silent
reached_at_once t count silent all =
    let p = suffice t count in
    ap (λ (m : ℕ). short.Least [] count.0 count.1 t m) (sym (add-zero count.0))
    ∙ sym (ap (short_by t count) (found_front p silent ∙ ap (λ (b : Bool). cond b (Some []) (later p [] silent)) all))

-- the DReps taken and the one at the place i reach
pub taken_reach : (t : Fraction) (count : ℕ × ℕ) (a : Proposal) (ds : Dreps) (i : ℕ) (taken taken' : Dreps) (n n' : ℕ) (d : Credential × ℕ) → IsShare count.1 t → i < length ds → is_silent a (slice_index_or ds i d).0 ≡ true
    → taken' ≡ taken ++ slice_index_or ds i d ∷ [] → n' ≡ min (n + (slice_index_or ds i d).1) most → reaches n' count.1 t ≡ true
    → AreTaken t count a ds i taken n → short.Least taken' count.0 count.1 t n ≡ short_by_front t count (silent_among a ds)
taken_reach t count a ds i taken taken' n n' d is within e more sum holds h =
    ap (λ (xs : Dreps). short.Least xs count.0 count.1 t n) more
    ∙ reached t count (silent_among a ds) taken (silent_among a (drop (i + 1) ds)) (slice_index_or ds i d) n is h.sum h.short h.none
    (sym (ap (later (suffice t count) taken) (next a ds i d within e)) ∙ h.left) (ap (λ (m : ℕ). reaches m count.1 t) (sym sum) ∙ holds)

-- all are passed
pub taken_all : (t : Fraction) (count : ℕ × ℕ) (a : Proposal) (ds : Dreps) (i : ℕ) (taken : Dreps) (n : ℕ) → length ds ≤ i → AreTaken t count a ds i taken n
    → short.None count.0 count.1 t ≡ short_by_front t count (silent_among a ds)
taken_all t count a ds i taken n end h =
    not_reached t count (silent_among a ds) taken h.none
    (sym (ap (λ (xs : Dreps). later (suffice t count) taken (silent_among a xs)) (drop_all i ds end)) ∙ h.left)
