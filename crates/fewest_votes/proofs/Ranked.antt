-- The silent DReps of a proposal are those of the ranking that did not vote, and what it lacks is what the definition says.
use Rattle.std.proofs.Common.{◌≡◌, ℕ, List, [], ◌∷◌, IfOk, Result, Ok, Err, filter, map, nat_le, refl, ap, ◌∙◌}
use Rattle.std.specs.declared.cmp.Ordering.{Ordering}
use Rattle.std.specs.declared.cmp.Ordering.TheVariants.{Less, Equal, Greater}
use Rattle.std.specs.Ordering.{nat_cmp, ordering_then}
use Rattle.std.specs.Cmp.{IsTotalOrder}
use Rattle.std.proofs.lemmas.Cmp.{back_total, nat_cmp_total, on_total, then_total}
use Rattle.no_memory.specs.declared.NoMemory.{NoMemory}
use Rattle.gov_ids.specs.declared.Credential.{Credential}
use Rattle.gov_ids.specs.declared.Drep.TheVariants as drep
use Rattle.gov_ids.specs.Derived.{credential_is}
use Rattle.gov_ids.specs.Orders.{credential_cmp}
use Rattle.gov_ids.proofs.Exacts.{credential_exact}
use Rattle.gov_ids.proofs.Totals.{credential_total}
use Rattle.gov_actions.specs.declared.action.Action.{Action}
use Rattle.gov_actions.specs.declared.action.Action.TheVariants.{NoConfidence, UpdateCommittee, NewConstitution, HardForkInitiation, ParameterChange, TreasuryWithdrawals, Info}
use Rattle.gov_actions.specs.declared.action.Proposal.{Proposal}
use Rattle.gov_actions.specs.declared.tally.Need.{Need}
use Rattle.gov_actions.specs.declared.tally.Need.TheVariants as need
use Rattle.gov_actions.specs.declared.tally.Role.TheVariants as role
use Rattle.gov_model.specs.Enacted.{enacted_after}
use Rattle.gov_model.specs.Need.{need_of}
use Rattle.gov_model.specs.Sides.{active_dreps}
use Rattle.gov_model.specs.Snapshot.{Snapshot}
use Rattle.gov_model.specs.Stake.{drep_stake}
use Rattle.maps.specs.Maps.{in_order}
use Rattle.drep_pulser.specs.Count.{Ended, sum_for}
use Rattle.drep_pulser.specs.Facts.{IsCountedOf}
use Rattle.snapshots.specs.declared.frozen.Frozen.{Frozen}
use Rattle.snapshots.specs.Frozen.{frozen_copy_of}
use Rattle.shortfall_model.specs.declared.short.Short.{Short}
use Rattle.shortfall_model.specs.Silent.{by_stake, drep_count, is_silent, need_of_dreps, short_for, short_of, stake_cmp}
use Rattle.tally.specs.Counted.{AreOf}
use Rattle.fewest_votes.specs.declared.ranking.Rank.{Rank}
use Rattle.fewest_votes.specs.contracts.ranking.RankOrd.TheImpl as rank_ord
use Rattle.fewest_votes.specs.Ranked.{drep_at, rank_of, ranked_by, ranked_of, short_in, silent_among}
use Rattle.fewest_votes.proofs.Orders.{filter-in_order, filter-map, map-in_order}

-- ---- by the count

staked : (s : Snapshot) (c : Ended) → IsCountedOf s c → (ds : List (Credential × ℕ))
    → map {B = Credential × ℕ} (λ (d : Credential × ℕ). (d.0, sum_for c.sums (drep.Registered d.0))) ds
    ≡ map {B = Credential × ℕ} (λ (k : Credential). (k, drep_stake s (drep.Registered k))) (map (λ (d : Credential × ℕ). d.0) ds)
staked s c is [] = refl
staked s c is (d ∷ ds) = λ i. (d.0, is.sums (drep.Registered d.0) i) ∷ staked s c is ds i

ranked_is : (s : Snapshot) (f : Frozen) (c : Ended) → f ≡ frozen_copy_of s → IsCountedOf s c → ranked_by f c ≡ ranked_of s
ranked_is s f c e is =
    ap (λ (g : Frozen). ranked_by g c) e
    ∙ ap (in_order stake_cmp) (staked s c is (filter (λ (d : Credential × ℕ). nat_le s.epoch d.1) s.dreps))

-- ---- the places

-- the order of places
abbrev pub rank_cmp : Rank → Rank → Ordering
rank_cmp = rank_ord.cmp-value.it

rank_same : (x y : Credential × ℕ) → rank_cmp (rank_of x) (rank_of y) ≡ stake_cmp x y
rank_same x y i = ordering_then (nat_cmp y.1 x.1) (credential_is i x.0 y.0)

-- the places of active DReps by a count
abbrev pub active_ranks : Frozen → Ended → List (Credential × ℕ) → List Rank
active_ranks f c ds = map (λ (d : Credential × ℕ). rank_of (d.0, sum_for c.sums (drep.Registered d.0))) (filter (λ (d : Credential × ℕ). nat_le f.epoch d.1) ds)

map_twice : {A B C : Type 0} (g : B → C) (h : A → B) (xs : List A) → map (λ x. g (h x)) xs ≡ map g (map h xs)
map_twice g h [] = refl
map_twice g h (x ∷ xs) = ap (λ (ys : List _). g (h x) ∷ ys) (map_twice g h xs)

pub ranks_are : (f : Frozen) (c : Ended) → in_order rank_cmp (active_ranks f c f.dreps) ≡ map rank_of (ranked_by f c)
ranks_are f c =
    let own : Credential × ℕ → Credential × ℕ = λ d. (d.0, sum_for c.sums (drep.Registered d.0)) in
    let ds = filter (λ (d : Credential × ℕ). nat_le f.epoch d.1) f.dreps in
    ap (in_order rank_cmp) (map_twice rank_of own ds) ∙ map-in_order stake_cmp rank_cmp rank_of rank_same (map own ds)

each_at_place : (ds : List (Credential × ℕ)) → map drep_at (map rank_of ds) ≡ ds
each_at_place [] = refl
each_at_place (d ∷ ds) = ap (λ (xs : List (Credential × ℕ)). d ∷ xs) (each_at_place ds)

-- the DReps at the places of the ranking are the ranking
pub dreps_are : (s : Snapshot) (f : Frozen) (c : Ended) (ranks : List Rank) (dreps : List (Credential × ℕ)) → AreOf s f c
    → ranks ≡ map rank_of (ranked_by f c) → dreps ≡ map drep_at ranks → dreps ≡ ranked_of s
dreps_are s f c ranks dreps of places are =
    are ∙ ap (map drep_at) places ∙ each_at_place (ranked_by f c) ∙ ranked_is s f c of.frozen of.counted

-- ---- the silent ones

abbrev stake : Credential × ℕ → ℕ
stake d = d.1

stake_total : IsTotalOrder stake_cmp
stake_total = then_total (back_total (on_total stake nat_cmp_total)) (on_total (λ (d : Credential × ℕ). d.0) credential_total)

same_drep : (x y : Credential × ℕ) → stake_cmp x y ≡ Equal → x.0 ≡ y.0
same_drep x y e =
    elim (nat_cmp y.1 x.1) as (λ r. ordering_then r (credential_cmp x.0 y.0) ≡ Equal → x.0 ≡ y.0) [
      | Less ↦ λ e. cc
      | Equal ↦ λ e. credential_exact x.0 y.0 e
      | Greater ↦ λ e. cc
    ] e

pub silent_is : (s : Snapshot) (a : Proposal) → silent_among a (ranked_of s) ≡ by_stake s a
silent_is s a =
    let own : Credential → Credential × ℕ = λ k. (k, drep_stake s (drep.Registered k)) in
    let silent = λ (d : Credential × ℕ). is_silent a d.0 in
    filter-in_order stake_total silent (λ x y e. ap (is_silent a) (same_drep x y e)) (map own (active_dreps s))
    ∙ ap (in_order stake_cmp) (filter-map silent own (active_dreps s))

-- ---- what the proposal lacks

need_is : (s : Snapshot) (a : Action) → need_of role.Drep s s.start a ≡ need_of role.Drep s (enacted_after s []) a
need_is s (NoConfidence previous) = refl
need_is s (UpdateCommittee previous remove add threshold) = refl
need_is s (NewConstitution previous document script) = refl
need_is s (HardForkInitiation previous version) = refl
need_is s (ParameterChange previous update policy) = refl
need_is s (TreasuryWithdrawals targets policy) = refl
need_is s Info = refl

short_by_need : (n : Need) (s : Snapshot) (a : Proposal) → short_in n (drep_count s a) (by_stake s a) ≡ short_for n s a
short_by_need need.Never s a = refl
short_by_need need.Nothing s a = refl
short_by_need (need.Share t) s a = refl

short_is : (s : Snapshot) (a : Proposal) (ranked : List (Credential × ℕ)) (count : ℕ × ℕ) (n : Need) (x : Short)
    → ranked ≡ ranked_of s → count ≡ drep_count s a → n ≡ need_of role.Drep s s.start a.action → x ≡ short_in n count (silent_among a ranked)
    → x ≡ short_of s a
short_is s a ranked count n x r k e is =
    is
    ∙ (λ i. short_in (e i) (k i) (silent_among a (r i)))
    ∙ (λ i. short_in (need_is s a.action i) (drep_count s a) (silent_is s a i))
    ∙ short_by_need (need_of_dreps s a) s a

-- the same of a result, by the ranking's list
pub lacks : (f : Frozen) (a : Proposal) (ranked dreps : List (Credential × ℕ)) (count : ℕ × ℕ) (n : Need) (r : Result Short NoMemory) → dreps ≡ ranked
    → ((s : Snapshot) → f ≡ frozen_copy_of s → n ≡ need_of role.Drep s f.start a.action) → IfOk r (λ x. x ≡ short_in n count (silent_among a dreps))
    → IfOk r (λ x. (s : Snapshot) → f ≡ frozen_copy_of s → ranked ≡ ranked_of s → count ≡ drep_count s a → x ≡ short_of s a)
lacks f a ranked dreps count n (Err e) same needs is = tt
lacks f a ranked dreps count n (Ok x) same needs is = λ s of places counts.
    short_is s a dreps count n x (same ∙ places) counts (needs s of ∙ ap (λ (g : Frozen). need_of role.Drep s g.start a.action) of) is
