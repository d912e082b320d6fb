-- The World of a followed stream moves by steps, and goes back to one.
use Rattle.std.proofs.Common.{◌≡◌, ◌∙◌, ℕ, List, [], ◌∷◌, ◌++◌, Bool, true, false, not, Option, Some, None, append-nil, append_assoc, refl, ap, sym, subst, arith}
use Rattle.std.specs.List.{AllByRecursion, list_all}
use Rattle.std.proofs.lemmas.Bool.{and_from, and_parts}
use Rattle.std.proofs.lemmas.List.Sums.{fold-append}
use Rattle.tx_records.specs.RecordLimits as record_limits
use Rattle.tx_records.specs.declared.genesis.Genesis.{Genesis}
use Rattle.tx_records.specs.declared.record.Record.{Record}
use Rattle.tx_records.specs.declared.record.Record.TheVariants as records
use Rattle.tx_records.specs.declared.reply.Rule.{Rule}
use Rattle.ledger_model.specs.Checks.{breaks_keeping, first_among}
use Rattle.run_model.specs.Genesis.{world_of_genesis}
use Rattle.run_model.specs.Laws as laws
use Rattle.run_model.specs.Runs.{world_after_all}
use Rattle.run_model.specs.Step.{crossed, enters_next, pulsed, refusal_of, step, step_by, world_after_accepted}
use Rattle.run_model.specs.World.{World}
use Rattle.further_laws.proofs.proofs_of_run_laws.Good.{IsGood}
use Rattle.further_laws.proofs.proofs_of_run_laws.Sound.{genesis_begins_sound}
use Rattle.further_laws.proofs.proofs_of_run_laws.Start.{genesis_good}
use Rattle.follow_records.specs.declared.record.FollowRecord.{FollowRecord}
use Rattle.follow_records.specs.declared.record.FollowRecord.TheVariants.{Plain, Rollback}
use Rattle.follow_records.specs.declared.rules.TheConstants.{ROLLBACK_UNKNOWN}
use Rattle.follow_model.specs.Chain.{Chain, counted_by, is_known_block, no_records, up_to_block, with_record, world_of_chain}
use Rattle.follow_model.specs.Follow.{chain_after_all, follow_refusal, follow_step, follow_step_by}
use Rattle.follow_model.specs.Laws.{IsFollowed, is_within_limits}
use Rattle.further_laws.proofs.Followed.{all_join, count_never_falls, rollback_stays_in_epoch, sound_all}
use Rattle.further_laws.proofs.Standing.{Goes, IsTimed, Stand, accepted_is, all_front, genesis_timed, goes_accepted, goes_all, good_all, stand_front, stand_more, timed_all}
use Rattle.follow_steps.specs.Laws.{EpochIsOfSlot, FollowedSupplyStays, KeptAreNotLater, KeptFrontsAreSound, PlainIsStep, RollbackLeavesKept}
use Rattle.follow_steps.proofs.Later.{none_later}
use Rattle.follow_steps.proofs.Pulses.{IsUpTo, all_later, all_more, count_after, counts_same}

all_split : {A : Type 0} (p : A → Bool) (xs ys : List A) → list_all p (xs ++ ys) ≡ true → (list_all p xs ≡ true) × (list_all p ys ≡ true)
all_split p [] ys h = (refl, h)
all_split p (x ∷ xs) ys h =
    let here = and_parts (p x) (list_all p (xs ++ ys)) h in
    let rest = all_split p xs ys here.1 in
    (and_from (p x) (list_all p xs) here.0 rest.0, rest.1)

-- the rules do not look at the count
same_refusal : (n : ℕ) (w : World) (r : Record) → refusal_of (record w { counted = n }) r ≡ refusal_of w r
same_refusal n w (records.Genesis g) = refl
same_refusal n w (records.Block slot pulse) = refl
same_refusal n w (records.Rewards u) = refl
same_refusal n w (records.Tx tx) = refl
same_refusal n w (records.Print what) = refl

-- an accepted record changes the rest of a World whatever its count is
crossed_same : (b : Bool) (n slot pulse : ℕ) (w : World)
    → let v : World = pulsed slot pulse (crossed b (record w { counted = n })) in v ≡ record (pulsed slot pulse (crossed b w)) { counted = v.counted }
crossed_same true n slot pulse w = refl
crossed_same false n slot pulse w = refl

same_rest : (n : ℕ) (w : World) (r : Record) → let v : World = world_after_accepted (record w { counted = n }) r in v ≡ record (world_after_accepted w r) { counted = v.counted }
same_rest n w (records.Genesis g) = refl
same_rest n w (records.Block slot pulse) = crossed_same (enters_next w.ledger slot) n slot pulse w
same_rest n w (records.Rewards u) = refl
same_rest n w (records.Tx tx) = refl
same_rest n w (records.Print what) = refl

after_one : (start : World) (kept : List Record) (r : Record) → world_after_all start (kept ++ r ∷ []) ≡ (step (world_after_all start kept) r).0
after_one start kept r = fold-append (λ (v : World) (q : Record). (step v q).0) start kept (r ∷ [])

-- ---- the records that remain are accepted

record IsGoing (start : World) (c : Chain) : Type 0 where
  all : list_all record_limits.is_within_limits c.kept ≡ true
  stand : Stand start c.kept

-- the rule that a record breaks in the World of the chain is that in the World of what remains
kept_refusal : (start : World) (c : Chain) (r : Record) (o : Option Rule) → refusal_of (world_of_chain start c) r ≡ o → refusal_of (world_after_all start c.kept) r ≡ o
kept_refusal start c r o e = sym (same_refusal (counted_by (world_after_all start c.kept) c.accepted) (world_after_all start c.kept) r) ∙ e

going_by : (o : Option Rule) (start : World) (c : Chain) (r : FollowRecord) → IsGoing start c → is_within_limits r ≡ true → follow_refusal start c r ≡ o → IsGoing start (follow_step_by o c r).0
going_by (Some rule) start c r g h e = g
going_by None start c (Plain r) g h e = record {
  all = all_join record_limits.is_within_limits c.kept (r ∷ []) g.all (and_from (record_limits.is_within_limits r) true h refl);
  stand = stand_more start c.kept r g.stand (kept_refusal start c r None e);
}
going_by None start c (Rollback slot) g h e = record { all = all_front slot c.kept g.all; stand = stand_front slot start c.kept g.stand }

going_all : (rs : List FollowRecord) (start : World) (c : Chain) → IsGoing start c → list_all is_within_limits rs ≡ true → IsGoing start (chain_after_all start c rs)
going_all [] start c g h = g
going_all (r ∷ rs) start c g h =
    let here = and_parts (is_within_limits r) (list_all is_within_limits rs) h in
    going_all rs start (follow_step start c r).0 (going_by (follow_refusal start c r) start c r g here.0 refl) here.1

going : (g : Genesis) (rs : List FollowRecord) → IsFollowed g rs → IsGoing (world_of_genesis g) (chain_after_all (world_of_genesis g) no_records rs)
going g rs h = going_all rs (world_of_genesis g) no_records (record { all = refl; stand = tt }) h.all_within

-- ---- no accepted block is past the epoch

module _ (g : Genesis) where
  abbrev start : World
  start = world_of_genesis g

  abbrev chain : List FollowRecord → Chain
  chain rs = chain_after_all start no_records rs

  -- the World of the records that remain
  abbrev at : List FollowRecord → World
  at rs = world_after_all start (chain rs).kept

  abbrev Bounded : Chain → Type 0
  Bounded c = AllByRecursion (IsUpTo (world_after_all start c.kept)) c.accepted

  one_more : (rs : List FollowRecord) (r : FollowRecord) → chain (rs ++ r ∷ []) ≡ (follow_step start (chain rs) r).0
  one_more rs r = fold-append (λ (d : Chain) (q : FollowRecord). (follow_step start d q).0) no_records rs (r ∷ [])

  before : (rs : List FollowRecord) (r : FollowRecord) → IsFollowed g (rs ++ r ∷ []) → IsFollowed g rs
  before rs r h = record { within = h.within; no_fault = h.no_fault; all_within = (all_split is_within_limits rs (r ∷ []) h.all_within).0 }

  good : (c : Chain) → IsGoing start c → IsGood (world_after_all start c.kept)
  good c k = good_all c.kept start (genesis_good g) k.all

  timed : (c : Chain) → IsFollowed g [] → IsGoing start c → IsTimed (world_after_all start c.kept)
  timed c h k = timed_all c.kept start (genesis_good g) (genesis_timed g h.within) k.all

  length_is : (c : Chain) → IsGoing start c → (world_after_all start c.kept).ledger.epoch_length ≡ start.ledger.epoch_length
  length_is c k = (goes_all c.kept start (genesis_good g) k.all k.stand).length

  -- a record is not past the epoch that it leaves
  up_to_own : (w : World) (r : Record) → IsTimed (world_after_accepted w r) → IsUpTo (world_after_accepted w r) r
  up_to_own w (records.Genesis x) t = tt
  up_to_own w (records.Block slot pulse) t = omega (arith, t.clock)
  up_to_own w (records.Rewards u) t = tt
  up_to_own w (records.Tx tx) t = tt
  up_to_own w (records.Print what) t = tt

  bounded_plain : (c : Chain) (r : Record) → IsFollowed g [] → IsGoing start c → IsGoing start (with_record r c) → refusal_of (world_of_chain start c) r ≡ None → Bounded c → Bounded (with_record r c)
  bounded_plain c r h k l e b =
      let w : World = world_after_all start c.kept in
      let u : World = world_after_all start (c.kept ++ r ∷ []) in
      let next : u ≡ world_after_accepted w r = after_one start c.kept r ∙ accepted_is w r (kept_refusal start c r None e) in
      let goes : Goes w u = subst (λ (x : World). Goes w x) (sym next) (goes_accepted w r (good c k)) in
      let own : IsUpTo u r = subst (λ (x : World). IsUpTo x r) (sym next) (up_to_own w r (subst IsTimed next (timed (with_record r c) h l))) in
      all_more u c.accepted r (all_later w u c.accepted goes.epoch goes.length b) own

  none_yet : (rs : List FollowRecord) → IsFollowed g rs → IsFollowed g []
  none_yet rs h = record { within = h.within; no_fault = h.no_fault; all_within = refl }

  bounded_by : (o : Option Rule) (rs : List FollowRecord) (r : FollowRecord) → IsFollowed g (rs ++ r ∷ []) → follow_refusal start (chain rs) r ≡ o → Bounded (chain rs) → Bounded (follow_step_by o (chain rs) r).0
  bounded_by (Some rule) rs r h e b = b
  bounded_by None rs (Plain r) h e b =
      let k = going g rs (before rs (Plain r) h) in
      let within = and_parts (is_within_limits (Plain r)) true (all_split is_within_limits rs (Plain r ∷ []) h.all_within).1 in
      bounded_plain (chain rs) r (none_yet _ h) k (going_by None start (chain rs) (Plain r) k within.0 e) e b
  bounded_by None rs (Rollback slot) h e b =
      let k = going g rs (before rs (Rollback slot) h) in
      let l = going_by None start (chain rs) (Rollback slot) k (and_parts (is_within_limits (Rollback slot)) true (all_split is_within_limits rs (Rollback slot ∷ []) h.all_within).1).0 e in
      let d : Chain = (follow_step_by None (chain rs) (Rollback slot)).0 in
      let is : chain (rs ++ Rollback slot ∷ []) ≡ d = one_more rs (Rollback slot) ∙ ap (λ (o : Option Rule). (follow_step_by o (chain rs) (Rollback slot)).0) e in
      let epoch : (world_after_all start d.kept).ledger.epoch ≡ (at rs).ledger.epoch =
      ap (λ (x : Chain). (world_after_all start x.kept).ledger.epoch) (sym is) ∙ rollback_stays_in_epoch g rs slot h in
      all_later (at rs) (world_after_all start d.kept) (chain rs).accepted (omega (arith, epoch)) (length_is d l ∙ sym (length_is (chain rs) k)) b

  bounded_next : (rs : List FollowRecord) (r : FollowRecord) → IsFollowed g (rs ++ r ∷ []) → Bounded (chain rs) → Bounded (chain (rs ++ r ∷ []))
  bounded_next rs r h b = subst Bounded (sym (one_more rs r)) (bounded_by (follow_refusal start (chain rs) r) rs r h refl b)

  bounded_all : (past rs : List FollowRecord) → IsFollowed g (past ++ rs) → Bounded (chain past) → Bounded (chain (past ++ rs))
  bounded_all past [] h b = subst (λ (xs : List FollowRecord). Bounded (chain xs)) (sym (append-nil past)) b
  bounded_all past (r ∷ rs) h b =
      let whole : (past ++ r ∷ []) ++ rs ≡ past ++ r ∷ rs = append_assoc past (r ∷ []) rs in
      let all : IsFollowed g ((past ++ r ∷ []) ++ rs) = subst (λ (xs : List FollowRecord). IsFollowed g xs) (sym whole) h in
      let first : IsFollowed g (past ++ r ∷ []) =
      record { within = h.within; no_fault = h.no_fault; all_within = (all_split is_within_limits (past ++ r ∷ []) rs all.all_within).0 } in
      subst (λ (xs : List FollowRecord). Bounded (chain xs)) whole (bounded_all (past ++ r ∷ []) rs all (bounded_next past r first b))

  bounded : (rs : List FollowRecord) → IsFollowed g rs → Bounded (chain rs)
  bounded rs h = bounded_all [] rs h tt

  -- ---- a step

  step_by_rule : (o : Option Rule) (rs : List FollowRecord) (r : Record) → IsFollowed g rs → refusal_of (world_of_chain start (chain rs)) r ≡ o
      → world_of_chain start (follow_step_by o (chain rs) (Plain r)).0 ≡ (step_by o (world_of_chain start (chain rs)) r).0
  step_by_rule (Some rule) rs r h e = refl
  step_by_rule None rs r h e =
      let c : Chain = chain rs in
      let w : World = at rs in
      let n : ℕ = counted_by w c.accepted in
      let x : World = world_after_accepted w r in
      let k = going g rs h in
      let passes : refusal_of w r ≡ None = kept_refusal start c r None e in
      let next : world_after_all start (c.kept ++ r ∷ []) ≡ x = after_one start c.kept r ∙ accepted_is w r passes in
      let count = count_after w c.accepted r (good c k) (timed c (none_yet rs h) k) (bounded rs h) passes in
      ap (λ (u : World). record u { counted = counted_by u (c.accepted ++ r ∷ []) }) next
      ∙ ap (λ (m : ℕ). record x { counted = m }) (sym count)
      ∙ sym (same_rest n w r)

  step_is : (rs : List FollowRecord) (r : Record) → IsFollowed g (rs ++ Plain r ∷ []) → world_of_chain start (chain (rs ++ Plain r ∷ [])) ≡ (step (world_of_chain start (chain rs)) r).0
  step_is rs r h =
      ap (λ (c : Chain). world_of_chain start c) (one_more rs (Plain r))
      ∙ step_by_rule (refusal_of (world_of_chain start (chain rs)) r) rs r (before rs (Plain r) h) refl

  -- ---- a rollback

  rolled_is : (rs : List FollowRecord) (slot : ℕ) → IsFollowed g (rs ++ Rollback slot ∷ []) → is_known_block (world_of_chain start (chain rs)) (chain rs) slot ≡ true
      → world_of_chain start (chain (rs ++ Rollback slot ∷ [])) ≡ record (world_after_all start (up_to_block slot (chain rs).kept)) { counted = (world_of_chain start (chain rs)).counted }
  rolled_is rs slot h known =
      let c : Chain = chain rs in
      let u : World = world_after_all start (up_to_block slot c.kept) in
      let passes : follow_refusal start c (Rollback slot) ≡ None =
      ap (λ (b : Bool). first_among (breaks_keeping ROLLBACK_UNKNOWN (world_of_chain start c).ledger.slot (not b) ∷ [])) known in
      let is : chain (rs ++ Rollback slot ∷ []) ≡ (follow_step_by None c (Rollback slot)).0 =
      one_more rs (Rollback slot) ∙ ap (λ (o : Option Rule). (follow_step_by o c (Rollback slot)).0) passes in
      let k = going g rs (before rs (Rollback slot) h) in
      let l = going_by None start c (Rollback slot) k (and_parts (is_within_limits (Rollback slot)) true (all_split is_within_limits rs (Rollback slot ∷ []) h.all_within).1).0 passes in
      let epoch : u.ledger.epoch ≡ (at rs).ledger.epoch =
      ap (λ (x : Chain). (world_after_all start x.kept).ledger.epoch) (sym is) ∙ rollback_stays_in_epoch g rs slot h in
      let frozen : u.frozen ≡ (at rs).frozen =
      ap (λ (x : Chain). (world_after_all start x.kept).frozen) (sym is) ∙ (count_never_falls g rs (Rollback slot) h (rollback_stays_in_epoch g rs slot h)).frozen in
      ap (λ (x : Chain). world_of_chain start x) is
      ∙ ap (λ (n : ℕ). record u { counted = n }) (counts_same u (at rs) c.accepted epoch (length_is _ l ∙ sym (length_is c k)) frozen)

-- ---- the laws

pub plain_is_step : PlainIsStep
plain_is_step g rs r h = step_is g rs r h

pub rollback_leaves_kept : RollbackLeavesKept
rollback_leaves_kept g rs slot h known = rolled_is g rs slot h known

pub kept_fronts_are_sound : KeptFrontsAreSound
kept_fronts_are_sound g rs front later h is =
    let k = going g rs h in
    sound_all front (world_of_genesis g) (genesis_begins_sound g h.within h.no_fault)
    (all_split record_limits.is_within_limits front later (subst (λ (xs : List Record). list_all record_limits.is_within_limits xs ≡ true) is k.all)).0

pub epoch_is_of_slot : EpochIsOfSlot
epoch_is_of_slot g rs h = sym (timed g (chain_after_all (world_of_genesis g) no_records rs) (none_yet g rs h) (going g rs h)).clock

pub kept_are_not_later : KeptAreNotLater
kept_are_not_later g rs h =
    let k = going g rs h in
    none_later (chain_after_all (world_of_genesis g) no_records rs).kept (world_of_genesis g) (genesis_good g) (genesis_timed g h.within) k.all k.stand

pub supply : laws.SupplyStays → FollowedSupplyStays
supply law g rs h =
    let start : World = world_of_genesis g in
    let c : Chain = chain_after_all start no_records rs in
    law (world_after_all start c.kept)
    (record { genesis = g; records = c.kept; within = h.within; all_within = (going g rs h).all; no_fault = h.no_fault; reached = refl })
