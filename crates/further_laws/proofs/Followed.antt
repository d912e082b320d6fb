-- Followed streams: replays without rollbacks; what remains is sound; the count falls in no epoch.
use Rattle.std.proofs.Common.{◌≡◌, ℕ, ◌+◌, ◌/◌, ◌<◌, ◌≤◌, min, List, [], ◌∷◌, ◌++◌, Bool, true, false, cond, Option, Some, None, is_none, filter_map, map, nat_le, sum_by, refl, ap, sym, subst, ◌∙◌, arith, append_assoc, append-nil}
use Rattle.std.specs.List.{cons_option, list_all}
use Rattle.std.proofs.Math.Nat.{min-eq_left, min-le_left}
use Rattle.std.proofs.lemmas.Bool.{and_from, eqb-true, leb-true, leb-false, not-false}
use Rattle.std.proofs.lemmas.List.Elements.{filter_map-append}
use Rattle.std.proofs.lemmas.List.Sums.{fold-append, sum_by-append}
use Rattle.tx_records.specs.declared.record.Record.{Record}
use Rattle.tx_records.specs.declared.record.Record.TheVariants as records
use Rattle.tx_records.specs.declared.reply.Reply.{Reply}
use Rattle.tx_records.specs.declared.reply.Reply.TheVariants.{Refused}
use Rattle.tx_records.specs.declared.reply.Rule.{Rule}
use Rattle.tx_records.specs.RecordLimits as record_limits
use Rattle.gov_model.specs.Snapshot.{Snapshot, entry_count}
use Rattle.ledger_model.proofs.Unbroken.{IsUnbroken, unbroken-cons}
use Rattle.run_model.specs.Genesis.{world_of_genesis}
use Rattle.run_model.specs.Runs.{accepted_records, pulse_in, replies_of, world_after_all}
use Rattle.run_model.specs.SoundWorld.{IsSoundWorld}
use Rattle.run_model.specs.Step.{acceptance_of, epoch_at, refusal_of, step, step_by, world_after_accepted}
use Rattle.run_model.specs.World.{World}
use Rattle.dormant_laws.proofs.Lists.{left_of, right_of}
use Rattle.run_laws.proofs.Counted.{counted_is_the_pulses, min_right, same_pulse}
use Rattle.run_laws.proofs.Good.{IsGood}
use Rattle.run_laws.proofs.Sound.{genesis_begins_sound, records_keep_sound}
use Rattle.run_laws.proofs.Start.{genesis_good}
use Rattle.follow_records.specs.declared.record.FollowRecord.{FollowRecord}
use Rattle.follow_records.specs.declared.record.FollowRecord.TheVariants.{Plain, Rollback}
use Rattle.follow_model.specs.Chain.{Chain, counted_by, is_known_block, no_records, up_to_block, with_record, world_of_chain}
use Rattle.follow_model.specs.Follow.{chain_after_all, follow_refusal, follow_replies, follow_step, follow_step_by, rollback_checks}
use Rattle.follow_model.specs.Laws.{CountNeverFalls, FollowedIsSound, FollowIsReplay, KeptAreAccepted, NeverFalls, RollbackStaysInEpoch, is_within_limits}
use Rattle.further_laws.proofs.Standing.{Goes, IsTimed, Stand, accepted_is, all_front, genesis_timed, goes_accepted, goes_all, good_all, parted, past_block, slot_of_front, stand_front, stand_more, stand_past, timed_all}

-- ---- lists

all_split : {A : Type 0} (p : A → Bool) (xs ys : List A) → list_all p (xs ++ ys) ≡ true → (list_all p xs ≡ true) × (list_all p ys ≡ true)
all_split p [] ys h = (refl, h)
all_split p (x ∷ xs) ys h =
    let rest = all_split p xs ys (right_of _ _ h) in
    (and_from (p x) (list_all p xs) (left_of _ _ h) rest.0, rest.1)

pub all_join : {A : Type 0} (p : A → Bool) (xs ys : List A) → list_all p xs ≡ true → list_all p ys ≡ true → list_all p (xs ++ ys) ≡ true
all_join p [] ys h k = k
all_join p (x ∷ xs) ys h k = and_from (p x) (list_all p (xs ++ ys)) (left_of _ _ h) (all_join p xs ys (right_of _ _ h) k)

all_plain : (rs : List Record) → list_all is_within_limits (map Plain rs) ≡ true → list_all record_limits.is_within_limits rs ≡ true
all_plain [] h = refl
all_plain (r ∷ rs) h = and_from (record_limits.is_within_limits r) (list_all record_limits.is_within_limits rs) (left_of _ _ h) (all_plain rs (right_of _ _ h))

-- ---- the rules do not look at the count

same_refusal : (n : ℕ) (w : World) (r : Record) → refusal_of (record w { counted = n }) r ≡ refusal_of w r
same_refusal n w (records.Genesis g) = refl
same_refusal n w (records.Block slot pulse) = refl
same_refusal n w (records.Rewards u) = refl
same_refusal n w (records.Tx tx) = refl
same_refusal n w (records.Print what) = refl

-- one more record
after_one : (start : World) (kept : List Record) (r : Record) → world_after_all start (kept ++ r ∷ []) ≡ (step (world_after_all start kept) r).0
after_one start kept r = fold-append (λ v q. (step v q).0) start kept (r ∷ [])

-- ---- what remains is accepted

record IsGoing (start : World) (c : Chain) : Type 0 where
  all : list_all record_limits.is_within_limits c.kept ≡ true
  stand : Stand start c.kept

going_plain : (o : Option Rule) (start : World) (c : Chain) (r : Record) → IsGoing start c → record_limits.is_within_limits r ≡ true
    → refusal_of (world_of_chain start c) r ≡ o → IsGoing start (follow_step_by o c (Plain r)).0
going_plain (Some rule) start c r g h e = g
going_plain None start c r g h e = record {
  all = all_join record_limits.is_within_limits c.kept (r ∷ []) g.all (and_from (record_limits.is_within_limits r) true h refl);
  stand = stand_more start c.kept r g.stand (sym (same_refusal (counted_by (world_after_all start c.kept) c.accepted) (world_after_all start c.kept) r) ∙ e);
}

going_back : (o : Option Rule) (start : World) (c : Chain) (slot : ℕ) → IsGoing start c → IsGoing start (follow_step_by o c (Rollback slot)).0
going_back (Some rule) start c slot g = g
going_back None start c slot g = record { all = all_front slot c.kept g.all; stand = stand_front slot start c.kept g.stand }

going_step : (start : World) (c : Chain) (r : FollowRecord) → IsGoing start c → is_within_limits r ≡ true → IsGoing start (follow_step start c r).0
going_step start c (Plain r) g h = going_plain (refusal_of (world_of_chain start c) r) start c r g h refl
going_step start c (Rollback slot) g h = going_back (follow_refusal start c (Rollback slot)) start c slot g

going_all : (rs : List FollowRecord) (start : World) (c : Chain) → IsGoing start c → list_all is_within_limits rs ≡ true → IsGoing start (chain_after_all start c rs)
going_all [] start c g h = g
going_all (r ∷ rs) start c g h = going_all rs start (follow_step start c r).0 (going_step start c r g (left_of _ _ h)) (right_of _ _ h)

going : (start : World) (rs : List FollowRecord) → list_all is_within_limits rs ≡ true → IsGoing start (chain_after_all start no_records rs)
going start rs h = going_all rs start no_records (record { all = refl; stand = tt }) h

accepted_by : (o : Option Rule) (w : World) (r : Record) (rs : List Record) → refusal_of w r ≡ o → o ≡ None
    → accepted_records (world_after_accepted w r) rs ≡ rs → cond (is_none o) (r ∷ accepted_records (step_by o w r).0 rs) (accepted_records w rs) ≡ r ∷ rs
accepted_by (Some rule) w r rs e none later = cc
accepted_by None w r rs e none later = ap (λ (xs : List Record). r ∷ xs) later

all_accepted : (rs : List Record) (w : World) → Stand w rs → accepted_records w rs ≡ rs
all_accepted [] w h = refl
all_accepted (r ∷ rs) w h = accepted_by (refusal_of w r) w r rs refl h.0 (all_accepted rs (world_after_accepted w r) h.1)

pub kept_are_accepted : KeptAreAccepted
kept_are_accepted g rs h =
    let start : World = world_of_genesis g in
    all_accepted (chain_after_all start no_records rs).kept start (going start rs h.all_within).stand

-- ---- without rollbacks

-- what a chain and the World of its records come to after plain records
record IsAlike (start w : World) (c : Chain) (rs : List Record) : Type 0 where
  kept : (chain_after_all start c (map Plain rs)).kept ≡ c.kept ++ accepted_records w rs
  accepted : (chain_after_all start c (map Plain rs)).accepted ≡ c.accepted ++ accepted_records w rs
  world : world_after_all start (chain_after_all start c (map Plain rs)).kept ≡ world_after_all w rs
  replies : follow_replies start c (map Plain rs) ≡ replies_of w rs

-- the same after a first record, by the rule that each breaks
record IsAlikeBy (p o : Option Rule) (start w : World) (c : Chain) (r : Record) (rs : List Record) : Type 0 where
  kept : (chain_after_all start (follow_step_by p c (Plain r)).0 (map Plain rs)).kept
      ≡ c.kept ++ cond (is_none o) (r ∷ accepted_records (step_by o w r).0 rs) (accepted_records w rs)
  accepted : (chain_after_all start (follow_step_by p c (Plain r)).0 (map Plain rs)).accepted
      ≡ c.accepted ++ cond (is_none o) (r ∷ accepted_records (step_by o w r).0 rs) (accepted_records w rs)
  world : world_after_all start (chain_after_all start (follow_step_by p c (Plain r)).0 (map Plain rs)).kept ≡ world_after_all (step_by o w r).0 rs
  replies : (follow_step_by p c (Plain r)).1 ∷ follow_replies start (follow_step_by p c (Plain r)).0 (map Plain rs)
      ≡ (step_by o w r).1 ∷ replies_of (step_by o w r).0 rs

refused_by : (rule : Rule) (start w : World) (c : Chain) (r : Record) (rs : List Record) → IsAlike start w c rs → IsAlikeBy (Some rule) (Some rule) start w c r rs
refused_by rule start w c r rs a = record {
  kept = a.kept;
  accepted = a.accepted;
  world = a.world;
  replies = ap (λ (xs : List Reply). Refused rule ∷ xs) a.replies;
}

passed_by : (start w : World) (c : Chain) (r : Record) (rs : List Record) → IsAlike start (world_after_accepted w r) (with_record r c) rs → IsAlikeBy None None start w c r rs
passed_by start w c r rs a = record {
  kept = a.kept ∙ append_assoc c.kept (r ∷ []) (accepted_records (world_after_accepted w r) rs);
  accepted = a.accepted ∙ append_assoc c.accepted (r ∷ []) (accepted_records (world_after_accepted w r) rs);
  world = a.world;
  replies = ap (λ (xs : List Reply). acceptance_of r ∷ xs) a.replies;
}

-- by the rule that the first record breaks, for both
alike_both : (o : Option Rule) (start w : World) (c : Chain) (r : Record) (rs : List Record) → refusal_of w r ≡ o → world_after_all start c.kept ≡ w
    → IsAlike start w c rs → ((v : World) → world_after_all start (with_record r c).kept ≡ v → IsAlike start v (with_record r c) rs)
    → IsAlikeBy o o start w c r rs
alike_both (Some rule) start w c r rs f e refused accepted = refused_by rule start w c r rs refused
alike_both None start w c r rs f e refused accepted =
    let next : world_after_all start (with_record r c).kept ≡ world_after_accepted w r =
    after_one start c.kept r ∙ ap (λ (v : World). (step v r).0) e ∙ accepted_is w r f in
    passed_by start w c r rs (accepted (world_after_accepted w r) next)

-- the World of the records that remain is w, and the rest follows
alike_all : (rs : List Record) (start w : World) (c : Chain) → world_after_all start c.kept ≡ w → IsAlike start w c rs
alike_all [] start w c e = record { kept = sym (append-nil c.kept); accepted = sym (append-nil c.accepted); world = e; replies = refl }
alike_all (r ∷ rs) start w c e =
    let same : refusal_of w r ≡ refusal_of (world_of_chain start c) r =
    ap (λ (v : World). refusal_of v r) (sym e) ∙ sym (same_refusal (counted_by (world_after_all start c.kept) c.accepted) (world_after_all start c.kept) r) in
    let both : IsAlikeBy (refusal_of w r) (refusal_of w r) start w c r rs =
    alike_both (refusal_of w r) start w c r rs refl e (alike_all rs start w c e) (λ v next. alike_all rs start v (with_record r c) next) in
    let b : IsAlikeBy (refusal_of (world_of_chain start c) r) (refusal_of w r) start w c r rs =
    subst (λ (p : Option Rule). IsAlikeBy p (refusal_of w r) start w c r rs) same both in
    record { kept = b.kept; accepted = b.accepted; world = b.world; replies = b.replies }

pub follow_is_replay : FollowIsReplay
follow_is_replay g rs h =
    let start : World = world_of_genesis g in
    let a : IsAlike start start no_records rs = alike_all rs start start no_records refl in
    let w : World = world_after_all start rs in
    let counts : w.counted ≡ counted_by w (accepted_records start rs) = counted_is_the_pulses g h.within h.no_fault rs (all_plain rs h.all_within) in (
      a.replies,
      ap (λ (v : World). record v { counted = counted_by v (chain_after_all start no_records (map Plain rs)).accepted }) a.world
          ∙ ap (λ (xs : List Record). record w { counted = counted_by w xs }) a.accepted
          ∙ ap (λ (n : ℕ). record w { counted = n }) (sym counts),
    )

-- ---- a followed World is sound

pub sound_all : (rs : List Record) (w : World) → IsSoundWorld w → list_all record_limits.is_within_limits rs ≡ true → IsSoundWorld (world_after_all w rs)
sound_all [] w s h = s
sound_all (r ∷ rs) w s h = sound_all rs (step w r).0 (records_keep_sound w r s (left_of _ _ h)) (right_of _ _ h)

recounted : (n : ℕ) (w : World) → IsSoundWorld w → n ≤ entry_count w.frozen → IsSoundWorld (record w { counted = n })
recounted n w s h = record {
  ledger = s.ledger;
  frozen = s.frozen;
  stands = record { epoch = s.stands.epoch; state = s.stands.state; treasury = s.stands.treasury; pending = s.stands.pending; live = s.stands.live };
  marked = s.marked;
  mark = s.mark;
  set = s.set;
  go = s.go;
  fees = s.fees;
  counted = h;
}

pub followed_is_sound : FollowedIsSound
followed_is_sound g rs h =
    let start : World = world_of_genesis g in
    let c : Chain = chain_after_all start no_records rs in
    let w : World = world_after_all start c.kept in
    recounted (counted_by w c.accepted) w
    (sound_all c.kept start (genesis_begins_sound g h.within h.no_fault) (going start rs h.all_within).all)
    (min-le_left (entry_count w.frozen) (sum_by (λ n. n) (filter_map (pulse_in w) c.accepted)))

-- ---- the count

min_grows : (n a b : ℕ) → a ≤ b → min n a ≤ min n b
min_grows n a b h = elim (nat_le n b) as (λ t. nat_le n b ≡ t → min n a ≤ min n b) [
  | true ↦ λ e. let all : min n b ≡ n = min-eq_left (leb-true n b e) in omega (arith, all, min-le_left n a)
  | false ↦ λ e.
      let less : b < n = leb-false n b e in
      let first : min n a ≡ a = min_right n a (omega (arith, less, h)) in
      omega (arith, min_right n b less, first, h)
] refl

same_pulses : (v w : World) (rs : List Record) → v.ledger.epoch ≡ w.ledger.epoch → v.ledger.epoch_length ≡ w.ledger.epoch_length → filter_map (pulse_in v) rs ≡ filter_map (pulse_in w) rs
same_pulses v w [] e l = refl
same_pulses v w (r ∷ rs) e l =
    ap (λ (o : Option ℕ). cons_option o (filter_map (pulse_in v) rs)) (same_pulse v w r e l)
    ∙ ap (λ (ns : List ℕ). cons_option (pulse_in w r) ns) (same_pulses v w rs e l)

-- a World of the same epoch, with the same frozen entries and more blocks, has counted as much at least
counts_grow : (v w : World) (rs ss : List Record) → w.ledger.epoch ≡ v.ledger.epoch → w.ledger.epoch_length ≡ v.ledger.epoch_length → w.frozen ≡ v.frozen
    → counted_by v rs ≤ counted_by w (rs ++ ss)
counts_grow v w rs ss e l f =
    let more : sum_by (λ (n : ℕ). n) (filter_map (pulse_in w) (rs ++ ss)) ≡ sum_by (λ (n : ℕ). n) (filter_map (pulse_in w) rs) + sum_by (λ (n : ℕ). n) (filter_map (pulse_in w) ss) =
    ap (λ (ns : List ℕ). sum_by (λ (n : ℕ). n) ns) (filter_map-append (pulse_in w) rs ss) ∙ sum_by-append (λ (n : ℕ). n) (filter_map (pulse_in w) rs) (filter_map (pulse_in w) ss) in
    let same : sum_by (λ (n : ℕ). n) (filter_map (pulse_in v) rs) ≡ sum_by (λ (n : ℕ). n) (filter_map (pulse_in w) rs) =
    ap (λ (ns : List ℕ). sum_by (λ (n : ℕ). n) ns) (same_pulses v w rs (sym e) (sym l)) in
    subst (λ (x : Snapshot). min (entry_count x) (sum_by (λ (n : ℕ). n) (filter_map (pulse_in v) rs)) ≤ min (entry_count w.frozen) (sum_by (λ (n : ℕ). n) (filter_map (pulse_in w) (rs ++ ss)))) f
    (min_grows (entry_count w.frozen) (sum_by (λ (n : ℕ). n) (filter_map (pulse_in v) rs)) (sum_by (λ (n : ℕ). n) (filter_map (pulse_in w) (rs ++ ss))) (omega (arith, more, same)))

counts_stay : (v w : World) (rs : List Record) → w.ledger.epoch ≡ v.ledger.epoch → w.ledger.epoch_length ≡ v.ledger.epoch_length → w.frozen ≡ v.frozen
    → counted_by v rs ≤ counted_by w rs
counts_stay v w rs e l f = subst (λ (xs : List Record). counted_by v rs ≤ counted_by w xs) (append-nil rs) (counts_grow v w rs [] e l f)

falls_never_plain : (o : Option Rule) (start : World) (c : Chain) (r : Record) → IsGood start → IsGoing start c → refusal_of (world_of_chain start c) r ≡ o
    → (world_of_chain start (follow_step_by o c (Plain r)).0).ledger.epoch ≡ (world_of_chain start c).ledger.epoch
    → NeverFalls (world_of_chain start c) (world_of_chain start (follow_step_by o c (Plain r)).0)
falls_never_plain (Some rule) start c r good g e same = record { frozen = refl; counted = omega arith }
falls_never_plain None start c r good g e same =
    let w : World = world_after_all start c.kept in
    let u : World = world_after_all start (c.kept ++ r ∷ []) in
    let none : refusal_of w r ≡ None = sym (same_refusal (counted_by w c.accepted) w r) ∙ e in
    let next : u ≡ world_after_accepted w r = after_one start c.kept r ∙ accepted_is w r none in
    let goes : Goes w u = subst (λ (x : World). Goes w x) (sym next) (goes_accepted w r (good_all c.kept start good g.all)) in
    record { frozen = goes.frozen same; counted = counts_grow w u c.accepted (r ∷ []) same goes.length (goes.frozen same) }

-- what a rollback leaves goes on to what was there
back_goes : (start : World) (c : Chain) (slot : ℕ) → IsGood start → IsGoing start c → Goes (world_after_all start (up_to_block slot c.kept)) (world_after_all start c.kept)
back_goes start c slot good g =
    let front : List Record = up_to_block slot c.kept in
    let past : List Record = past_block slot c.kept in
    let u : World = world_after_all start front in
    let whole : c.kept ≡ front ++ past = parted slot c.kept in
    let both = all_split record_limits.is_within_limits front past (subst (λ (xs : List Record). list_all record_limits.is_within_limits xs ≡ true) whole g.all) in
    let later : Goes u (world_after_all u past) = goes_all past u (good_all front start good both.0) both.1 (stand_past start front past (subst (λ (xs : List Record). Stand start xs) whole g.stand)) in
    subst (λ (x : World). Goes u x) (sym (ap (λ (xs : List Record). world_after_all start xs) whole ∙ fold-append (λ v q. (step v q).0) start front past)) later

falls_never_back : (o : Option Rule) (start : World) (c : Chain) (slot : ℕ) → IsGood start → IsGoing start c
    → (world_of_chain start (follow_step_by o c (Rollback slot)).0).ledger.epoch ≡ (world_of_chain start c).ledger.epoch
    → NeverFalls (world_of_chain start c) (world_of_chain start (follow_step_by o c (Rollback slot)).0)
falls_never_back (Some rule) start c slot good g same = record { frozen = refl; counted = omega arith }
falls_never_back None start c slot good g same =
    let goes = back_goes start c slot good g in
    record {
      frozen = sym (goes.frozen (sym same));
      counted = counts_stay (world_after_all start c.kept) (world_after_all start (up_to_block slot c.kept)) c.accepted same (sym goes.length) (sym (goes.frozen (sym same)));
    }

falls_never : (start : World) (c : Chain) (r : FollowRecord) → IsGood start → IsGoing start c
    → (world_of_chain start (follow_step start c r).0).ledger.epoch ≡ (world_of_chain start c).ledger.epoch
    → NeverFalls (world_of_chain start c) (world_of_chain start (follow_step start c r).0)
falls_never start c (Plain r) good g same = falls_never_plain (refusal_of (world_of_chain start c) r) start c r good g refl same
falls_never start c (Rollback slot) good g same = falls_never_back (follow_refusal start c (Rollback slot)) start c slot good g same

-- one more record of a stream
one_more : (start : World) (rs : List FollowRecord) (r : FollowRecord) → chain_after_all start no_records (rs ++ r ∷ []) ≡ (follow_step start (chain_after_all start no_records rs) r).0
one_more start rs r = fold-append (λ d q. (follow_step start d q).0) no_records rs (r ∷ [])

pub count_never_falls : CountNeverFalls
count_never_falls g rs r h =
    let start : World = world_of_genesis g in
    let c : Chain = chain_after_all start no_records rs in
    let d : Chain = (follow_step start c r).0 in
    subst (λ (x : Chain). (world_of_chain start x).ledger.epoch ≡ (world_of_chain start c).ledger.epoch → NeverFalls (world_of_chain start c) (world_of_chain start x)) (sym (one_more start rs r))
    (falls_never start c r (genesis_good g) (going start rs (all_split is_within_limits rs (r ∷ []) h.all_within).0))

-- ---- the epoch

stays_by : (o : Option Rule) (start : World) (c : Chain) (slot : ℕ) → IsGood start → IsTimed start → IsGoing start c → follow_refusal start c (Rollback slot) ≡ o
    → (world_of_chain start (follow_step_by o c (Rollback slot)).0).ledger.epoch ≡ (world_of_chain start c).ledger.epoch
stays_by (Some rule) start c slot good timed g e = refl
stays_by None start c slot good timed g e =
    let w : World = world_after_all start c.kept in
    let u : World = world_after_all start (up_to_block slot c.kept) in
    let all : IsUnbroken (rollback_checks (world_of_chain start c) c slot) = record { none = e } in
    let known : is_known_block (world_of_chain start c) c slot ≡ true = not-false _ (unbroken-cons _ _ all).0 in
    let here : slot / w.ledger.epoch_length ≡ w.ledger.epoch = eqb-true (epoch_at w.ledger slot) w.ledger.epoch (left_of _ _ known) in
    let goes = back_goes start c slot good g in
    let at : u.ledger.slot ≡ slot = slot_of_front slot c.kept start (right_of _ _ known) g.stand in
    (timed_all (up_to_block slot c.kept) start good timed (all_front slot c.kept g.all)).clock
    ∙ ap (λ (n : ℕ). n / u.ledger.epoch_length) at ∙ ap (λ (n : ℕ). slot / n) (sym goes.length) ∙ here

pub rollback_stays_in_epoch : RollbackStaysInEpoch
rollback_stays_in_epoch g rs slot h =
    let start : World = world_of_genesis g in
    let c : Chain = chain_after_all start no_records rs in
    ap (λ (x : Chain). (world_of_chain start x).ledger.epoch) (one_more start rs (Rollback slot))
    ∙ stays_by (follow_refusal start c (Rollback slot)) start c slot (genesis_good g) (genesis_timed g h.within) (going start rs (all_split is_within_limits rs (Rollback slot ∷ []) h.all_within).0) refl
