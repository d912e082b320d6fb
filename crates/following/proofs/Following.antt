-- A ledger with its undo log stays the state of the followed stream, whatever is read.
use Rattle.std.proofs.Common.{◌≡◌, ◌∙◌, ℕ, ◌+◌, ◌/◌, ◌<◌, ◌≤◌, List, [], ◌∷◌, ◌++◌, Bool, true, false, not, Option, Some, None, drop, is_some, refl, ap, sym, subst, arith}
use Rattle.std.specs.List.{AllByRecursion, list_all}
use Rattle.std.proofs.lemmas.Bool.{and_from, eqb-true, leb-false, ltb-false}
use Rattle.std.proofs.lemmas.List.Sums.{fold-append}
use Rattle.tx_records.specs.declared.genesis.Genesis.{Genesis}
use Rattle.tx_records.specs.declared.record.Record.{Record}
use Rattle.tx_records.specs.declared.record.Record.TheVariants as records
use Rattle.tx_records.specs.declared.reply.Reply.{Reply}
use Rattle.tx_records.specs.declared.reply.Rule.{Rule}
use Rattle.tx_records.specs.GenesisLimits as genesis_limits
use Rattle.ledger_model.proofs.Unbroken.{IsUnbroken, unbroken-cons}
use Rattle.ledger_model.specs.Checks.{breaks_keeping, first_among}
use Rattle.replay_loop.proofs.proofs_of_run_laws.Counted.{later_epoch, not_equal}
use Rattle.replay_loop.proofs.proofs_of_run_laws.GoodBlock.{boundary_epoch, boundary_length}
use Rattle.run_model.specs.Boundary.{world_after_boundary}
use Rattle.run_model.specs.Genesis.{genesis_fault, world_of_genesis}
use Rattle.run_model.specs.Runs.{world_after_all}
use Rattle.run_model.specs.SoundWorld.{IsSoundWorld}
use Rattle.run_model.specs.Step.{block_checks, crossed, enters_next, epoch_at, pulsed, refusal_of, step, step_by, world_after_accepted}
use Rattle.run_model.specs.World.{World}
use Rattle.follow_records.specs.declared.record.FollowRecord.{FollowRecord}
use Rattle.follow_records.specs.declared.record.FollowRecord.TheVariants.{Plain, Rollback}
use Rattle.follow_records.specs.declared.rules.TheConstants.{ROLLBACK_UNKNOWN}
use Rattle.follow_model.specs.Chain.{Chain, is_known_block, no_records, taken_back_to, with_record, world_of_chain}
use Rattle.follow_model.specs.Follow.{chain_after_all, follow_refusal, follow_step, follow_step_by}
use Rattle.follow_model.specs.Laws.{IsFollowed, is_within_limits}
use Rattle.follow_loop.proofs.proofs_of_further_laws.Followed.{all_join, follow_is_replay, followed_is_sound}
use Rattle.follow_loop.proofs.proofs_of_follow_steps.Steps.{epoch_is_of_slot, kept_are_not_later, plain_is_step, rollback_leaves_kept}
use Rattle.follow_loop.specs.of_follow_steps.Laws.{IsNotLater}
use Rattle.follow_loop.specs.Outcomes.{rollback_outcome}
use Rattle.undo_log.specs.Back.{back_reply, cut_at, cut_by, entries_after, mark_at, undone_all, world_at}
use Rattle.undo_log.specs.Logs.{IsInOrder, Log, empty_log}
use Rattle.undo_model.specs.Holds.{Holds}
use Rattle.following.specs.Follows.{Follows}
use Rattle.following.specs.Logged.{AreMarksPast, IsLogOf}
use Rattle.following.specs.Moves.{IsLogAccepted, IsLogBy, IsLoggedBlock, outcome_over}
use Rattle.following.proofs.KeptBlocks.{none_has, slots_past}
use Rattle.following.proofs.Logs.{IsOfRecords, log_back, log_block, log_crossed, log_more, log_stays, marked_is_known}
use Rattle.following.proofs.Marks.{marks_past}
use Rattle.following.proofs.Undoing.{counting}

-- ---- a genesis

pub follows_genesis : (g : Genesis) → genesis_limits.is_within_limits g ≡ true → genesis_fault g ≡ None → Follows (world_of_genesis g) empty_log (world_of_genesis g) no_records
follows_genesis g within no_fault =
    let followed : IsFollowed g [] = record { within = within; no_fault = no_fault; all_within = refl } in
    record {
      genesis = g;
      records = [];
      followed = followed;
      begins = refl;
      chain = refl;
      world = sym (follow_is_replay g [] followed).1;
      logged = record {
        undoable = tt;
        marks = refl;
        back = λ slot n e. cc;
      };
    }

-- ---- one record more

all_more : (rs : List FollowRecord) (r : FollowRecord) → list_all is_within_limits rs ≡ true → is_within_limits r ≡ true → list_all is_within_limits (rs ++ r ∷ []) ≡ true
all_more rs r h k = all_join is_within_limits rs (r ∷ []) h (and_from (is_within_limits r) true k refl)

module _ (g : Genesis) (rs : List FollowRecord) (h : IsFollowed g rs) where
  abbrev start : World
  start = world_of_genesis g

  abbrev chain : Chain
  chain = chain_after_all start no_records rs

  abbrev here : World
  here = world_of_chain start chain

  one_more : (r : FollowRecord) → chain_after_all start no_records (rs ++ r ∷ []) ≡ (follow_step start chain r).0
  one_more r = fold-append (λ (d : Chain) (q : FollowRecord). (follow_step start d q).0) no_records rs (r ∷ [])

  followed_more : (r : FollowRecord) → is_within_limits r ≡ true → IsFollowed g (rs ++ r ∷ [])
  followed_more r within = record { within = h.within; no_fault = h.no_fault; all_within = all_more rs r h.all_within within }

  past : AllByRecursion (IsNotLater here.ledger) chain.kept
  past = kept_are_not_later g rs h

  -- ---- an accepted record of a replay

  -- the state after it, where no rule is broken
  module _ (r : Record) (within : is_within_limits (Plain r) ≡ true) (none : refusal_of here r ≡ None) (v : World) (is : v ≡ (step here r).0) where
    next_chain : with_record r chain ≡ chain_after_all start no_records (rs ++ Plain r ∷ [])
    next_chain = sym (one_more (Plain r) ∙ ap (λ (o : Option Rule). (follow_step_by o chain (Plain r)).0) none)

    next_world : v ≡ world_of_chain start (with_record r chain)
    next_world = is ∙ sym (plain_is_step g rs r (followed_more (Plain r) within)) ∙ ap (λ (c : Chain). world_of_chain start c) (sym next_chain)

    of_records : IsOfRecords start (chain.kept ++ r ∷ []) v
    of_records = next_world ∙ ap (λ (n : ℕ). counting n (world_after_all start (chain.kept ++ r ∷ []))) (sym (ap (λ (x : World). x.counted) next_world))

    next_sound : IsSoundWorld v
    next_sound =
        subst IsSoundWorld (sym (next_world ∙ ap (λ (c : Chain). world_of_chain start c) next_chain)) (followed_is_sound g (rs ++ Plain r ∷ []) (followed_more (Plain r) within))

    accepted : v ≡ world_after_accepted here r
    accepted = is ∙ ap (λ (o : Option Rule). (step_by o here r).0) none

    next_follows : (after : Log) → IsLogOf start (chain.kept ++ r ∷ []) v after → Follows v after start (with_record r chain)
    next_follows after logged = record {
      genesis = g;
      records = rs ++ Plain r ∷ [];
      followed = followed_more (Plain r) within;
      begins = refl;
      chain = next_chain;
      world = next_world;
      logged = logged;
    }

  sound_here : IsSoundWorld here
  sound_here = followed_is_sound g rs h

  -- a block breaks no rule: its slot is later, and of the epoch or the next one
  block_rules : (slot pulse : ℕ) → refusal_of here (records.Block slot pulse) ≡ None → (here.ledger.slot < slot) × (epoch_at here.ledger slot ≤ here.ledger.epoch + 1)
  block_rules slot pulse none =
      let all : IsUnbroken (block_checks here.ledger slot pulse) = record { none = none } in
      let a = unbroken-cons _ _ all in
      let b = unbroken-cons _ _ a.1 in
      (leb-false slot here.ledger.slot a.0, ltb-false (here.ledger.epoch + 1) (epoch_at here.ledger slot) b.0)

  -- the log of an accepted block, by whether its slot is in the next epoch
  log_of_block : (next : Bool) (slot pulse : ℕ) (within : is_within_limits (Plain (records.Block slot pulse)) ≡ true) (none : refusal_of here (records.Block slot pulse) ≡ None)
      (v : World) (is : v ≡ (step here (records.Block slot pulse)).0) (log after : Log) → IsLogOf start chain.kept here log → IsInOrder log → enters_next here.ledger slot ≡ next
      → IsLoggedBlock next here log slot pulse after → IsLogOf start (chain.kept ++ records.Block slot pulse ∷ []) v after
  log_of_block true slot pulse within none v is log after logged order enters new =
      let r : Record = records.Block slot pulse in
      let rules = block_rules slot pulse none in
      let crossing : v ≡ pulsed slot pulse (world_after_boundary here) = accepted r within none v is ∙ ap (λ (b : Bool). pulsed slot pulse (crossed b here)) enters in
      let next : v.ledger.epoch ≡ here.ledger.epoch + 1 = ap (λ (x : World). x.ledger.epoch) crossing ∙ boundary_epoch here in
      let same : v.ledger.epoch_length ≡ here.ledger.epoch_length = ap (λ (x : World). x.ledger.epoch_length) crossing ∙ boundary_length here in
      let at : epoch_at v.ledger slot ≡ v.ledger.epoch = ap (λ (n : ℕ). slot / n) same ∙ eqb-true (epoch_at here.ledger slot) (here.ledger.epoch + 1) enters ∙ sym next in
      subst (λ (l : Log). IsLogOf start (chain.kept ++ r ∷ []) v l) (sym new)
      (log_crossed start chain.kept here v slot pulse past rules.0 next same at (of_records r within none v is))
  log_of_block false slot pulse within none v is log after logged order enters new =
      let r : Record = records.Block slot pulse in
      let rules = block_rules slot pulse none in
      let holds : Holds here new.old v = subst (λ (x : World). Holds here new.old x) (sym is) new.holds in
      let whole : v ≡ pulsed slot pulse here = accepted r within none v is ∙ ap (λ (b : Bool). pulsed slot pulse (crossed b here)) enters in
      let late : here.ledger.epoch ≤ epoch_at here.ledger slot = subst (λ (n : ℕ). n ≤ epoch_at here.ledger slot) (epoch_is_of_slot g rs h) (later_epoch here.ledger.slot slot here.ledger.epoch_length (omega (arith, sound_here.ledger.lasting)) (omega (arith, rules.0))) in
      let stays : epoch_at here.ledger slot ≡ here.ledger.epoch = omega (arith, late, rules.1, not_equal (epoch_at here.ledger slot) (here.ledger.epoch + 1) enters) in
      let at : epoch_at v.ledger slot ≡ v.ledger.epoch = ap (λ (x : World). epoch_at x.ledger slot) whole ∙ stays ∙ ap (λ (x : World). x.ledger.epoch) (sym whole) in
      subst (λ (l : Log). IsLogOf start (chain.kept ++ r ∷ []) v l) (sym new.is)
      (log_block start chain.kept here log logged order v new.old sound_here (next_sound r within none v is) holds slot pulse (none_has here.ledger slot chain.kept past rules.0) at (of_records r within none v is))

  -- the log of an accepted record
  log_of : (r : Record) (within : is_within_limits (Plain r) ≡ true) (none : refusal_of here r ≡ None) (v : World) (is : v ≡ (step here r).0) (log after : Log) → IsLogOf start chain.kept here log → IsInOrder log
      → IsLogAccepted here log r after → IsLogOf start (chain.kept ++ r ∷ []) v after
  log_of (records.Genesis x) within none v is log after logged order new = cc
  log_of (records.Block slot pulse) within none v is log after logged order new = log_of_block (enters_next here.ledger slot) slot pulse within none v is log after logged order refl new
  log_of (records.Rewards u) within none v is log after logged order new =
      subst (λ (l : Log). IsLogOf start (chain.kept ++ records.Rewards u ∷ []) v l) (sym new.is)
      (log_more start chain.kept here log logged order v new.old sound_here (next_sound (records.Rewards u) within none v is)
      (subst (λ (x : World). Holds here new.old x) (sym is) new.holds) (records.Rewards u) refl)
  log_of (records.Tx tx) within none v is log after logged order new =
      subst (λ (l : Log). IsLogOf start (chain.kept ++ records.Tx tx ∷ []) v l) (sym new.is)
      (log_more start chain.kept here log logged order v new.old sound_here (next_sound (records.Tx tx) within none v is)
      (subst (λ (x : World). Holds here new.old x) (sym is) new.holds) (records.Tx tx) refl)
  log_of (records.Print what) within none v is log after logged order new =
      subst (λ (x : World). IsLogOf start (chain.kept ++ records.Print what ∷ []) x after) (sym is)
      (subst (λ (l : Log). IsLogOf start (chain.kept ++ records.Print what ∷ []) here l) (sym new)
      (log_stays start chain.kept here log logged (records.Print what) refl))

  -- any record of a replay, by the first rule that it breaks
  plain_by : (o : Option Rule) (r : Record) (within : is_within_limits (Plain r) ≡ true) → refusal_of here r ≡ o → (v : World) → v ≡ (step here r).0 → (log after : Log) → IsLogOf start chain.kept here log → IsInOrder log
      → IsLogBy o here log r after → Follows v after start (follow_step_by o chain (Plain r)).0
  plain_by None r within none v is log after logged order new = next_follows r within none v is after (log_of r within none v is log after logged order new)
  plain_by (Some rule) r within broken v is log after logged order new =
      let same : v ≡ here = is ∙ ap (λ (o : Option Rule). (step_by o here r).0) broken in
      record {
        genesis = g;
        records = rs;
        followed = h;
        begins = refl;
        chain = refl;
        world = same;
        logged = subst (λ (x : World). IsLogOf start chain.kept x after) (sym same) (subst (λ (l : Log). IsLogOf start chain.kept here l) (sym new) logged);
      }

  plain_follows : (r : Record) → is_within_limits (Plain r) ≡ true → (v : World) → v ≡ (step here r).0 → (log after : Log) → IsLogOf start chain.kept here log → IsInOrder log
      → IsLogBy (refusal_of here r) here log r after → Follows v after start (follow_step start chain (Plain r)).0
  plain_follows r within v is log after logged order new = plain_by (refusal_of here r) r within refl v is log after logged order new

  -- ---- a rollback

  -- a rollback to a known block
  rolled : (slot n : ℕ) → is_within_limits (Rollback slot) ≡ true → (v : World) (log : Log) → IsLogOf start chain.kept here log → IsInOrder log → mark_at slot log.marks ≡ Some n
      → v ≡ undone_all (drop n log.entries) here → IsInOrder (cut_by (Some n) slot log) → is_known_block here chain slot ≡ true → Follows v (cut_by (Some n) slot log) start (taken_back_to slot chain)
  rolled slot n within v log logged order found is cut known =
      let passes : follow_refusal start chain (Rollback slot) ≡ None = ap (λ (b : Bool). first_among (breaks_keeping ROLLBACK_UNKNOWN here.ledger.slot (not b) ∷ [])) known in
      let next : taken_back_to slot chain ≡ chain_after_all start no_records (rs ++ Rollback slot ∷ []) =
      sym (one_more (Rollback slot) ∙ ap (λ (o : Option Rule). (follow_step_by o chain (Rollback slot)).0) passes) in
      record {
        genesis = g;
        records = rs ++ Rollback slot ∷ [];
        followed = followed_more (Rollback slot) within;
        begins = refl;
        chain = next;
        world = is ∙ logged.back slot n found
            ∙ sym (rollback_leaves_kept g rs slot (followed_more (Rollback slot) within) known)
            ∙ ap (λ (c : Chain). world_of_chain start c) (sym next);
        logged = log_back start chain.kept here v log logged order slot n found is cut;
      }

  known_by : (o : Option ℕ) (slot : ℕ) (log : Log) → IsLogOf start chain.kept here log → mark_at slot log.marks ≡ o → is_known_block here chain slot ≡ is_some o
  known_by o slot log logged e = sym (marked_is_known start chain.kept here log logged slot) ∙ ap (λ (m : Option ℕ). is_some m) e

  -- a rollback, by whether its block is known
  step_known : (slot : ℕ) (b : Bool) → is_known_block here chain slot ≡ b
      → follow_step start chain (Rollback slot) ≡ follow_step_by (first_among (breaks_keeping ROLLBACK_UNKNOWN here.ledger.slot (not b) ∷ [])) chain (Rollback slot)
  step_known slot b e = ap (λ (x : Bool). follow_step_by (first_among (breaks_keeping ROLLBACK_UNKNOWN here.ledger.slot (not x) ∷ [])) chain (Rollback slot)) e

  rollback_by : (o : Option ℕ) (slot : ℕ) → is_within_limits (Rollback slot) ≡ true → (v : World) (log after : Log) → IsLogOf start chain.kept here log → IsInOrder log → mark_at slot log.marks ≡ o
      → v ≡ undone_all (entries_after o log.entries) here → after ≡ cut_by o slot log → IsInOrder after
      → Follows v after start (follow_step start chain (Rollback slot)).0 × (outcome_over here (back_reply o here) ≡ rollback_outcome (follow_step start chain (Rollback slot)).1)
  rollback_by None slot within v log after logged order found is cut later =
      let stepped = step_known slot false (known_by None slot log logged found) in
      let same : Follows v after start chain =
      record {
        genesis = g;
        records = rs;
        followed = h;
        begins = refl;
        chain = refl;
        world = is;
        logged = subst (λ (x : World). IsLogOf start chain.kept x after) (sym is) (subst (λ (l : Log). IsLogOf start chain.kept here l) (sym cut) logged);
      } in (
        subst (λ (c : Chain). Follows v after start c) (sym (ap (λ (p : Chain × Reply). p.0) stepped)) same,
        sym (ap (λ (p : Chain × Reply). rollback_outcome p.1) stepped),
      )
  rollback_by (Some n) slot within v log after logged order found is cut later =
      let known = known_by (Some n) slot log logged found in
      let stepped = step_known slot true known in
      let back = rolled slot n within v log logged order found is (subst IsInOrder cut later) known in (
        subst (λ (c : Chain). Follows v after start c) (sym (ap (λ (p : Chain × Reply). p.0) stepped))
            (subst (λ (l : Log). Follows v l start (taken_back_to slot chain)) (sym cut) back),
        sym (ap (λ (p : Chain × Reply). rollback_outcome p.1) stepped),
      )

-- ---- any state

-- what holds where the stream begins with its genesis and the chain is that of its records, holds of any state
along : (P : World → World → Chain → Type 0) (w : World) (log : Log) (begins : World) (c : Chain) (f : Follows w log begins c)
    → P (here f.genesis f.records f.followed) (start f.genesis f.records f.followed) (chain f.genesis f.records f.followed) → P w begins c
along P w log begins c f p =
    let g : Genesis = f.genesis in
    let rs : List FollowRecord = f.records in
    let first : World = world_of_genesis g in
    let d : Chain = chain_after_all first no_records rs in
    let chains : c ≡ d = f.chain ∙ ap (λ (x : World). chain_after_all x no_records rs) f.begins in
    let worlds : w ≡ world_of_chain first d = f.world ∙ ap (λ (x : World). world_of_chain x c) f.begins ∙ ap (λ (x : Chain). world_of_chain first x) chains in
    subst (λ (x : World). P x begins c) (sym worlds)
    (subst (λ (x : World). P (world_of_chain first d) x c) (sym f.begins)
    (subst (λ (x : Chain). P (world_of_chain first d) first x) (sym chains) p))

-- no mark is later than the ledger
pub marks_of_followed : (w : World) (log : Log) (begins : World) (c : Chain) → Follows w log begins c → AreMarksPast w log
marks_of_followed w log begins c f =
    along (λ x b d. IsLogOf b d.kept x log → AreMarksPast x log) w log begins c f
    (λ logged. marks_past (here f.genesis f.records f.followed).ledger.slot log.marks
    (subst (λ (ss : List ℕ). AllByRecursion (λ (s : ℕ). s ≤ (here f.genesis f.records f.followed).ledger.slot) ss) (sym logged.marks)
    (slots_past (here f.genesis f.records f.followed).ledger (chain f.genesis f.records f.followed).kept (past f.genesis f.records f.followed))))
    f.logged

-- a record of a replay
pub followed_plain : (w : World) (log : Log) (begins : World) (c : Chain) → Follows w log begins c → IsInOrder log → (r : Record) → is_within_limits (Plain r) ≡ true → (v : World) (after : Log) → v ≡ (step w r).0
    → IsLogBy (refusal_of w r) w log r after → Follows v after begins (follow_step begins c (Plain r)).0
followed_plain w log begins c f order r within v after is new =
    along (λ x b d. IsLogOf b d.kept x log → v ≡ (step x r).0 → IsLogBy (refusal_of x r) x log r after → Follows v after b (follow_step b d (Plain r)).0) w log begins c f
    (λ logged it added. plain_follows f.genesis f.records f.followed r within v it log after logged order added) f.logged is new

-- a rollback
pub followed_back : (w : World) (log : Log) (begins : World) (c : Chain) → Follows w log begins c → IsInOrder log → (slot : ℕ) → is_within_limits (Rollback slot) ≡ true → (v : World) (after : Log)
    → v ≡ world_at slot log w → after ≡ cut_at slot log → IsInOrder after
    → Follows v after begins (follow_step begins c (Rollback slot)).0
    × (outcome_over w (back_reply (mark_at slot log.marks) w) ≡ rollback_outcome (follow_step begins c (Rollback slot)).1)
followed_back w log begins c f order slot within v after is cut later =
    along (λ x b d. IsLogOf b d.kept x log → v ≡ world_at slot log x
    → Follows v after b (follow_step b d (Rollback slot)).0 × (outcome_over x (back_reply (mark_at slot log.marks) x) ≡ rollback_outcome (follow_step b d (Rollback slot)).1)) w log begins c f
    (λ logged it. rollback_by f.genesis f.records f.followed (mark_at slot log.marks) slot within v log after logged order refl it cut later) f.logged is
