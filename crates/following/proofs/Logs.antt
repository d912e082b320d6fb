-- The log of a followed stream after each kind of record.
use Rattle.std.proofs.Common.{◌≡◌, ◌∙◌, ℕ, ◌+◌, ◌==◌, ◌<◌, ◌≤◌, List, [], ◌∷◌, ◌++◌, Bool, true, false, cond, ◌&&◌, Option, Some, None, drop, take, length, is_some, append-nil, ap, sym, subst, arith}
use Rattle.std.specs.List.{AllByRecursion, cons_option, list_any}
use Rattle.std.proofs.lemmas.Bool.{and_parts, eq-eqb, eqb-true}
use Rattle.std.proofs.lemmas.List.{drop_all, length-take-le, map-append, take-append-drop}
use Rattle.std.proofs.lemmas.List.Elements.{filter_map-append}
use Rattle.follow_model.specs.Chain.{is_block_of, up_to_block}
use Rattle.follow_loop.specs.of_follow_steps.Laws.{IsNotLater}
use Rattle.ledger_model.specs.Ledger.{Ledger}
use Rattle.run_model.specs.Runs.{world_after_all}
use Rattle.run_model.specs.SoundWorld.{IsSoundWorld}
use Rattle.run_model.specs.Step.{epoch_at}
use Rattle.run_model.specs.World.{World}
use Rattle.tx_records.specs.declared.record.Record.{Record}
use Rattle.tx_records.specs.declared.record.Record.TheVariants as records
use Rattle.undo_log.proofs.Undone.{undoable_parts}
use Rattle.undo_log.specs.Back.{AllUndoable, cut_by, mark_at, undone_all, up_to_mark}
use Rattle.undo_log.specs.Logs.{IsInOrder, Log, empty_log, with_entry, with_mark}
use Rattle.undo_log.specs.declared.marks.Mark.{Mark}
use Rattle.undo_model.specs.Holds.{Holds}
use Rattle.undo_model.specs.Undone.{Before}
use Rattle.following.specs.Logged.{IsLogOf, slot_in, slots_in, slots_of}
use Rattle.following.proofs.KeptBlocks.{all_up_to, has_block, has_slot, none_has, none_next, same_slots, same_up_to, slots_up_to, up_to_earlier, up_to_slot}
use Rattle.following.proofs.Marks.{is_marked, mark_kept, mark_more, mark_within, slots_to_mark}
use Rattle.following.proofs.Undoing.{counting, held_epoch, held_length, undoable_more, undone_epoch, undone_from, undone_left, undone_length}

-- the World of the records up to the block of a slot, with the count of w
abbrev pub back_at : World → List Record → World → ℕ → World
back_at start kept w slot = counting w.counted (world_after_all start (up_to_block slot kept))

-- a World is that of these records, but for its count
abbrev pub IsOfRecords : World → List Record → World → Type 0
IsOfRecords start kept w = w ≡ counting w.counted (world_after_all start kept)

-- ---- marks are those of blocks that remain

-- whether a slot has a mark is whether a block of the epoch has it
pub marked_is_known : (start : World) (kept : List Record) (w : World) (log : Log) → IsLogOf start kept w log → (slot : ℕ)
    → is_some (mark_at slot log.marks) ≡ (epoch_at w.ledger slot == w.ledger.epoch && list_any (is_block_of slot) kept)
marked_is_known start kept w log h slot =
    is_marked slot log.marks ∙ ap (λ (ss : List ℕ). has_slot slot ss) h.marks ∙ has_block w.ledger slot kept

-- the block of a mark remains
block_of_mark : (start : World) (kept : List Record) (w : World) (log : Log) → IsLogOf start kept w log → (slot n : ℕ) → mark_at slot log.marks ≡ Some n
    → ((epoch_at w.ledger slot == w.ledger.epoch) ≡ true) × (list_any (is_block_of slot) kept ≡ true)
block_of_mark start kept w log h slot n e =
    and_parts (epoch_at w.ledger slot == w.ledger.epoch) (list_any (is_block_of slot) kept)
    (sym (marked_is_known start kept w log h slot) ∙ ap (λ (o : Option ℕ). is_some o) e)

-- ---- a record that leaves no trace

slots_more : (l : Ledger) (kept : List Record) (r : Record) → slots_in l (kept ++ r ∷ []) ≡ slots_in l kept ++ slots_in l (r ∷ [])
slots_more l kept r = filter_map-append (slot_in l) kept (r ∷ [])

slots_stay : (l : Ledger) (kept : List Record) (r : Record) → slot_in l r ≡ None → slots_in l (kept ++ r ∷ []) ≡ slots_in l kept
slots_stay l kept r none =
    slots_more l kept r
    ∙ ap (λ (o : Option ℕ). slots_in l kept ++ cons_option o []) none
    ∙ append-nil (slots_in l kept)

-- the records up to the block of a mark, with one record more
back_stays : (start : World) (kept : List Record) (w : World) (log : Log) → IsLogOf start kept w log → (r : Record) (slot n : ℕ) → mark_at slot log.marks ≡ Some n
    → up_to_block slot (kept ++ r ∷ []) ≡ up_to_block slot kept
back_stays start kept w log h r slot n e = same_up_to slot kept (r ∷ []) (block_of_mark start kept w log h slot n e).1

pub log_stays : (start : World) (kept : List Record) (w : World) (log : Log) → IsLogOf start kept w log → (r : Record) → slot_in w.ledger r ≡ None → IsLogOf start (kept ++ r ∷ []) w log
log_stays start kept w log h r none = record {
  undoable = h.undoable;
  marks = h.marks ∙ sym (slots_stay w.ledger kept r none);
  back = λ slot n e. h.back slot n e ∙ ap (λ (rs : List Record). counting w.counted (world_after_all start rs)) (sym (back_stays start kept w log h r slot n e));
}

-- ---- a block that is marked

abbrev last_mark : ℕ → Log → Mark
last_mark slot log = record { slot = slot; entries = length log.entries }

slots_with_mark : (slot : ℕ) (log : Log) → slots_of (with_mark slot log).marks ≡ slots_of log.marks ++ slot ∷ []
slots_with_mark slot log = map-append (λ (m : Mark). m.slot) log.marks (last_mark slot log ∷ [])

slots_with_block : (l : Ledger) (kept : List Record) (slot pulse : ℕ) → epoch_at l slot ≡ l.epoch → slots_in l (kept ++ records.Block slot pulse ∷ []) ≡ slots_in l kept ++ slot ∷ []
slots_with_block l kept slot pulse here =
    slots_more l kept (records.Block slot pulse)
    ∙ ap (λ (b : Bool). slots_in l kept ++ cons_option (cond b (Some slot) None) []) (eq-eqb (epoch_at l slot) l.epoch here)

-- its mark undoes nothing
back_here : (start : World) (kept : List Record) (v : World) (slot pulse s : ℕ) (log : Log) → list_any (is_block_of slot) kept ≡ false → IsOfRecords start (kept ++ records.Block slot pulse ∷ []) v
    → (slot == s) ≡ true → undone_all (drop (length log.entries) log.entries) v ≡ back_at start (kept ++ records.Block slot pulse ∷ []) v s
back_here start kept v slot pulse s log new is same =
    ap (λ (es : List Before). undone_all es v) (drop_all (length log.entries) log.entries (omega arith))
    ∙ is
    ∙ ap (λ (rs : List Record). counting v.counted (world_after_all start rs)) (sym (all_up_to slot pulse kept new))
    ∙ ap (λ (n : ℕ). back_at start (kept ++ records.Block slot pulse ∷ []) v n) (eqb-true slot s same)

-- ---- a record within the epoch

module _ (start : World) (kept : List Record) (w : World) (log : Log) (h : IsLogOf start kept w log) (order : IsInOrder log)
    (v : World) (b : Before) (sound_before : IsSoundWorld w) (sound_after : IsSoundWorld v) (holds : Holds w b v) where
  -- each mark undoes to the same place
  back_more : (r : Record) (slot n : ℕ) → mark_at slot log.marks ≡ Some n → undone_all (drop n (with_entry b log).entries) v ≡ back_at start (kept ++ r ∷ []) v slot
  back_more r slot n e =
      undone_from w v b sound_before sound_after holds n log.entries (mark_within (length log.entries) slot log.marks n order.within e)
      ∙ ap (λ (x : World). counting v.counted x) (h.back slot n e)
      ∙ ap (λ (rs : List Record). counting v.counted (world_after_all start rs)) (sym (back_stays start kept w log h r slot n e))

  -- a record that is no block
  pub log_more : (r : Record) → slot_in v.ledger r ≡ None → IsLogOf start (kept ++ r ∷ []) v (with_entry b log)
  log_more r none = record {
    undoable = undoable_more w v b sound_before sound_after holds log.entries h.undoable;
    marks = h.marks
        ∙ sym (same_slots w.ledger v.ledger kept (held_epoch w v b holds) (held_length w v b holds))
        ∙ sym (slots_stay v.ledger kept r none);
    back = back_more r;
  }

  -- a block, with its mark
  pub log_block : (slot pulse : ℕ) → list_any (is_block_of slot) kept ≡ false → epoch_at v.ledger slot ≡ v.ledger.epoch → IsOfRecords start (kept ++ records.Block slot pulse ∷ []) v
      → IsLogOf start (kept ++ records.Block slot pulse ∷ []) v (with_mark slot (with_entry b log))
  log_block slot pulse new here is = record {
    undoable = undoable_more w v b sound_before sound_after holds log.entries h.undoable;
    marks = slots_with_mark slot (with_entry b log)
        ∙ ap (λ (ss : List ℕ). ss ++ slot ∷ []) (h.marks ∙ sym (same_slots w.ledger v.ledger kept (held_epoch w v b holds) (held_length w v b holds)))
        ∙ sym (slots_with_block v.ledger kept slot pulse here);
    back = λ s n e. mark_more (λ (k : ℕ). undone_all (drop k (with_entry b log).entries) v ≡ back_at start (kept ++ records.Block slot pulse ∷ []) v s) s log.marks (last_mark slot (with_entry b log)) n e
        (λ k found. back_more (records.Block slot pulse) s k found)
        (λ same. back_here start kept v slot pulse s (with_entry b log) new is same);
  }

-- ---- the first block of an epoch

pub log_crossed : (start : World) (kept : List Record) (w v : World) (slot pulse : ℕ) → AllByRecursion (IsNotLater w.ledger) kept → w.ledger.slot < slot
    → v.ledger.epoch ≡ w.ledger.epoch + 1 → v.ledger.epoch_length ≡ w.ledger.epoch_length → epoch_at v.ledger slot ≡ v.ledger.epoch → IsOfRecords start (kept ++ records.Block slot pulse ∷ []) v
    → IsLogOf start (kept ++ records.Block slot pulse ∷ []) v (with_mark slot empty_log)
log_crossed start kept w v slot pulse past after next same here is = record {
  undoable = tt;
  marks = sym (slots_with_block v.ledger kept slot pulse here ∙ ap (λ (ss : List ℕ). ss ++ slot ∷ []) (none_next w.ledger v.ledger kept past next same));
  back = λ s n e. mark_more (λ (k : ℕ). undone_all (drop k []) v ≡ back_at start (kept ++ records.Block slot pulse ∷ []) v s) s [] (last_mark slot empty_log) n e
      (λ k found. cc)
      (λ equal. back_here start kept v slot pulse s empty_log (none_has w.ledger slot kept past after) is equal);
}

-- ---- a rollback

-- a slot with a mark is that of a block that remains
block_left : (slot s : ℕ) (marks : List Mark) (kept : List Record) (v : World) (k : ℕ) → slots_of marks ≡ slots_in v.ledger (up_to_block slot kept) → mark_at s marks ≡ Some k
    → list_any (is_block_of s) (up_to_block slot kept) ≡ true
block_left slot s marks kept v k same found =
    (and_parts (epoch_at v.ledger s == v.ledger.epoch) (list_any (is_block_of s) (up_to_block slot kept))
    (sym (is_marked s marks ∙ ap (λ (ss : List ℕ). has_slot s ss) same ∙ has_block v.ledger s (up_to_block slot kept)) ∙ ap (λ (o : Option ℕ). is_some o) found)).1

-- an earlier mark undoes to the same place
back_left : (start : World) (kept : List Record) (w v : World) (log : Log) → IsLogOf start kept w log → (slot n s k : ℕ) → n ≤ length log.entries → mark_at s log.marks ≡ Some k → k ≤ n
    → list_any (is_block_of s) (up_to_block slot kept) ≡ true → v ≡ undone_all (drop n log.entries) w → v.counted ≡ w.counted
    → undone_all (drop k (take n log.entries)) v ≡ back_at start (up_to_block slot kept) v s
back_left start kept w v log h slot n s k most found less there is count =
    ap (λ (x : World). undone_all (drop k (take n log.entries)) x) is
    ∙ undone_left n k log.entries w less most
    ∙ h.back s k found
    ∙ ap (λ (m : ℕ). counting m (world_after_all start (up_to_block s kept))) (sym count)
    ∙ ap (λ (rs : List Record). counting v.counted (world_after_all start rs)) (sym (up_to_earlier s slot kept there))

pub log_back : (start : World) (kept : List Record) (w v : World) (log : Log) → IsLogOf start kept w log → IsInOrder log → (slot n : ℕ) → mark_at slot log.marks ≡ Some n
    → v ≡ undone_all (drop n log.entries) w → IsInOrder (cut_by (Some n) slot log) → IsLogOf start (up_to_block slot kept) v (cut_by (Some n) slot log)
log_back start kept w v log h order slot n e is cut =
    let most : n ≤ length log.entries = mark_within (length log.entries) slot log.marks n order.within e in
    let known = block_of_mark start kept w log h slot n e in
    let epoch : v.ledger.epoch ≡ w.ledger.epoch = ap (λ (x : World). x.ledger.epoch) is ∙ undone_epoch (drop n log.entries) w in
    let long : v.ledger.epoch_length ≡ w.ledger.epoch_length = ap (λ (x : World). x.ledger.epoch_length) is ∙ undone_length (drop n log.entries) w in
    let here : v ≡ back_at start kept w slot = is ∙ h.back slot n e in
    let count : v.counted ≡ w.counted = ap (λ (x : World). x.counted) here in
    let marks : slots_of (up_to_mark slot log.marks) ≡ slots_in v.ledger (up_to_block slot kept) =
    slots_to_mark slot log.marks
    ∙ ap (λ (ss : List ℕ). up_to_slot slot ss) h.marks
    ∙ sym (slots_up_to w.ledger slot kept known.0)
    ∙ sym (same_slots w.ledger v.ledger (up_to_block slot kept) epoch long) in
    let left : length (take n log.entries) ≡ n = length-take-le n log.entries most in
    record {
      undoable = subst (λ (x : World). AllUndoable (take n log.entries) x) (sym is)
          (undoable_parts (take n log.entries) (drop n log.entries) w
          (subst (λ (es : List Before). AllUndoable es w) (sym (take-append-drop n log.entries)) h.undoable)).1;
      marks = marks;
      back = λ s k found. back_left start kept w v log h slot n s k most (mark_kept slot s log.marks k found)
          (subst (λ (m : ℕ). k ≤ m) left (mark_within (length (take n log.entries)) s (up_to_mark slot log.marks) k cut.within found))
          (block_left slot s (up_to_mark slot log.marks) kept v k marks found) is count;
    }
