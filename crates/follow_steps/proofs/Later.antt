-- No accepted block is later than the World that all accepted records leave.
use Rattle.std.proofs.Common.{◌≡◌, ◌∙◌, ℕ, ◌/◌, ◌≤◌, List, [], ◌∷◌, Option, None, true, ap, sym, subst, arith}
use Rattle.std.specs.List.{AllByRecursion, list_all}
use Rattle.std.proofs.lemmas.Bool.{and_parts, leb-false}
use Rattle.tx_records.specs.RecordLimits.{is_within_limits}
use Rattle.tx_records.specs.declared.record.Record.{Record}
use Rattle.tx_records.specs.declared.record.Record.TheVariants as records
use Rattle.ledger_model.specs.Ledger.{Ledger}
use Rattle.ledger_model.proofs.Unbroken.{IsUnbroken, unbroken-cons}
use Rattle.run_model.specs.Runs.{world_after_all}
use Rattle.run_model.specs.Step.{block_checks, epoch_at, refusal_of, world_after_accepted}
use Rattle.run_model.specs.World.{World}
use Rattle.tx_balance.proofs.Sounds.{tx_steady}
use Rattle.further_laws.proofs.proofs_of_run_laws.Good.{IsGood}
use Rattle.further_laws.proofs.proofs_of_run_laws.Reach.{accepted_good}
use Rattle.further_laws.proofs.Standing.{Goes, IsTimed, Stand, after_first, goes_all, timed_accepted}
use Rattle.follow_steps.specs.Laws.{IsNotLater}

-- an accepted record never lowers the slot
slot_after : (w : World) (r : Record) → IsGood w → refusal_of w r ≡ None → w.ledger.slot ≤ (world_after_accepted w r).ledger.slot
slot_after w (records.Genesis g) good e = omega arith
slot_after w (records.Block slot pulse) good e =
    let all : IsUnbroken (block_checks w.ledger slot pulse) = record { none = e } in
    let after = leb-false slot w.ledger.slot (unbroken-cons _ _ all).0 in
    omega (arith, after)
slot_after w (records.Rewards u) good e = omega arith
slot_after w (records.Tx tx) good e = omega (arith, ap (λ (l : Ledger). l.slot) (tx_steady w.ledger tx good.ledger.sound).only)
slot_after w (records.Print what) good e = omega arith

slot_after_all : (rs : List Record) (w : World) → IsGood w → list_all is_within_limits rs ≡ true → Stand w rs → w.ledger.slot ≤ (world_after_all w rs).ledger.slot
slot_after_all [] w good h s = omega arith
slot_after_all (r ∷ rs) w good h s =
    let v : World = world_after_accepted w r in
    let first : w.ledger.slot ≤ v.ledger.slot = slot_after w r good s.0 in
    let rest : v.ledger.slot ≤ (world_after_all v rs).ledger.slot = slot_after_all rs v (accepted_good w r good (and_parts (is_within_limits r) (list_all is_within_limits rs) h).0 s.0) (and_parts (is_within_limits r) (list_all is_within_limits rs) h).1 s.1 in
    omega (arith, first, rest, ap (λ (u : World). u.ledger.slot) (after_first w r rs s.0))

-- an accepted block is not later than the ledger that it leaves
own : (w : World) (r : Record) → IsTimed (world_after_accepted w r) → IsNotLater (world_after_accepted w r).ledger r
own w (records.Genesis g) t = tt
own w (records.Block slot pulse) t = (omega arith, omega (arith, t.clock))
own w (records.Rewards u) t = tt
own w (records.Tx tx) t = tt
own w (records.Print what) t = tt

later : (l m : Ledger) (r : Record) → l.slot ≤ m.slot → l.epoch ≤ m.epoch → m.epoch_length ≡ l.epoch_length → IsNotLater l r → IsNotLater m r
later l m (records.Genesis g) slots epochs same h = tt
later l m (records.Block slot pulse) slots epochs same h =
    let at : epoch_at m slot ≡ epoch_at l slot = ap (λ (n : ℕ). slot / n) same in
    (omega (arith, h.0, slots), omega (arith, h.1, at, epochs))
later l m (records.Rewards u) slots epochs same h = tt
later l m (records.Tx tx) slots epochs same h = tt
later l m (records.Print what) slots epochs same h = tt

pub none_later : (rs : List Record) (w : World) → IsGood w → IsTimed w → list_all is_within_limits rs ≡ true → Stand w rs → AllByRecursion (IsNotLater (world_after_all w rs).ledger) rs
none_later [] w good t h s = tt
none_later (r ∷ rs) w good t h s =
    let v : World = world_after_accepted w r in
    let u : World = world_after_all v rs in
    let good_v = accepted_good w r good (and_parts (is_within_limits r) (list_all is_within_limits rs) h).0 s.0 in
    let timed_v = timed_accepted w r good t s.0 in
    let goes : Goes v u = goes_all rs v good_v (and_parts (is_within_limits r) (list_all is_within_limits rs) h).1 s.1 in
    let here : IsNotLater u.ledger r = later v.ledger u.ledger r (slot_after_all rs v good_v (and_parts (is_within_limits r) (list_all is_within_limits rs) h).1 s.1) goes.epoch goes.length (own w r timed_v) in
    subst (λ (x : World). AllByRecursion (IsNotLater x.ledger) (r ∷ rs)) (sym (after_first w r rs s.0)) (here, none_later rs v good_v timed_v (and_parts (is_within_limits r) (list_all is_within_limits rs) h).1 s.1)
