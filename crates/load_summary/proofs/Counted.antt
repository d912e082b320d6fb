-- The summary of a replay is that of its readings counted one after another.
use Rattle.std.proofs.Common.{◌≡◌, ℕ, ◌+◌, ◌&&◌, Bool, true, false, cond, not, List, [], ◌∷◌, ◌++◌, Option, Some, None, is_none, length, flat_map, if◌then◌else◌, refl, ap, sym, ◌∙◌, add_assoc, add-zero, zero-add, arith}
use Rattle.std.proofs.lemmas.List.Sums.{sum_by-append, sum_by-cons}
use Rattle.std.specs.List.{count_by}
use Rattle.gov_actions.specs.declared.tally.Tally.{Tally}
use Rattle.ledger_model.specs.Supply.{pots_of}
use Rattle.ledger_model.specs.Transaction.{accepted_as}
use Rattle.load_model.specs.Summary.{is_accepted, is_accepted_block, is_expired_verdict, is_ratified_verdict, is_refused, is_waiting_verdict, tallies_at, with_worlds, world_after_readings}
use Rattle.load_summary.specs.Counting.{SummaryIsCounted, accepted_counted, block_counted, block_counted_by, counted_by, counted_from, crossing_counted, nothing_counted, other_counted, reading_counted, refused_counted, summary_with}
use Rattle.load_summary.specs.declared.counts.LoadCounts.{LoadCounts}
use Rattle.run_model.specs.Genesis.{world_of_genesis}
use Rattle.run_model.specs.Report.{report_of}
use Rattle.run_model.specs.Step.{enters_next, refusal_of, step_by}
use Rattle.run_model.specs.World.{World}
use Rattle.text_model.specs.Runs.{world_after_reading}
use Rattle.tx_records.specs.declared.record.Reading.{Reading}
use Rattle.tx_records.specs.declared.record.Reading.TheVariants.{Read, Malformed, TooLong}
use Rattle.tx_records.specs.declared.record.Record.TheVariants as records
use Rattle.tx_records.specs.declared.reply.Rule.{Rule}
use Rattle.tx_records.specs.declared.record.Rewards.{Rewards}
use Rattle.tx_records.specs.declared.tx.Scripts.{Scripts}
use Rattle.tx_records.specs.declared.tx.Scripts.TheVariants.{Absent, Passed, Failed}
use Rattle.tx_records.specs.declared.tx.Tx.{Tx}

-- ---- counts by their numbers

-- these counts
abbrev counts : ℕ → ℕ → ℕ → ℕ → ℕ → ℕ → ℕ → LoadCounts
counts r a f b x y z = record { records = r; accepted = a; refused = f; blocks = b; ratified = x; expired = y; waiting = z }

-- counts with equal numbers are equal
same_counts : {r r' a a' f f' b b' x x' y y' z z' : ℕ} → r ≡ r' → a ≡ a' → f ≡ f' → b ≡ b' → x ≡ x' → y ≡ y' → z ≡ z'
    → counts r a f b x y z ≡ counts r' a' f' b' x' y' z'
same_counts {r} {r'} {a} {a'} {f} {f'} {b} {b'} {x} {x'} {y} {y'} {z} {z'} er ea ef eb ex ey ez =
    ap (λ n. counts n a f b x y z) er ∙ ap (λ n. counts r' n f b x y z) ea ∙ ap (λ n. counts r' a' n b x y z) ef
    ∙ ap (λ n. counts r' a' f' n x y z) eb ∙ ap (λ n. counts r' a' f' b' n y z) ex ∙ ap (λ n. counts r' a' f' b' x' n z) ey
    ∙ ap (λ n. counts r' a' f' b' x' y' n) ez

-- how many tallies end with each verdict
abbrev ratified_among : List Tally → ℕ
ratified_among ts = count_by (λ t. is_ratified_verdict t.verdict) ts

abbrev expired_among : List Tally → ℕ
expired_among ts = count_by (λ t. is_expired_verdict t.verdict) ts

abbrev waiting_among : List Tally → ℕ
waiting_among ts = count_by (λ t. is_waiting_verdict t.verdict) ts

-- counts with so many more
abbrev plus : LoadCounts → ℕ → ℕ → ℕ → ℕ → List Tally → LoadCounts
plus c r a f b ts =
    counts (c.records + r) (c.accepted + a) (c.refused + f) (c.blocks + b)
    (c.ratified + ratified_among ts) (c.expired + expired_among ts) (c.waiting + waiting_among ts)

-- with none more
plus_none : (c : LoadCounts) → plus c 0 0 0 0 [] ≡ c
plus_none c =
    same_counts (add-zero c.records) (add-zero c.accepted) (add-zero c.refused) (add-zero c.blocks)
    (add-zero c.ratified) (add-zero c.expired) (add-zero c.waiting)

-- with some more and then others
more_tallies : (p : Tally → Bool) (n : ℕ) (ts us : List Tally) → n + count_by p ts + count_by p us ≡ n + count_by p (ts ++ us)
more_tallies p n ts us =
    add_assoc n (count_by p ts) (count_by p us) ∙ ap (λ (m : ℕ). n + m) (sym (sum_by-append (λ t. cond (p t) 1 0) ts us))

plus_plus : (c : LoadCounts) (r a f b r' a' f' b' : ℕ) (ts us : List Tally)
    → plus (plus c r a f b ts) r' a' f' b' us ≡ plus c (r + r') (a + a') (f + f') (b + b') (ts ++ us)
plus_plus c r a f b r' a' f' b' ts us =
    same_counts (add_assoc c.records r r') (add_assoc c.accepted a a') (add_assoc c.refused f f') (add_assoc c.blocks b b')
    (more_tallies (λ t. is_ratified_verdict t.verdict) c.ratified ts us)
    (more_tallies (λ t. is_expired_verdict t.verdict) c.expired ts us)
    (more_tallies (λ t. is_waiting_verdict t.verdict) c.waiting ts us)

-- ---- one answer

refused_is : (c : LoadCounts) → refused_counted c ≡ plus c 1 0 1 0 []
refused_is c = same_counts refl (sym (add-zero c.accepted)) refl (sym (add-zero c.blocks)) (sym (add-zero c.ratified)) (sym (add-zero c.expired)) (sym (add-zero c.waiting))

accepted_is : (c : LoadCounts) → accepted_counted c ≡ plus c 1 1 0 0 []
accepted_is c = same_counts refl refl (sym (add-zero c.refused)) (sym (add-zero c.blocks)) (sym (add-zero c.ratified)) (sym (add-zero c.expired)) (sym (add-zero c.waiting))

block_is : (c : LoadCounts) → block_counted c ≡ plus c 1 0 0 1 []
block_is c = same_counts refl (sym (add-zero c.accepted)) (sym (add-zero c.refused)) refl (sym (add-zero c.ratified)) (sym (add-zero c.expired)) (sym (add-zero c.waiting))

crossing_is : (c : LoadCounts) (ts : List Tally) → crossing_counted c ts ≡ plus c 1 0 0 1 ts
crossing_is c ts = same_counts refl (sym (add-zero c.accepted)) (sym (add-zero c.refused)) refl refl refl refl

other_is : (c : LoadCounts) → other_counted c ≡ plus c 1 0 0 0 []
other_is c = same_counts refl (sym (add-zero c.accepted)) (sym (add-zero c.refused)) (sym (add-zero c.blocks)) (sym (add-zero c.ratified)) (sym (add-zero c.expired)) (sym (add-zero c.waiting))

-- ---- one reading

-- what it adds, as the summary counts it
abbrev plus_reading : LoadCounts → World → Reading → LoadCounts
plus_reading c w r =
    plus c 1 (cond (is_accepted (w, r)) 1 0) (cond (is_refused (w, r)) 1 0) (cond (is_accepted_block (w, r)) 1 0) (tallies_at (w, r))

-- a transaction that is accepted
tx_accepted : (c : LoadCounts) (w : World) (tx : Tx) (s : Scripts) → counted_by c (accepted_as s) (records.Tx tx) w ≡ plus c 1 1 0 0 []
tx_accepted c w tx Absent = accepted_is c
tx_accepted c w tx Passed = accepted_is c
tx_accepted c w tx Failed = accepted_is c

-- one, by the first rule that it breaks
tx_is : (c : LoadCounts) (w : World) (tx : Tx) (o : Option Rule)
    → counted_by c (step_by o w (records.Tx tx)).1 (records.Tx tx) w ≡ plus c 1 (cond (is_none o) 1 0) (cond (not (is_none o)) 1 0) 0 []
tx_is c w tx (Some rule) = refused_is c
tx_is c w tx None = tx_accepted c w tx tx.scripts

-- a reward update
rewards_is : (c : LoadCounts) (w : World) (u : Rewards) (o : Option Rule)
    → counted_by c (step_by o w (records.Rewards u)).1 (records.Rewards u) w ≡ plus c 1 (cond (is_none o) 1 0) (cond (not (is_none o)) 1 0) 0 []
rewards_is c w u (Some rule) = refused_is c
rewards_is c w u None = accepted_is c

-- a block that is accepted
block_accepted : (c : LoadCounts) (w : World) (crosses : Bool)
    → block_counted_by crosses c w ≡ plus c 1 0 0 1 (if crosses then (report_of w).tallies else [])
block_accepted c w true = crossing_is c (report_of w).tallies
block_accepted c w false = block_is c

-- a block
block_step_is : (c : LoadCounts) (w : World) (slot pulse : ℕ) (o : Option Rule)
    → counted_by c (step_by o w (records.Block slot pulse)).1 (records.Block slot pulse) w
    ≡ plus c 1 0 (cond (not (is_none o)) 1 0) (cond (is_none o) 1 0) (if is_none o && enters_next w.ledger slot then (report_of w).tallies else [])
block_step_is c w slot pulse (Some rule) = refused_is c
block_step_is c w slot pulse None = block_accepted c w (enters_next w.ledger slot)

-- any reading
reading_is : (c : LoadCounts) (w : World) (r : Reading) → reading_counted c w r ≡ plus_reading c w r
reading_is c w TooLong = refused_is c
reading_is c w (Malformed field place) = refused_is c
reading_is c w (Read (records.Genesis g)) = refused_is c
reading_is c w (Read (records.Block slot pulse)) = block_step_is c w slot pulse (refusal_of w (records.Block slot pulse))
reading_is c w (Read (records.Rewards u)) = rewards_is c w u (refusal_of w (records.Rewards u))
reading_is c w (Read (records.Tx tx)) = tx_is c w tx (refusal_of w (records.Tx tx))
reading_is c w (Read (records.Print what)) = other_is c

-- ---- all readings

-- one reading more
one_more : {X : Type 0} (x : X) (xs : List X) → 1 + length xs ≡ length (x ∷ xs)
one_more x xs = omega arith

count_first : {X : Type 0} (p : X → Bool) (x : X) (xs : List X) → cond (p x) 1 0 + count_by p xs ≡ count_by p (x ∷ xs)
count_first p x xs = sym (sum_by-cons (λ y. cond (p y) 1 0) x xs)

same_plus : (c : LoadCounts) (ts : List Tally) {r r' a a' f f' b b' : ℕ} → r ≡ r' → a ≡ a' → f ≡ f' → b ≡ b' → plus c r a f b ts ≡ plus c r' a' f' b' ts
same_plus c ts er ea ef eb =
    same_counts (ap (λ (n : ℕ). c.records + n) er) (ap (λ (n : ℕ). c.accepted + n) ea) (ap (λ (n : ℕ). c.refused + n) ef) (ap (λ (n : ℕ). c.blocks + n) eb) refl refl refl

-- what further readings add
abbrev plus_answered : LoadCounts → List (World × Reading) → LoadCounts
plus_answered c answered =
    plus c (length answered) (count_by is_accepted answered) (count_by is_refused answered) (count_by is_accepted_block answered)
    (flat_map tallies_at answered)

from_is : (c : LoadCounts) (w : World) (rs : List Reading) → counted_from c w rs ≡ plus_answered c (with_worlds w rs)
from_is c w [] = sym (plus_none c)
from_is c w (r ∷ rs) =
    let later : List (World × Reading) = with_worlds (world_after_reading w r) rs in
    from_is (reading_counted c w r) (world_after_reading w r) rs
    ∙ ap (λ (d : LoadCounts). plus_answered d later) (reading_is c w r)
    ∙ plus_plus c 1 (cond (is_accepted (w, r)) 1 0) (cond (is_refused (w, r)) 1 0) (cond (is_accepted_block (w, r)) 1 0)
    (length later) (count_by is_accepted later) (count_by is_refused later) (count_by is_accepted_block later)
    (tallies_at (w, r)) (flat_map tallies_at later)
    ∙ same_plus c (flat_map tallies_at ((w, r) ∷ later)) (one_more {X = World × Reading} (w, r) later)
    (count_first is_accepted (w, r) later) (count_first is_refused (w, r) later) (count_first is_accepted_block (w, r) later)

-- each reading is answered once
length-with_worlds : (w : World) (rs : List Reading) → length (with_worlds w rs) ≡ length rs
length-with_worlds w [] = refl
length-with_worlds w (r ∷ rs) =
    let more : length (with_worlds (world_after_reading w r) rs) ≡ length rs = length-with_worlds (world_after_reading w r) rs in
    omega (arith, more)

-- ---- the summary

one_record : (w : World) (rs : List Reading) → 0 + 1 + length (with_worlds w rs) ≡ length rs + 1
one_record w rs = omega (arith, length-with_worlds w rs)

pub summary_is : SummaryIsCounted
summary_is seed accounts epochs g rs =
    let w : World = world_of_genesis g in
    let answered : List (World × Reading) = with_worlds w rs in
    let tallies : List Tally = flat_map tallies_at answered in
    sym (ap (λ (c : LoadCounts). summary_with seed accounts epochs c (pots_of (world_after_readings w rs).ledger))
    (from_is (other_counted nothing_counted) w rs
    ∙ same_counts (one_record w rs) (zero-add (count_by is_accepted answered)) (zero-add (count_by is_refused answered)) (zero-add (count_by is_accepted_block answered))
    (zero-add (ratified_among tallies)) (zero-add (expired_among tallies)) (zero-add (waiting_among tallies))))
