-- Pulses do not show in texts: two Worlds that differ only in what was counted give the same lines
-- except for the counted numbers, and continue to differ only in these.
use Rattle.std.proofs.Common.{◌≡◌, inl, inr, ℕ, ◌+◌, ◌==◌, List, [], ◌∷◌, ◌++◌, Bool, true, false, Option, Some, None, codes, nat_le, nat_lt, append_assoc, subst, refl, ap, sym}
use Rattle.std.specs.List.{AllZip}
use Rattle.run_laws.proofs.Pulses.{zero_same}
use Rattle.tx_records.specs.declared.genesis.Genesis.{Genesis}
use Rattle.tx_records.specs.declared.genesis.GenesisRule.{GenesisRule}
use Rattle.tx_records.specs.declared.record.Reading.{Reading}
use Rattle.tx_records.specs.declared.record.Reading.TheVariants.{Read, Malformed, TooLong}
use Rattle.tx_records.specs.declared.record.Record.{Record}
use Rattle.tx_records.specs.declared.record.Record.TheVariants as records
use Rattle.tx_records.specs.declared.record.What.TheVariants.{Pots, State, Assets}
use Rattle.tx_records.specs.declared.reply.Reply.{Reply}
use Rattle.tx_records.specs.declared.reply.Reply.TheVariants.{Accepted, AcceptedFailedScripts, Refused}
use Rattle.tx_records.specs.declared.reply.Rule.{Rule}
use Rattle.tx_records.specs.declared.rules.TheConstants.{SLOT_NOT_LATER, EPOCH_SKIPPED, ZERO_PULSE}
use Rattle.tx_records.specs.declared.tx.Tx.{Tx}
use Rattle.gov_model.specs.Snapshot.{entry_count}
use Rattle.ledger_model.specs.Checks.{breaks, breaks_keeping, first_among}
use Rattle.ledger_model.specs.Supply.{pots_of}
use Rattle.ledger_model.specs.Transaction.{accepted_as}
use Rattle.run_model.specs.Genesis.{genesis_fault, world_of_genesis}
use Rattle.run_model.specs.Step.{crossed, enters_next, epoch_at, pulsed, refusal_of, step, step_by, world_after_accepted}
use Rattle.run_model.specs.World.{World}
use Rattle.text_model.specs.Replies.{block_words, pots_words}
use Rattle.text_model.specs.Runs.{crossing_lines, lines_by, reading_lines, text_from, text_of_genesis, text_of_lines, text_of_readings, world_after_reading}
use Rattle.text_model.specs.StateLines.{asset_lines, state_lines}
use Rattle.text_model.specs.Words.{Text, line_of}
use Rattle.text_laws.specs.Alike.{AreAlikeButCounted, AreOfOneBlock, IsReadSameButPulse, IsSameButCounted, IsSameButPulse, IsTextSameButCounted}
use Rattle.text_laws.specs.Laws.{PulsesDoNotShowInText}

-- ---- lines

same_lines : (lines : List (List Text)) → AllZip IsSameButCounted lines lines
same_lines [] = tt
same_lines (x ∷ xs) = (inl refl, same_lines xs)

-- the same lines, and then two that are alike
then_alike : (lines : List (List Text)) (x y : List Text) → IsSameButCounted x y → AllZip IsSameButCounted (lines ++ x ∷ []) (lines ++ y ∷ [])
then_alike [] x y h = (h, tt)
then_alike (l ∷ ls) x y h = (inl refl, then_alike ls x y h)

-- ---- records

-- the World, with n counted
abbrev counting : ℕ → World → World
counting n w = record w { counted = n }

-- the first is the second except for what was counted
abbrev IsSameBut : World → World → Type 0
IsSameBut v w = v ≡ counting v.counted w

-- the lines of a record that breaks this rule, or none
abbrev pub told : Option Rule → World → Record → List (List Text)
told o w r = lines_by (step_by o w r).1 r w (step_by o w r).0

-- two records that break this rule, or none, in Worlds that differ in what was counted
abbrev AreToldAlike : Option Rule → ℕ → World → Record → Record → Type 0
AreToldAlike o n w r s =
    AllZip IsSameButCounted (told o (counting n w) r) (told o w s) × IsSameBut (step_by o (counting n w) r).0 (step_by o w s).0

refused_alike : (rule : Rule) (n : ℕ) (w : World) (r s : Record) → AreToldAlike (Some rule) n w r s
refused_alike rule n w r s = ((inl refl, tt), refl)

-- what a transaction is answered is in its reply alone
tx_lines : (reply : Reply) (tx : Tx) (v w v' w' : World) → AllZip IsSameButCounted (lines_by reply (records.Tx tx) v v') (lines_by reply (records.Tx tx) w w')
tx_lines Accepted tx v w v' w' = (inl refl, tt)
tx_lines AcceptedFailedScripts tx v w v' w' = (inl refl, tt)
tx_lines (Refused rule) tx v w v' w' = (inl refl, tt)

-- the lines of a boundary do not tell what was counted
crossing_same : (n : ℕ) (b : Bool) (w : World) → crossing_lines b (counting n w) ≡ crossing_lines b w
crossing_same n true w = refl
crossing_same n false w = refl

block_line : (n : ℕ) (b : Bool) (w : World) (slot pulse pulse' : ℕ)
    → AreOfOneBlock (block_words (pulsed slot pulse (crossed b (counting n w)))) (block_words (pulsed slot pulse' (crossed b w)))
block_line n true w slot pulse pulse' = record {
  slot = slot;
  epoch = (crossed true w).ledger.epoch;
  entries = entry_count (crossed true w).frozen;
  counted = (pulsed slot pulse (crossed true w)).counted;
  other = (pulsed slot pulse' (crossed true w)).counted;
  first = refl;
  second = refl;
}
block_line n false w slot pulse pulse' = record {
  slot = slot;
  epoch = w.ledger.epoch;
  entries = entry_count w.frozen;
  counted = (pulsed slot pulse (counting n w)).counted;
  other = (pulsed slot pulse' w).counted;
  first = refl;
  second = refl;
}

block_left : (n : ℕ) (b : Bool) (w : World) (slot pulse pulse' : ℕ) → IsSameBut (pulsed slot pulse (crossed b (counting n w))) (pulsed slot pulse' (crossed b w))
block_left n true w slot pulse pulse' = refl
block_left n false w slot pulse pulse' = refl

blocks_by : (o : Option Rule) (n : ℕ) (w : World) (slot pulse pulse' : ℕ) → AreToldAlike o n w (records.Block slot pulse) (records.Block slot pulse')
blocks_by (Some rule) n w slot pulse pulse' = refused_alike rule n w (records.Block slot pulse) (records.Block slot pulse')
blocks_by None n w slot pulse pulse' =
    let b : Bool = enters_next w.ledger slot in
    let x : List Text = block_words (pulsed slot pulse (crossed b (counting n w))) in
    let y : List Text = block_words (pulsed slot pulse' (crossed b w)) in (
      subst (λ (lines : List (List Text)). AllZip IsSameButCounted (lines ++ x ∷ []) (crossing_lines b w ++ y ∷ [])) (sym (crossing_same n b w))
          (then_alike (crossing_lines b w) x y (inr (block_line n b w slot pulse pulse'))),
      block_left n b w slot pulse pulse',
    )

accepted_alike : (n : ℕ) (w : World) (r : Record) → AreToldAlike None n w r r
accepted_alike n w (records.Genesis g) = ((inl refl, tt), refl)
accepted_alike n w (records.Block slot pulse) = blocks_by None n w slot pulse pulse
accepted_alike n w (records.Rewards u) = ((inl refl, tt), refl)
accepted_alike n w (records.Tx tx) =
    let after : World = world_after_accepted w (records.Tx tx) in
    (tx_lines (accepted_as tx.scripts) tx (counting n w) w (counting n after) after, refl)
accepted_alike n w (records.Print Pots) = ((inl refl, tt), refl)
accepted_alike n w (records.Print State) = (same_lines (state_lines w), refl)
accepted_alike n w (records.Print Assets) = (same_lines (asset_lines w), refl)

record_by : (o : Option Rule) (n : ℕ) (w : World) (r : Record) → AreToldAlike o n w r r
record_by (Some rule) n w r = refused_alike rule n w r r
record_by None n w r = accepted_alike n w r

-- ---- readings

-- two readings in Worlds that differ in what was counted
abbrev AreAlike : ℕ → World → Reading → Reading → Type 0
AreAlike n w x y = AllZip IsSameButCounted (reading_lines (counting n w) x) (reading_lines w y) × IsSameBut (world_after_reading (counting n w) x) (world_after_reading w y)

-- no rule but the one on a pulse of 0 looks at pulses
same_blocks : (n : ℕ) (w : World) (slot pulse pulse' : ℕ) → (pulse == 0) ≡ (pulse' == 0) → AreAlike n w (Read (records.Block slot pulse)) (Read (records.Block slot pulse'))
same_blocks n w slot pulse pulse' h =
    let refused : refusal_of w (records.Block slot pulse) ≡ refusal_of w (records.Block slot pulse') =
    ap (λ (z : Bool). first_among (
    breaks_keeping SLOT_NOT_LATER w.ledger.slot (nat_le slot w.ledger.slot) ∷
    breaks_keeping EPOCH_SKIPPED w.ledger.epoch (nat_lt (w.ledger.epoch + 1) (epoch_at w.ledger slot)) ∷
    breaks ZERO_PULSE z ∷
    [])) h in
    subst
    (λ (o : Option Rule).
    AllZip IsSameButCounted (told o (counting n w) (records.Block slot pulse)) (reading_lines w (Read (records.Block slot pulse')))
    × IsSameBut (step_by o (counting n w) (records.Block slot pulse)).0 (step w (records.Block slot pulse')).0)
    (sym refused)
    (blocks_by (refusal_of w (records.Block slot pulse')) n w slot pulse pulse')

same_record : (n : ℕ) (w : World) (r : Record) → AreAlike n w (Read r) (Read r)
same_record n w (records.Genesis g) = record_by (refusal_of w (records.Genesis g)) n w (records.Genesis g)
same_record n w (records.Block slot pulse) = record_by (refusal_of w (records.Block slot pulse)) n w (records.Block slot pulse)
same_record n w (records.Rewards u) = record_by (refusal_of w (records.Rewards u)) n w (records.Rewards u)
same_record n w (records.Tx tx) = record_by (refusal_of w (records.Tx tx)) n w (records.Tx tx)
same_record n w (records.Print what) = record_by (refusal_of w (records.Print what)) n w (records.Print what)

same_reading : (n : ℕ) (w : World) (x : Reading) → AreAlike n w x x
same_reading n w (Read r) = same_record n w r
same_reading n w (Malformed field place) = ((inl refl, tt), refl)
same_reading n w TooLong = ((inl refl, tt), refl)

-- readings that are the same except for a pulse are equal or two blocks
-- so what holds of these holds of them
by_kind : (P : Reading → Reading → Type 0) → ((x : Reading) → P x x)
    → ((slot pulse pulse' : ℕ) → (pulse == 0) ≡ (pulse' == 0) → P (Read (records.Block slot pulse)) (Read (records.Block slot pulse')))
    → (x y : Reading) → IsSameButPulse x y → P x y
by_kind P same blocks (Read (records.Block slot pulse)) (Read (records.Block slot' pulse')) h =
    subst (λ (t : ℕ). P (Read (records.Block slot pulse)) (Read (records.Block t pulse'))) h.0 (blocks slot pulse pulse' (zero_same pulse pulse' h.1))
by_kind P same blocks (Read (records.Block slot pulse)) (Read (records.Genesis g)) h = subst (λ (s : Record). P (Read (records.Block slot pulse)) (Read s)) h (same (Read (records.Block slot pulse)))
by_kind P same blocks (Read (records.Block slot pulse)) (Read (records.Rewards u)) h = subst (λ (s : Record). P (Read (records.Block slot pulse)) (Read s)) h (same (Read (records.Block slot pulse)))
by_kind P same blocks (Read (records.Block slot pulse)) (Read (records.Tx tx)) h = subst (λ (s : Record). P (Read (records.Block slot pulse)) (Read s)) h (same (Read (records.Block slot pulse)))
by_kind P same blocks (Read (records.Block slot pulse)) (Read (records.Print what)) h = subst (λ (s : Record). P (Read (records.Block slot pulse)) (Read s)) h (same (Read (records.Block slot pulse)))
by_kind P same blocks (Read (records.Genesis g)) (Read s) h = subst (λ (s : Record). P (Read (records.Genesis g)) (Read s)) h (same (Read (records.Genesis g)))
by_kind P same blocks (Read (records.Rewards u)) (Read s) h = subst (λ (s : Record). P (Read (records.Rewards u)) (Read s)) h (same (Read (records.Rewards u)))
by_kind P same blocks (Read (records.Tx tx)) (Read s) h = subst (λ (s : Record). P (Read (records.Tx tx)) (Read s)) h (same (Read (records.Tx tx)))
by_kind P same blocks (Read (records.Print what)) (Read s) h = subst (λ (s : Record). P (Read (records.Print what)) (Read s)) h (same (Read (records.Print what)))
by_kind P same blocks (Read r) (Malformed field place) h = subst (λ (y : Reading). P (Read r) y) h (same (Read r))
by_kind P same blocks (Read r) TooLong h = subst (λ (y : Reading). P (Read r) y) h (same (Read r))
by_kind P same blocks (Malformed field place) y h = subst (λ (y : Reading). P (Malformed field place) y) h (same (Malformed field place))
by_kind P same blocks TooLong y h = subst (λ (y : Reading). P TooLong y) h (same TooLong)

alike : (n : ℕ) (w : World) (x y : Reading) → IsSameButPulse x y → AreAlike n w x y
alike n w x y h = by_kind (AreAlike n w) (same_reading n w) (same_blocks n w) x y h

-- ---- texts

-- one line, and then a text
one_more : (n : ℕ) (x y : List Text) (s t : Text) → IsSameButCounted x y → IsTextSameButCounted s t → IsTextSameButCounted (line_of n x ++ s) (line_of n y ++ t)
one_more n x y s t h e = record {
  lines = (n, x) ∷ e.lines;
  others = (n, y) ∷ e.others;
  first = ap (λ (u : Text). line_of n x ++ u) e.first;
  second = ap (λ (u : Text). line_of n y ++ u) e.second;
  alike = ((refl, h), e.alike);
}

-- the lines of a reading, and then a text
then_text : (n : ℕ) (xs ys : List (List Text)) (s t : Text) → AllZip IsSameButCounted xs ys → IsTextSameButCounted s t → IsTextSameButCounted (text_of_lines n xs ++ s) (text_of_lines n ys ++ t)
then_text n [] [] s t h e = e
then_text n [] (y ∷ ys) s t h e = absurd h
then_text n (x ∷ xs) [] s t h e = absurd h
then_text n (x ∷ xs) (y ∷ ys) s t h e =
    subst (λ (u : Text). IsTextSameButCounted u (text_of_lines n (y ∷ ys) ++ t)) (sym (append_assoc (line_of n x) (text_of_lines n xs) s))
    (subst (λ (u : Text). IsTextSameButCounted (line_of n x ++ (text_of_lines n xs ++ s)) u) (sym (append_assoc (line_of n y) (text_of_lines n ys) t))
    (one_more n x y (text_of_lines n xs ++ s) (text_of_lines n ys ++ t) h.0 (then_text n xs ys s t h.1 e)))

no_more : IsTextSameButCounted [] []
no_more = record { lines = []; others = []; first = refl; second = refl; alike = tt }

texts_alike : (rs ss : List (ℕ × Reading)) (n : ℕ) (w : World) → AllZip IsReadSameButPulse rs ss → IsTextSameButCounted (text_from (counting n w) rs) (text_from w ss)
texts_alike [] [] n w h = no_more
texts_alike [] (s ∷ ss) n w h = absurd h
texts_alike (r ∷ rs) [] n w h = absurd h
texts_alike (r ∷ rs) (s ∷ ss) n w h =
    let one : AreAlike n w r.1 s.1 = alike n w r.1 s.1 h.0.1 in
    let v : World = world_after_reading (counting n w) r.1 in
    let later : IsTextSameButCounted (text_from v rs) (text_from (world_after_reading w s.1) ss) =
    subst (λ (u : World). IsTextSameButCounted (text_from u rs) (text_from (world_after_reading w s.1) ss)) (sym one.1) (texts_alike rs ss v.counted (world_after_reading w s.1) h.1) in
    subst (λ (k : ℕ). IsTextSameButCounted (text_from (counting n w) (r ∷ rs)) (text_of_lines k (reading_lines w s.1) ++ text_from (world_after_reading w s.1) ss)) h.0.0
    (then_text r.0 (reading_lines (counting n w) r.1) (reading_lines w s.1) (text_from v rs) (text_from (world_after_reading w s.1) ss) one.0 later)

-- the lines of a genesis, and then of what is read
genesis_alike : (o : Option GenesisRule) (n : ℕ) (g : Genesis) (rs ss : List (ℕ × Reading)) → AllZip IsReadSameButPulse rs ss → AreAlikeButCounted (text_of_genesis n g o rs) (text_of_genesis n g o ss)
genesis_alike (Some rule) n g rs ss h = tt
genesis_alike None n g rs ss h =
    let w : World = world_of_genesis g in
    let lines : List (List Text) = pots_words (codes "genesis") (pots_of w.ledger) ∷ [] in
    then_text n lines lines (text_from w rs) (text_from w ss) (same_lines lines) (texts_alike rs ss w.counted w h)

-- runs that begin with these
module _ (n : ℕ) (rs ss : List (ℕ × Reading)) (h : AllZip IsReadSameButPulse rs ss) where
  abbrev BeginAlike : Reading → Reading → Type 0
  BeginAlike x y = AreAlikeButCounted (text_of_readings ((n, x) ∷ rs)) (text_of_readings ((n, y) ∷ ss))

  begin_same : (x : Reading) → BeginAlike x x
  begin_same (Read (records.Genesis g)) = genesis_alike (genesis_fault g) n g rs ss h
  begin_same (Read (records.Block slot pulse)) = tt
  begin_same (Read (records.Rewards u)) = tt
  begin_same (Read (records.Tx tx)) = tt
  begin_same (Read (records.Print what)) = tt
  begin_same (Malformed field place) = tt
  begin_same TooLong = tt

  begin_alike : (x y : Reading) → IsSameButPulse x y → BeginAlike x y
  begin_alike x y e = by_kind BeginAlike begin_same (λ slot pulse pulse' z. tt) x y e

pub pulses_do_not_show_in_text : PulsesDoNotShowInText
pulses_do_not_show_in_text [] [] h = tt
pulses_do_not_show_in_text [] (s ∷ ss) h = absurd h
pulses_do_not_show_in_text (r ∷ rs) [] h = absurd h
pulses_do_not_show_in_text (r ∷ rs) (s ∷ ss) h =
    subst (λ (k : ℕ). AreAlikeButCounted (text_of_readings (r ∷ rs)) (text_of_readings ((k, s.1) ∷ ss))) h.0.0
    (begin_alike r.0 rs ss h.1 r.1 s.1 h.0.1)
