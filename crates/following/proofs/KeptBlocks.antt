-- The blocks of an epoch among records, by their slots.
use Rattle.std.proofs.Common.{◌≡◌, ◌∙◌, ℕ, ◌+◌, ◌/◌, ◌==◌, ◌<◌, ◌≤◌, List, [], ◌∷◌, ◌++◌, Bool, true, false, cond, ◌&&◌, ◌||◌, Option, Some, None, refl, ap, sym, arith}
use Rattle.std.specs.List.{AllByRecursion, cons_option, list_any}
use Rattle.std.proofs.lemmas.Bool.{eqb-true, false≢true, ne_eqb}
use Rattle.follow_loop.proofs.proofs_of_further_laws.Standing.{parted, past_block}
use Rattle.follow_model.specs.Chain.{is_block_of, up_to_block}
use Rattle.follow_loop.specs.of_follow_steps.Laws.{IsNotLater}
use Rattle.ledger_model.specs.Ledger.{Ledger}
use Rattle.run_model.specs.Step.{epoch_at}
use Rattle.tx_records.specs.declared.record.Record.{Record}
use Rattle.tx_records.specs.declared.record.Record.TheVariants as records
use Rattle.following.specs.Logged.{slot_in, slots_in}

-- ---- slots

-- whether a slot is among these
abbrev pub has_slot : ℕ → List ℕ → Bool
has_slot slot ss = list_any (λ (s : ℕ). s == slot) ss

-- the slots up to this one
abbrev pub up_to_slot : ℕ → List ℕ → List ℕ
up_to_slot slot [] = []
up_to_slot slot (s ∷ ss) = s ∷ cond (s == slot) [] (up_to_slot slot ss)

-- ---- which slots are those of blocks

has_more : (b : Bool) (slot s : ℕ) (ss : List ℕ) → has_slot slot (cons_option (cond b (Some s) None) ss) ≡ cond b ((s == slot) || has_slot slot ss) (has_slot slot ss)
has_more true slot s ss = refl
has_more false slot s ss = refl

-- b: of the epoch, c: of the slot, e: the slot is of the epoch
has_by : (b c e later here : Bool) → (c ≡ true → e ≡ b) → here ≡ (e && later) → cond b (c || here) here ≡ (e && (c || later))
has_by true true e later here same is = ap (λ (x : Bool). x && true) (sym (same refl))
has_by true false e later here same is = is
has_by false true e later here same is = is ∙ ap (λ (x : Bool). x && later) (same refl) ∙ ap (λ (x : Bool). x && true) (sym (same refl))
has_by false false e later here same is = is

and_none : (e : Bool) → false ≡ (e && false)
and_none true = refl
and_none false = refl

-- a slot is that of a block of the epoch exactly if it is of the epoch and some block has it
pub has_block : (l : Ledger) (slot : ℕ) (rs : List Record) → has_slot slot (slots_in l rs) ≡ (epoch_at l slot == l.epoch && list_any (is_block_of slot) rs)
has_block l slot [] = and_none (epoch_at l slot == l.epoch)
has_block l slot (records.Genesis g ∷ rs) = has_block l slot rs
has_block l slot (records.Block s pulse ∷ rs) =
    has_more (epoch_at l s == l.epoch) slot s (slots_in l rs)
    ∙ has_by (epoch_at l s == l.epoch) (s == slot) (epoch_at l slot == l.epoch) (list_any (is_block_of slot) rs) (has_slot slot (slots_in l rs))
    (λ same. ap (λ (n : ℕ). epoch_at l n == l.epoch) (sym (eqb-true s slot same))) (has_block l slot rs)
has_block l slot (records.Rewards u ∷ rs) = has_block l slot rs
has_block l slot (records.Tx tx ∷ rs) = has_block l slot rs
has_block l slot (records.Print what ∷ rs) = has_block l slot rs

-- ---- the blocks up to one

first_of : (b : Bool) (slot s : ℕ) (ss : List ℕ) → up_to_slot slot (cons_option (cond b (Some s) None) ss) ≡ cond b (s ∷ cond (s == slot) [] (up_to_slot slot ss)) (up_to_slot slot ss)
first_of true slot s ss = refl
first_of false slot s ss = refl

cut_by : (b c : Bool) (l : Ledger) (slot s : ℕ) (rs : List Record) → (c ≡ true → b ≡ true) → slots_in l (up_to_block slot rs) ≡ up_to_slot slot (slots_in l rs)
    → cons_option (cond b (Some s) None) (slots_in l (cond c [] (up_to_block slot rs))) ≡ cond b (s ∷ cond c [] (up_to_slot slot (slots_in l rs))) (up_to_slot slot (slots_in l rs))
cut_by true true l slot s rs here later = refl
cut_by true false l slot s rs here later = ap (λ (ss : List ℕ). s ∷ ss) later
cut_by false true l slot s rs here later = absurd (false≢true (here refl))
cut_by false false l slot s rs here later = later

-- the slots up to that of a block of the epoch
pub slots_up_to : (l : Ledger) (slot : ℕ) (rs : List Record) → (epoch_at l slot == l.epoch) ≡ true → slots_in l (up_to_block slot rs) ≡ up_to_slot slot (slots_in l rs)
slots_up_to l slot [] e = refl
slots_up_to l slot (records.Genesis g ∷ rs) e = slots_up_to l slot rs e
slots_up_to l slot (records.Block s pulse ∷ rs) e =
    cut_by (epoch_at l s == l.epoch) (s == slot) l slot s rs
    (λ same. ap (λ (n : ℕ). epoch_at l n == l.epoch) (eqb-true s slot same) ∙ e) (slots_up_to l slot rs e)
    ∙ sym (first_of (epoch_at l s == l.epoch) slot s (slots_in l rs))
slots_up_to l slot (records.Rewards u ∷ rs) e = slots_up_to l slot rs e
slots_up_to l slot (records.Tx tx ∷ rs) e = slots_up_to l slot rs e
slots_up_to l slot (records.Print what ∷ rs) e = slots_up_to l slot rs e

-- ---- further records

more_by : (b : Bool) (slot : ℕ) (rs later : List Record) → (b || list_any (is_block_of slot) rs) ≡ true → (list_any (is_block_of slot) rs ≡ true → up_to_block slot (rs ++ later) ≡ up_to_block slot rs)
    → cond b [] (up_to_block slot (rs ++ later)) ≡ cond b [] (up_to_block slot rs)
more_by true slot rs later h same = refl
more_by false slot rs later h same = same h

-- they leave the records up to a block that is there
pub same_up_to : (slot : ℕ) (rs later : List Record) → list_any (is_block_of slot) rs ≡ true → up_to_block slot (rs ++ later) ≡ up_to_block slot rs
same_up_to slot [] later h = absurd (false≢true h)
same_up_to slot (r ∷ rs) later h = ap (λ (xs : List Record). r ∷ xs) (more_by (is_block_of slot r) slot rs later h (same_up_to slot rs later))

-- the records up to a block, of those up to a later one
pub up_to_earlier : (earlier slot : ℕ) (rs : List Record) → list_any (is_block_of earlier) (up_to_block slot rs) ≡ true → up_to_block earlier (up_to_block slot rs) ≡ up_to_block earlier rs
up_to_earlier earlier slot rs h =
    sym (same_up_to earlier (up_to_block slot rs) (past_block slot rs) h) ∙ sym (ap (λ (xs : List Record). up_to_block earlier xs) (parted slot rs))

none_by : (b : Bool) (r : Record) (xs ys : List Record) (none : Bool) → (b || none) ≡ false → (none ≡ false → xs ≡ ys) → r ∷ cond b [] xs ≡ r ∷ ys
none_by true r xs ys none h same = absurd (false≢true (sym h))
none_by false r xs ys none h same = ap (λ (zs : List Record). r ∷ zs) (same h)

last_by : (b : Bool) (r : Record) → r ∷ cond b [] [] ≡ r ∷ []
last_by true r = refl
last_by false r = refl

-- all records up to a new block, which is the last one
pub all_up_to : (slot pulse : ℕ) (rs : List Record) → list_any (is_block_of slot) rs ≡ false → up_to_block slot (rs ++ records.Block slot pulse ∷ []) ≡ rs ++ records.Block slot pulse ∷ []
all_up_to slot pulse [] h = last_by (slot == slot) (records.Block slot pulse)
all_up_to slot pulse (r ∷ rs) h =
    none_by (is_block_of slot r) r (up_to_block slot (rs ++ records.Block slot pulse ∷ [])) (rs ++ records.Block slot pulse ∷ []) (list_any (is_block_of slot) rs) h (all_up_to slot pulse rs)

-- ---- blocks that are not later than the ledger

none_there : (s slot : ℕ) (later : Bool) → s < slot → later ≡ false → ((s == slot) || later) ≡ false
none_there s slot later less h = ap (λ (b : Bool). b || later) (ne_eqb s slot (λ e. omega (arith, e, less))) ∙ h

-- none has a later slot
pub none_has : (l : Ledger) (slot : ℕ) (rs : List Record) → AllByRecursion (IsNotLater l) rs → l.slot < slot → list_any (is_block_of slot) rs ≡ false
none_has l slot [] h less = refl
none_has l slot (records.Genesis g ∷ rs) h less = none_has l slot rs h.1 less
none_has l slot (records.Block s pulse ∷ rs) h less = none_there s slot (list_any (is_block_of slot) rs) (omega (arith, h.0.0, less)) (none_has l slot rs h.1 less)
none_has l slot (records.Rewards u ∷ rs) h less = none_has l slot rs h.1 less
none_has l slot (records.Tx tx ∷ rs) h less = none_has l slot rs h.1 less
none_has l slot (records.Print what ∷ rs) h less = none_has l slot rs h.1 less

-- none is of the next epoch
pub none_next : (l m : Ledger) (rs : List Record) → AllByRecursion (IsNotLater l) rs → m.epoch ≡ l.epoch + 1 → m.epoch_length ≡ l.epoch_length → slots_in m rs ≡ []
none_next l m [] h e k = refl
none_next l m (records.Genesis g ∷ rs) h e k = none_next l m rs h.1 e k
none_next l m (records.Block s pulse ∷ rs) h e k =
    let same : epoch_at m s ≡ epoch_at l s = ap (λ (n : ℕ). s / n) k in
    let none : (epoch_at m s == m.epoch) ≡ false = ne_eqb (epoch_at m s) m.epoch (λ is. omega (arith, is, same, e, h.0.1)) in
    ap (λ (b : Bool). cons_option (cond b (Some s) None) (slots_in m rs)) none ∙ none_next l m rs h.1 e k
none_next l m (records.Rewards u ∷ rs) h e k = none_next l m rs h.1 e k
none_next l m (records.Tx tx ∷ rs) h e k = none_next l m rs h.1 e k
none_next l m (records.Print what ∷ rs) h e k = none_next l m rs h.1 e k

past_by : (b : Bool) (n s : ℕ) (ss : List ℕ) → s ≤ n → AllByRecursion (λ (x : ℕ). x ≤ n) ss → AllByRecursion (λ (x : ℕ). x ≤ n) (cons_option (cond b (Some s) None) ss)
past_by true n s ss here later = (here, later)
past_by false n s ss here later = later

-- each slot of the epoch is at most that of the ledger
pub slots_past : (l : Ledger) (rs : List Record) → AllByRecursion (IsNotLater l) rs → AllByRecursion (λ (s : ℕ). s ≤ l.slot) (slots_in l rs)
slots_past l [] h = tt
slots_past l (records.Genesis g ∷ rs) h = slots_past l rs h.1
slots_past l (records.Block s pulse ∷ rs) h = past_by (epoch_at l s == l.epoch) l.slot s (slots_in l rs) h.0.0 (slots_past l rs h.1)
slots_past l (records.Rewards u ∷ rs) h = slots_past l rs h.1
slots_past l (records.Tx tx ∷ rs) h = slots_past l rs h.1
slots_past l (records.Print what ∷ rs) h = slots_past l rs h.1

-- ---- a ledger of the same epoch

same_slot : (l m : Ledger) (r : Record) → m.epoch ≡ l.epoch → m.epoch_length ≡ l.epoch_length → slot_in m r ≡ slot_in l r
same_slot l m (records.Genesis g) e k = refl
same_slot l m (records.Block s pulse) e k =
    ap (λ (n : ℕ). cond (s / n == m.epoch) (Some s) None) k ∙ ap (λ (n : ℕ). cond (epoch_at l s == n) (Some s) None) e
same_slot l m (records.Rewards u) e k = refl
same_slot l m (records.Tx tx) e k = refl
same_slot l m (records.Print what) e k = refl

pub same_slots : (l m : Ledger) (rs : List Record) → m.epoch ≡ l.epoch → m.epoch_length ≡ l.epoch_length → slots_in m rs ≡ slots_in l rs
same_slots l m [] e k = refl
same_slots l m (r ∷ rs) e k =
    ap (λ (o : Option ℕ). cons_option o (slots_in m rs)) (same_slot l m r e k) ∙ ap (λ (ss : List ℕ). cons_option (slot_in l r) ss) (same_slots l m rs e k)
