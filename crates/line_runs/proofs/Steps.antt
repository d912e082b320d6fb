-- A state between two lines: what is handed over of what is gathered.
use Rattle.std.proofs.Common.{◌≡◌, ◌≢◌, ◌↔◌, ℕ, ◌+◌, ◌<◌, ◌≤◌, Bool, true, false, List, [], ◌++◌, Option, Result, Ok, Err, length, take, refl, sym, ap, subst, ◌∙◌, arith, inl, inr}
use Rattle.std.specs.Prelude.{IsOk}
use Rattle.std.specs.Io.KnownBytes.{append_known}
use Rattle.std.proofs.lemmas.List.{append-nil, length-append, length-take-le}
use Rattle.byte_lines.specs.Laws.{GivesFirst}
use Rattle.byte_lines.specs.Pieces.{has_feed}
use Rattle.byte_lines.specs.Reader.{Reader}
use Rattle.byte_lines.specs.declared.sink.SinkFault.{SinkFault}
use Rattle.byte_lines.specs.declared.sink.SinkFault.TheVariants as sink_faults
use Rattle.line_runs.specs.Batches.{Gathered, IsFront}
use Rattle.line_runs.specs.Loop.{AreReadTo, IsClear, IsCleared, Leaves, Stands}
use Rattle.line_runs.specs.Plays.{Played}
use Rattle.line_runs.specs.Runs.{IsCutShort, IsPart, Run, StandFirst, played_over}
use Rattle.line_runs.specs.Turns.{fault_of_sink}
use Rattle.line_runs.specs.declared.fault.RunFault.{RunFault}
use Rattle.line_runs.specs.declared.fault.RunFault.TheVariants as faults
use Rattle.line_runs.proofs.Cuts.{find, part_of, text_of}
use Rattle.line_runs.proofs.Endings.{begins}
use Rattle.line_runs.proofs.Fronts.{front_behind, front_length, front_more, front_self, front_take, took_both}

-- nothing is shorter than nothing
pub none_less : {P : Type 0} (n : ℕ) (batch : List ℕ) → batch ≡ [] → n < length batch → P
none_less n batch none less = absurd (let e : length batch ≡ 0 = ap length none in omega (arith, less, e))

-- a text is no front of less than it
pub too_long : (text handed batch : List ℕ) (n : ℕ) → text ≡ handed ++ batch → n < length batch → IsFront text (handed ++ take n batch) → ⊥
too_long text handed batch n is less over =
    let long : length text ≤ length (handed ++ take n batch) = front_length text (handed ++ take n batch) over in
    let e : length text ≡ length handed + length batch = ap length is ∙ length-append handed batch in
    let f : length (handed ++ take n batch) ≡ length handed + length (take n batch) = length-append handed (take n batch) in
    let k : length (take n batch) ≡ n = length-take-le n batch (omega (arith, less)) in
    omega (arith, long, e, f, k, less)

-- not too much came
pub not_over : {Cause : Type 0} (result : Result (Unit {0}) (RunFault Cause)) (taken stream_max : ℕ) → result ≢ Err faults.TooMuch → taken ≤ stream_max
    → (result ≡ Err faults.TooMuch) ↔ (stream_max < taken)
not_over result taken stream_max other within = (λ is. absurd (other is), λ over. absurd (omega (arith, within, over)))

module _ {Said Stand Cause : Type 0} (run : Run Said Stand Cause) (first_law : GivesFirst) where
  -- ---- a state between two lines

  module _ (bytes : List ℕ) (given : List (Option (List ℕ))) (r : Reader) (left had : Option (List ℕ)) (g : Gathered) (s : Stand) (stands : Stands run bytes given r left had g s) where
    abbrev came : List ℕ
    came = stands.read.came

    abbrev rest : List ℕ
    rest = stands.read.rest

    abbrev upto : List (ℕ × Said)
    upto = stands.old ++ stands.new

    pub text_is : text_of run came rest upto ≡ stands.handed ++ g.batch
    text_is = ap (λ (x : Played Stand Cause). x.text) stands.goes

    pub going : IsOk (played_over run upto).stand
    going = subst (λ (x : Played Stand Cause). IsOk x.stand) (sym stands.goes) refl

    first : StandFirst run came rest upto
    first = subst (λ (rs : List (ℕ × Said)). StandFirst run came rest rs) stands.are
        (begins run bytes given stands.more r left stands.read stands.passed stands.line_max stands.stream_max first_law stands.within)

    reads : AreReadTo run came rest stands.old stands.new
    reads = stands.reads came rest stands.read.cut stands.read.told

    short : length came ≤ run.stream_max
    short = omega (arith, stands.within, stands.read.taken, stands.stream_max)

    -- the text up to here, and fronts of it
    pub whole_front : IsFront (stands.handed ++ g.batch) (text_of run came rest upto)
    whole_front = subst (λ (t : List ℕ). IsFront (stands.handed ++ g.batch) t) (sym text_is) (front_self (stands.handed ++ g.batch))

    pub is_part : (written : List ℕ) → IsFront written (stands.handed ++ g.batch) → IsPart run came rest written
    is_part written front = part_of run came rest upto written first (front_more written (stands.handed ++ g.batch) (text_of run came rest upto) front whole_front)

    -- a front of what is gathered was handed over
    pub cut_short : (n : ℕ) → n < length g.batch → IsCutShort run came rest (stands.handed ++ take n g.batch)
    cut_short n less =
        let written = stands.handed ++ take n g.batch in
        let front : IsFront written (stands.handed ++ g.batch) = front_behind stands.handed (take n g.batch) g.batch (front_take n g.batch) in
        let after : IsFront (text_of run came rest stands.old) written =
        front_more (text_of run came rest stands.old) stands.handed written stands.before (take n g.batch, refl) in
        let all : IsFront (text_of run came rest upto) (stands.handed ++ g.batch) =
        subst (λ (t : List ℕ). IsFront t (stands.handed ++ g.batch)) (sym text_is) (front_self (stands.handed ++ g.batch)) in
        record {
          part = is_part written front;
          place = elim (find run came rest stands.old stands.new written (stands.handed ++ g.batch) first reads after front all going) [
            | inl place ↦ inl place
            | inr over ↦ absurd (too_long (text_of run came rest upto) stands.handed g.batch n text_is less over)
          ];
        }

    -- all was handed over
    pub handed_over : (g' : Gathered) → g'.taken ≡ append_known g.taken g.batch → g'.batch ≡ [] → Stands run bytes given r left had g' s
    handed_over g' took none = record {
      more = stands.more;
      read = stands.read;
      passed = stands.passed;
      line_max = stands.line_max;
      stream_max = stands.stream_max;
      within = stands.within;
      handed = stands.handed ++ g.batch;
      took = took ∙ ap (λ (t : Option (List ℕ)). append_known t g.batch) stands.took ∙ took_both had stands.handed g.batch;
      old = upto;
      new = [];
      are = stands.are ∙ sym (append-nil upto);
      goes =
          ap (λ (rs : List (ℕ × Said)). played_over run rs) (append-nil upto)
          ∙ stands.goes
          ∙ ap (λ (t : List ℕ). record { text = t; stand = Ok s }) (sym (append-nil (stands.handed ++ g.batch)) ∙ ap (λ (t : List ℕ). (stands.handed ++ g.batch) ++ t) (sym none));
      before = subst (λ (t : List ℕ). IsFront t (stands.handed ++ g.batch)) (sym text_is) (front_self (stands.handed ++ g.batch));
      reads = λ c d cut told. tt;
    }

    -- a way was made for a further line
    pub cleared : (g' : Gathered) → IsCleared (has_feed r.ahead) g g' → (stands' : Stands run bytes given r left had g' s) × IsClear (has_feed r.ahead) stands'.new g'.batch
    unfolding handed_over
    cleared g' way = elim (has_feed r.ahead) as (λ (b : Bool). IsCleared b g g' → (stands' : Stands run bytes given r left had g' s) × IsClear b stands'.new g'.batch) [
      | true ↦ λ same. (subst (λ (x : Gathered). Stands run bytes given r left had x s) (sym same) stands, tt)
      | false ↦ λ over. (handed_over g' over.0 over.1, (refl, over.1))
    ] way

    -- not all was handed over
    pub not_handed : (g' : Gathered) (n : ℕ) (e : SinkFault) → n < length g.batch → g'.taken ≡ append_known g.taken (take n g.batch) → g'.batch ≡ []
        → Leaves run bytes left had g' (Err (fault_of_sink e))
    not_handed g' n sink_faults.WriteFault less took none = record {
      came = came;
      rest = rest;
      cut = stands.read.cut;
      told = stands.read.told;
      handed = stands.handed ++ take n g.batch;
      took = took ∙ ap (λ (t : Option (List ℕ)). append_known t (take n g.batch)) stands.took ∙ took_both had stands.handed (take n g.batch);
      ending = cut_short n less;
      too_much = not_over (Err faults.WriteFault) (length came) run.stream_max (λ e. cc) short;
    }
    not_handed g' n sink_faults.NoMemory less took none = record {
      came = came;
      rest = rest;
      cut = stands.read.cut;
      told = stands.read.told;
      handed = stands.handed ++ take n g.batch;
      took = took ∙ ap (λ (t : Option (List ℕ)). append_known t (take n g.batch)) stands.took ∙ took_both had stands.handed (take n g.batch);
      ending = record {
        all = is_part ((stands.handed ++ take n g.batch) ++ g'.batch)
            (subst (λ (t : List ℕ). IsFront t (stands.handed ++ g.batch)) (sym (append-nil (stands.handed ++ take n g.batch)) ∙ ap (λ (t : List ℕ). (stands.handed ++ take n g.batch) ++ t) (sym none))
            (front_behind stands.handed (take n g.batch) g.batch (front_take n g.batch)));
        lost = λ m more. none_less m g'.batch none more;
      };
      too_much = not_over (Err faults.NoMemory) (length came) run.stream_max (λ e. cc) short;
    }

    -- memory ran out
    pub without_memory : Leaves run bytes left had g (Err faults.NoMemory)
    without_memory = record {
      came = came;
      rest = rest;
      cut = stands.read.cut;
      told = stands.read.told;
      handed = stands.handed;
      took = stands.took;
      ending = record { all = is_part (stands.handed ++ g.batch) (front_self (stands.handed ++ g.batch)); lost = cut_short };
      too_much = not_over (Err faults.NoMemory) (length came) run.stream_max (λ e. cc) short;
    }
