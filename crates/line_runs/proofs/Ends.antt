-- What a run came to, by what its loop leaves.
use Rattle.std.proofs.Common.{◌≡◌, ◌≢◌, ℕ, ◌<◌, ◌≤◌, List, ◌++◌, Option, Result, Ok, Err, length, take, refl, sym, ap, subst, ◌∙◌, arith, inl, inr}
use Rattle.std.specs.Io.KnownBytes.{append_known}
use Rattle.byte_lines.specs.declared.sink.SinkFault.{SinkFault}
use Rattle.byte_lines.specs.declared.sink.SinkFault.TheVariants as sink_faults
use Rattle.line_runs.specs.Batches.{Gathered}
use Rattle.line_runs.specs.Loop.{EndsWaiting, IsClosed, Leaves}
use Rattle.line_runs.specs.Runs.{Ends, IsCutShort, IsRunOf, Run}
use Rattle.line_runs.specs.Turns.{fault_of_sink}
use Rattle.line_runs.specs.declared.fault.RunFault.{RunFault}
use Rattle.line_runs.specs.declared.fault.RunFault.TheVariants as faults
use Rattle.line_runs.proofs.Fronts.{took_both}
use Rattle.line_runs.proofs.Steps.{none_less, not_over}

not_above : (m n : ℕ) → (n < m → ⊥) → m ≤ n
not_above m n h = omega arith

module _ {Said Stand Cause : Type 0} (run : Run Said Stand Cause) (bytes : List ℕ) (left had : Option (List ℕ)) (g : Gathered) where
  -- all text was handed over
  all_of : (came rest handed : List ℕ) (end : Result (Unit {0}) (RunFault Cause)) → end ≢ Err faults.WriteFault → EndsWaiting run came rest handed g.batch end → Ends run came rest (handed ++ g.batch) end
  all_of came rest handed (Ok done) other waits = waits.all
  all_of came rest handed (Err (faults.Stop cause)) other waits = waits.all
  all_of came rest handed (Err faults.ReadFault) other waits = waits.all
  all_of came rest handed (Err faults.WriteFault) other waits = absurd (other refl)
  all_of came rest handed (Err faults.NoMemory) other waits = waits.all
  all_of came rest handed (Err faults.TooMuch) other waits = waits.1

  pub finished : (end : Result (Unit {0}) (RunFault Cause)) (has : Option (List ℕ)) → Leaves run bytes left had g end → end ≢ Err faults.WriteFault → has ≡ append_known g.taken g.batch
      → IsRunOf run bytes left had has end
  finished end has leaves other took = record {
    came = leaves.came;
    rest = leaves.rest;
    cut = leaves.cut;
    told = leaves.told;
    written = leaves.handed ++ g.batch;
    wrote = took ∙ ap (λ (t : Option (List ℕ)). append_known t g.batch) leaves.took ∙ took_both had leaves.handed g.batch;
    ending = all_of leaves.came leaves.rest leaves.handed end other leaves.ending;
    too_much = leaves.too_much;
  }

  -- a write failed before
  pub failed : Leaves run bytes left had g (Err faults.WriteFault) → IsRunOf run bytes left had g.taken (Err faults.WriteFault)
  failed leaves = record {
    came = leaves.came;
    rest = leaves.rest;
    cut = leaves.cut;
    told = leaves.told;
    written = leaves.handed;
    wrote = leaves.took;
    ending = leaves.ending;
    too_much = leaves.too_much;
  }

  -- a front of what was gathered was handed over
  lost_of : (came rest handed : List ℕ) (end : Result (Unit {0}) (RunFault Cause)) → end ≢ Err faults.WriteFault → EndsWaiting run came rest handed g.batch end → (n : ℕ) → n < length g.batch
      → IsCutShort run came rest (handed ++ take n g.batch)
  lost_of came rest handed (Ok done) other waits = waits.lost
  lost_of came rest handed (Err (faults.Stop cause)) other waits = waits.lost
  lost_of came rest handed (Err faults.ReadFault) other waits = waits.lost
  lost_of came rest handed (Err faults.WriteFault) other waits = absurd (other refl)
  lost_of came rest handed (Err faults.NoMemory) other waits = waits.lost
  lost_of came rest handed (Err faults.TooMuch) other waits = λ n less. none_less n g.batch waits.0 less

  short_of : (end : Result (Unit {0}) (RunFault Cause)) (n : ℕ) → n < length g.batch → (leaves : Leaves run bytes left had g end) → length leaves.came ≤ run.stream_max
  short_of (Err faults.TooMuch) n less leaves = none_less n g.batch leaves.ending.0 less
  short_of (Ok done) n less leaves = not_above (length leaves.came) run.stream_max (λ over. let e = leaves.too_much.1 over in cc)
  short_of (Err (faults.Stop cause)) n less leaves = not_above (length leaves.came) run.stream_max (λ over. let e = leaves.too_much.1 over in cc)
  short_of (Err faults.ReadFault) n less leaves = not_above (length leaves.came) run.stream_max (λ over. let e = leaves.too_much.1 over in cc)
  short_of (Err faults.WriteFault) n less leaves = not_above (length leaves.came) run.stream_max (λ over. let e = leaves.too_much.1 over in cc)
  short_of (Err faults.NoMemory) n less leaves = not_above (length leaves.came) run.stream_max (λ over. let e = leaves.too_much.1 over in cc)

  pub not_finished : (end : Result (Unit {0}) (RunFault Cause)) (has : Option (List ℕ)) (n : ℕ) (e : SinkFault) → Leaves run bytes left had g end → end ≢ Err faults.WriteFault → n < length g.batch
      → has ≡ append_known g.taken (take n g.batch) → IsRunOf run bytes left had has (Err (fault_of_sink e))
  not_finished end has n sink_faults.WriteFault leaves other less took = record {
    came = leaves.came;
    rest = leaves.rest;
    cut = leaves.cut;
    told = leaves.told;
    written = leaves.handed ++ take n g.batch;
    wrote = took ∙ ap (λ (t : Option (List ℕ)). append_known t (take n g.batch)) leaves.took ∙ took_both had leaves.handed (take n g.batch);
    ending = lost_of leaves.came leaves.rest leaves.handed end other leaves.ending n less;
    too_much = not_over (Err faults.WriteFault) (length leaves.came) run.stream_max (λ e. cc) (short_of end n less leaves);
  }
  not_finished end has n sink_faults.NoMemory leaves other less took = record {
    came = leaves.came;
    rest = leaves.rest;
    cut = leaves.cut;
    told = leaves.told;
    written = leaves.handed ++ take n g.batch;
    wrote = took ∙ ap (λ (t : Option (List ℕ)). append_known t (take n g.batch)) leaves.took ∙ took_both had leaves.handed (take n g.batch);
    ending = (lost_of leaves.came leaves.rest leaves.handed end other leaves.ending n less).part;
    too_much = not_over (Err faults.NoMemory) (length leaves.came) run.stream_max (λ e. cc) (short_of end n less leaves);
  }

  -- the end of a run is closed
  pub closed : (end result : Result (Unit {0}) (RunFault Cause)) (has : Option (List ℕ)) → Leaves run bytes left had g end → end ≢ Err faults.WriteFault → IsClosed end g.batch g.taken has result
      → IsRunOf run bytes left had has result
  closed end result has leaves other (inl h) = subst (λ (r : Result (Unit {0}) (RunFault Cause)). IsRunOf run bytes left had has r) (sym h.0) (finished end has leaves other h.1)
  closed end result has leaves other (inr h) =
      subst (λ (r : Result (Unit {0}) (RunFault Cause)). IsRunOf run bytes left had has r) (sym h.4) (not_finished end has h.0 h.1 leaves other h.2 h.3)
