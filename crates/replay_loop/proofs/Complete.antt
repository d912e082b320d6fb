-- A run over a good stream that meets no fault is done, unless memory runs out.
use Rattle.std.proofs.Common.{◌≡◌, ℕ, ◌+◌, ◌<◌, ◌≤◌, ◌⊎◌, List, ◌++◌, Option, Some, None, Result, Ok, Err, length, refl, ap, sym, ◌∙◌, arith, inl, inr}
use Rattle.std.proofs.lemmas.List.{length-append}
use Rattle.byte_lines.specs.Laws.{LinesAddUp}
use Rattle.byte_lines.specs.Pieces.{lines_of, whole_of}
use Rattle.line_runs.specs.Runs.{IsRunOf, IsStopped, Run, played_in}
use Rattle.line_runs.specs.declared.fault.RunFault.TheVariants as faults
use Rattle.record_stream.specs.Records.{records_of}
use Rattle.tx_records.specs.declared.limits.TheConstants.{LINE_LIMIT, STREAM_LIMIT}
use Rattle.tx_records.specs.declared.record.Reading.{Reading}
use Rattle.replay_loop.specs.declared.status.GenesisCause.{GenesisCause}
use Rattle.replay_loop.specs.declared.status.GenesisCause.TheVariants as causes
use Rattle.replay_loop.specs.declared.status.Status.TheVariants as statuses
use Rattle.replay_loop.specs.Plays.{Stood, Telling, run_of}
use Rattle.replay_loop.specs.Runs.{start_fault}
use Rattle.replay_loop.specs.Statuses.{ReplayFault, status_by}
use Rattle.replay_loop.proofs.Played.{begun, end_begun, stop_begun}
use Rattle.replay_loop.proofs.Texts.{all_came, start_of_whole}

module _ {Kept : Type 0} (t : Telling Kept) (k : Kept) (law : LinesAddUp) (bytes : List ℕ) (good : start_fault (records_of bytes) ≡ None) where
  abbrev run : Run Reading (Stood Kept) GenesisCause
  run = run_of t k

  not_good : (cause : GenesisCause) → start_fault (records_of bytes) ≡ Some cause → ⊥
  not_good cause bad = let both : None ≡ Some cause = sym good ∙ bad in cc

  never_stops : (came rest written : List ℕ) → bytes ≡ came ++ rest → (cause : GenesisCause) → IsStopped run cause came rest written → ⊥
  never_stops came rest written cut cause (inl stopped) =
      let s = stop_begun t k (start_fault (records_of (whole_of came))) (played_in run (whole_of came)) written cause (begun t k (records_of (whole_of came))) stopped in
      not_good cause (start_of_whole law bytes came rest cut (Some cause) (λ e. s.1 (let same : Some cause ≡ Some causes.Missing = e in cc)) s.0)
  never_stops came rest written cut cause (inr (none, stopped)) =
      let s = end_begun t k (start_fault (records_of came)) (length (lines_of LINE_LIMIT came)) (played_in run came) written cause (begun t k (records_of came)) stopped in
      not_good cause (ap (λ (xs : List ℕ). start_fault (records_of xs)) (all_came law bytes came rest cut none) ∙ s.0)

  -- a good stream that no fault cuts short: all is done, or memory ran out
  pub done_or_memory : (r : Result (Unit {0}) ReplayFault) (left had has : Option (List ℕ)) → IsRunOf run bytes left had has r → length bytes ≤ STREAM_LIMIT
      → (r ≡ Err faults.ReadFault → ⊥) → (r ≡ Err faults.WriteFault → ⊥) → (status_by r ≡ statuses.Done) ⊎ (status_by r ≡ statuses.NoMemory)
  done_or_memory (Ok done) left had has h short read write = inl refl
  done_or_memory (Err (faults.Stop cause)) left had has h short read write = absurd (never_stops h.came h.rest h.written h.cut cause h.ending)
  done_or_memory (Err faults.ReadFault) left had has h short read write = absurd (read refl)
  done_or_memory (Err faults.WriteFault) left had has h short read write = absurd (write refl)
  done_or_memory (Err faults.NoMemory) left had has h short read write = inr refl
  done_or_memory (Err faults.TooMuch) left had has h short read write =
      let over : STREAM_LIMIT < length h.came = h.too_much.0 refl in
      let all : length bytes ≡ length h.came + length h.rest = ap length h.cut ∙ length-append h.came h.rest in
      absurd (omega (arith, over, all, short))
