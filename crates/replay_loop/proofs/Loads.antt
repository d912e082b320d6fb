-- The summary of the stream that is made for a command is what its replay counts.
use Rattle.std.proofs.Common.{◌≡◌, ℕ, ◌+◌, ◌<◌, ◌≤◌, List, [], ◌∷◌, ◌++◌, Option, Some, None, Result, Ok, Err, length, map, refl, ap, sym, subst, ◌∙◌, arith, inl, inr}
use Rattle.std.proofs.lemmas.List.{append-nil, length-append}
use Rattle.std.specs.Prelude.{fold, option_map}
use Rattle.byte_lines.specs.Faults.{CountsFaults, Rose}
use Rattle.byte_lines.specs.Laws.{LinesAddUp}
use Rattle.byte_lines.specs.Pieces.{lines_of, whole_of}
use Rattle.ledger_model.specs.Supply.{pots_of}
use Rattle.line_runs.specs.Batches.{IsFront}
use Rattle.line_runs.specs.Plays.{Played, after_turn, ended, with_record}
use Rattle.line_runs.specs.Runs.{IsPart, IsRunOf, IsStopped, Run, ended_in, played_in, played_over}
use Rattle.line_runs.specs.declared.fault.RunFault.TheVariants as faults
use Rattle.line_runs.proofs.Fronts.{took_none}
use Rattle.load_laws.specs.Laws.{BeginWell}
use Rattle.load_model.specs.Stream.{bytes_of_load}
use Rattle.load_model.specs.Summary.{summary_of, world_after_readings}
use Rattle.load_model.specs.declared.summary.LoadSummary.{LoadSummary}
use Rattle.load_options.specs.declared.command.LoadCommand.{LoadCommand}
use Rattle.load_summary.specs.Counting.{SummaryIsCounted, counted_from, nothing_counted, other_counted, summary_with}
use Rattle.load_summary.specs.declared.counts.LoadCounts.{LoadCounts}
use Rattle.record_stream.specs.Records.{records_of}
use Rattle.run_model.specs.Genesis.{genesis_fault, world_of_genesis}
use Rattle.run_model.specs.World.{World}
use Rattle.text_model.specs.Runs.{world_after_reading}
use Rattle.tx_records.specs.declared.genesis.Genesis.{Genesis}
use Rattle.tx_records.specs.declared.genesis.GenesisRule.{GenesisRule}
use Rattle.tx_records.specs.declared.record.Reading.{Reading}
use Rattle.tx_records.specs.declared.limits.TheConstants.{LINE_LIMIT, STREAM_LIMIT}
use Rattle.replay_loop.specs.Counts.{Counted, counts_told}
use Rattle.replay_loop.specs.Loads.{IsLoaded, summary_by, summary_of_load, summary_of_readings, summary_text}
use Rattle.replay_loop.specs.Outcomes.{outcome_of}
use Rattle.replay_loop.specs.Plays.{Stood, ahead_by, answered, genesis_answered, play_of, run_of, turn_by}
use Rattle.replay_loop.specs.Runs.{start_fault}
use Rattle.replay_loop.specs.Statuses.{ReplayFault, status_by}
use Rattle.replay_loop.specs.declared.outcome.Outcome.{Outcome}
use Rattle.replay_loop.specs.declared.status.GenesisCause.{GenesisCause}
use Rattle.replay_loop.specs.declared.status.GenesisCause.TheVariants as causes
use Rattle.replay_loop.specs.declared.status.Status.TheVariants as statuses
use Rattle.replay_loop.proofs.Counts.{counted_is}
use Rattle.replay_loop.proofs.Played.{begun, stop_begun}
use Rattle.replay_loop.proofs.Texts.{start_of_whole}

-- what was read, without the numbers of the lines
abbrev readings : List (ℕ × Reading) → List Reading
readings rs = map (λ (r : ℕ × Reading). r.1) rs

summary_without : (c : LoadCommand) (g : Genesis) (rs : List (ℕ × Reading)) (found : Option GenesisRule) → found ≡ None → summary_by c g found rs ≡ Some (summary_of c.seed c.accounts c.epochs g (readings rs))
summary_without c g rs None e = refl
summary_without c g rs (Some rule) e = cc

-- a stream that begins well has a summary
pub has_summary : (c : LoadCommand) (rs : List (ℕ × Reading)) (b : BeginWell rs)
    → summary_of_readings c rs ≡ Some (summary_of c.seed c.accounts c.epochs b.genesis (readings b.others))
has_summary c rs b =
    ap (λ (xs : List (ℕ × Reading)). summary_of_readings c xs) b.start ∙ summary_without c b.genesis b.others (genesis_fault b.genesis) b.no_fault

-- ---- what was counted

-- further records have no text
counts_on : (w : World) (k : Counted) (rs : List (ℕ × Reading))
    → fold (with_record (play_of counts_told)) (record { text = []; stand = Ok (record { state = Some w; kept = k }) }) rs
    ≡ record { text = []; stand = Ok (record { state = Some (world_after_readings w (readings rs)); kept = record k { counts = counted_from k.counts w (readings rs) } }) }
counts_on w k [] = refl
counts_on w k ((n, r) ∷ rs) =
    counts_on (world_after_reading w r) (counts_told.keeps k n (world_after_reading w r) (outcome_of w r)) rs
    ∙ ap (λ (c : LoadCounts). record {
      text = [];
      stand = Ok (record { state = Some (world_after_readings (world_after_reading w r) (readings rs)); kept = record k { counts = counted_from c (world_after_reading w r) (readings rs) } });
    }) (counted_is k.counts w r)

-- no record has a text
quiet_by : (n : ℕ) (r : Reading) (stand : Result (Stood Counted) GenesisCause) → (with_record (play_of counts_told) (record { text = []; stand = stand }) (n, r)).text ≡ []
quiet_by n r (Err cause) = refl
quiet_by n r (Ok s) = quiet_turn s.state (answered s.state r) where
  quiet_turn : (o : Option World) (a : Result (World × Outcome) GenesisCause) → (after_turn [] (turn_by counts_told s.kept n (ahead_by counts_told s.kept o r) a)).text ≡ []
  quiet_turn None (Ok p) = refl
  quiet_turn (Some w) (Ok p) = refl
  quiet_turn o (Err cause) = refl

quiet : (x : Played (Stood Counted) GenesisCause) (rs : List (ℕ × Reading)) → x.text ≡ [] → (fold (with_record (play_of counts_told)) x rs).text ≡ []
quiet x [] none = none
quiet x ((n, r) ∷ rs) none =
    quiet (with_record (play_of counts_told) x (n, r)) rs
    (ap (λ (t : List ℕ). (with_record (play_of counts_told) (record { text = t; stand = x.stand }) (n, r)).text) none ∙ quiet_by n r x.stand)

-- a genesis that breaks no rule
first_counted : (c : LoadCommand) (g : Genesis) (rs : List (ℕ × Reading)) (found : Option GenesisRule) → found ≡ None
    → fold (with_record (play_of counts_told)) (after_turn [] (turn_by counts_told (record { command = c; counts = nothing_counted }) 1 [] (genesis_answered found g))) rs
    ≡ record { text = []; stand = Ok (record { state = Some (world_after_readings (world_of_genesis g) (readings rs)); kept = record { command = c; counts = counted_from (other_counted nothing_counted) (world_of_genesis g) (readings rs) } }) }
first_counted c g rs None e = counts_on (world_of_genesis g) (record { command = c; counts = other_counted nothing_counted }) rs
first_counted c g rs (Some rule) e = cc

-- a front of nothing is nothing
nothing : (written later : List ℕ) → [] ≡ written ++ later → (t : List ℕ) → IsFront written t
nothing [] later none t = (t, refl)
nothing (x ∷ xs) later none t = cc

never : Rose 0 0 → ⊥
never (inl x) = omega (arith, x)
never (inr x) = omega (arith, x)

-- no fault is counted of what counts none
pub none_rose : (failed : Type 0) → CountsFaults failed 0 0 → failed → ⊥
none_rose failed counts f = never (counts.rose f)

-- nothing, where there is no memory for the summary
pub nothing_written : (c : LoadCommand) (had : Option (List ℕ)) (x : LoadSummary) → summary_of_load c ≡ Some x → IsLoaded statuses.NoMemory c had had
nothing_written c had x is = record {
  summary = x;
  is = is;
  written = [];
  wrote = took_none had;
  ending = (summary_text x, refl);
}

-- ---- how it may end

module _ (law : LinesAddUp) (count_law : SummaryIsCounted) (c : LoadCommand) (bytes : List ℕ) (stream : bytes ≡ bytes_of_load c.seed c.accounts c.epochs) (b : BeginWell (records_of bytes)) where
  abbrev run : Run Reading (Stood Counted) GenesisCause
  run = run_of counts_told (record { command = c; counts = nothing_counted })

  abbrev rds : List Reading
  rds = readings b.others

  abbrev after : World
  after = world_after_readings (world_of_genesis b.genesis) rds

  abbrev summary : LoadSummary
  summary = summary_with c.seed c.accounts c.epochs (counted_from (other_counted nothing_counted) (world_of_genesis b.genesis) rds) (pots_of after.ledger)

  played_all : played_in run bytes ≡ record { text = []; stand = Ok (record { state = Some after; kept = record { command = c; counts = counted_from (other_counted nothing_counted) (world_of_genesis b.genesis) rds } }) }
  played_all = ap (λ (rs : List (ℕ × Reading)). played_over run rs) b.start ∙ first_counted c b.genesis b.others (genesis_fault b.genesis) b.no_fault

  ended_all : ended_in run bytes ≡ record { text = summary_text summary; stand = Ok tt }
  ended_all = ap (λ (x : Played (Stood Counted) GenesisCause). ended (play_of counts_told) (length (lines_of LINE_LIMIT bytes)) x) played_all

  summary_is : summary_of_load c ≡ Some summary
  summary_is =
      ap (λ (xs : List ℕ). summary_of_readings c (records_of xs)) (sym stream)
      ∙ has_summary c (records_of bytes) b
      ∙ ap Some (count_law c.seed c.accounts c.epochs b.genesis rds)

  module _ (came rest : List ℕ) (cut : bytes ≡ came ++ rest) where
    all_came : rest ≡ [] → bytes ≡ came
    all_came none = cut ∙ ap (λ (xs : List ℕ). came ++ xs) none ∙ append-nil came

    part : (written : List ℕ) → IsPart run came rest written → IsFront written (summary_text summary)
    part written (inl front) =
        let none : [] ≡ written ++ front.0 = sym (quiet (record { text = []; stand = Ok run.first }) (records_of (whole_of came)) refl) ∙ front.1 in
        nothing written front.0 none (summary_text summary)
    part written (inr (none, front)) =
        subst (λ (t : List ℕ). IsFront written t) (ap (λ (xs : List ℕ). (ended_in run xs).text) (sym (all_came none)) ∙ ap (λ (x : Played (Unit {0}) GenesisCause). x.text) ended_all) front

    never_stops : (cause : GenesisCause) (written : List ℕ) → IsStopped run cause came rest written → ⊥
    never_stops cause written (inl stopped) =
        let s = stop_begun counts_told (record { command = c; counts = nothing_counted }) (start_fault (records_of (whole_of came))) (played_in run (whole_of came)) written cause
        (begun counts_told (record { command = c; counts = nothing_counted }) (records_of (whole_of came))) stopped in
        let bad : start_fault (records_of bytes) ≡ Some cause = start_of_whole law bytes came rest cut (Some cause) (λ e. s.1 (let same : Some cause ≡ Some causes.Missing = e in cc)) s.0 in
        let good : start_fault (records_of bytes) ≡ None =
        ap (λ (rs : List (ℕ × Reading)). start_fault rs) b.start ∙ ap (λ (found : Option GenesisRule). option_map causes.Broken found) b.no_fault in
        let both : Some cause ≡ None = sym bad ∙ good in cc
    never_stops cause written (inr (none, stopped)) =
        let both : Ok tt ≡ Err cause =
        ap (λ (x : Played (Unit {0}) GenesisCause). x.stand) (sym ended_all ∙ ap (λ (xs : List ℕ). ended_in run xs) (all_came none) ∙ stopped) in cc

  -- so of a run
  pub loaded : (result : Result (Unit {0}) ReplayFault) (left had has : Option (List ℕ)) → length bytes ≤ STREAM_LIMIT → (result ≡ Err faults.ReadFault → ⊥) → IsRunOf run bytes left had has result
      → IsLoaded (status_by result) c had has
  loaded (Ok done) left had has short read h = record {
    summary = summary;
    is = summary_is;
    written = h.written;
    wrote = h.wrote;
    ending = sym (ap (λ (x : Played (Unit {0}) GenesisCause). x.text) (sym ended_all ∙ ap (λ (xs : List ℕ). ended_in run xs) (all_came h.came h.rest h.cut h.ending.read) ∙ h.ending.text));
  }
  loaded (Err (faults.Stop cause)) left had has short read h = absurd (never_stops h.came h.rest h.cut cause h.written h.ending)
  loaded (Err faults.ReadFault) left had has short read h = absurd (read refl)
  loaded (Err faults.TooMuch) left had has short read h =
      let over : STREAM_LIMIT < length h.came = h.too_much.0 refl in
      let all : length bytes ≡ length h.came + length h.rest = ap length h.cut ∙ length-append h.came h.rest in
      absurd (omega (arith, over, all, short))
  loaded (Err faults.WriteFault) left had has short read h = record { summary = summary; is = summary_is; written = h.written; wrote = h.wrote; ending = part h.came h.rest h.cut h.written h.ending.part }
  loaded (Err faults.NoMemory) left had has short read h = record { summary = summary; is = summary_is; written = h.written; wrote = h.wrote; ending = part h.came h.rest h.cut h.written h.ending }
