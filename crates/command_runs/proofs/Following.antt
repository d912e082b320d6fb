-- What a run that is as `RunsAs` says comes to, by the command that its words name.
use Rattle.std.proofs.Common.{◌≡◌, ℕ, ◌+◌, ◌<◌, ◌≤◌, ◌⊎◌, false, List, ◌++◌, Option, Some, None, Result, Ok, Err, refl, ap, sym, subst, ◌∙◌, inl, inr, length, arith}
use Rattle.std.proofs.lemmas.List.{length-append}
use Rattle.std.specs.Prelude.{◌↔◌, IsTrue, is_some}
use Rattle.byte_lines.specs.Faults.{Rose}
use Rattle.byte_lines.specs.Laws.{LinesAddUp}
use Rattle.line_runs.specs.declared.fault.RunFault.TheVariants as faults
use Rattle.load_options.specs.Table.{command_of, load_in, replay_in}
use Rattle.load_options.specs.declared.command.LoadCommand.{LoadCommand}
use Rattle.load_options.specs.declared.table.Command.{Command}
use Rattle.load_options.specs.declared.table.Command.TheVariants as commands
use Rattle.replay_loop.specs.declared.status.Status.{Status}
use Rattle.replay_loop.specs.declared.status.Status.TheVariants as statuses
use Rattle.line_runs.specs.Runs.{Run}
use Rattle.explain_loop.specs.Laws.{ExplainIsComplete}
use Rattle.explain_loop.specs.Plays.{explain_run}
use Rattle.follow_loop.specs.Laws.{FollowIsComplete}
use Rattle.follow_loop.specs.Plays.{follow_run}
use Rattle.command_runs.specs.Clauses.{CertifiesFollow, ChecksFollow, CompleteFollows, ExplainsFollow, FaultsFollow, FollowsFollow, LoadsFollow, ReplaysFollow, ResumesFollow, TellsFollow, UnreadFollows, UsageFollows}
use Rattle.command_runs.specs.Explained.{IsExplainRun}
use Rattle.command_runs.specs.Followed.{IsFollowRun}
use Rattle.command_runs.specs.RunsAs.{HasEnded, Runs}
use Rattle.command_runs.specs.Tasks.{Checks, Explains, Follows, Loads, Nothing, Reads, Resumes, Task, checks, explains, follows, is_done, reads, resumes, task_of, task_of_words}
use Rattle.certificate_laws.specs.Laws.{CertificatesAreRight}
use Rattle.replay_loop.specs.Certificates.{DoneCertifyIsWhole, certificates_told}
use Rattle.replay_loop.specs.Endings.{IsReplayed}
use Rattle.command_runs.specs.Inputs.{HasGoodInput, IsGoodCheck, IsGoodFollow, IsGoodResume, IsGoodStream}
use Rattle.command_runs.specs.Endings.{CheckResult, IsCheckRun, IsResumeRun, status_of_check, status_of_resume}
use Rattle.check_loop.specs.Checked.{IsChecked}
use Rattle.check_loop.specs.declared.fault.CheckFault.TheVariants as check_faults
use Rattle.check_loop.specs.Right.{IsCertificateText}
use Rattle.resume_laws.specs.Laws.{ResumeIsComplete}
use Rattle.resume_loop.specs.Plays.{ResumeResult}
use Rattle.resume_loop.specs.Resumed.{IsResumed}
use Rattle.tx_records.specs.declared.limits.TheConstants.{STREAM_LIMIT}
use Rattle.replay_loop.specs.Loads.{IsLoaded}
use Rattle.replay_loop.specs.Plays.{Telling}
use Rattle.replay_loop.specs.Ports.{IsLineRun, IsLoadRun, IsReadRun, Ports}
use Rattle.replay_loop.specs.declared.status.GenesisCause.{GenesisCause}
use Rattle.replay_loop.specs.Lasts.{IsToldRun}
use Rattle.replay_loop.specs.Statuses.{ReplayFault, status_by}
use Rattle.replay_loop.specs.Texts.{texts_told}
use Rattle.replay_loop.proofs.Complete.{done_or_memory}
use Rattle.replay_loop.proofs.Texts.{replayed}

-- no run that was begun answers Usage
not_usage : (r : Result (Unit {0}) ReplayFault) → status_by r ≡ statuses.Usage → ⊥
not_usage (Ok done) e = cc
not_usage (Err (faults.Stop cause)) e = cc
not_usage (Err faults.ReadFault) e = cc
not_usage (Err faults.WriteFault) e = cc
not_usage (Err faults.NoMemory) e = cc
not_usage (Err faults.TooMuch) e = cc

-- nor does a resume, nor a check
not_usage_of_resume : (r : ResumeResult) → status_of_resume r ≡ statuses.Usage → ⊥
not_usage_of_resume (Ok done) e = cc
not_usage_of_resume (Err (faults.Stop cause)) e = cc
not_usage_of_resume (Err faults.ReadFault) e = cc
not_usage_of_resume (Err faults.WriteFault) e = cc
not_usage_of_resume (Err faults.NoMemory) e = cc
not_usage_of_resume (Err faults.TooMuch) e = cc

not_usage_of_check : (r : CheckResult) → status_of_check r ≡ statuses.Usage → ⊥
not_usage_of_check (Ok done) e = cc
not_usage_of_check (Err check_faults.ReadFault) e = cc
not_usage_of_check (Err check_faults.WriteFault) e = cc
not_usage_of_check (Err check_faults.NoMemory) e = cc
not_usage_of_check (Err check_faults.TooMuch) e = cc

-- a resume that came to its end, or to that of the memory
well_of_resume : (r : ResumeResult) → (r ≡ Ok tt) ⊎ (r ≡ Err faults.NoMemory) → (status_of_resume r ≡ statuses.Done) ⊎ (status_of_resume r ≡ statuses.NoMemory)
well_of_resume r (inl done) = inl (ap status_of_resume done)
well_of_resume r (inr full) = inr (ap status_of_resume full)

-- of a stream within its limit no more came
too_long : (bytes came rest : List ℕ) → bytes ≡ came ++ rest → length bytes ≤ STREAM_LIMIT → STREAM_LIMIT < length came → ⊥
too_long bytes came rest cut short over = let e : length bytes ≡ length came + length rest = ap length cut ∙ length-append came rest in omega (arith, e, short, over)

-- a check of a stream within its limit that no fault cuts short
well_of_check : (bytes : List ℕ) (left had has : Option (List ℕ)) (r : CheckResult) → IsChecked IsCertificateText bytes left had has r → length bytes ≤ STREAM_LIMIT
    → (r ≡ Err check_faults.ReadFault → ⊥) → (r ≡ Err check_faults.WriteFault → ⊥) → (status_of_check r ≡ statuses.Done) ⊎ (status_of_check r ≡ statuses.NoMemory)
well_of_check bytes left had has (Ok done) run short read write = inl refl
well_of_check bytes left had has (Err check_faults.NoMemory) run short read write = inr refl
well_of_check bytes left had has (Err check_faults.ReadFault) run short read write = absurd (read refl)
well_of_check bytes left had has (Err check_faults.WriteFault) run short read write = absurd (write refl)
well_of_check bytes left had has (Err check_faults.TooMuch) run short read write = absurd (too_long bytes run.came run.rest run.cut short (run.too_much.0 refl))

-- nor does a load
not_usage_of_load : (command : LoadCommand) (had has : Option (List ℕ)) → IsLoaded statuses.Usage command had has → ⊥
not_usage_of_load command had has loaded = absurd loaded.ending

-- a load that no fault of the sink cuts short
load_completes : (status : Status) (command : LoadCommand) (had has : Option (List ℕ)) → IsLoaded status command had has → (status ≡ statuses.WriteFault → ⊥)
    → (status ≡ statuses.Done) ⊎ (status ≡ statuses.NoMemory)
load_completes statuses.Done command had has loaded write = inl refl
load_completes statuses.NoMemory command had has loaded write = inr refl
load_completes statuses.WriteFault command had has loaded write = absurd (write refl)
load_completes statuses.Usage command had has loaded write = absurd loaded.ending
load_completes statuses.ReadFault command had has loaded write = absurd loaded.ending
load_completes statuses.TooMuch command had has loaded write = absurd loaded.ending
load_completes statuses.BadCheckpoint command had has loaded write = absurd loaded.ending
load_completes (statuses.BadGenesis cause) command had has loaded write = absurd loaded.ending

module _ {Source Sink : Type 0} (ports : Ports Source Sink) (status : Status) (before after : Source × Sink) where
  -- ---- where the words name none

  usage_of_lines : {Said Stand : Type 0} (r : Run Said Stand GenesisCause) → IsLineRun ports before after status r → status ≡ statuses.Usage → ⊥
  usage_of_lines r runs e = not_usage runs.ended (sym runs.is ∙ e)

  usage_of_read : (told : Telling (Unit {0})) → IsReadRun ports before after status told tt → status ≡ statuses.Usage → ⊥
  usage_of_read told runs e = not_usage runs.ended (sym runs.is ∙ e)

  usage_of_load : (command : LoadCommand) → IsLoadRun ports before after status command → status ≡ statuses.Usage → ⊥
  usage_of_load command runs e =
      not_usage_of_load command (ports.taken before.1) (ports.taken after.1)
      (subst (λ (s : Status). IsLoaded s command (ports.taken before.1) (ports.taken after.1)) e runs.loaded)

  usage_of_resume : HasEnded ports before after status status_of_resume IsResumed → status ≡ statuses.Usage → ⊥
  usage_of_resume runs e = not_usage_of_resume runs.ended (sym runs.is ∙ e)

  usage_of_check : HasEnded ports before after status status_of_check (IsChecked IsCertificateText) → status ≡ statuses.Usage → ⊥
  usage_of_check runs e = not_usage_of_check runs.ended (sym runs.is ∙ e)

  pub usage_by : (t : Task) → Runs ports before after status t → (status ≡ statuses.Usage) ↔ (is_done t ≡ false)
  usage_by (Reads told) runs = (λ e. absurd (usage_of_read told runs e), λ e. cc)
  usage_by Explains runs = (λ e. absurd (usage_of_lines explain_run runs e), λ e. cc)
  usage_by Follows runs = (λ e. absurd (usage_of_lines follow_run runs e), λ e. cc)
  usage_by Resumes runs = (λ e. absurd (usage_of_resume runs e), λ e. cc)
  usage_by Checks runs = (λ e. absurd (usage_of_check runs e), λ e. cc)
  usage_by (Loads command) runs = (λ e. absurd (usage_of_load command runs e), λ e. cc)
  usage_by Nothing runs = (λ e. refl, λ e. runs.is)

  pub unread_by : (t : Task) → Runs ports before after status t → status ≡ statuses.Usage → (after.0 ≡ before.0) × (after.1 ≡ before.1)
  unread_by (Reads told) runs e = absurd (usage_of_read told runs e)
  unread_by Explains runs e = absurd (usage_of_lines explain_run runs e)
  unread_by Follows runs e = absurd (usage_of_lines follow_run runs e)
  unread_by Resumes runs e = absurd (usage_of_resume runs e)
  unread_by Checks runs e = absurd (usage_of_check runs e)
  unread_by (Loads command) runs e = absurd (usage_of_load command runs e)
  unread_by Nothing runs e = (runs.unread, runs.unwritten)

  -- ---- the text of each command

  told_by : (told : Telling (Unit {0})) (bytes : List ℕ) → ports.left before.0 ≡ Some bytes → IsReadRun ports before after status told tt
      → IsToldRun told status bytes (ports.left after.0) (ports.taken before.1) (ports.taken after.1)
  told_by told bytes given runs = record { ended = runs.ended; is = runs.is; run = runs.run bytes given }

  explained_by : (bytes : List ℕ) → ports.left before.0 ≡ Some bytes → IsLineRun ports before after status explain_run
      → IsExplainRun status bytes (ports.left after.0) (ports.taken before.1) (ports.taken after.1)
  explained_by bytes given runs = record { ended = runs.ended; is = runs.is; run = runs.run bytes given }

  followed_by : (bytes : List ℕ) → ports.left before.0 ≡ Some bytes → IsLineRun ports before after status follow_run
      → IsFollowRun status bytes (ports.left after.0) (ports.taken before.1) (ports.taken after.1)
  followed_by bytes given runs = record { ended = runs.ended; is = runs.is; run = runs.run bytes given }

  resumed_by : (bytes : List ℕ) → ports.left before.0 ≡ Some bytes → HasEnded ports before after status status_of_resume IsResumed
      → IsResumeRun status bytes (ports.left after.0) (ports.taken before.1) (ports.taken after.1)
  resumed_by bytes given runs = record { ended = runs.ended; is = runs.is; run = runs.run bytes given }

  checked_by : (bytes : List ℕ) → ports.left before.0 ≡ Some bytes → HasEnded ports before after status status_of_check (IsChecked IsCertificateText)
      → IsCheckRun status bytes (ports.left after.0) (ports.taken before.1) (ports.taken after.1)
  checked_by bytes given runs = record { ended = runs.ended; is = runs.is; run = runs.run bytes given }

  replayed_by : LinesAddUp → (bytes : List ℕ) → ports.left before.0 ≡ Some bytes → IsReadRun ports before after status texts_told tt
      → IsReplayed status bytes (ports.left after.0) (ports.taken before.1) (ports.taken after.1)
  replayed_by law bytes given runs =
      subst (λ (s : Status). IsReplayed s bytes (ports.left after.0) (ports.taken before.1) (ports.taken after.1)) (sym runs.is)
      (replayed law bytes (ports.left after.0) (ports.taken before.1) (ports.taken after.1) runs.ended (runs.run bytes given))

  -- ---- a good input and no fault

  abbrev IsWell : Type 0
  IsWell = (status ≡ statuses.Done) ⊎ (status ≡ statuses.NoMemory)

  abbrev IsGood : Type 0
  IsGood = IsGoodStream (ports.left before.0) (ports.failed_reads before.0) (ports.failed_reads after.0)

  completes_read : LinesAddUp → (told : Telling (Unit {0})) → IsReadRun ports before after status told tt → IsGood
      → (status ≡ statuses.ReadFault → Rose (ports.failed_reads before.0) (ports.failed_reads after.0)) → (status ≡ statuses.WriteFault → ⊥) → IsWell
  completes_read law told runs good read write =
      subst (λ (s : Status). (s ≡ statuses.Done) ⊎ (s ≡ statuses.NoMemory)) (sym runs.is)
      (done_or_memory told tt law good.bytes good.start runs.ended (ports.left after.0) (ports.taken before.1) (ports.taken after.1)
      (runs.run good.bytes good.told) good.short
      (λ e. good.unfailing (read (runs.is ∙ ap status_by e))) (λ e. write (runs.is ∙ ap status_by e)))

  -- what the loop answers, as a status
  well_of : (r : Result (Unit {0}) ReplayFault) → (r ≡ Ok tt) ⊎ (r ≡ Err faults.NoMemory) → (status_by r ≡ statuses.Done) ⊎ (status_by r ≡ statuses.NoMemory)
  well_of r (inl done) = inl (ap status_by done)
  well_of r (inr full) = inr (ap status_by full)

  completes_explain : ExplainIsComplete → IsLineRun ports before after status explain_run → IsGood
      → (status ≡ statuses.ReadFault → Rose (ports.failed_reads before.0) (ports.failed_reads after.0)) → (status ≡ statuses.WriteFault → ⊥) → IsWell
  completes_explain law runs good read write =
      subst (λ (s : Status). (s ≡ statuses.Done) ⊎ (s ≡ statuses.NoMemory)) (sym runs.is)
      (well_of runs.ended
      (law good.bytes (ports.left after.0) (ports.taken before.1) (ports.taken after.1) runs.ended good.start good.short
      (runs.run good.bytes good.told)
      (λ e. good.unfailing (read (runs.is ∙ ap status_by e))) (λ e. write (runs.is ∙ ap status_by e))))

  abbrev IsGoodToFollow : Type 0
  IsGoodToFollow = IsGoodFollow (ports.left before.0) (ports.failed_reads before.0) (ports.failed_reads after.0)

  completes_follow : FollowIsComplete → IsLineRun ports before after status follow_run → IsGoodToFollow
      → (status ≡ statuses.ReadFault → Rose (ports.failed_reads before.0) (ports.failed_reads after.0)) → (status ≡ statuses.WriteFault → ⊥) → IsWell
  completes_follow law runs good read write =
      subst (λ (s : Status). (s ≡ statuses.Done) ⊎ (s ≡ statuses.NoMemory)) (sym runs.is)
      (well_of runs.ended
      (law good.bytes good.text (ports.left after.0) (ports.taken before.1) (ports.taken after.1) runs.ended good.is good.short
      (runs.run good.bytes good.told)
      (λ e. good.unfailing (read (runs.is ∙ ap status_by e))) (λ e. write (runs.is ∙ ap status_by e))))

  abbrev IsGoodToResume : Type 0
  IsGoodToResume = IsGoodResume (ports.left before.0) (ports.failed_reads before.0) (ports.failed_reads after.0)

  completes_resume : ResumeIsComplete → HasEnded ports before after status status_of_resume IsResumed → IsGoodToResume
      → (status ≡ statuses.ReadFault → Rose (ports.failed_reads before.0) (ports.failed_reads after.0)) → (status ≡ statuses.WriteFault → ⊥) → IsWell
  completes_resume law runs good read write =
      subst (λ (s : Status). (s ≡ statuses.Done) ⊎ (s ≡ statuses.NoMemory)) (sym runs.is)
      (well_of_resume runs.ended
      (law good.bytes good.world good.line good.more (ports.left after.0) (ports.taken before.1) (ports.taken after.1) runs.ended good.sound good.within
      good.begins good.short (runs.run good.bytes good.told)
      (λ e. good.unfailing (read (runs.is ∙ ap status_of_resume e))) (λ e. write (runs.is ∙ ap status_of_resume e))))

  abbrev IsGoodToCheck : Type 0
  IsGoodToCheck = IsGoodCheck (ports.left before.0) (ports.failed_reads before.0) (ports.failed_reads after.0)

  completes_check : HasEnded ports before after status status_of_check (IsChecked IsCertificateText) → IsGoodToCheck
      → (status ≡ statuses.ReadFault → Rose (ports.failed_reads before.0) (ports.failed_reads after.0)) → (status ≡ statuses.WriteFault → ⊥) → IsWell
  completes_check runs good read write =
      subst (λ (s : Status). (s ≡ statuses.Done) ⊎ (s ≡ statuses.NoMemory)) (sym runs.is)
      (well_of_check good.bytes (ports.left after.0) (ports.taken before.1) (ports.taken after.1) runs.ended (runs.run good.bytes good.told) good.short
      (λ e. good.unfailing (read (runs.is ∙ ap status_of_check e))) (λ e. write (runs.is ∙ ap status_of_check e)))

  -- a good input of a task
  data HasGood (t : Task) : Type 0 where
    to_read : IsTrue (reads t) → IsGood → HasGood t
    to_explain : IsTrue (explains t) → IsGood → HasGood t
    to_follow : IsTrue (follows t) → IsGoodToFollow → HasGood t
    to_resume : IsTrue (resumes t) → IsGoodToResume → HasGood t
    to_check : IsTrue (checks t) → IsGoodToCheck → HasGood t
    to_load : (command : LoadCommand) → t ≡ Loads command → HasGood t

  module _ (law : LinesAddUp) (explain : ExplainIsComplete) (follow : FollowIsComplete) (resume : ResumeIsComplete)
      (read : status ≡ statuses.ReadFault → Rose (ports.failed_reads before.0) (ports.failed_reads after.0)) (write : status ≡ statuses.WriteFault → ⊥) where
    completes_by : (t : Task) → Runs ports before after status t → HasGood t → IsWell
    completes_by (Reads told) runs (to_read named good) = completes_read law told runs good read write
    completes_by (Reads told) runs (to_explain named good) = cc
    completes_by (Reads told) runs (to_follow named good) = cc
    completes_by (Reads told) runs (to_resume named good) = cc
    completes_by (Reads told) runs (to_check named good) = cc
    completes_by (Reads told) runs (to_load command named) = cc
    completes_by Explains runs (to_read named good) = cc
    completes_by Explains runs (to_explain named good) = completes_explain explain runs good read write
    completes_by Explains runs (to_follow named good) = cc
    completes_by Explains runs (to_resume named good) = cc
    completes_by Explains runs (to_check named good) = cc
    completes_by Explains runs (to_load command named) = cc
    completes_by Follows runs (to_read named good) = cc
    completes_by Follows runs (to_explain named good) = cc
    completes_by Follows runs (to_follow named good) = completes_follow follow runs good read write
    completes_by Follows runs (to_resume named good) = cc
    completes_by Follows runs (to_check named good) = cc
    completes_by Follows runs (to_load command named) = cc
    completes_by Resumes runs (to_read named good) = cc
    completes_by Resumes runs (to_explain named good) = cc
    completes_by Resumes runs (to_follow named good) = cc
    completes_by Resumes runs (to_resume named good) = completes_resume resume runs good read write
    completes_by Resumes runs (to_check named good) = cc
    completes_by Resumes runs (to_load command named) = cc
    completes_by Checks runs (to_read named good) = cc
    completes_by Checks runs (to_explain named good) = cc
    completes_by Checks runs (to_follow named good) = cc
    completes_by Checks runs (to_resume named good) = cc
    completes_by Checks runs (to_check named good) = completes_check runs good read write
    completes_by Checks runs (to_load command named) = cc
    completes_by (Loads command) runs input = load_completes status command (ports.taken before.1) (ports.taken after.1) runs.loaded write
    completes_by Nothing runs (to_read named good) = cc
    completes_by Nothing runs (to_explain named good) = cc
    completes_by Nothing runs (to_follow named good) = cc
    completes_by Nothing runs (to_resume named good) = cc
    completes_by Nothing runs (to_check named good) = cc
    completes_by Nothing runs (to_load command named) = cc

-- ---- the tasks of commands

-- a replay tells texts
pub task_of_replay : (o : Option Command) → IsTrue (is_some (replay_in o)) → task_of o ≡ Reads texts_told
task_of_replay (Some (commands.Replay workers)) named = refl
task_of_replay None named = cc
task_of_replay (Some (commands.Load command)) named = cc
task_of_replay (Some (commands.Checkpoint workers)) named = cc
task_of_replay (Some (commands.Resume workers)) named = cc
task_of_replay (Some (commands.Certify workers)) named = cc
task_of_replay (Some commands.Check) named = cc
task_of_replay (Some (commands.Shortfall workers)) named = cc
task_of_replay (Some (commands.Follow workers)) named = cc
task_of_replay (Some (commands.Outlook workers)) named = cc
task_of_replay (Some (commands.Explain workers)) named = cc

-- a load replays its stream
task_of_load : (o : Option Command) (command : LoadCommand) → load_in o ≡ Some command → task_of o ≡ Loads command
task_of_load (Some (commands.Load asked)) command named = let same : asked ≡ command = cc in ap Loads same
task_of_load None command named = cc
task_of_load (Some (commands.Replay workers)) command named = cc
task_of_load (Some (commands.Checkpoint workers)) command named = cc
task_of_load (Some (commands.Resume workers)) command named = cc
task_of_load (Some (commands.Certify workers)) command named = cc
task_of_load (Some commands.Check) command named = cc
task_of_load (Some (commands.Shortfall workers)) command named = cc
task_of_load (Some (commands.Follow workers)) command named = cc
task_of_load (Some (commands.Outlook workers)) command named = cc
task_of_load (Some (commands.Explain workers)) command named = cc

-- a task that explains, follows, resumes or checks is the one that does
task_that_explains : (t : Task) → IsTrue (explains t) → t ≡ Explains
task_that_explains Explains named = refl
task_that_explains (Reads told) named = cc
task_that_explains Follows named = cc
task_that_explains Resumes named = cc
task_that_explains Checks named = cc
task_that_explains (Loads command) named = cc
task_that_explains Nothing named = cc

task_that_follows : (t : Task) → IsTrue (follows t) → t ≡ Follows
task_that_follows Follows named = refl
task_that_follows (Reads told) named = cc
task_that_follows Explains named = cc
task_that_follows Resumes named = cc
task_that_follows Checks named = cc
task_that_follows (Loads command) named = cc
task_that_follows Nothing named = cc

task_that_resumes : (t : Task) → IsTrue (resumes t) → t ≡ Resumes
task_that_resumes Resumes named = refl
task_that_resumes (Reads told) named = cc
task_that_resumes Explains named = cc
task_that_resumes Follows named = cc
task_that_resumes Checks named = cc
task_that_resumes (Loads command) named = cc
task_that_resumes Nothing named = cc

task_that_checks : (t : Task) → IsTrue (checks t) → t ≡ Checks
task_that_checks Checks named = refl
task_that_checks (Reads told) named = cc
task_that_checks Explains named = cc
task_that_checks Follows named = cc
task_that_checks Resumes named = cc
task_that_checks (Loads command) named = cc
task_that_checks Nothing named = cc

-- the numbers of a load, where there are some
numbers_of : (o : Option LoadCommand) → IsTrue (is_some o) → (command : LoadCommand) × (o ≡ Some command)
numbers_of (Some command) named = (command, refl)
numbers_of None named = cc

-- ---- the laws

module _ {Source Sink : Type 0} (ports : Ports Source Sink) where
  pub usage_follows : UsageFollows ports
  usage_follows status words before after h = usage_by ports status before after (task_of_words words) h.runs

  pub unread_follows : UnreadFollows ports
  unread_follows status words before after h = unread_by ports status before after (task_of_words words) h.runs

  pub tells_follow : TellsFollow ports
  tells_follow status words before after h told bytes named given =
      told_by ports status before after told bytes given (subst (λ (t : Task). Runs ports before after status t) named h.runs)

  pub replays_follow : LinesAddUp → ReplaysFollow ports
  replays_follow law status words before after h bytes named given =
      replayed_by ports status before after law bytes given
      (subst (λ (t : Task). Runs ports before after status t) (task_of_replay (command_of words) named) h.runs)

  pub loads_follow : LoadsFollow ports
  loads_follow status words before after h command named =
      let runs = subst (λ (t : Task). Runs ports before after status t) (task_of_load (command_of words) command named) h.runs in
      (runs.unread, runs.loaded)

  pub explains_follow : ExplainsFollow ports
  explains_follow status words before after h bytes named given =
      explained_by ports status before after bytes given
      (subst (λ (t : Task). Runs ports before after status t) (task_that_explains (task_of_words words) named) h.runs)

  pub follows_follow : FollowsFollow ports
  follows_follow status words before after h bytes named given =
      followed_by ports status before after bytes given
      (subst (λ (t : Task). Runs ports before after status t) (task_that_follows (task_of_words words) named) h.runs)

  pub certifies_follow : DoneCertifyIsWhole → CertificatesAreRight → CertifiesFollow ports
  certifies_follow done right status words before after h bytes named given is =
      let told = tells_follow status words before after h certificates_told bytes named given in
      let whole = done bytes (ports.left after.0) (ports.taken before.1) (ports.taken after.1)
      (subst (λ (s : Status). IsToldRun certificates_told s bytes (ports.left after.0) (ports.taken before.1) (ports.taken after.1)) is told) in
      record { whole = whole; right = right bytes whole.text whole.is }

  pub resumes_follow : ResumesFollow ports
  resumes_follow status words before after h bytes named given =
      resumed_by ports status before after bytes given
      (subst (λ (t : Task). Runs ports before after status t) (task_that_resumes (task_of_words words) named) h.runs)

  pub checks_follow : ChecksFollow ports
  checks_follow status words before after h bytes named given =
      checked_by ports status before after bytes given
      (subst (λ (t : Task). Runs ports before after status t) (task_that_checks (task_of_words words) named) h.runs)

  pub faults_follow : FaultsFollow ports
  faults_follow status words before after h = (h.reads, h.writes)

  pub complete_follows : LinesAddUp → ExplainIsComplete → FollowIsComplete → ResumeIsComplete → CompleteFollows ports
  complete_follows law explain follow resume status words before after h input quiet =
      completes_by ports status before after law explain follow resume h.reads.rose (λ e. quiet (h.writes.rose e)) (task_of_words words) h.runs (asked input) where
        asked : HasGoodInput words (ports.left before.0) (ports.failed_reads before.0) (ports.failed_reads after.0) → HasGood ports status before after (task_of_words words)
        asked (inl good) = to_read good.0 good.1
        asked (inr (inl good)) = to_explain good.0 good.1
        asked (inr (inr (inl good))) = to_follow good.0 good.1
        asked (inr (inr (inr (inl good)))) = to_resume good.0 good.1
        asked (inr (inr (inr (inr (inl good))))) = to_check good.0 good.1
        asked (inr (inr (inr (inr (inr named))))) = let found = numbers_of (load_in (command_of words)) named in to_load found.0 (task_of_load (command_of words) found.0 found.1)
