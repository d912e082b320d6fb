-- What a run of the program came to, by the command that its words name. (Own)
use Rattle.std.specs.Prelude.{◌≡◌, ℕ, List, Option, Some, String}
use Rattle.std.specs.declared.alloc.Global.{Global}
use Rattle.byte_lines.specs.Faults.{CountsFaults}
use Rattle.explain_loop.specs.Plays.{explain_run}
use Rattle.follow_loop.specs.Plays.{follow_run}
use Rattle.replay_loop.specs.declared.status.Status.{Status}
use Rattle.replay_loop.specs.declared.status.Status.TheVariants as statuses
use Rattle.replay_loop.specs.Ports.{IsLineRun, IsLoadRun, IsReadRun, Ports}
use Rattle.check_loop.specs.Checked.{IsChecked}
use Rattle.check_loop.specs.Right.{IsCertificateText}
use Rattle.resume_loop.specs.Resumed.{IsResumed}
use Rattle.command_runs.specs.Endings.{status_of_check, status_of_resume}
use Rattle.command_runs.specs.Tasks.{Checks, Explains, Follows, Loads, Nothing, Reads, Resumes, Task, task_of_words}

module _ {Source Sink : Type 0} (ports : Ports Source Sink) (before after : Source × Sink) (status : Status) where
  -- it did nothing
  pub record IsUsage : Type 0 where
    pub is : status ≡ statuses.Usage
    pub unread : after.0 ≡ before.0
    pub unwritten : after.1 ≡ before.1

  -- it has the status of what its loop answered, and came to this of the bytes of the source
  pub record HasEnded {Answer : Type 0} (status_of : Answer → Status) (Comes : List ℕ → Option (List ℕ) → Option (List ℕ) → Option (List ℕ) → Answer → Type 0) : Type 0 where
    pub ended : Answer
    pub is : status ≡ status_of ended
    pub run : (bytes : List ℕ) → ports.left before.0 ≡ Some bytes
        → Comes bytes (ports.left after.0) (ports.taken before.1) (ports.taken after.1) ended

  -- by the task of the command
  abbrev pub Runs : Task → Type 0
  Runs (Reads told) = IsReadRun ports before after status told tt
  Runs Explains = IsLineRun ports before after status explain_run
  Runs Follows = IsLineRun ports before after status follow_run
  Runs Resumes = HasEnded status_of_resume IsResumed
  Runs Checks = HasEnded status_of_check (IsChecked IsCertificateText)
  Runs (Loads command) = IsLoadRun ports before after status command
  Runs Nothing = IsUsage

  -- a fault is answered if and only if its count rose
  pub record RunsBy (task : Task) : Type 0 where
    pub runs : Runs task
    pub reads : CountsFaults (status ≡ statuses.ReadFault) (ports.failed_reads before.0) (ports.failed_reads after.0)
    pub writes : CountsFaults (status ≡ statuses.WriteFault) (ports.failed_writes before.1) (ports.failed_writes after.1)

  -- by the words
  abbrev pub RunsAs : List (String Global) → Type 0
  RunsAs words = RunsBy (task_of_words words)
