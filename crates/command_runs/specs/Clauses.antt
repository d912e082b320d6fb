-- What a run that is as `RunsAs` says comes to, clause by clause. (Own)
use Rattle.std.specs.Prelude.{◌≡◌, ◌⊎◌, ◌↔◌, ℕ, List, Some, false, String}
use Rattle.std.specs.declared.alloc.Global.{Global}
use Rattle.byte_lines.specs.Faults.{CountsFaults, Rose}
use Rattle.load_options.specs.Table.{load_command_of}
use Rattle.load_options.specs.declared.command.LoadCommand.{LoadCommand}
use Rattle.replay_loop.specs.declared.status.Status.{Status}
use Rattle.replay_loop.specs.declared.status.Status.TheVariants as statuses
use Rattle.replay_loop.specs.Endings.{IsReplayed}
use Rattle.replay_loop.specs.Loads.{IsLoaded}
use Rattle.replay_loop.specs.Lasts.{IsToldRun}
use Rattle.replay_loop.specs.Plays.{Telling}
use Rattle.replay_loop.specs.Ports.{Ports}
use Rattle.command_runs.specs.Explained.{IsExplainRun}
use Rattle.command_runs.specs.Followed.{IsFollowRun}
use Rattle.replay_loop.specs.Certificates.{certificates_told}
use Rattle.command_runs.specs.Endings.{HasCertified, IsCheckRun, IsResumeRun}
use Rattle.command_runs.specs.Inputs.{HasGoodInput}
use Rattle.command_runs.specs.RunsAs.{RunsAs}
use Rattle.command_runs.specs.Tasks.{IsCheckCommand, IsExplainCommand, IsFollowCommand, IsReplayCommand, IsResumeCommand, Reads, is_command, task_of_words}

module _ {Source Sink : Type 0} (ports : Ports Source Sink) where
  -- so of each run
  abbrev pub Follows : (Status → List (String Global) → Source × Sink → Source × Sink → Type 0) → Type 0
  Follows Clause = (status : Status) (words : List (String Global)) (before after : Source × Sink)
      → RunsAs ports before after status words → Clause status words before after

  -- the status is Usage if and only if the words name no command of the program
  abbrev pub UsageFollows : Type 0
  UsageFollows = Follows (λ status words before after. (status ≡ statuses.Usage) ↔ (is_command words ≡ false))

  -- then nothing is read or written
  abbrev pub UnreadFollows : Type 0
  UnreadFollows = Follows (λ status words before after. status ≡ statuses.Usage → (after.0 ≡ before.0) × (after.1 ≡ before.1))

  -- each ending of a replay, with what was written
  abbrev pub ReplaysFollow : Type 0
  ReplaysFollow = Follows (λ status words before after. (bytes : List ℕ) → IsReplayCommand words → ports.left before.0 ≡ Some bytes
      → IsReplayed status bytes (ports.left after.0) (ports.taken before.1) (ports.taken after.1))

  -- each ending of a load, which reads nothing
  abbrev pub LoadsFollow : Type 0
  LoadsFollow = Follows (λ status words before after. (command : LoadCommand) → load_command_of words ≡ Some command
      → (after.0 ≡ before.0) × IsLoaded status command (ports.taken before.1) (ports.taken after.1))

  -- each ending of a command that reads records, by what it tells of them
  abbrev pub TellsFollow : Type 0
  TellsFollow = Follows (λ status words before after. (told : Telling (Unit {0})) (bytes : List ℕ)
      → task_of_words words ≡ Reads told → ports.left before.0 ≡ Some bytes
      → IsToldRun told status bytes (ports.left after.0) (ports.taken before.1) (ports.taken after.1))

  -- each ending of a run that says all that is wrong with the records that it reads
  abbrev pub ExplainsFollow : Type 0
  ExplainsFollow = Follows (λ status words before after. (bytes : List ℕ) → IsExplainCommand words → ports.left before.0 ≡ Some bytes
      → IsExplainRun status bytes (ports.left after.0) (ports.taken before.1) (ports.taken after.1))

  -- each ending of a run that follows a stream with rollbacks
  abbrev pub FollowsFollow : Type 0
  FollowsFollow = Follows (λ status words before after. (bytes : List ℕ) → IsFollowCommand words → ports.left before.0 ≡ Some bytes
      → IsFollowRun status bytes (ports.left after.0) (ports.taken before.1) (ports.taken after.1))

  -- the certificates that a run that is done has written are right, one after the other
  abbrev pub CertifiesFollow : Type 0
  CertifiesFollow = Follows (λ status words before after. (bytes : List ℕ) → task_of_words words ≡ Reads certificates_told → ports.left before.0 ≡ Some bytes
      → status ≡ statuses.Done → HasCertified bytes (ports.left after.0) (ports.taken before.1) (ports.taken after.1))

  -- each ending of a run that goes on from a checkpoint
  abbrev pub ResumesFollow : Type 0
  ResumesFollow = Follows (λ status words before after. (bytes : List ℕ) → IsResumeCommand words → ports.left before.0 ≡ Some bytes
      → IsResumeRun status bytes (ports.left after.0) (ports.taken before.1) (ports.taken after.1))

  -- each ending of a run that answers whether texts are certificates
  abbrev pub ChecksFollow : Type 0
  ChecksFollow = Follows (λ status words before after. (bytes : List ℕ) → IsCheckCommand words → ports.left before.0 ≡ Some bytes
      → IsCheckRun status bytes (ports.left after.0) (ports.taken before.1) (ports.taken after.1))

  -- a read fault is answered if and only if a read failed, a write fault if and only if a write did
  abbrev pub FaultsFollow : Type 0
  FaultsFollow = Follows (λ status words before after.
      CountsFaults (status ≡ statuses.ReadFault) (ports.failed_reads before.0) (ports.failed_reads after.0)
      × CountsFaults (status ≡ statuses.WriteFault) (ports.failed_writes before.1) (ports.failed_writes after.1))

  -- a good input and no fault of the sink: all is done, or memory ran out
  abbrev pub CompleteFollows : Type 0
  CompleteFollows = Follows (λ status words before after.
      HasGoodInput words (ports.left before.0) (ports.failed_reads before.0) (ports.failed_reads after.0)
      → (¬ Rose (ports.failed_writes before.1) (ports.failed_writes after.1)) → (status ≡ statuses.Done) ⊎ (status ≡ statuses.NoMemory))
