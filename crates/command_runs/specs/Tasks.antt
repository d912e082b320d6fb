-- What the program does for each command. (Own)
use Rattle.std.specs.Prelude.{List, Bool, true, false, Option, Some, None, String, is_some, IsTrue}
use Rattle.std.specs.declared.alloc.Global.{Global}
use Rattle.load_options.specs.Table.{command_of, load_command_of, replay_workers_of}
use Rattle.load_options.specs.declared.command.LoadCommand.{LoadCommand}
use Rattle.load_options.specs.declared.table.Command.{Command}
use Rattle.load_options.specs.declared.table.Command.TheVariants.{Certify, Check, Checkpoint, Explain, Follow, Load, Outlook, Replay, Resume, Shortfall}
use Rattle.replay_loop.specs.Certificates.{certificates_told}
use Rattle.replay_loop.specs.Lasts.{checkpoint_told, outlook_told, short_told}
use Rattle.replay_loop.specs.Plays.{Telling}
use Rattle.replay_loop.specs.Texts.{texts_told}

-- it reads records and tells so of them, says all that is wrong with them, follows a stream with
-- rollbacks, goes on from a checkpoint, answers whether texts are certificates, replays a generated
-- stream, or does nothing
pub data Task : Type 0 where
  Reads : Telling (Unit {0}) → Task
  Explains : Task
  Follows : Task
  Resumes : Task
  Checks : Task
  Loads : LoadCommand → Task
  Nothing : Task

-- for each command
abbrev pub task_of : Option Command → Task
task_of (Some (Replay workers)) = Reads texts_told
task_of (Some (Shortfall workers)) = Reads short_told
task_of (Some (Outlook workers)) = Reads outlook_told
task_of (Some (Checkpoint workers)) = Reads checkpoint_told
task_of (Some (Certify workers)) = Reads certificates_told
task_of (Some (Explain workers)) = Explains
task_of (Some (Follow workers)) = Follows
task_of (Some (Resume workers)) = Resumes
task_of (Some Check) = Checks
task_of (Some (Load command)) = Loads command
task_of None = Nothing

-- for words
abbrev pub task_of_words : List (String Global) → Task
task_of_words words = task_of (command_of words)

-- whether it does something
abbrev pub is_done : Task → Bool
is_done Nothing = false
is_done _ = true

-- whether it tells of the records that it reads
abbrev pub reads : Task → Bool
reads (Reads told) = true
reads _ = false

-- whether it says all that is wrong with the records that it reads
abbrev pub explains : Task → Bool
explains Explains = true
explains _ = false

-- whether it follows a stream with rollbacks
abbrev pub follows : Task → Bool
follows Follows = true
follows _ = false

-- whether it goes on from a checkpoint
abbrev pub resumes : Task → Bool
resumes Resumes = true
resumes _ = false

-- whether it answers whether texts are certificates
abbrev pub checks : Task → Bool
checks Checks = true
checks _ = false

-- whether words are those of any command of the program
abbrev pub is_command : List (String Global) → Bool
is_command words = is_done (task_of_words words)

-- words are those of a replay
abbrev pub IsReplayCommand : List (String Global) → Type 0
IsReplayCommand words = IsTrue (is_some (replay_workers_of words))

-- words are those of `load`
abbrev pub IsLoadCommand : List (String Global) → Type 0
IsLoadCommand words = IsTrue (is_some (load_command_of words))

-- words are those of a command that tells of the records that it reads
abbrev pub ReadsRecords : List (String Global) → Type 0
ReadsRecords words = IsTrue (reads (task_of_words words))

-- words are those of `explain`
abbrev pub IsExplainCommand : List (String Global) → Type 0
IsExplainCommand words = IsTrue (explains (task_of_words words))

-- words are those of `follow`
abbrev pub IsFollowCommand : List (String Global) → Type 0
IsFollowCommand words = IsTrue (follows (task_of_words words))

-- words are those of `resume`
abbrev pub IsResumeCommand : List (String Global) → Type 0
IsResumeCommand words = IsTrue (resumes (task_of_words words))

-- words are those of `check`
abbrev pub IsCheckCommand : List (String Global) → Type 0
IsCheckCommand words = IsTrue (checks (task_of_words words))
