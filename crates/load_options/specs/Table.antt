-- The command table: the word of each command, and the words that may follow it. (Own)
use Rattle.std.specs.Prelude.{◌≤◌, ℕ, Bool, true, false, List, [], ◌∷◌, Option, Some, None, String, bytes_eq, codes, option_map, string_bytes, if◌then◌else◌}
use Rattle.std.specs.declared.alloc.Global.{Global}
use Rattle.load_options.specs.Command.{IsWithin, command_of_options}
use Rattle.load_options.specs.Options.{options_of}
use Rattle.load_options.specs.Workers.{workers_alone}
use Rattle.load_options.specs.declared.command.LoadCommand.{LoadCommand}
use Rattle.load_options.specs.declared.table.Command.{Command}
use Rattle.load_options.specs.declared.table.Command.TheVariants.{Replay, Load, Checkpoint, Resume, Certify, Check, Shortfall, Follow, Outlook, Explain}
use Rattle.load_options.specs.declared.workers.TheConstants.{MOST_WORKERS}

-- a command that only a number of workers may follow
abbrev pub with_workers : (ℕ → Command) → List (String Global) → Option Command
with_workers made options = option_map made (workers_alone (options_of options))

-- `check`, that no word may follow
abbrev pub check_alone : List (String Global) → Option Command
check_alone [] = Some Check
check_alone _ = None

-- the command of its word
abbrev pub command_of_word : List ℕ → List (String Global) → Option Command
command_of_word word options =
    if bytes_eq word (codes "replay") then with_workers Replay options else
    if bytes_eq word (codes "load") then option_map Load (command_of_options (options_of options)) else
    if bytes_eq word (codes "checkpoint") then with_workers Checkpoint options else
    if bytes_eq word (codes "resume") then with_workers Resume options else
    if bytes_eq word (codes "certify") then with_workers Certify options else
    if bytes_eq word (codes "check") then check_alone options else
    if bytes_eq word (codes "shortfall") then with_workers Shortfall options else
    if bytes_eq word (codes "follow") then with_workers Follow options else
    if bytes_eq word (codes "outlook") then with_workers Outlook options else
    if bytes_eq word (codes "explain") then with_workers Explain options else
    None

-- the command of the words
abbrev pub command_of : List (String Global) → Option Command
command_of [] = None
command_of (word ∷ options) = command_of_word (string_bytes word) options

-- the workers of a replay
abbrev pub replay_in : Option Command → Option ℕ
replay_in (Some (Replay workers)) = Some workers
replay_in _ = None

-- the numbers of a `load`
abbrev pub load_in : Option Command → Option LoadCommand
load_in (Some (Load command)) = Some command
load_in _ = None

-- the workers of a replay that words name
abbrev pub replay_workers_of : List (String Global) → Option ℕ
replay_workers_of words = replay_in (command_of words)

-- the numbers of a load that words name
abbrev pub load_command_of : List (String Global) → Option LoadCommand
load_command_of words = load_in (command_of words)

-- ---- limits

-- the limits of the workers
pub record AreWorkers (workers : ℕ) : Type 0 where
  pub some : 1 ≤ workers
  pub few : workers ≤ MOST_WORKERS

-- the limits of its numbers
abbrev pub IsInTable : Command → Type 0
IsInTable (Replay workers) = AreWorkers workers
IsInTable (Load command) = IsWithin command
IsInTable (Checkpoint workers) = AreWorkers workers
IsInTable (Resume workers) = AreWorkers workers
IsInTable (Certify workers) = AreWorkers workers
IsInTable Check = Unit {0}
IsInTable (Shortfall workers) = AreWorkers workers
IsInTable (Follow workers) = AreWorkers workers
IsInTable (Outlook workers) = AreWorkers workers
IsInTable (Explain workers) = AreWorkers workers
