-- The command `load`: three options once each, and the workers at most once, in any order. (Own)
use Rattle.std.specs.Prelude.{◌≤◌, ℕ, ◌-◌, ◌^◌, ◌||◌, Bool, List, Option, Some, None, bytes_eq, codes, option_and_then, if◌then◌else◌}
use Rattle.std.specs.List.{list_all}
use Rattle.load_options.specs.Numbers.{number_in}
use Rattle.load_options.specs.Options.{numbers_after, the_one}
use Rattle.load_options.specs.Workers.{workers_of}
use Rattle.load_options.specs.declared.command.LoadCommand.{LoadCommand}
use Rattle.load_options.specs.declared.command.TheConstants.{MOST_ACCOUNTS, MOST_EPOCHS}
use Rattle.load_options.specs.declared.workers.TheConstants.{MOST_WORKERS}

-- the names of its options
abbrev pub is_option_name : List ℕ → Bool
is_option_name name =
    bytes_eq name (codes "--seed") || bytes_eq name (codes "--accounts") || bytes_eq name (codes "--epochs")
    || bytes_eq name (codes "--workers")

-- the number after a name that occurs once, if it is from `low` to `high`
abbrev pub value_of : List ℕ → ℕ → ℕ → List (List ℕ × List ℕ) → Option ℕ
value_of name low high options = option_and_then (number_in low high) (the_one (numbers_after name options))

-- the command of four values, if each is there
abbrev pub load_by : Option ℕ → Option ℕ → Option ℕ → Option ℕ → Option LoadCommand
load_by (Some seed) (Some accounts) (Some epochs) (Some workers) =
    Some (record { seed = seed; accounts = accounts; epochs = epochs; workers = workers })
load_by _ _ _ _ = None

-- the command of options without other names
abbrev pub command_of_options : List (List ℕ × List ℕ) → Option LoadCommand
command_of_options options =
    if list_all (λ option. is_option_name option.0) options
    then load_by (value_of (codes "--seed") 0 (2 ^ 64 - 1) options)
    (value_of (codes "--accounts") 1 MOST_ACCOUNTS options)
    (value_of (codes "--epochs") 1 MOST_EPOCHS options)
    (workers_of options)
    else None

-- the limits of its numbers
pub record IsWithin (c : LoadCommand) : Type 0 where
  pub some_accounts : 1 ≤ c.accounts
  pub accounts : c.accounts ≤ MOST_ACCOUNTS
  pub some_epochs : 1 ≤ c.epochs
  pub epochs : c.epochs ≤ MOST_EPOCHS
  pub some_workers : 1 ≤ c.workers
  pub workers : c.workers ≤ MOST_WORKERS
