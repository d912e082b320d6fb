-- The workers that share the counts of a run: by the option `--workers`, or 1 without it. (Own)
use Rattle.std.specs.Prelude.{ℕ, List, [], ◌∷◌, Option, Some, None, bytes_eq, codes, if◌then◌else◌}
use Rattle.load_options.specs.Numbers.{number_in}
use Rattle.load_options.specs.Options.{numbers_after}
use Rattle.load_options.specs.declared.workers.TheConstants.{MOST_WORKERS}

-- the workers of the numbers after the name
abbrev pub workers_by : List (List ℕ) → Option ℕ
workers_by [] = Some 1
workers_by (number ∷ []) = number_in 1 MOST_WORKERS number
workers_by _ = None

-- the workers of options that may have other names
abbrev pub workers_of : List (List ℕ × List ℕ) → Option ℕ
workers_of options = workers_by (numbers_after (codes "--workers") options)

-- the workers of options that have no other name
abbrev pub workers_alone : List (List ℕ × List ℕ) → Option ℕ
workers_alone [] = Some 1
workers_alone ((name, number) ∷ []) = if bytes_eq name (codes "--workers") then number_in 1 MOST_WORKERS number else None
workers_alone _ = None
