use Rattle.std.proofs.Common.{◌≡◌, ◌++◌, length}
use Rattle.std.specs.Option.{option_copied, option_to_list}
use Rattle.load_options.specs.Options.{numbers_after, options_of, the_one}
use Rattle.load_options.proofs.options.number_after.Given as goal

-- the number so far, if there is one, and those that are left are all numbers after the name
abbrev pub invariant-loop-other : goal.invariant-loop-other
invariant-loop-other l =
    the_one (option_to_list (option_copied l.found) ++ numbers_after l.name (options_of l.left))
    ≡ the_one (numbers_after l.name (options_of l.words))

abbrev pub decreases-loop-other : goal.decreases-loop-other
decreases-loop-other l = length l.left
