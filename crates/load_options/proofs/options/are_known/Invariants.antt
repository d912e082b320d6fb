use Rattle.std.proofs.Common.{◌≡◌, length}
use Rattle.std.specs.List.{list_all}
use Rattle.load_options.specs.Command.{is_option_name}
use Rattle.load_options.specs.Options.{options_of}
use Rattle.load_options.proofs.options.are_known.Given as goal

-- the options so far are known: all are where those that are left are
abbrev pub invariant-loop-name : goal.invariant-loop-name
invariant-loop-name l =
    list_all (λ option. is_option_name option.0) (options_of l.left) ≡ list_all (λ option. is_option_name option.0) (options_of l.words)

abbrev pub decreases-loop-name : goal.decreases-loop-name
decreases-loop-name l = length l.left
