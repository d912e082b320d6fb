use Rattle.std.proofs.Common.{◌≡◌, bytes_eq, length}
use Rattle.std.specs.List.{list_any}
use Rattle.load_options.specs.Options.{options_of}
use Rattle.load_options.proofs.options.has_option.Given as goal

-- none so far has the name: one has where one of those that are left has
abbrev pub invariant-loop-other : goal.invariant-loop-other
invariant-loop-other l =
    list_any (λ option. bytes_eq option.0 l.name) (options_of l.left) ≡ list_any (λ option. bytes_eq option.0 l.name) (options_of l.words)

abbrev pub decreases-loop-other : goal.decreases-loop-other
decreases-loop-other l = length l.left
