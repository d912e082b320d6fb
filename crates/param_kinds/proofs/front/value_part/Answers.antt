-- No space follows the name.
use Rattle.std.proofs.Common.{◌≡◌, ◌++◌, codes, rules}
use Rattle.param_kinds.proofs.Runs.{cut_twice}
use Rattle.param_kinds.proofs.front.value_part.Goals as goal

pub returns-clause-none : goal.returns-clause-none
returns-clause-none c =
    let a : c.args.line.now ≡ codes "param " ++ c.in_ok-named.named.now = search rules in
    let b : c.in_ok-named.named.now ≡ c.args.name.now ++ c.in_ok-spaced.spaced.now = search rules in
    λ e value is. c.after-3.ensures.none e value (cut_twice c.args.line.now c.args.name.now c.in_ok-named.named.now c.in_ok-spaced.spaced.now value a b is)
