use Rattle.std.proofs.Common.{◌≡◌, ◌++◌, drop}
use Rattle.text_model.specs.ParamLines.{shares}
use Rattle.text_model.specs.Words.{spaced}
use Rattle.state_lines.proofs.params.push_shares.Given as goal

-- what is added so far, and the fractions that are left, are all of them
abbrev pub invariant-loop-share : goal.invariant-loop-share
invariant-loop-share l = l.out.items ++ spaced (shares (drop l.share-index l.fractions)) ≡ l.fn.out.items ++ spaced (shares l.fractions)
