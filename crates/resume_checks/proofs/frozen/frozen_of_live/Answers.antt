use Rattle.std.proofs.Common.{◌≡◌, List, length, ap, subst, sym, ◌∙◌}
use Rattle.gov_actions.specs.declared.action.Proposal.{Proposal}
use Rattle.resume_checks.specs.Frozen.{IsFrozenOf, matched}
use Rattle.resume_checks.proofs.Matching.{apart_from, as_many, frozen_if}
use Rattle.resume_checks.proofs.frozen.frozen_of_live.Goals as goal

pub returns-then-len-voted-clause-some : goal.returns-then-len-voted-clause-some
returns-then-len-voted-clause-some c =
    let is : c.in_ok-frozen.frozen.items ≡ matched c.args.live.now c.args.voted.now = c.in_ok-frozen.ensures in
    subst (λ (ps : List Proposal). IsFrozenOf c.args.live.now c.args.voted.now ps) (sym is)
    (frozen_if c.args.live.now c.args.voted.now (apart_from _ c.requires) (ap length (sym is) ∙ sym c.in_ok-frozen.frozen.ok.0 ∙ sym c.len.ensures ∙ c.if-len-voted.true))

pub returns-else-len-voted-clause-none : goal.returns-else-len-voted-clause-none
returns-else-len-voted-clause-none c = λ ps f.
    let is : c.in_ok-frozen.frozen.items ≡ matched c.args.live.now c.args.voted.now = c.in_ok-frozen.ensures in
    c.if-len-voted.false (c.len.ensures ∙ c.in_ok-frozen.frozen.ok.0 ∙ ap length is ∙ as_many c.args.live.now c.args.voted.now ps (apart_from _ c.requires) f)
