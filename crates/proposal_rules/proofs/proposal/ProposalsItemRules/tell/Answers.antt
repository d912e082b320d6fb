use Rattle.std.proofs.Common.{List, map, ap, ◌∙◌}
use Rattle.std.proofs.lemmas.Result.{on_ok_weaker}
use Rattle.ledger_model.specs.Checks.{Check, at_place}
use Rattle.ledger_model.specs.Ledger.{Ledger}
use Rattle.rule_checks.specs.Told.{told_with}
use Rattle.proposal_rules.specs.Parts.{lineage_checks}
use Rattle.proposal_rules.proofs.Parts.{told_parts}
use Rattle.proposal_rules.proofs.proposal.ProposalsItemRules.tell.Goals as goal

pub returns : goal.returns
returns c =
    let n = c.args.place in
    let follows = c.lineage_checks.ensures ∙ ap (λ (l : Ledger). lineage_checks l c.args.p.now.action) c.start.ensures.start in
    on_ok_weaker c.add_at-2.result
    (λ last. told_parts c.args.self.now.d.now.start c.args.self.now.d.now.ledger n c.args.p.now c.args.told.now c.add_at.new.self c.tell_action.new.told c.add_at-2.new.self
    (c.in_ok-add_at.ensures ∙ ap (λ (cs : List Check). told_with (map (at_place n) cs) c.args.told.now) c.deposit_checks.ensures) c.in_ok-tell_action.ensures
    (last ∙ ap (λ (cs : List Check). told_with (map (at_place n) cs) c.tell_action.new.told) follows))
    c.add_at-2.ensures
