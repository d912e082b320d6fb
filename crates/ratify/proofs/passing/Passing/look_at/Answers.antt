use Rattle.std.proofs.Common.{sym, subst}
use Rattle.gov_actions.specs.declared.action.ActionKind.{ActionKind}
use Rattle.gov_actions.specs.declared.tally.Tally.{Tally}
use Rattle.ratify.specs.declared.passing.Passing.{Passing}
use Rattle.ratify.specs.Passes.{LooksAtOne, TellsOne}
use Rattle.ratify.proofs.Steps.{looked_at, tally_is}
use Rattle.ratify.proofs.passing.Passing.look_at.Goals as goal

pub returns-clause-passed : goal.returns-clause-passed
returns-clause-passed c =
    let f = c.args.f.now in
    let looked = looked_at f c.args.self c.args.a.now c.args.counts c.counts_in-counts.result c.needs_of-needs.result c.is_next-ready.result
    c.verdict_of-verdict.result c.counts_in-counts.ensures c.needs_of-needs.ensures c.is_next-ready.ensures c.verdict_of-verdict.ensures in
    subst (λ (p : Passing). LooksAtOne f c.args.counts c.args.self c.args.a.now p) (sym c.in_ok-passing.ensures.enacted) looked

pub returns-clause-tally : goal.returns-clause-tally
returns-clause-tally c =
    let told = tally_is c.args.f.now c.args.self c.args.a.now c.args.counts c.counts_in-counts.result c.needs_of-needs.result c.is_next-ready.result
    c.verdict_of-verdict.result c.counts_in-counts.ensures c.needs_of-needs.ensures c.is_next-ready.ensures c.verdict_of-verdict.ensures in
    let with_kind : ActionKind → Tally = λ k. record {
      id = c.args.a.now.id;
      kind = k;
      counts = c.counts_in-counts.result;
      needs = c.needs_of-needs.result;
      verdict = c.verdict_of-verdict.result;
    } in
    subst (λ (k : ActionKind). TellsOne c.args.f.now c.args.counts c.args.self c.args.a.now (with_kind k)) (sym c.kind.ensures) told
