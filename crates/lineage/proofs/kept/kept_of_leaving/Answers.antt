use Rattle.std.proofs.Common.{◌≡◌, List, IfOk, filter, sym, subst}
use Rattle.gov_actions.specs.declared.action.Proposal.{Proposal}
use Rattle.gov_model.specs.Ratified.{ids_of}
use Rattle.lineage.specs.Walks.{IsWalk, Reach, is_left}
use Rattle.lineage.proofs.Finding.{finds, walk_starts}
use Rattle.lineage.proofs.kept.kept_of_leaving.Goals as goal

pub returns : goal.returns
returns c =
    let store = c.args.store.now in
    let enacted = c.args.leaving.now.enacted.keys in
    let expired = c.args.leaving.now.expired.keys in
    let last = c.args.last.now in
    let rest = filter (is_left enacted expired) store in
    let first : IsWalk store rest last c.in_ok-walk.walk =
    subst (λ (v : Reach). IsWalk store rest last v) (sym c.in_ok-walk.ensures) (walk_starts store enacted expired last c.len-distinct.ensures.distinct) in
    let through : IsWalk store rest last c.run.new.self = c.in_ok-run.ensures.walks rest last first in
    subst (λ (ps : List Proposal). IfOk c.found.result (λ kept. kept.items ≡ ids_of ps))
    (finds c.kept_by_chains.ensures store enacted expired last c.run.new.self c.in_ok-run.ensures.ends through) c.found.ensures
