use Rattle.std.proofs.Common.{◌≡◌, ℕ, ◌≤◌, List, map, ap, sym, subst, ◌∙◌, arith}
use Rattle.gov_ids.specs.declared.Credential.{Credential}
use Rattle.gov_model.specs.Snapshot.{Snapshot}
use Rattle.epoch_ends.specs.of_ledger_books.Parts.{world_of_books}
use Rattle.run_model.specs.Boundary.{claimed, dormancy_noted, enacted}
use Rattle.run_model.specs.World.{World, on_ledger}
use Rattle.epoch_pass.specs.Reported.{by_credential, paid_in}
use Rattle.epoch_steps.specs.Decisions.{AreOfPass}
use Rattle.epoch_steps.specs.Halves.{removed_from}
use Rattle.epoch_steps.proofs.Chained.{cutting, ending, paying}
use Rattle.epoch_steps.proofs.halves.after_pass.Goals as goal

pub withdrawals_paid-requires : goal.withdrawals_paid-requires
withdrawals_paid-requires c =
    let f : Snapshot = c.requires.of_pass.0 in
    let due : List (Credential × ℕ) = by_credential c.args.targets.now in
    let enacting : world_of_books c.in_ok-enacted.enacted 0 f ≡ enacted (world_of_books c.args.b 0 f) = c.in_ok-enacted.ensures.world 0 f c.requires.of_pass.1.state_is in
    record {
      holds = c.in_ok-enacted.ensures.holds c.requires.holds;
      covered = subst (λ (v : World). claimed v.ledger due ≤ v.ledger.state.treasury) (sym enacting) c.requires.covered;
    }

pub dormancy_noted-requires : goal.dormancy_noted-requires
dormancy_noted-requires c =
    let f : Snapshot = c.requires.of_pass.0 in
    let of_pass : AreOfPass f c.args.ratified.now c.args.expired.now c.args.state c.args.targets.now = c.requires.of_pass.1 in
    let five = paying f 0 c.args.b c.in_ok-enacted.enacted c.in_ok-paid_books.paid_books (by_credential c.args.targets.now) (c.in_ok-enacted.ensures.world 0 f of_pass.state_is) c.in_ok-paid_books.ensures.world (ap by_credential of_pass.targets_are) in
    let eight = cutting f 0 c.args.b c.in_ok-paid_books.paid_books c.in_ok-cut.cut c.in_ok-joined.joined c.members_only.result five (c.in_ok-cut.ensures.world 0 f of_pass.lists) c.in_ok-joined.ensures.world c.members_only.ensures.world in
    record { fits = omega (arith, ap (λ (v : World). v.ledger.dormant) eight, c.requires.awake) }

pub next_epoch-requires : goal.next_epoch-requires
next_epoch-requires c =
    let f : Snapshot = c.requires.of_pass.0 in
    let of_pass : AreOfPass f c.args.ratified.now c.args.expired.now c.args.state c.args.targets.now = c.requires.of_pass.1 in
    let five = paying f 0 c.args.b c.in_ok-enacted.enacted c.in_ok-paid_books.paid_books (by_credential c.args.targets.now) (c.in_ok-enacted.ensures.world 0 f of_pass.state_is) c.in_ok-paid_books.ensures.world (ap by_credential of_pass.targets_are) in
    let eight = cutting f 0 c.args.b c.in_ok-paid_books.paid_books c.in_ok-cut.cut c.in_ok-joined.joined c.members_only.result five (c.in_ok-cut.ensures.world 0 f of_pass.lists) c.in_ok-joined.ensures.world c.members_only.ensures.world in
    record { fits = omega (arith, ap (λ (v : World). v.ledger.epoch) (c.dormancy_noted.ensures.world 0 f ∙ ap (on_ledger dormancy_noted) eight), c.requires.early) }

pub returns-clause-world : goal.returns-clause-world
returns-clause-world c = λ counted f of_pass.
    let five = paying f counted c.args.b c.in_ok-enacted.enacted c.in_ok-paid_books.paid_books (by_credential c.args.targets.now) (c.in_ok-enacted.ensures.world counted f of_pass.state_is) c.in_ok-paid_books.ensures.world (ap by_credential of_pass.targets_are) in
    let eight = cutting f counted c.args.b c.in_ok-paid_books.paid_books c.in_ok-cut.cut c.in_ok-joined.joined c.members_only.result five (c.in_ok-cut.ensures.world counted f of_pass.lists) c.in_ok-joined.ensures.world c.members_only.ensures.world in
    ending f counted c.args.b c.members_only.result c.dormancy_noted.result c.next_epoch.result eight c.dormancy_noted.ensures.world c.next_epoch.ensures.world

pub returns-clause-paid : goal.returns-clause-paid
returns-clause-paid c =
    let f : Snapshot = c.requires.of_pass.0 in
    c.in_ok-paid_books.ensures.paid ∙ ap (λ (v : World). map (paid_in v.ledger) c.args.targets.now) (c.in_ok-enacted.ensures.world 0 f c.requires.of_pass.1.state_is)

pub returns-clause-removed : goal.returns-clause-removed
returns-clause-removed c = λ counted f of_pass.
    let five = paying f counted c.args.b c.in_ok-enacted.enacted c.in_ok-paid_books.paid_books (by_credential c.args.targets.now) (c.in_ok-enacted.ensures.world counted f of_pass.state_is) c.in_ok-paid_books.ensures.world (ap by_credential of_pass.targets_are) in
    c.in_ok-cut.ensures.removed counted f of_pass.lists ∙ ap removed_from five

pub returns-clause-frozen : goal.returns-clause-frozen
returns-clause-frozen c =
    c.next_epoch.ensures.frozen ∙ c.dormancy_noted.ensures.frozen ∙ c.members_only.ensures.frozen ∙ c.in_ok-joined.ensures.frozen ∙ c.in_ok-cut.ensures.frozen ∙ c.in_ok-paid_books.ensures.frozen ∙ c.in_ok-enacted.ensures.frozen
