use Rattle.std.proofs.Common.{◌≡◌, ℕ, List, map, ap, ◌∙◌, arith}
use Rattle.gov_ids.specs.declared.Account.{Account}
use Rattle.gov_ids.specs.declared.ActionId.{ActionId}
use Rattle.gov_model.specs.Snapshot.{Snapshot}
use Rattle.ledger_books.specs.Parts.{ledger_of_books, world_of_books}
use Rattle.run_model.specs.Boundary.{after_pools, frozen_anew}
use Rattle.run_model.specs.Report.{paid_of, removed_of}
use Rattle.run_model.specs.World.{World}
use Rattle.epoch_steps.specs.of_epoch_pass.Reported.{by_credential, paid_in}
use Rattle.epoch_steps.specs.Decisions.{AreOfPass, decided_of}
use Rattle.epoch_steps.specs.declared.pass.Decided.{Decided}
use Rattle.epoch_steps.specs.Halves.{after_all, after_paying, removed_from}
use Rattle.epoch_steps.proofs.Chained.{dormant_stays, epoch_stays}
use Rattle.epoch_rule.proofs.Steady.{covered}
use Rattle.epoch_rule.proofs.books.applied.Goals as goal

-- what was decided, as slices
of_pass_by : (s : Snapshot) (d : Decided) (ratified expired : List ActionId) (targets : List (Account × ℕ)) → d ≡ decided_of s → ratified ≡ d.ratified → expired ≡ d.expired → targets ≡ d.targets
    → AreOfPass s ratified expired d.state targets
of_pass_by s d ratified expired targets is r e t = record {
  lists = record { ratified = r ∙ ap (λ (x : Decided). x.ratified) is; expired = e ∙ ap (λ (x : Decided). x.expired) is };
  state_is = ap (λ (x : Decided). x.state) is;
  targets_are = t ∙ ap (λ (x : Decided). x.targets) is;
}

pub before_pass-requires : goal.before_pass-requires
before_pass-requires c =
    let a = c.requires.sound.2 in
    record {
      holds = record { balanced = a.sound.ledger.balanced; within = a.sound.ledger.within };
      covered = a.sound.stands.pending;
      early = omega (arith, c.requires.early);
    }

pub after_pass-requires : goal.after_pass-requires
after_pass-requires c =
    let counted : ℕ = c.requires.sound.0 in
    let s : Snapshot = c.requires.sound.1 in
    let a = c.requires.sound.2 in
    let w : World = world_of_books c.args.b counted s in
    let turned : world_of_books c.in-Ok.turned.0 counted s ≡ after_pools w = c.in-Ok.ensures.world counted s in
    let of_pass = of_pass_by s c.args.d c.as_slice.result.now c.as_slice-2.result.now c.as_slice-3.result.now a.decided c.as_slice.ensures c.as_slice-2.ensures c.as_slice-3.ensures in
    record {
      holds = c.in-Ok.ensures.holds;
      of_pass = (s, of_pass);
      covered = covered c.in-Ok.turned.0 counted s w (by_credential c.as_slice-3.result.now) turned (ap by_credential of_pass.targets_are) (c.payments_are_covered.ensures w a.sound.frozen.proposals.ids a.sound.stands.treasury);
      awake = omega (arith, ap (λ (v : World). v.ledger.dormant) turned, dormant_stays c.args.b.pending (ledger_of_books c.args.b), a.sound.ledger.dormancy.at_most, c.requires.early);
      early = omega (arith, ap (λ (v : World). v.ledger.epoch) turned, epoch_stays c.args.b.pending (ledger_of_books c.args.b), c.requires.early);
    }

pub returns-clause-begun : goal.returns-clause-begun
returns-clause-begun c = λ counted s a.
    let turned : world_of_books c.in-Ok.turned.0 counted s ≡ after_pools (world_of_books c.args.b counted s) = c.in-Ok.ensures.world counted s in
    let of_pass = of_pass_by s c.args.d c.as_slice.result.now c.as_slice-2.result.now c.as_slice-3.result.now a.decided c.as_slice.ensures c.as_slice-2.ensures c.as_slice-3.ensures in
    ap frozen_anew (c.in_ok-ended.ensures.world counted s of_pass ∙ ap after_all turned)

pub returns-clause-lists : goal.returns-clause-lists
returns-clause-lists c = λ counted s a.
    let w : World = world_of_books c.args.b counted s in
    let turned : world_of_books c.in-Ok.turned.0 counted s ≡ after_pools w = c.in-Ok.ensures.world counted s in
    let decided : c.args.d ≡ decided_of s = a.decided in
    let of_pass = of_pass_by s c.args.d c.as_slice.result.now c.as_slice-2.result.now c.as_slice-3.result.now decided c.as_slice.ensures c.as_slice-2.ensures c.as_slice-3.ensures in
    let paid : c.from_vec.result ≡ paid_of w = c.from_vec.ensures ∙ c.in_ok-ended.ensures.paid ∙ ap (λ (v : World). map (paid_in v.ledger) c.as_slice-3.result.now) turned ∙ ap (λ (ts : List (Account × ℕ)). map (paid_in (after_pools w).ledger) ts) of_pass.targets_are in
    let removed : c.from_vec-2.result ≡ removed_of w = c.from_vec-2.ensures ∙ c.in_ok-ended.ensures.removed counted s of_pass ∙ ap (λ (v : World). removed_from (after_paying v)) turned in
    let retired = c.from_vec-3.ensures ∙ c.in-Ok.ensures.retired counted s in
    λ i. record { stakes = (decided i).stakes; tallies = (decided i).tallies; paid = paid i; removed = removed i; retired = retired i }
