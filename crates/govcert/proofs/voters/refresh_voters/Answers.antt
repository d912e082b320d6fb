use Rattle.std.proofs.Common.{◌+◌, ◌≤◌, [], drop, ap, sym, ◌∙◌, arith}
use Rattle.gov_ids.specs.declared.CredKind.TheVariants.{Key}
use Rattle.gov_ids.specs.declared.Voter.TheVariants as voter
use Rattle.gov_actions.specs.declared.action.Vote.TheVariants.{Yes}
use Rattle.tx_records.specs.declared.tx.VoteRecord.{VoteRecord}
use Rattle.ledger_model.specs.Ledger.{Ledger}
use Rattle.govcert.specs.Acted.{acted_all}
use Rattle.govcert.proofs.Acting.{all_acted, next_acts}
use Rattle.govcert.proofs.voters.refresh_voters.Goals as goal

-- what is past the end of the votes
abbrev some_vote : VoteRecord
some_vote = record { voter = voter.Committee (record { hash = []; kind = Key }); action = record { tx = record { 0 = [] }; index = 0 }; vote = Yes }

pub loop-cast-preserved : goal.loop-cast-preserved
loop-cast-preserved c =
    let votes = c.args.votes.now in
    let i = c.loop-cast.cast-index in
    let before = c.loop-cast.invariant in
    let done = c.in_ok-act_as.ensures in record {
      left = ap (λ (l : Ledger). acted_all (drop (i + 1) votes) l) done.ledger ∙ next_acts c.loop-cast.d.ledger votes i some_vote c.loop-cast-test.true ∙ before.left;
      refunds = done.moved.0 ∙ before.refunds;
      deposits = done.moved.1 ∙ before.deposits;
      start = done.start ∙ before.start;
      few = let more : c.act_as.new.d.changes ≤ c.loop-cast.d.changes + 1 = done.few in omega arith;
    }

pub returns-clause-ledger : goal.returns-clause-ledger
returns-clause-ledger c = sym (all_acted c.loop-cast.d.ledger c.args.votes.now c.loop-cast.cast-index c.loop-cast-test.false) ∙ c.loop-cast.invariant.left
