use Rattle.std.proofs.Common.{◌+◌, [], take, sym, subst}
use Rattle.gov_ids.specs.declared.OutRef.{OutRef}
use Rattle.utxo_rules.specs.declared.holdings.Spent.{Spent}
use Rattle.utxo_rules.specs.Spent.{IsSpent}
use Rattle.utxo_rules.proofs.SpentSums.{spent_more}
use Rattle.utxo_rules.proofs.amounts.spent_by.Goals as goal

abbrev nowhere : OutRef
nowhere = record { tx = record { 0 = [] }; index = 0 }

pub loop-at-preserved : goal.loop-at-preserved
loop-at-preserved c =
    let l = c.args.s.now.ledger in
    let refs = c.args.refs.now in
    let i = c.loop-at.at-index in
    subst (λ (s : Spent). IsSpent l (take (i + 1) refs) s) (sym c.both-spent.ensures)
    (spent_more l refs i nowhere _ _ c.loop-at-test.true c.loop-at.invariant c.spent_at.ensures)
