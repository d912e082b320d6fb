use Rattle.snapshot_reader.proofs.Making.{made_is, no_pools, no_proposals, none_govern}
use Rattle.snapshot_reader.proofs.made.made_of.Goals as goal

pub returns-in_default : goal.returns-in_default
returns-in_default c = none_govern c.args.rows.now (rw c.in_default.is at c.in_ok-governing.ensures)

pub returns-in_default-2 : goal.returns-in_default-2
returns-in_default-2 c = no_pools c.args.rows.now (rw c.in_default-2.is at c.in_ok-accounts.ensures)

pub returns-in_default-3 : goal.returns-in_default-3
returns-in_default-3 c = no_proposals c.args.rows.now (rw (c.in_default-3.is, c.as_slice.ensures) at c.in_ok-proposals.ensures)

pub returns : goal.returns
returns c =
    made_is c.args.rows.now (record { governing = c.in-Some.governing; accounts = c.in-Some-2.accounts; proposals = c.in-Some-3.proposals })
    (rw c.in-Some.is at c.in_ok-governing.ensures) (rw c.in-Some-2.is at c.in_ok-accounts.ensures) (rw (c.in-Some-3.is, c.as_slice.ensures) at c.in_ok-proposals.ensures)
