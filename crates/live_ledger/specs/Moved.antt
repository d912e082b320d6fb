-- What certificates change in a draft.
use Rattle.std.specs.Prelude.{◌≡◌, ◌+◌, ◌≤◌, List}
use Rattle.ledger_model.specs.Changes.{changed_by}
use Rattle.ledger_model.specs.Flows.{Flow, flows_of_cert, hand, sink, source, sum_at}
use Rattle.live_ledger.specs.Drafts.{Drafted}
use Rattle.tx_records.specs.declared.cert.Cert.{Cert}

-- what these flows bring into the hand was given back; what they take out of it was paid
pub record HasMoved (flows : List Flow) (old new : Drafted) : Type 0 where
  pub refunds : new.refunds ≡ old.refunds + sum_at sink hand flows
  pub deposits : new.deposits ≡ old.deposits + sum_at source hand flows

-- a certificate changes the draft, by at most one change, and its start remains
pub record IsCertified (c : Cert) (old new : Drafted) : Type 0 where
  pub start : new.start ≡ old.start
  pub ledger : new.ledger ≡ changed_by c old.ledger
  pub moved : HasMoved (flows_of_cert old.ledger c) old new
  pub few : new.changes ≤ old.changes + 1
