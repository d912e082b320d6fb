use Rattle.std.proofs.Common.{List, ◌++◌, ap, arith, subst, sym, ◌∙◌}
use Rattle.gov_actions.specs.declared.action.Proposal.{Proposal}
use Rattle.gov_model.specs.Proposals.{deposits_of}
use Rattle.ledger_model.specs.Transaction.{made_proposals}
use Rattle.live_ledger.specs.Proposed.{IsUnknown}
use Rattle.live_ledger.proofs.proposals.add_tx_proposals.Goals as goal

pub add_proposals-requires-clause-unknown : goal.add_proposals-requires-clause-unknown
add_proposals-requires-clause-unknown c = subst (λ (ps : List Proposal). IsUnknown c.args.tx.now.id ps) (sym c.in_ok-cast_votes.ensures) c.requires.unknown

pub add_proposals-requires-clause-room : goal.add_proposals-requires-clause-room
add_proposals-requires-clause-room c = omega (arith, c.requires.room, ap (λ (ps : List Proposal). deposits_of ps) c.in_ok-cast_votes.ensures)

pub returns : goal.returns
returns c = c.in_ok-add_proposals.ensures ∙ ap (λ (ps : List Proposal). ps ++ made_proposals c.args.last c.args.tx.now) c.in_ok-cast_votes.ensures
