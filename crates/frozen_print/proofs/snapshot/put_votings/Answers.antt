use Rattle.std.proofs.Common.{List, flat_map, refl, ap}
use Rattle.certificate_model.specs.Certificate.{whole_proposal_lines}
use Rattle.gov_actions.specs.declared.action.Proposal.{Proposal}
use Rattle.report.proofs.Handed.{put_as, put_both, put_front}
use Rattle.frozen_print.proofs.snapshot.put_votings.Goals as goal

pub returns-in_err-put_voters : goal.returns-in_err-put_voters
returns-in_err-put_voters g c = put_front (flat_map whole_proposal_lines c.args.f.now.proposals) refl c.in_err-put_voters.ensures c.from_residual.ensures.1

pub returns : goal.returns
returns g c =
    put_both refl c.in_ok-put_voters.ensures (put_as (ap (λ (ps : List Proposal). flat_map whole_proposal_lines ps) c.as_slice.ensures) c.put_proposals.ensures)
