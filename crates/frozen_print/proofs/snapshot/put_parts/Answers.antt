use Rattle.std.proofs.Common.{◌++◌, flat_map}
use Rattle.certificate_model.specs.Certificate.{whole_proposal_lines}
use Rattle.frozen_print.specs.Words.{governance_lines, voter_lines}
use Rattle.gov_ids.specs.Orders.{credential_cmp}
use Rattle.report.proofs.Puts.{put_first, put_second, put_third}
use Rattle.text_model.specs.ParamLines.{param_lines}
use Rattle.view_map.specs.View.{frozen_of}
use Rattle.frozen_print.proofs.snapshot.put_parts.Goals as goal

pub returns-in_err-put_governance : goal.returns-in_err-put_governance
returns-in_err-put_governance g c =
    let f = c.args.f.now in
    put_first (governance_lines f) (param_lines f.start.params)
    (voter_lines f c.args.mark.now (frozen_of credential_cmp c.args.accounts.now) ++ flat_map whole_proposal_lines f.proposals) c.in_err-put_governance.ensures c.from_residual.ensures.1

pub returns-in_err-put_params : goal.returns-in_err-put_params
returns-in_err-put_params g c =
    let f = c.args.f.now in
    put_second (governance_lines f) (param_lines f.start.params)
    (voter_lines f c.args.mark.now (frozen_of credential_cmp c.args.accounts.now) ++ flat_map whole_proposal_lines f.proposals) c.in_ok-put_governance.ensures c.in_err-put_params.ensures c.from_residual-in_err-put_params.ensures.1

pub returns : goal.returns
returns g c =
    let f = c.args.f.now in
    put_third (governance_lines f) (param_lines f.start.params)
    (voter_lines f c.args.mark.now (frozen_of credential_cmp c.args.accounts.now) ++ flat_map whole_proposal_lines f.proposals) c.in_ok-put_governance.ensures c.in_ok-put_params.ensures c.put_votings.ensures
