use Rattle.std.proofs.Common.{[], ◌∷◌}
use Rattle.frozen_print.specs.Words.{words_of_epoch}
use Rattle.text_model.specs.StateLines.{committee_lines, words_of_constitution, words_of_enacted}
use Rattle.report.proofs.Puts.{put_first, put_second, put_third}
use Rattle.frozen_print.proofs.governance.put_governance.Goals as goal

pub returns-in_err-put_head : goal.returns-in_err-put_head
returns-in_err-put_head g c =
    let f = c.args.f.now in
    put_first (words_of_epoch f.epoch f.start.version f.start.treasury ∷ words_of_constitution f.start.document f.start.script ∷ [])
    (committee_lines f.start.committee f.hot) (words_of_enacted f.start.last ∷ []) c.in_err-put_head.ensures c.from_residual.ensures.1

pub returns-in_err-put_committee : goal.returns-in_err-put_committee
returns-in_err-put_committee g c =
    let f = c.args.f.now in
    put_second (words_of_epoch f.epoch f.start.version f.start.treasury ∷ words_of_constitution f.start.document f.start.script ∷ [])
    (committee_lines f.start.committee f.hot) (words_of_enacted f.start.last ∷ []) c.in_ok-put_head.ensures c.in_err-put_committee.ensures c.from_residual-in_err-put_committee.ensures.1

pub returns : goal.returns
returns g c =
    let f = c.args.f.now in
    put_third (words_of_epoch f.epoch f.start.version f.start.treasury ∷ words_of_constitution f.start.document f.start.script ∷ [])
    (committee_lines f.start.committee f.hot) (words_of_enacted f.start.last ∷ []) c.in_ok-put_head.ensures c.in_ok-put_committee.ensures c.put_one.ensures
