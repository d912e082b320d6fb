use Rattle.std.proofs.Common.{ℕ, [], ◌∷◌, ap}
use Rattle.state_print.specs.Views.{shown_of_view}
use Rattle.text_model.specs.StateLines.{committee_lines, words_of_constitution, words_of_enacted, words_of_now}
use Rattle.report.proofs.Puts.{put_first, put_second, put_third}
use Rattle.report.proofs.Handed.{put_as}
use Rattle.state_print.proofs.governance.put_governance.Goals as goal

pub returns-in_err-put_head : goal.returns-in_err-put_head
returns-in_err-put_head g c =
    put_first (words_of_now (shown_of_view c.args.view.now).slot (shown_of_view c.args.view.now).epoch (shown_of_view c.args.view.now).state.version (shown_of_view c.args.view.now).dormant ∷ words_of_constitution (shown_of_view c.args.view.now).state.document (shown_of_view c.args.view.now).state.script ∷ [])
    (committee_lines (shown_of_view c.args.view.now).state.committee (shown_of_view c.args.view.now).hot)
    (words_of_enacted (shown_of_view c.args.view.now).state.last ∷ [])
    (put_as (ap (λ (d : ℕ). words_of_now (shown_of_view c.args.view.now).slot (shown_of_view c.args.view.now).epoch (shown_of_view c.args.view.now).state.version d ∷ words_of_constitution (shown_of_view c.args.view.now).state.document (shown_of_view c.args.view.now).state.script ∷ []) c.dormant.ensures) c.in_err-put_head.ensures) c.from_residual.ensures.1

pub returns-in_err-put_committee : goal.returns-in_err-put_committee
returns-in_err-put_committee g c =
    put_second (words_of_now (shown_of_view c.args.view.now).slot (shown_of_view c.args.view.now).epoch (shown_of_view c.args.view.now).state.version (shown_of_view c.args.view.now).dormant ∷ words_of_constitution (shown_of_view c.args.view.now).state.document (shown_of_view c.args.view.now).state.script ∷ [])
    (committee_lines (shown_of_view c.args.view.now).state.committee (shown_of_view c.args.view.now).hot)
    (words_of_enacted (shown_of_view c.args.view.now).state.last ∷ [])
    (put_as (ap (λ (d : ℕ). words_of_now (shown_of_view c.args.view.now).slot (shown_of_view c.args.view.now).epoch (shown_of_view c.args.view.now).state.version d ∷ words_of_constitution (shown_of_view c.args.view.now).state.document (shown_of_view c.args.view.now).state.script ∷ []) c.dormant.ensures) c.in_ok-put_head.ensures) c.in_err-put_committee.ensures c.from_residual-in_err-put_committee.ensures.1

pub returns : goal.returns
returns g c =
    put_third (words_of_now (shown_of_view c.args.view.now).slot (shown_of_view c.args.view.now).epoch (shown_of_view c.args.view.now).state.version (shown_of_view c.args.view.now).dormant ∷ words_of_constitution (shown_of_view c.args.view.now).state.document (shown_of_view c.args.view.now).state.script ∷ [])
    (committee_lines (shown_of_view c.args.view.now).state.committee (shown_of_view c.args.view.now).hot)
    (words_of_enacted (shown_of_view c.args.view.now).state.last ∷ [])
    (put_as (ap (λ (d : ℕ). words_of_now (shown_of_view c.args.view.now).slot (shown_of_view c.args.view.now).epoch (shown_of_view c.args.view.now).state.version d ∷ words_of_constitution (shown_of_view c.args.view.now).state.document (shown_of_view c.args.view.now).state.script ∷ []) c.dormant.ensures) c.in_ok-put_head.ensures) c.in_ok-put_committee.ensures c.put_one.ensures
