use Rattle.std.proofs.Common.{ap, ◌∙◌}
use Rattle.gov_ids.specs.Orders.{credential_cmp}
use Rattle.gov_actions.specs.declared.state.EnactState.{EnactState}
use Rattle.gov_model.specs.Hot.{is_named, of_members}
use Rattle.ledger_model.specs.ProposalRules.{is_seated}
use Rattle.maps.specs.Maps.{with_values}
use Rattle.live_ledger.specs.Drafts.{Drafted}
use Rattle.live_ledger.proofs.draft.Draft.seats_hot.Goals as goal

pub returns : goal.returns
returns c =
    let key = c.args.hot.now in
    let committee = c.as_ref-committee.ensures.value ∙ ap (λ (s : EnactState). s.committee) c.state.ensures in
    c.seats.ensures
    ∙ (λ i. is_named (of_members (committee i) (with_values credential_cmp c.self.inside.hot.entries (c.hot.ensures i))) key)
    ∙ ap (λ (d : Drafted). is_seated d.ledger key) c.self.view_is
