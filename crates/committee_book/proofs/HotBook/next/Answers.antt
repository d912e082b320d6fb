use Rattle.std.proofs.Common.{List, option_map, slice_get, ap, sym, ◌∙◌}
use Rattle.std.specs.Bound.{bound_map}
use Rattle.gov_ids.specs.declared.Credential.{Credential}
use Rattle.gov_ids.specs.Orders.{credential_cmp}
use Rattle.gov_ids.specs.contracts.CredentialOrd.TheImpl as credential_ord
use Rattle.gov_ids.specs.Derived.{credential_is}
use Rattle.gov_actions.specs.declared.state.HotState.{HotState}
use Rattle.maps.proofs.Next.{entry_after-range}
use Rattle.maps.specs.Maps.{entry_after}
use Rattle.committee_book.proofs.HotBook.next.Goals as goal

pub returns-in_err-cold-clause-value : goal.returns-in_err-cold-clause-value
returns-in_err-cold-clause-value c =
    c.from_residual.ensures ∙ sym (ap (λ (es : List (Credential × HotState)). slice_get es 0) c.in_err-cold.ensures.steps.0)
    ∙ entry_after-range credential_ord.cmp-value.it _ _ _ _ _ c.keys_past.ensures.start (ap (bound_map (λ k. k.now)) c.keys_past.ensures.end) (c.range.ensures.between tt)
    ∙ (λ i. entry_after (credential_is i) (option_map (λ k. k.now) c.args.after) c.self.inside.entries.entries)
    ∙ ap (λ (es : List (Credential × HotState)). entry_after credential_cmp (option_map (λ k. k.now) c.args.after) es) c.self.view_is

pub returns-clause-value : goal.returns-clause-value
returns-clause-value c =
    sym (ap (λ (es : List (Credential × HotState)). slice_get es 0) c.in_ok-cold.ensures.steps)
    ∙ entry_after-range credential_ord.cmp-value.it _ _ _ _ _ c.keys_past.ensures.start (ap (bound_map (λ k. k.now)) c.keys_past.ensures.end) (c.range.ensures.between tt)
    ∙ (λ i. entry_after (credential_is i) (option_map (λ k. k.now) c.args.after) c.self.inside.entries.entries)
    ∙ ap (λ (es : List (Credential × HotState)). entry_after credential_cmp (option_map (λ k. k.now) c.args.after) es) c.self.view_is
