use Rattle.std.proofs.Common.{List, option_map, slice_get, ap, sym, ◌∙◌}
use Rattle.std.specs.Bound.{bound_map}
use Rattle.gov_ids.specs.declared.Credential.{Credential}
use Rattle.gov_ids.specs.Orders.{credential_cmp}
use Rattle.gov_ids.specs.contracts.CredentialOrd.TheImpl as credential_ord
use Rattle.gov_ids.specs.Derived.{credential_is}
use Rattle.book_records.specs.declared.DrepState.{DrepState}
use Rattle.maps.proofs.Next.{entry_after-range}
use Rattle.maps.specs.Maps.{entry_after}
use Rattle.drep_book.specs.Dreps.{Dreps}
use Rattle.drep_book.proofs.DrepBook.next.Goals as goal

pub returns-in_err-c-clause-value : goal.returns-in_err-c-clause-value
returns-in_err-c-clause-value c =
    c.from_residual.ensures ∙ sym (ap (λ (es : List (Credential × DrepState)). slice_get es 0) c.in_err-c.ensures.steps.0)
    ∙ entry_after-range credential_ord.cmp-value.it _ _ _ _ _ c.keys_past.ensures.start (ap (bound_map (λ k. k.now)) c.keys_past.ensures.end) (c.range.ensures.between tt)
    ∙ (λ i. entry_after (credential_is i) (option_map (λ k. k.now) c.args.after) c.self.inside.dreps.entries)
    ∙ ap (λ (b : Dreps). entry_after credential_cmp (option_map (λ k. k.now) c.args.after) b.dreps) c.self.view_is

pub returns-clause-value : goal.returns-clause-value
returns-clause-value c =
    sym (ap (λ (es : List (Credential × DrepState)). slice_get es 0) c.in_ok-c.ensures.steps)
    ∙ entry_after-range credential_ord.cmp-value.it _ _ _ _ _ c.keys_past.ensures.start (ap (bound_map (λ k. k.now)) c.keys_past.ensures.end) (c.range.ensures.between tt)
    ∙ (λ i. entry_after (credential_is i) (option_map (λ k. k.now) c.args.after) c.self.inside.dreps.entries)
    ∙ ap (λ (b : Dreps). entry_after credential_cmp (option_map (λ k. k.now) c.args.after) b.dreps) c.self.view_is
