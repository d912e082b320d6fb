use Rattle.std.proofs.Common.{◌≡◌, Bor, List, option_map, ap, subst, sym, ◌∙◌, rules}
use Rattle.std.proofs.lemmas.Map.Made.{filter_same_pairs}
use Rattle.gov_ids.specs.declared.Credential.{Credential}
use Rattle.gov_ids.specs.Orders.{credential_cmp}
use Rattle.gov_actions.specs.declared.state.Committee.{Committee}
use Rattle.gov_actions.specs.declared.state.HotState.{HotState}
use Rattle.gov_model.specs.Hot.{is_member, of_members}
use Rattle.maps.proofs.Kept.{IsMap-entries_where}
use Rattle.committee_book.specs.Holders.{IsIndexed}
use Rattle.committee_book.proofs.HotBook.keep_members.Goals as goal

pub invariant_of-self : goal.invariant_of-self
invariant_of-self c =
    let committee = option_map (λ (x : Bor Committee). x.now) c.args.c in
    let es = c.self.inside.entries.entries in
    let kept : c.retain.new.self.entries ≡ of_members committee es =
    filter_same_pairs _ (λ (e : Credential × HotState). is_member committee e.0) _ (λ k v b w g t. search rules) es _ c.retain.ensures.filtered in
    subst (λ (fs : List (Credential × HotState)). IsIndexed fs c.take_others.new.holders) (sym kept)
    (record { in_order = IsMap-entries_where credential_cmp (λ cold s. is_member committee cold) es c.self.invariant.in_order; held = c.take_others.ensures })

pub returns : goal.returns
returns c =
    let committee = option_map (λ (x : Bor Committee). x.now) c.args.c in
    filter_same_pairs _ (λ (e : Credential × HotState). is_member committee e.0) _ (λ k v b w g t. search rules) c.self.inside.entries.entries _ c.retain.ensures.filtered
    ∙ ap (λ (es : List (Credential × HotState)). of_members committee es) c.self.view_is
