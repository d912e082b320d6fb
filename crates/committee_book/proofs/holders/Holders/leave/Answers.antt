use Rattle.std.proofs.Common.{◌≡◌, true, false, cond, Option, Some, ap, sym, ◌∙◌}
use Rattle.gov_ids.specs.Orders.{credential_cmp}
use Rattle.gov_ids.specs.Same.{same_credential}
use Rattle.gov_actions.specs.declared.state.HotState.{HotState}
use Rattle.gov_model.specs.Hot.{is_hot_key}
use Rattle.maps.proofs.Joined.{and_false, and_true}
use Rattle.maps.specs.Maps.{without_member}
use Rattle.committee_book.specs.Holders.{held_at, is_left}
use Rattle.committee_book.proofs.Holding.{left_by}
use Rattle.committee_book.proofs.holders.Holders.leave.Goals as goal

pub returns-then-not-is_hot_key : goal.returns-then-not-is_hot_key
returns-then-not-is_hot_key c = λ h.
    let old = held_at c.args.self.now h in
    let named = rw c.in-Some-Hot.is at c.in-Some-Hot.field-0-is in
    let other : is_hot_key c.in-Some-Hot.hot c.args.to ≡ false = sym c.is_hot_key.ensures ∙ c.if-not-is_hot_key.true in
    let left : is_left h c.args.before c.args.to ≡ same_credential c.in-Some-Hot.hot h =
    ap (λ (o : Option HotState). is_left h o c.args.to) (c.in-Some-Hot.is ∙ ap Some named) ∙ left_by c.in-Some-Hot.hot h c.args.to false other ∙ and_true _ in
    c.lower.ensures h ∙ ap (λ b. cond b (without_member credential_cmp c.args.cold.now old) old) (sym left)

pub returns-else-not-is_hot_key : goal.returns-else-not-is_hot_key
returns-else-not-is_hot_key c = λ h.
    let old = held_at c.args.self.now h in
    let named = rw c.in-Some-Hot.is at c.in-Some-Hot.field-0-is in
    let same : is_hot_key c.in-Some-Hot.hot c.args.to ≡ true = sym c.is_hot_key.ensures ∙ c.if-not-is_hot_key.false in
    let stays : is_left h c.args.before c.args.to ≡ false =
    ap (λ (o : Option HotState). is_left h o c.args.to) (c.in-Some-Hot.is ∙ ap Some named) ∙ left_by c.in-Some-Hot.hot h c.args.to true same ∙ and_false _ in
    ap (λ b. cond b (without_member credential_cmp c.args.cold.now old) old) (sym stays)
