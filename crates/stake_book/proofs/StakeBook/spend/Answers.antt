use Rattle.std.proofs.Common.{◌≤◌, subst, ap, sym, ◌∙◌}
use Rattle.gov_ids.specs.Orders.{outref_cmp}
use Rattle.coin_frac.specs.declared.TheConstants.{SUPPLY_LIMIT}
use Rattle.maps.specs.Maps.{value_at}
use Rattle.accounts.specs.Accounts.{Accounts}
use Rattle.stake_book.specs.Stakes.{Stakes, AreKept, accounts_of, spent}
use Rattle.stake_book.specs.Sums.{weight_in}
use Rattle.stake_book.proofs.Moves.{spend_enough, spend_keeps, spend_lowers, lowered_is, spent_kept, still_registered, still_frozen}
use Rattle.stake_book.proofs.Weights.{weight_within}
use Rattle.stake_book.proofs.StakeBook.spend.Goals as goal

pub take_with-requires : goal.take_with-requires
take_with-requires c =
    let s : Stakes = record { outputs = c.self.inside.outputs; accounts = c.self.inside.accounts } in
    λ o there. (
      λ q p. spend_enough s c.args.r.now o c.self.invariant there q p,
      subst (λ (a : Accounts). weight_in a.live ≤ SUPPLY_LIMIT) (sym (spend_lowers s c.args.r.now o c.self.invariant (sym there))) (weight_within _ (spend_keeps s c.args.r.now o c.self.invariant (sym there))),
    )

pub invariant_of-self-2 : goal.invariant_of-self-2
invariant_of-self-2 c =
    let s : Stakes = record { outputs = c.self.inside.outputs; accounts = c.self.inside.accounts } in
    let accounts = lowered_is s c.args.r.now c.take_with.new.spender c.self.invariant c.in_ok-output.ensures.spender in
    subst (λ (s : Stakes). AreKept s) (λ i. record { outputs = sym c.in_ok-output.ensures.rest i; accounts = sym accounts i }) (spent_kept s c.args.r.now c.self.inside.accounts c.self.invariant)

pub returns-clause-value : goal.returns-clause-value
returns-clause-value c = c.in_ok-output.ensures.value ∙ ap (λ (s : Stakes). value_at outref_cmp s.outputs.outputs c.args.r.now) c.self.view_is

pub returns-clause-ok : goal.returns-clause-ok
returns-clause-ok c =
    let s : Stakes = record { outputs = c.self.inside.outputs; accounts = c.self.inside.accounts } in
    let accounts = lowered_is s c.args.r.now c.take_with.new.spender c.self.invariant c.in_ok-output.ensures.spender in
    (λ i. record { outputs = c.in_ok-output.ensures.rest i; accounts = accounts i }) ∙ ap (λ (s : Stakes). spent c.args.r.now s) c.self.view_is

pub returns-clause-registered : goal.returns-clause-registered
returns-clause-registered c =
    let s : Stakes = record { outputs = c.self.inside.outputs; accounts = c.self.inside.accounts } in
    still_registered s c.args.r.now c.take_with.new.spender c.self.invariant c.in_ok-output.ensures.spender ∙ ap (λ (s : Stakes). accounts_of s) c.self.view_is

pub returns-clause-frozen : goal.returns-clause-frozen
returns-clause-frozen c =
    let s : Stakes = record { outputs = c.self.inside.outputs; accounts = c.self.inside.accounts } in
    still_frozen s c.args.r.now c.take_with.new.spender c.self.invariant c.in_ok-output.ensures.spender ∙ ap (λ (s : Stakes). s.accounts.frozen) c.self.view_is
