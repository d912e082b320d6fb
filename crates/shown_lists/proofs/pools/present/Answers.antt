use Rattle.std.proofs.Common.{ℕ, ◌+◌, ◌++◌, List, [], ◌∷◌, Option, None, drop, get_or, ap, sym, ◌∙◌, append-nil, append_assoc}
use Rattle.std.proofs.lemmas.List.{at_drop_more, drop_all}
use Rattle.gov_ids.specs.declared.Account.{Account}
use Rattle.gov_ids.specs.declared.PoolId.{PoolId}
use Rattle.shown_lists.specs.Present.{present_entries}
use Rattle.shown_lists.proofs.Places.{present_more}
use Rattle.shown_lists.proofs.pools.present.Goals as goal

abbrev nothing : PoolId × Option Account
nothing = (record { 0 = [] }, None)

pub loop-shown-preserved : goal.loop-shown-preserved
loop-shown-preserved c =
    let pools : List (PoolId × Option Account) = c.args.pools.now in
    let i : ℕ = c.loop-shown.shown-index in
    let p : PoolId × Option Account = get_or pools i nothing in
    let old : List (PoolId × Account) = c.loop-shown.accounts.items in
    let rest : List (PoolId × Account) = present_entries (drop (i + 1) pools) in
    ap (λ (l : List (PoolId × Account)). l ++ rest) c.in_ok-add.ensures
    ∙ append_assoc old (present_entries (p ∷ [])) rest
    ∙ ap (λ (l : List (PoolId × Account)). old ++ l) (present_more p (drop (i + 1) pools))
    ∙ sym (at_drop_more (λ (l : List (PoolId × Option Account)). old ++ present_entries l) pools i nothing c.loop-shown-test.true)
    ∙ c.loop-shown.invariant

pub returns : goal.returns
returns c =
    let items : List (PoolId × Account) = c.loop-shown.accounts.items in
    sym (append-nil items)
    ∙ ap (λ (l : List (PoolId × Option Account)). items ++ present_entries l) (sym (drop_all c.loop-shown.shown-index c.args.pools.now c.loop-shown-test.false))
    ∙ c.loop-shown.invariant
