use Rattle.std.proofs.Common.{◌≡◌, ℕ, List, true, false, nat_lt, length, filter_map, ap, ◌∙◌, arith}
use Rattle.std.proofs.lemmas.Bool.Decides.{nat_tests}
use Rattle.gov_ids.specs.declared.Credential.{Credential}
use Rattle.tally.specs.Active.{active_key}
use Rattle.tally.proofs.MemberSides.{own_is}
use Rattle.tally.proofs.needs.own_threshold.Goals as goal

pub returns-then-active-from : goal.returns-then-active-from
returns-then-active-from c = λ s e.
    let active = c.active_members-active.ensures ∙ ap (λ (ms : List (Credential × ℕ)). length (filter_map (active_key c.args.f.now.epoch c.args.f.now.hot) ms)) c.as_slice.ensures in
    let few : nat_lt c.active_members-active.result c.from.result ≡ true = grind (arith, nat_tests, c.if-active-from.true) in
    own_is c.args.f.now s c.args.now.now c.in-Some.committee c.args.now.now.committee c.active_members-active.result c.from.result true e c.in-Some.is active c.from.ensures few

pub returns-else-active-from : goal.returns-else-active-from
returns-else-active-from c = λ s e.
    let active = c.active_members-active.ensures ∙ ap (λ (ms : List (Credential × ℕ)). length (filter_map (active_key c.args.f.now.epoch c.args.f.now.hot) ms)) c.as_slice.ensures in
    let enough : nat_lt c.active_members-active.result c.from.result ≡ false = grind (arith, nat_tests, c.if-active-from.false) in
    own_is c.args.f.now s c.args.now.now c.in-Some.committee c.args.now.now.committee c.active_members-active.result c.from.result false e c.in-Some.is active c.from.ensures enough
