use Rattle.std.proofs.Common.{◌≡◌, ℕ, ◌≤◌, List, Option, Some, subst, sym, ◌∙◌}
use Rattle.std.specs.declared.cmp.Ordering.{Ordering}
use Rattle.gov_ids.specs.declared.Credential.{Credential}
use Rattle.gov_ids.specs.Derived.{credential_is}
use Rattle.gov_ids.specs.Orders.{credential_cmp, pool_cmp}
use Rattle.gov_ids.proofs.Totals.{pool_total}
use Rattle.stake_book.specs.Delegators.{Counted, HasCounted, AreRecounted, drep_of}
use Rattle.stake_book.specs.Sums.{IsRaised, amount_at, pool_of}
use Rattle.stake_book.proofs.Counting.{AreMoved, same_moved, unpooled, recounted, pool_has, drep_has}
use Rattle.stake_book.proofs.Raised.{raised_enough}
use Rattle.stake_book.proofs.counted.Counts.change.Goals as goal

pub leave-requires : goal.leave-requires
leave-requires c = λ p is. raised_enough pool_total c.moved-pool_left.result.1 1 c.self.inside.pools c.join.new.self p c.in_ok-join.ensures.ok is

pub returns-in-Err-clause-err : goal.returns-in-Err-clause-err
returns-in-Err-clause-err c =
    let before = c.args.before.now in
    subst (λ (s : Counted). AreRecounted before before s (record { pools = c.leave.new.self; dreps = c.join-2.new.self })) c.self.view_is
    (subst (λ (dreps : List (Credential × ℕ)). AreRecounted before before (record { pools = c.self.inside.pools; dreps = c.self.inside.dreps }) (record { pools = c.leave.new.self; dreps = dreps })) (sym c.in-Err.ensures.err)
    (unpooled c.self.inside.pools c.self.inside.dreps before c.moved-pool_left.result.1 c.join.new.self c.leave.new.self c.in_ok-join.ensures.ok c.leave.ensures))

pub leave-requires-2 : goal.leave-requires-2
leave-requires-2 c =
    let s : Counted = record { pools = c.self.inside.pools; dreps = c.self.inside.dreps } in
    let has : HasCounted c.args.before.now s = subst (λ (s : Counted). HasCounted c.args.before.now s) (sym c.self.view_is) c.requires in
    λ p is. pool_has s.pools s.dreps c.args.before.now has c.moved-pool_left.result.1 c.join.new.self p c.in_ok-join.ensures.ok (sym c.pool.ensures ∙ c.moved-pool_left.ensures.from p is)

pub leave-requires-3 : goal.leave-requires-3
leave-requires-3 c =
    let s : Counted = record { pools = c.self.inside.pools; dreps = c.self.inside.dreps } in
    let has : HasCounted c.args.before.now s = subst (λ (s : Counted). HasCounted c.args.before.now s) (sym c.self.view_is) c.requires in
    let joined : Option Credential = c.moved-drep_left.result.1 in
    let more : IsRaised credential_cmp joined 1 c.self.inside.dreps c.join-2.new.self = subst (λ (cmp : Credential → Credential → Ordering). IsRaised cmp joined 1 c.self.inside.dreps c.join-2.new.self) credential_is c.in_default.ensures.ok in
    subst (λ (cmp : Credential → Credential → Ordering). (d : Credential) → c.moved-drep_left.result.0 ≡ Some d → 1 ≤ amount_at cmp c.join-2.new.self d) (sym credential_is)
    (λ d is. drep_has s.pools s.dreps c.args.before.now has joined c.join-2.new.self d more (sym c.drep.ensures ∙ c.moved-drep_left.ensures.from d is))

pub returns-clause-ok : goal.returns-clause-ok
returns-clause-ok c =
    let before = c.args.before.now in
    let after = c.args.after.now in
    let left : Option Credential = c.moved-drep_left.result.0 in
    let joined : Option Credential = c.moved-drep_left.result.1 in
    let more : IsRaised credential_cmp joined 1 c.self.inside.dreps c.join-2.new.self = subst (λ (cmp : Credential → Credential → Ordering). IsRaised cmp joined 1 c.self.inside.dreps c.join-2.new.self) credential_is c.in_default.ensures.ok in
    let less : IsRaised credential_cmp left 1 c.leave-3.new.self c.join-2.new.self = subst (λ (cmp : Credential → Credential → Ordering). IsRaised cmp left 1 c.leave-3.new.self c.join-2.new.self) credential_is c.leave-3.ensures in
    let pools : AreMoved pool_cmp (pool_of before) (pool_of after) c.moved-pool_left.result.0 c.moved-pool_left.result.1 = same_moved pool_cmp c.moved-pool_left.result.0 c.moved-pool_left.result.1 c.pool.ensures c.pool-2.ensures c.moved-pool_left.ensures.each in
    let dreps : AreMoved credential_cmp (drep_of before) (drep_of after) left joined =
    same_moved credential_cmp left joined c.drep.ensures c.drep-2.ensures (subst (λ (cmp : Credential → Credential → Ordering). AreMoved cmp c.drep.result c.drep-2.result left joined) credential_is c.moved-drep_left.ensures.each) in
    subst (λ (s : Counted). AreRecounted before after s (record { pools = c.leave-2.new.self; dreps = c.leave-3.new.self })) c.self.view_is
    (recounted c.self.inside.pools c.self.inside.dreps before after c.moved-pool_left.result.0 c.moved-pool_left.result.1 left joined
    c.join.new.self c.leave-2.new.self c.join-2.new.self c.leave-3.new.self pools dreps c.in_ok-join.ensures.ok c.leave-2.ensures more less)
