use Rattle.std.proofs.Common.{◌≡◌, cond, None, subst}
use Rattle.std.specs.declared.cmp.Ordering.{Ordering}
use Rattle.std.specs.Ordering.{eq_by_cmp}
use Rattle.gov_ids.specs.declared.Credential.{Credential}
use Rattle.gov_ids.specs.Derived.{credential_is}
use Rattle.maps.specs.Maps.{value_at}
use Rattle.proposal_store.proofs.Noting.{Notes, HasLeft, has_left}
use Rattle.proposal_store.proofs.voted.VotedOn.take.Goals as goal

pub returns-clause-left : goal.returns-clause-left
returns-clause-left c =
    let drep = c.args.drep.now in
    let es = c.self.inside.notes.entries in
    let new = c.remove.new.self.entries in
    subst (λ (old : Notes). HasLeft drep old new) c.self.view_is
    (has_left drep es new
    (λ q. subst (λ (cmp : Credential → Credential → Ordering). value_at cmp new q ≡ cond (eq_by_cmp cmp drep q) None (value_at cmp es q)) credential_is (c.remove.ensures.updates.0 q)))
