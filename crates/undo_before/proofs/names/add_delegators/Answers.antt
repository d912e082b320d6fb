use Rattle.std.proofs.Common.{List, ◌++◌, ap, ◌∙◌}
use Rattle.std.specs.declared.cmp.Ordering.{Ordering}
use Rattle.std.proofs.lemmas.Result.{IfOk-equal}
use Rattle.gov_ids.specs.Derived.{credential_is}
use Rattle.gov_ids.specs.declared.Credential.{Credential}
use Rattle.maps.specs.Maps.{in_order}
use Rattle.stake_book.specs.Stakes.{registrations}
use Rattle.undo_before.specs.Names.{delegating_entries, delegators}
use Rattle.undo_before.proofs.Touched.{any_order, delegating_are}
use Rattle.undo_before.proofs.names.add_delegators.Goals as goal

pub returns : goal.returns
returns c =
    let live = c.args.book.now.live in
    let keys = c.in_ok-left.left.keys in
    let old = c.args.all.now.items in
    IfOk-equal c.add_those.result c.add_those.new.all.items (old ++ delegating_entries keys live) (old ++ delegators c.args.left.now (registrations live)) c.add_those.ensures
    (ap (λ (cs : List Credential). old ++ cs)
    (delegating_are keys live
    ∙ ap (λ (cs : List Credential). delegators cs (registrations live)) c.in_ok-left.ensures
    ∙ ap (λ (cmp : Credential → Credential → Ordering). delegators (in_order cmp c.args.left.now) (registrations live)) credential_is
    ∙ any_order c.args.left.now (registrations live)))
