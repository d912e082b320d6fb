use Rattle.std.proofs.Common.{List, ap, arith, subst, sym, ◌∙◌}
use Rattle.gov_ids.specs.declared.Credential.{Credential}
use Rattle.gov_ids.specs.Orders.{credential_cmp}
use Rattle.book_records.specs.declared.DrepState.{DrepState}
use Rattle.maps.specs.Maps.{IsMap, value_at}
use Rattle.live_ledger.specs.Drafts.{Drafted}
use Rattle.live_ledger.proofs.DraftChanging.{dreps_are_map}
use Rattle.live_ledger.proofs.draft.Draft.drep.Goals as goal

pub latest-requires : goal.latest-requires
latest-requires c =
    let kept = c.self.invariant.kept in
    record { fit = λ s e. omega (arith, kept.timely.expiries c.args.c.now s (ap (λ (es : List (Credential × DrepState)). value_at credential_cmp es c.args.c.now) (sym c.dreps.ensures.dreps) ∙ e), kept.early, c.dreps.ensures.dormant) }

pub returns-clause-map : goal.returns-clause-map
returns-clause-map c =
    let a = c.self.inside in
    subst (λ (d : Drafted). IsMap credential_cmp d.ledger.dreps) c.self.view_is (dreps_are_map a.start.now.ledger c.self.invariant.kept a.accounts a.pools.entries a.dreps a.hot.entries)
