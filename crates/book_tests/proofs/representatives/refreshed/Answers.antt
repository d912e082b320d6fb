use Rattle.std.proofs.Common.{◌≡◌, [], ◌∷◌, ap, sym, subst, ◌∙◌}
use Rattle.gov_ids.specs.Orders.{credential_cmp}
use Rattle.book_records.specs.declared.DrepState.{DrepState}
use Rattle.book_records.specs.Dormancy.{AllFit}
use Rattle.maps.specs.Maps.{with_value}
use Rattle.drep_book.specs.Dreps.{Dreps}
use Rattle.book_tests.proofs.representatives.refreshed.Goals as goal

pub refresh-requires : goal.refresh-requires
refresh-requires c =
    let d : DrepState = record { deposit = 5; expiry = c.args.expiry } in
    let one : c.put.new.self ≡ record { dreps = (c.drep.result, d) ∷ []; dormant = 0 } =
    c.in_ok-put.ensures.ok ∙ ap (λ (b : Dreps). record b { dreps = with_value credential_cmp c.drep.result d b.dreps }) c.new-book.ensures in
    let book = c.set_dormant.ensures ∙ ap (λ (b : Dreps). record b { dormant = c.args.dormant }) one in
    record { fit = subst (λ (b : Dreps). AllFit b.dormant b.dreps) (sym book) (c.requires, tt) }
