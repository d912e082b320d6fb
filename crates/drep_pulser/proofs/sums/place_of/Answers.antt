use Rattle.std.proofs.Common.{◌≡◌, ℕ, None, Option, subst, sym, rules}
use Rattle.std.specs.List.Sorted.{IsBinarySearchResult}
use Rattle.std.specs.Option.{IfSome, IfNone}
use Rattle.std.specs.declared.cmp.Ordering.{Ordering}
use Rattle.std.proofs.lemmas.Fn.{always_returns_same}
use Rattle.gov_ids.specs.contracts.DrepOrd.TheImpl as drep_ord
use Rattle.gov_ids.specs.declared.Drep.{Drep}
use Rattle.gov_ids.specs.Derived.{drep_is}
use Rattle.gov_ids.specs.Orders.{drep_cmp}
use Rattle.maps.specs.Maps.{value_at}
use Rattle.drep_pulser.specs.Places.{IsPlaceOf}
use Rattle.drep_pulser.proofs.Ordered.{found_place}
use Rattle.drep_pulser.proofs.sums.place_of.Goals as goal

pub returns-clause-there : goal.returns-clause-there
returns-clause-there c =
    let amounts = c.args.amounts.now in
    let d = c.args.d.now in
    let position = c.binary_search_by.ensures.position (λ (e : Drep × ℕ). drep_ord.cmp-value.it e.0 d) (always_returns_same _ _ _ (λ a r g called. search rules)) in
    let searched = subst (λ (cmp : Drep → Drep → Ordering). IsBinarySearchResult (λ (e : Drep × ℕ). cmp e.0 d) amounts c.binary_search_by.result) drep_is position in
    subst (λ (o : Option ℕ). IfSome o (IsPlaceOf amounts d)) (sym c.ok.ensures.value) (found_place amounts d c.binary_search_by.result c.requires c.binary_search_by.ensures.bound searched).0

pub returns-clause-absent : goal.returns-clause-absent
returns-clause-absent c =
    let amounts = c.args.amounts.now in
    let d = c.args.d.now in
    let position = c.binary_search_by.ensures.position (λ (e : Drep × ℕ). drep_ord.cmp-value.it e.0 d) (always_returns_same _ _ _ (λ a r g called. search rules)) in
    let searched = subst (λ (cmp : Drep → Drep → Ordering). IsBinarySearchResult (λ (e : Drep × ℕ). cmp e.0 d) amounts c.binary_search_by.result) drep_is position in
    subst (λ (o : Option ℕ). IfNone o (value_at drep_cmp amounts d ≡ None)) (sym c.ok.ensures.value) (found_place amounts d c.binary_search_by.result c.requires c.binary_search_by.ensures.bound searched).1
