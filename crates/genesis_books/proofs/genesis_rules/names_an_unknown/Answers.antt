use Rattle.std.proofs.Common.{not, ◌||◌, map, ◌∙◌, rules, tests}
use Rattle.std.specs.List.{list_any}
use Rattle.std.proofs.lemmas.Iterator.{YieldsList-from_slice}
use Rattle.std.proofs.lemmas.Iterator.Search.{any_from_yields_List}
use Rattle.gov_ids.specs.Orders.{credential_cmp, pool_cmp}
use Rattle.maps.specs.Maps.{has_member, in_order}
use Rattle.maps.specs.Words.{none_or}
use Rattle.tx_records.specs.declared.genesis.GenesisPool.{GenesisPool}
use Rattle.genesis_books.specs.Listing.{is_drep_among}
use Rattle.genesis_books.proofs.Listings.{unknown_is}
use Rattle.genesis_books.proofs.genesis_rules.names_an_unknown.Goals as goal

pub returns : goal.returns
returns c =
    let pools = c.in_ok-pools.pools.keys in
    let dreps = c.in_ok-dreps.dreps.keys in
    any_from_yields_List (λ a. not (none_or (has_member pool_cmp pools) a.3) || not (none_or (is_drep_among dreps) a.4)) _ _ _ c.any.ensures.ran (YieldsList-from_slice c.as_slice-accounts.result.now cc) (λ x b q k. search (rules, tests))
    ∙ (λ i. list_any (λ a. not (none_or (has_member pool_cmp pools) a.3) || not (none_or (is_drep_among dreps) a.4)) (c.as_slice-accounts.ensures i))
    ∙ unknown_is c.args.genesis.now pools dreps (c.in_ok-pools.ensures ∙ (λ i. in_order pool_cmp (map (λ (p : GenesisPool). p.pool) (c.as_slice.ensures i))))
    (c.in_ok-dreps.ensures ∙ (λ i. in_order credential_cmp (map (λ d. d.0) (c.as_slice-2.ensures i))))
