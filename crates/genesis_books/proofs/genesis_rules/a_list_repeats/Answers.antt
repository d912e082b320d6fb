use Rattle.std.proofs.Common.{map, sym, ◌∙◌}
use Rattle.gov_ids.specs.Orders.{credential_cmp, outref_cmp, pool_cmp}
use Rattle.maps.specs.Words.{repeats}
use Rattle.tx_records.specs.declared.genesis.GenesisPool.{GenesisPool}
use Rattle.genesis_books.proofs.Listings.{last_of_five}
use Rattle.genesis_books.proofs.genesis_rules.a_list_repeats.Goals as goal

pub returns : goal.returns
returns c =
    last_of_five _ _ _ _ _ _
    (sym (c.in_ok-repeats_a_name.ensures ∙ (λ i. repeats credential_cmp (map (λ m. m.0) (c.members_of.ensures i)))) ∙ c.if-branch.false)
    (sym (c.in_ok-repeats_a_name-2.ensures ∙ (λ i. repeats outref_cmp (map (λ o. o.0) (c.as_slice.ensures i)))) ∙ c.if-branch-2.false)
    (sym (c.in_ok-repeats_a_name-3.ensures ∙ (λ i. repeats credential_cmp (map (λ a. a.0) (c.as_slice-else-branch-2.ensures i)))) ∙ c.if-branch-3.false)
    (sym (c.in_ok-repeats_a_name-4.ensures ∙ (λ i. repeats pool_cmp (map (λ (p : GenesisPool). p.pool) (c.as_slice-else-branch-3.ensures i)))) ∙ c.if-branch-4.false)
    (c.in_ok-repeats_a_name-5.ensures ∙ (λ i. repeats credential_cmp (map (λ d. d.0) (c.as_slice-2.ensures i))))
