-- The limits of a transaction: of lists, of names, and of the numbers that a law needs. (Own)
-- That every field reads as its kind says, the reading itself states.
use Rattle.std.specs.Prelude.{Bool, ◌&&◌, not, map}
use Rattle.std.specs.List.{list_all}
use Rattle.gov_ids.specs.of_maps.Words.{none_or, repeats}
use Rattle.gov_ids.specs.Orders.{account_cmp}
use Rattle.tx_records.specs.declared.limits.TheConstants.{OUTPUT_LIMIT, TX_LIST_LIMIT}
use Rattle.tx_records.specs.declared.tx.ProposalRecord.{ProposalRecord}
use Rattle.tx_records.specs.declared.tx.Tx.{Tx}
use Rattle.tx_records.specs.Limits.{is_action, is_at_most, is_mint, is_output, is_slot, is_u64}

-- no list has more entries than its limit
abbrev pub has_short_lists : Tx → Bool
has_short_lists tx =
    is_at_most TX_LIST_LIMIT tx.inputs && is_at_most OUTPUT_LIMIT tx.outputs && is_at_most TX_LIST_LIMIT tx.collateral
    && is_at_most TX_LIST_LIMIT tx.withdrawals && is_at_most TX_LIST_LIMIT tx.certs && is_at_most TX_LIST_LIMIT tx.proposals
    && is_at_most TX_LIST_LIMIT tx.votes

-- a transaction within the limits
abbrev pub is_within_limits : Tx → Bool
is_within_limits tx =
    has_short_lists tx
    && not (repeats account_cmp (map (λ x. x.0) tx.withdrawals))
    && list_all (λ (p : ProposalRecord). is_action p.action) tx.proposals
    && list_all is_output tx.outputs && none_or is_output tx.collateral_return && is_mint tx.mint
    && none_or is_slot tx.from && none_or is_slot tx.until && is_u64 tx.fee && is_u64 tx.donation
