-- What a reward update leaves of accounts and state. (NEWEPOCH of the formal specification)
use Rattle.std.specs.Prelude.{◌+◌}
use Rattle.gov_actions.specs.declared.state.EnactState.{EnactState}
use Rattle.payments.specs.Amounts.{unclaimed_of}
use Rattle.payments.specs.Credited.{AreCredited}
use Rattle.stake_book.specs.Stakes.{Stakes, accounts_of}
use Rattle.tx_records.specs.declared.record.Rewards.{Rewards}

-- each account has its reward, and the treasury its part and what no account claims
abbrev pub AreRewarded : Rewards → Stakes → EnactState → Stakes → EnactState → Type 0
AreRewarded u stake state after left =
    AreCredited u.rewards (accounts_of stake) (state.treasury + u.to_treasury + unclaimed_of (accounts_of stake) u.rewards) stake state after left
