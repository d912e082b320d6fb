-- The numbers of the stream that a seed gives, for so many accounts and epochs. (Own)
use Rattle.std.specs.Prelude.{ℕ, ◌+◌, ◌-◌, ◌*◌, ◌/◌, ◌%◌, ◌==◌, List, min, sum_by, if◌then◌else◌}
use Rattle.std.specs.List.{range_with_len}

-- ---- registrations, numbered from 0

-- how many accounts a registration registers; the last one registers those that are left
abbrev pub registered_at_once : ℕ
registered_at_once = 500

-- how many registrations there are: the accounts divided by 500, rounded up
abbrev pub registration_count : ℕ → ℕ
registration_count accounts = (accounts + 499) / registered_at_once

-- the first account of registration j
abbrev pub first_account : ℕ → ℕ
first_account j = registered_at_once * j

-- how many accounts registration j registers
abbrev pub account_count : ℕ → ℕ → ℕ
account_count accounts j = min accounts (first_account j + registered_at_once) - first_account j

-- the accounts that registration j registers
abbrev pub accounts_of : ℕ → ℕ → List ℕ
accounts_of accounts j = range_with_len (first_account j) (account_count accounts j)

-- the number in the name of account i
abbrev pub account_name : ℕ → ℕ
account_name i = 1000 + i

-- what account i holds in its output, in lovelace
abbrev pub weight : ℕ → ℕ → ℕ
weight seed i = 1000 + (seed + 37 * i) % 1000

-- ---- transactions: registrations first, then two for each epoch, a proposal and the votes on it

-- the number in the name of registration j
abbrev pub registration_name : ℕ → ℕ
registration_name j = 2 + j

-- the number in the name of the proposal of epoch e
abbrev pub proposal_name : ℕ → ℕ → ℕ
proposal_name accounts e = 2 + registration_count accounts + 2 * e

-- the number in the name of the votes of epoch e
abbrev pub votes_name : ℕ → ℕ → ℕ
votes_name accounts e = 3 + registration_count accounts + 2 * e

-- ---- the last output of each transaction, which the next one spends

-- the index of the output that registration j spends: the one of the genesis,
-- or the one after the outputs of accounts in the transaction before
abbrev pub place_before_registration : ℕ → ℕ → ℕ
place_before_registration accounts j = if j == 0 then 0 else account_count accounts (j - 1)

-- the index of the output that the proposal of epoch e spends: the last of the last registration,
-- or the one of the votes before
abbrev pub place_before_proposal : ℕ → ℕ → ℕ
place_before_proposal accounts e = if e == 0 then account_count accounts (registration_count accounts - 1) else 0

-- the lovelace in the output of the genesis
abbrev pub funds : ℕ
funds = 10000000000

-- the fee of a transaction, in lovelace
abbrev pub fee : ℕ
fee = 1

-- the deposit of an account, in lovelace
abbrev pub account_deposit : ℕ
account_deposit = 2

-- the deposit of a proposal, in lovelace
abbrev pub proposal_deposit : ℕ
proposal_deposit = 10

-- what registration j spends of it: the outputs of its accounts, their deposits, and its fee
abbrev pub spent_by_registration : ℕ → ℕ → ℕ → ℕ
spent_by_registration seed accounts j = sum_by (λ i. weight seed i + account_deposit) (accounts_of accounts j) + fee

-- what the registrations before j spend
abbrev pub spent_before : ℕ → ℕ → ℕ → ℕ
spent_before seed accounts j = sum_by (spent_by_registration seed accounts) (range_with_len 0 j)

-- what all registrations spend
abbrev pub spent_by_all : ℕ → ℕ → ℕ
spent_by_all seed accounts = spent_before seed accounts (registration_count accounts)

-- what the proposals and the votes of the epochs before e spend
abbrev pub spent_by_epochs : ℕ → ℕ
spent_by_epochs e = (proposal_deposit + fee + fee) * e

-- what is left after registration j
abbrev pub left_by_registration : ℕ → ℕ → ℕ → ℕ
left_by_registration seed accounts j = funds - spent_before seed accounts (j + 1)

-- what is left after the proposal of epoch e
abbrev pub left_by_proposal : ℕ → ℕ → ℕ → ℕ
left_by_proposal seed accounts e = funds - (spent_by_all seed accounts + spent_by_epochs e + proposal_deposit + fee)

-- what is left after the votes of epoch e
abbrev pub left_by_votes : ℕ → ℕ → ℕ → ℕ
left_by_votes seed accounts e = funds - (spent_by_all seed accounts + spent_by_epochs (e + 1))

-- ---- epochs

-- the number in the name of the account that delegates anew and gets a reward in epoch e
abbrev pub account_in_epoch : ℕ → ℕ → ℕ → ℕ
account_in_epoch seed accounts e = account_name ((seed + e) % accounts)

-- the number in the name of the DRep to which it delegates: the first and the second in turn
abbrev pub drep_in_epoch : ℕ → ℕ
drep_in_epoch e = if e % 2 == 0 then 30 else 31

-- the slot of the first block of epoch e
abbrev pub first_slot : ℕ → ℕ
first_slot e = 10 * e + 5

-- the pulse of that block
abbrev pub first_pulse : ℕ → ℕ → ℕ
first_pulse seed e = 1 + (seed + e) % 1000

-- the slot of the last block of epoch e, which is in the next epoch
abbrev pub last_slot : ℕ → ℕ
last_slot e = 10 * e + 10
