-- The stream that a seed gives, for so many accounts and epochs. (Own)
use Rattle.std.specs.Prelude.{ℕ, ◌+◌, ◌-◌, ◌%◌, ◌==◌, List, [], ◌∷◌, ◌++◌, codes, decimal, flat_map, map, if◌then◌else◌}
use Rattle.std.specs.List.{range_with_len}
use Rattle.text_model.specs.Words.{Text}
use Rattle.load_model.specs.Amounts.{account_in_epoch, account_name, accounts_of, drep_in_epoch, first_pulse, first_slot, last_slot, left_by_proposal, left_by_registration, left_by_votes, place_before_proposal, place_before_registration, proposal_name, registration_count, registration_name, votes_name, weight}
use Rattle.load_model.specs.Genesis.{genesis_line}
use Rattle.load_model.specs.Json.{joined, with_commas}
use Rattle.load_model.specs.Names.{hash28, hash32, key}

-- ---- registrations

-- the output of an account, with the account's key as its stake part
abbrev pub output_of : ℕ → ℕ → Text
output_of account lovelace = joined (
    codes "[\"1k" ∷ hash28 1 ∷ codes "+k" ∷ hash28 account ∷ codes "\"," ∷ decimal lovelace ∷ codes ",0]" ∷ [])

-- the output of account i
abbrev pub account_output : ℕ → ℕ → Text
account_output seed i = output_of (account_name i) (weight seed i)

-- the last output of each transaction: the lovelace that is left
abbrev pub left_output : ℕ → Text
left_output lovelace = joined (codes "[\"1k" ∷ hash28 1 ∷ codes "\"," ∷ decimal lovelace ∷ codes ",0]" ∷ [])

-- the vote delegation of account i: of each four, two to the first DRep, one to the second,
-- and one to always-abstain
abbrev pub drep_of : ℕ → Text
drep_of i = if i % 4 == 3 then codes "abstain" else (if i % 4 == 2 then key 31 else key 30)

-- the registration of an account
abbrev pub cert_of : ℕ → Text → Text
cert_of account drep = joined (
    codes "{\"cert\":\"account-reg\",\"cred\":\"k" ∷ hash28 account ∷
    codes "\",\"pool\":\"" ∷ hash28 50 ∷ codes "\",\"drep\":\"" ∷ []) ++ (drep ++ codes "\"}")

-- the registration of account i
abbrev pub account_cert : ℕ → Text
account_cert i = cert_of (account_name i) (drep_of i)

-- a transaction up to its outputs: its number, and the index of the output that it spends
-- of the transaction before
abbrev pub transaction_begun : ℕ → ℕ → Text
transaction_begun n place = joined (
    codes "{\"kind\":\"tx\",\"id\":\"" ∷ hash32 n ∷ codes "\",\"inputs\":[\"" ∷ hash32 (n - 1) ∷
    codes "#" ∷ decimal place ∷ codes "\"],\"outputs\":[" ∷ [])

-- a transaction that registers accounts: their outputs, the output left, and their registrations
abbrev pub registering : ℕ → ℕ → List Text → List Text → Text
registering n place outputs certs =
    transaction_begun n place ++ (with_commas outputs ++
    (codes "],\"fee\":1,\"size\":0,\"certs\":[" ++ (with_commas certs ++ codes "]}")))

-- registration j
abbrev pub registration_line : ℕ → ℕ → ℕ → Text
registration_line seed accounts j =
    registering (registration_name j) (place_before_registration accounts j)
    (map (account_output seed) (accounts_of accounts j) ++ left_output (left_by_registration seed accounts j) ∷ [])
    (map account_cert (accounts_of accounts j))

-- ---- epochs

-- a block
abbrev pub block_line : ℕ → ℕ → Text
block_line slot pulse = joined (
    codes "{\"kind\":\"block\",\"slot\":" ∷ decimal slot ∷ codes ",\"pulse\":" ∷ decimal pulse ∷ codes "}" ∷ [])

-- a transaction that proposes to withdraw an amount from the treasury
abbrev pub proposing : ℕ → ℕ → ℕ → ℕ → Text
proposing n place left amount = joined (
    codes "{\"kind\":\"tx\",\"id\":\"" ∷ hash32 n ∷ codes "\",\"inputs\":[\"" ∷ hash32 (n - 1) ∷
    codes "#" ∷ decimal place ∷ codes "\"],\"outputs\":[[\"1k" ∷ hash28 1 ∷ codes "\"," ∷ decimal left ∷
    codes ",0]],\"fee\":1,\"size\":0,\"proposals\":[{\"deposit\":10,\"return\":\"1k" ∷ hash28 1000 ∷
    codes "\",\"action\":{\"type\":\"TreasuryWithdrawals\",\"targets\":[[\"1k" ∷ hash28 1000 ∷
    codes "\"," ∷ decimal amount ∷ codes "]]}}]}" ∷ [])

-- the proposal of epoch e
abbrev pub proposal_line : ℕ → ℕ → ℕ → Text
proposal_line seed accounts e =
    proposing (proposal_name accounts e) (place_before_proposal accounts e) (left_by_proposal seed accounts e) (10 + e)

-- a transaction that delegates an account's vote, and votes on the proposal just before
abbrev pub voting : ℕ → ℕ → ℕ → ℕ → Text
voting n left account drep = joined (
    codes "{\"kind\":\"tx\",\"id\":\"" ∷ hash32 n ∷ codes "\",\"inputs\":[\"" ∷ hash32 (n - 1) ∷
    codes "#0\"],\"outputs\":[[\"1k" ∷ hash28 1 ∷ codes "\"," ∷ decimal left ∷
    codes ",0]],\"fee\":1,\"size\":0,\"certs\":[{\"cert\":\"delegate\",\"cred\":\"k" ∷ hash28 account ∷
    codes "\",\"drep\":\"k" ∷ hash28 drep ∷
    codes "\"}],\"votes\":[{\"voter\":\"drep:k" ∷ hash28 30 ∷ codes "\",\"action\":\"" ∷ hash32 (n - 1) ∷
    codes "#0\",\"vote\":\"yes\"},{\"voter\":\"drep:k" ∷ hash28 31 ∷ codes "\",\"action\":\"" ∷ hash32 (n - 1) ∷
    codes "#0\",\"vote\":\"no\"}]}" ∷ [])

-- the votes of epoch e
abbrev pub votes_line : ℕ → ℕ → ℕ → Text
votes_line seed accounts e =
    voting (votes_name accounts e) (left_by_votes seed accounts e) (account_in_epoch seed accounts e) (drep_in_epoch e)

-- an update that rewards one account
abbrev pub rewarding : ℕ → ℕ → Text
rewarding e account = joined (
    codes "{\"kind\":\"rewards\",\"epoch\":" ∷ decimal e ∷
    codes ",\"fromReserves\":5,\"fromFees\":0,\"toTreasury\":2,\"rewards\":[[\"k" ∷ hash28 account ∷ codes "\",3]]}" ∷ [])

-- the reward update of epoch e
abbrev pub rewards_line : ℕ → ℕ → ℕ → Text
rewards_line seed accounts e = rewarding e (account_in_epoch seed accounts e)

-- the six lines of epoch e; the votes occur twice
abbrev pub epoch_lines : ℕ → ℕ → ℕ → List Text
epoch_lines seed accounts e =
    block_line (first_slot e) (first_pulse seed e) ∷
    proposal_line seed accounts e ∷
    votes_line seed accounts e ∷
    votes_line seed accounts e ∷
    rewards_line seed accounts e ∷
    block_line (last_slot e) 1 ∷
    []

-- ---- the stream

-- the lines of the stream
abbrev pub lines_of_load : ℕ → ℕ → ℕ → List Text
lines_of_load seed accounts epochs =
    genesis_line ∷ []
    ++ map (registration_line seed accounts) (range_with_len 0 (registration_count accounts))
    ++ flat_map (epoch_lines seed accounts) (range_with_len 0 epochs)

-- lines as bytes, each with a line feed
abbrev pub bytes_of_lines : List Text → List ℕ
bytes_of_lines lines = flat_map (λ line. line ++ 10 ∷ []) lines

-- the bytes of the stream
abbrev pub bytes_of_load : ℕ → ℕ → ℕ → List ℕ
bytes_of_load seed accounts epochs = bytes_of_lines (lines_of_load seed accounts epochs)
