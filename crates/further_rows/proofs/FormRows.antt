-- Worked rows on what is no checkpoint: each list of Worlds has one that has the form, or is covered, and then those that differ from it in one thing.
use Rattle.std.specs.Prelude.{ℕ, ◌≡◌, ◌+◌, ◌-◌, ◌^◌, ◌++◌, Bool, true, false, not, ◌&&◌, List, [], ◌∷◌, Some, None, length, map, nat_le, replicate, refl}
use Rattle.std.specs.List.{list_all}
use Rattle.std.specs.Map.{keys_of}
use Rattle.std.proofs.Common.{ap}
use Rattle.maps.specs.Words.{repeats}
use Rattle.gov_ids.specs.declared.Account.{Account}
use Rattle.gov_ids.specs.Orders.{account_cmp, credential_cmp}
use Rattle.tx_records.specs.declared.limits.TheConstants.{LIST_LIMIT}
use Rattle.text_forms.specs.Actions.{are_credentials, are_members, are_targets, is_member, is_target}
use Rattle.text_forms.specs.Ids.{is_credential}
use Rattle.gov_ids.specs.declared.assets.AssetId.{AssetId}
use Rattle.gov_ids.specs.declared.Credential.{Credential}
use Rattle.pparams.specs.declared.Params.{Params}
use Rattle.gov_actions.specs.declared.action.Action.{Action}
use Rattle.gov_actions.specs.declared.action.Action.TheVariants as actions
use Rattle.gov_actions.specs.declared.action.Proposal.{Proposal}
use Rattle.gov_actions.specs.declared.state.EnactState.{EnactState}
use Rattle.ledger_model.specs.Ledger.{Ledger}
use Rattle.run_model.specs.Genesis.{world_of_genesis}
use Rattle.run_model.specs.World.{World, on_ledger}
use Rattle.checkpoint_model.specs.Resumable.{has_form, is_covered}
use Rattle.ledger_rows.proofs.Base.{h28, h32, base, base_params, key, pool, share, account_on, address_with, action, ref, asset}

-- a ledger without outputs
abbrev start : World
start = world_of_genesis (record base { outputs = []; reserves = 779 })

-- ---- the state

abbrev with_state : (EnactState → EnactState) → World
with_state change = on_ledger (λ (l : Ledger). record l { state = change l.state }) start

abbrev with_params : Params → World
with_params p = with_state (λ (s : EnactState). record s { params = p })

-- a ratio of any size, and none over 0
pub ratios_over_nothing : map (λ a0. has_form (with_params (record base_params { a0 = a0 }))) (share 7 2 ∷ share 0 1 ∷ share 1 0 ∷ share 0 0 ∷ []) ≡
    true ∷ true ∷ false ∷ false ∷ []
ratios_over_nothing = refl

pub prices_over_nothing : map (λ p. has_form (with_params (record base_params { prices = p }))) ((share 7 2, share 0 1) ∷ (share 1 0, share 0 1) ∷ (share 7 2, share 1 0) ∷ []) ≡
    true ∷ false ∷ false ∷ []
prices_over_nothing = refl

-- a number of the committee's least size has 16 bits
pub least_sizes : map (λ n. has_form (with_params (record base_params { committee_min_size = n }))) (65535 ∷ 65536 ∷ []) ≡ true ∷ false ∷ []
least_sizes = refl

-- the bytes of a hash are at most 255, and there are neither more nor fewer than it has
pub bytes_of_a_document : map (λ h. has_form (with_state (λ (s : EnactState). record s { document = h }))) (h32 255 ∷ h32 256 ∷ h28 1 ∷ (0 ∷ h32 1) ∷ []) ≡
    true ∷ false ∷ false ∷ false ∷ []
bytes_of_a_document = refl

-- ---- outputs

abbrev with_output : ℕ → Credential → List (AssetId × ℕ) → Bool
with_output index payment held = has_form (on_ledger (λ (l : Ledger). record l {
  outputs = (ref 1 index, record { address = address_with 1 payment None; lovelace = 20; assets = held }) ∷ [];
}) start)

-- the index of an output has 16 bits
pub indexes_of_outputs : map (λ n. with_output n (key 1) []) (65535 ∷ 65536 ∷ []) ≡ true ∷ false ∷ []
indexes_of_outputs = refl

-- the bytes of a key, of a policy and of the name of an asset, which has at most 32
abbrev with_asset : List ℕ → List ℕ → Bool
with_asset policy name = with_output 0 (key 1) ((asset policy name, 1) ∷ [])

pub bytes_of_outputs : (
    with_output 0 (key 255) [] ∷ with_asset (h28 255) (255 ∷ []) ∷ with_asset (h28 1) [] ∷ with_asset (h28 1) (h32 1) ∷
    with_output 0 (key 256) [] ∷ with_asset (h28 256) [] ∷ with_asset (h32 1) [] ∷ with_asset (h28 1) (256 ∷ []) ∷ with_asset (h28 1) (0 ∷ h32 1) ∷ []) ≡
    replicate 4 true ++ replicate 5 false
bytes_of_outputs = refl

-- ---- pools

-- a pool may retire in any epoch of 64 bits, though no slot is in it, and in none beyond
pub retirements_beyond_any_slot : map (λ n. has_form (on_ledger (λ (l : Ledger). record l {
  pools = (
    pool 0x50,
    record {
      deposit = 5;
      terms = record { cost = 0; pledge = 0; margin = share 0 1; account = account_on 1 (key 0x12); key = None };
      future = None;
      retires = Some n;
    },
  ) ∷ [];
}) start)) ((2 ^ 62) ∷ (2 ^ 64 - 1) ∷ (2 ^ 64) ∷ []) ≡ true ∷ true ∷ false ∷ []
retirements_beyond_any_slot = refl

-- frozen accounts of pools are of pools of mark, each once
pub accounts_of_pools_of_mark : map (λ ps. has_form (record start { frozen = record start.frozen { pool_accounts = map (λ n. (pool n, account_on 1 (key 0x12))) ps } })) (
    (0x50 ∷ []) ∷ [] ∷ (0x51 ∷ []) ∷ (0x50 ∷ 0x51 ∷ []) ∷ (0x50 ∷ 0x50 ∷ []) ∷ []) ≡ true ∷ true ∷ false ∷ false ∷ false ∷ []
accounts_of_pools_of_mark = refl

-- ---- proposals

abbrev proposed : ℕ → Action → Proposal
proposed index act = record { id = action 1 index; action = act; deposit = 10; account = account_on 1 (key 0x12); expires_after = 2; votes = [] }

abbrev with_proposals : List Proposal → Bool
with_proposals ps = has_form (on_ledger (λ (l : Ledger). record l { proposals = ps }) start)

abbrev with_action : Action → Bool
with_action act = with_proposals (proposed 0 act ∷ [])

-- removed members and added ones are in any order, each once; one may be removed and added
pub members_each_once : map (λ (m : List ℕ × List (ℕ × ℕ)). with_action (actions.UpdateCommittee None (map key m.0) (map (λ (n : ℕ × ℕ). (key n.0, n.1)) m.1) (share 1 2))) (
    (0x71 ∷ 0x70 ∷ [], (0x73, 5) ∷ (0x70, 5) ∷ []) ∷ (0x70 ∷ 0x71 ∷ 0x70 ∷ [], []) ∷ ([], (0x72, 5) ∷ (0x73, 5) ∷ (0x72, 6) ∷ []) ∷ []) ≡
    true ∷ false ∷ false ∷ []
members_each_once = refl

-- targets are in any order, each once; one account on both networks is two
pub targets_each_once : map (λ ts. with_action (actions.TreasuryWithdrawals (map (λ (t : ℕ × ℕ × ℕ). (account_on t.0 (key t.1), t.2)) ts) None)) (
    ((1, 0x11, 3) ∷ (1, 0x10, 3) ∷ (0, 0x10, 3) ∷ []) ∷ ((1, 0x10, 3) ∷ (1, 0x11, 3) ∷ (1, 0x10, 4) ∷ []) ∷ []) ≡ true ∷ false ∷ []
targets_each_once = refl

-- and a list has no more than 16,777,216 entries
pub too_many_are_removed : (cs : List Credential) → length cs ≡ LIST_LIMIT + 1 → are_credentials cs ≡ false
too_many_are_removed cs e = ap (λ (n : ℕ). nat_le n LIST_LIMIT && list_all is_credential cs && not (repeats credential_cmp cs)) e

pub too_many_are_added : (ms : List (Credential × ℕ)) → length ms ≡ LIST_LIMIT + 1 → are_members ms ≡ false
too_many_are_added ms e = ap (λ (n : ℕ). nat_le n LIST_LIMIT && list_all is_member ms && not (repeats credential_cmp (keys_of ms))) e

pub too_many_are_targets : (ts : List (Account × ℕ)) → length ts ≡ LIST_LIMIT + 1 → are_targets ts ≡ false
too_many_are_targets ts e = ap (λ (n : ℕ). nat_le n LIST_LIMIT && list_all is_target ts && not (repeats account_cmp (keys_of ts))) e

-- each id is that of one proposal, whatever it proposes, and its index has 16 bits
pub ids_of_proposals : map with_proposals (
    (proposed 1 actions.Info ∷ proposed 0 actions.Info ∷ []) ∷ (proposed 65535 actions.Info ∷ []) ∷
    (proposed 0 actions.Info ∷ proposed 1 actions.Info ∷ proposed 0 (actions.NoConfidence None) ∷ []) ∷ (proposed 65536 actions.Info ∷ []) ∷ []) ≡
    true ∷ true ∷ false ∷ false ∷ []
ids_of_proposals = refl

-- ---- the pending update

-- it is of the current epoch, whatever it moves
pub updates_of_another_epoch : map (λ n. is_covered (record start.ledger { slot = 21; epoch = 2 }) (record { epoch = n; from_reserves = 3; from_fees = 0; to_treasury = 3; rewards = [] })) (2 ∷ 1 ∷ 3 ∷ []) ≡
    true ∷ false ∷ false ∷ []
updates_of_another_epoch = refl
