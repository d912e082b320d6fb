-- Worked rows on definitions that no text shows: what flows between pots, what was counted, every rule that is broken, what expires, what goes back to what.
use Rattle.std.specs.Prelude.{ℕ, ◌≡◌, ◌^◌, List, [], ◌∷◌, Option, Some, None, true, false, filter, map, refl}
use Rattle.gov_ids.specs.declared.Drep.TheVariants as drep
use Rattle.gov_ids.specs.declared.Voter.TheVariants as voter
use Rattle.gov_actions.specs.declared.action.Action.{Action}
use Rattle.gov_actions.specs.declared.action.Action.TheVariants as actions
use Rattle.gov_actions.specs.declared.action.Proposal.{Proposal}
use Rattle.gov_actions.specs.declared.action.Vote.TheVariants as vote
use Rattle.gov_actions.specs.declared.state.LastIds.{LastIds}
use Rattle.gov_ids.specs.declared.ActionId.{ActionId}
use Rattle.gov_model.specs.Kept.{kept_of}
use Rattle.gov_model.specs.Lineage.{follows_version}
use Rattle.gov_model.specs.Ratified.{expired_of, ids_of, ratified_of}
use Rattle.gov_model.specs.Snapshot.{Snapshot}
use Rattle.gov_model.specs.Stake.{drep_stake}
use Rattle.ledger_model.specs.Broken.{broken_rules}
use Rattle.ledger_model.specs.Changes.{fresh_expiry}
use Rattle.ledger_model.specs.Flows.{Pot, outputs, deposits, rewards, fees, donations, treasury, reserves, hand, same_pot, Flow, flow, source, sink, sum_at, flows_of_tx}
use Rattle.ledger_model.specs.Moves.{held_in}
use Rattle.run_model.specs.BoundaryFlows.{flows_of, flows_of_targets}
use Rattle.run_model.specs.Runs.{counted_of}
use Rattle.run_model.specs.World.{World}
use Rattle.tx_records.specs.declared.record.Record.TheVariants as records
use Rattle.coin_frac.specs.declared.TheConstants.{SUPPLY_LIMIT}
use Rattle.tx_records.specs.declared.limits.TheConstants.{LINE_LIMIT, STREAM_LIMIT, SLOT_LIMIT, NETWORK_LIMIT, LEAST_MAJOR, OUTPUT_LIMIT, TX_LIST_LIMIT, LIST_LIMIT}
use Rattle.tx_records.specs.declared.tx.Scripts.TheVariants as scripts
use Rattle.ledger_model.specs.Ledger.{Ledger}
use Rattle.ledger_model.specs.Transaction.{tx_step}
use Rattle.run_model.specs.Genesis.{world_of_genesis}
use Rattle.tx_records.specs.declared.cert.Cert.TheVariants as certs
use Rattle.tx_records.specs.declared.reply.Rule.{Rule}
use Rattle.tx_records.specs.declared.tx.Tx.{Tx}
use Rattle.ledger_rows.proofs.Base.{h32, base, key, account_on, address_with, action, ref, spend, paying, proposing}

-- a stream has at most 2^48 bytes, a line 16,777,216; a transaction 65,535 outputs and 65,536 entries in each other list, and every other list 16,777,216 entries
pub limits_of_lengths : STREAM_LIMIT ∷ LINE_LIMIT ∷ OUTPUT_LIMIT ∷ TX_LIST_LIMIT ∷ LIST_LIMIT ∷ [] ≡ 2 ^ 48 ∷ 16777216 ∷ 65535 ∷ 65536 ∷ 16777216 ∷ []
limits_of_lengths = refl

-- the supply is at most 45,000,000,000,000,000 lovelace, a slot below 2^62, a network below 2, a major version at least 10
pub limits_of_numbers : SUPPLY_LIMIT ∷ SLOT_LIMIT ∷ NETWORK_LIMIT ∷ LEAST_MAJOR ∷ [] ≡ 45000000000000000 ∷ 2 ^ 62 ∷ 2 ∷ 10 ∷ []
limits_of_numbers = refl

abbrev pots : List Pot
pots = outputs ∷ deposits ∷ rewards ∷ fees ∷ donations ∷ treasury ∷ reserves ∷ hand ∷ []

-- each pot is the same as itself, and as no other
pub each_pot_is_itself : map (λ p. filter (same_pot p) pots) pots ≡ map (λ p. p ∷ []) pots
each_pot_is_itself = refl

-- what goes from the treasury to the treasury flows into it and out of it
abbrev round_about : List Flow
round_about = flow treasury treasury 3 ∷ flow reserves treasury 4 ∷ flow treasury rewards 5 ∷ []

pub into_the_treasury : map (λ p. sum_at sink p round_about) pots ≡ 0 ∷ 0 ∷ 5 ∷ 0 ∷ 0 ∷ 7 ∷ 0 ∷ 0 ∷ []
into_the_treasury = refl

pub out_of_the_treasury : map (λ p. sum_at source p round_about) pots ≡ 0 ∷ 0 ∷ 0 ∷ 0 ∷ 0 ∷ 8 ∷ 4 ∷ 0 ∷ []
out_of_the_treasury = refl

abbrev start : Ledger
start = (world_of_genesis base).ledger

-- what each pot holds; nothing stays in hand
pub each_pot_holds : map (λ p. held_in p (record { outputs = 1; deposits = 2; rewards = 3; fees = 4; donations = 5; treasury = 6; reserves = 7 })) pots ≡
    1 ∷ 2 ∷ 3 ∷ 4 ∷ 5 ∷ 6 ∷ 7 ∷ 0 ∷ []
each_pot_holds = refl

-- what a transaction moves: an input of 20 and a balance of 67 come; an account, outputs, fee, donation and a proposal's deposit go
pub moved_by_a_transaction : flows_of_tx start (record (spend 2 10) {
  withdrawals = (account_on 1 (key 0x10), 67) ∷ [];
  certs = certs.AccountReg (key 0x20) None None None ∷ [];
  outputs = paying (address_with 1 (key 1) None) 50 0 ∷ [];
  donation = 5;
  proposals = proposing 10 (account_on 1 (key 0x12)) actions.Info ∷ [];
}) ≡
    flow outputs hand 20 ∷ flow rewards hand 67 ∷ flow hand deposits 2 ∷ flow hand outputs 50 ∷
    flow hand fees 10 ∷ flow hand donations 5 ∷ flow hand deposits 10 ∷ []
moved_by_a_transaction = refl

-- where its scripts failed: collateral of 20 comes, and its return and the rest of it go
pub moved_by_failed_scripts : flows_of_tx start (record (spend 2 4) {
  scripts = scripts.Failed;
  collateral = ref 1 3 ∷ [];
  collateral_return = Some (paying (address_with 1 (key 1) None) 14 0);
}) ≡ flow outputs hand 20 ∷ flow hand outputs 14 ∷ flow hand fees 6 ∷ []
moved_by_failed_scripts = refl

-- a ledger with fees, donations, and an update that waits, of which one account is not registered
abbrev waiting : World
waiting = record (world_of_genesis base) {
  ledger = record start { fees = 7; donations = 3 };
  pending = Some (record { epoch = 0; from_reserves = 50; from_fees = 5; to_treasury = 10; rewards = (key 0x10, 30) ∷ (key 0x99, 15) ∷ [] });
}

pub moved_by_a_boundary : flows_of waiting (records.Block 10 1) ≡
    flow reserves hand 50 ∷ flow fees hand 5 ∷ flow hand treasury 10 ∷ flow hand rewards 30 ∷ flow hand treasury 15 ∷
    flow donations treasury 3 ∷ []
moved_by_a_boundary = refl

-- a target that is not registered is not paid
pub moved_to_targets : flows_of_targets start ((key 0x10, 7) ∷ (key 0x99, 3) ∷ []) ≡ flow treasury rewards 7 ∷ []
moved_to_targets = refl

-- what is refused moves nothing
pub moved_by_a_refused_one : flows_of waiting (records.Tx (record (spend 2 20) { inputs = [] })) ≡ []
moved_by_a_refused_one = refl

-- what blocks have counted of three entries: their pulses, no more than there are, without refused blocks and those of other epochs
pub counted_in_blocks : map (counted_of (world_of_genesis base)) (
    (records.Block 1 1 ∷ records.Block 2 1 ∷ []) ∷
    (records.Block 1 1 ∷ records.Block 2 5 ∷ []) ∷
    (records.Block 1 1 ∷ records.Block 1 1 ∷ []) ∷
    (records.Block 1 1 ∷ records.Block 2 1 ∷ records.Block 10 1 ∷ []) ∷
    []) ≡ 2 ∷ 3 ∷ 1 ∷ 1 ∷ []
counted_in_blocks = refl

-- number, place and the two numbers of each rule that is broken
abbrev broken_by : Tx → List (ℕ × Option ℕ × ℕ × ℕ)
broken_by tx = map (λ (r : Rule). (r.number, r.place, r.first, r.second)) (broken_rules start tx)

-- every rule is reported: no witnesses, no inputs, 1 byte too large, and 20 given of nothing
pub every_broken_rule : broken_by (record (spend 2 20) { inputs = []; witnessed = false; size = 16385 }) ≡
    (31, None, 0, 0) ∷ (32, None, 0, 0) ∷ (35, None, 16384, 0) ∷ (110, None, 0, 20) ∷ []
every_broken_rule = refl

-- a certificate that is refused changes nothing: the account that registers again keeps its balance, with which it may not leave
pub refused_registration : broken_by (record (spend 2 20) {
  certs = certs.AccountReg (key 0x10) None None None ∷ certs.AccountUnreg (key 0x10) None ∷ [];
}) ≡
    (60, Some 0, 0, 0) ∷ (64, Some 1, 67, 0) ∷ []
refused_registration = refl

-- a transaction that is refused leaves the ledger, and one that is not pays its fee
pub refused_changes_nothing : (tx_step start (record (spend 2 20) { inputs = [] })).0 ≡ start
refused_changes_nothing = refl

pub allowed_pays_its_fee : (tx_step start (spend 2 20)).0.fees ≡ 20
allowed_pays_its_fee = refl

abbrev proposed : ℕ → Action → Proposal
proposed n act = record { id = action n 0; action = act; deposit = 10; account = account_on 1 (key 0x12); expires_after = 2; votes = [] }

-- a motion of no confidence past its last epoch, to which a DRep said yes that has 67 of 100
abbrev late : Snapshot
late = record (world_of_genesis base).frozen {
  epoch = 3;
  proposals = record (proposed 2 (actions.NoConfidence None)) { votes = (voter.Drep (key 0x30), vote.Yes) ∷ [] } ∷ [];
}

pub late_and_ratified : ratified_of late ≡ action 2 0 ∷ []
late_and_ratified = refl

-- what is ratified is not among the expired; it would be, were it not ratified
pub ratified_is_not_expired : expired_of late (action 2 0 ∷ []) ≡ []
ratified_is_not_expired = refl

pub expired_unless_ratified : expired_of late [] ≡ action 2 0 ∷ []
expired_unless_ratified = refl

-- the delegations to what is no DRep are stake of none
pub not_registered : drep_stake (record late { dreps = [] }) (drep.Registered (key 0x30)) ≡ 0
not_registered = refl

-- nothing was enacted yet
abbrev none_enacted : LastIds
none_enacted = record { committee = None; constitution = None; hardfork = None; parameters = None }

-- a hard fork does not go back to a constitution; the next constitution does, and to the one before it
pub back_to_its_own_purpose : ids_of (kept_of (
    proposed 2 (actions.NewConstitution None (h32 1) None) ∷
    proposed 3 (actions.NewConstitution (Some (action 2 0)) (h32 2) None) ∷
    proposed 4 (actions.NewConstitution (Some (action 3 0)) (h32 3) None) ∷
    proposed 5 (actions.HardForkInitiation (Some (action 2 0)) (10, 1)) ∷
    []) [] [] none_enacted) ≡ action 2 0 ∷ action 3 0 ∷ action 4 0 ∷ []
back_to_its_own_purpose = refl

-- a fork whose previous action is not live and not enacted breaks the rule on the previous action, and none on versions
pub a_fork_of_an_unknown_version : broken_by (record (spend 2 10) {
  proposals = proposing 10 (account_on 1 (key 0x12)) (actions.HardForkInitiation (Some (action 9 0)) (12, 5)) ∷ [];
}) ≡ (90, Some 0, 0, 0) ∷ []
a_fork_of_an_unknown_version = refl

-- any version follows what is unknown, or no fork; a known version has two next ones, that of a live fork as that of now
pub forks_by_what_they_follow : map (λ (f : Option ActionId × ℕ × ℕ). follows_version (
    proposed 3 (actions.NewConstitution None (h32 2) None) ∷ proposed 4 (actions.HardForkInitiation None (10, 1)) ∷ []) none_enacted (10, 0) (actions.HardForkInitiation f.0 (f.1, f.2))) (
    (Some (action 9 0), 12, 5) ∷ (Some (action 3 0), 12, 5) ∷
    (Some (action 4 0), 12, 5) ∷ (Some (action 4 0), 10, 1) ∷ (Some (action 4 0), 10, 2) ∷ (Some (action 4 0), 11, 0) ∷
    (None, 12, 5) ∷ (None, 10, 2) ∷ (None, 10, 1) ∷ (None, 11, 0) ∷ []) ≡
    true ∷ true ∷ false ∷ false ∷ true ∷ true ∷ false ∷ false ∷ true ∷ true ∷ []
forks_by_what_they_follow = refl

-- in epoch 9, with an activity of 3 epochs: a fresh expiry is earlier than the epoch where more are dormant, and reaches just as far once they are added
pub fresh_among_many_dormant_epochs : map (λ n. fresh_expiry (record start {
  epoch = 9;
  dormant = n;
  state = record start.state { params = record start.state.params { drep_activity = 3 } };
})) (0 ∷ 3 ∷ 4 ∷ 9 ∷ []) ≡ 12 ∷ 9 ∷ 8 ∷ 3 ∷ []
fresh_among_many_dormant_epochs = refl
