-- Every World that records reach is good, moves by its flows, and holds its supply.
use Rattle.std.proofs.Common.{◌≡◌, ℕ, List, [], ◌∷◌, Bool, true, false, cond, Option, Some, None, is_none, refl, ap, subst, ◌∙◌}
use Rattle.std.specs.List.{list_all}
use Rattle.std.proofs.lemmas.Bool.{eqb-true, ltb-false, not-false}
use Rattle.tx_records.proofs.Parts.{own_rewards, tx_parts}
use Rattle.tx_records.specs.declared.record.Record.{Record}
use Rattle.tx_records.specs.declared.record.Record.TheVariants as records
use Rattle.tx_records.specs.declared.record.Rewards.{Rewards}
use Rattle.tx_records.specs.declared.reply.Rule.{Rule}
use Rattle.tx_records.specs.declared.tx.Tx.{Tx}
use Rattle.ledger_model.specs.Broken.{is_allowed}
use Rattle.ledger_model.specs.Moves.{IsMovedBy}
use Rattle.ledger_model.specs.Supply.{pots_of, supply_of}
use Rattle.ledger_model.proofs.Unbroken.{IsUnbroken, unbroken-cons}
use Rattle.gov_model.proofs.OneList.{one_list_is_ratified}
use Rattle.tx_balance.proofs.Sounds.{tx_moves}
use Rattle.tx_balance.proofs.Supplies.{moves_keep_supply}
use Rattle.run_model.specs.World.{World}
use Rattle.run_model.specs.BoundaryFlows.{flows_by, flows_of, flows_of_accepted, flows_of_boundary}
use Rattle.run_model.specs.Genesis.{world_of_genesis}
use Rattle.run_model.specs.Laws.{EpochsRatifyOneList, FlowsBalance, SupplyStays, StandsBetweenBoundaries, IsCoveredUpdate}
use Rattle.tx_records.specs.RecordLimits.{is_within_limits}
use Rattle.tx_records.specs.RewardsLimits as rewards_limits
use Rattle.tx_records.specs.TxLimits as tx_limits
use Rattle.run_model.specs.Runs.{IsReached, world_after_all}
use Rattle.run_model.specs.Step.{crossed, enters_next, pulsed, refusal_of, reward_checks, rewards_in, rewards_out, step, step_by, world_after_accepted}
use Rattle.epoch_balance.proofs.Covered.{payments_are_covered}
use Rattle.epoch_balance.proofs.Whole.{boundary_balances}
use Rattle.genesis_balance.proofs.Start.{genesis_holds_supply}
use Rattle.run_laws.proofs.Good.{IsGood}
use Rattle.dormant_laws.proofs.Lists.{left_of, right_of}
use Rattle.run_laws.proofs.GoodTx.{tx_good}
use Rattle.run_laws.proofs.GoodBlock.{crossed_good, pulsed_good, rewards_good}
use Rattle.run_laws.proofs.Start.{genesis_good}

-- what the rules say of an accepted update
covered : (w : World) (u : Rewards) → refusal_of w (records.Rewards u) ≡ None → IsCoveredUpdate w.ledger u
covered w u h =
    let all : IsUnbroken (reward_checks w u) = record { none = h } in
    let a = unbroken-cons _ _ all in
    let b = unbroken-cons _ _ a.1 in
    let c = unbroken-cons _ _ b.1 in
    let d = unbroken-cons _ _ c.1 in
    let e = unbroken-cons _ _ d.1 in
    record { balanced = eqb-true (rewards_in u) (rewards_out u) (not-false _ c.0); reserves_cover = ltb-false w.ledger.reserves u.from_reserves d.0; fees_cover = ltb-false w.ledger.fees u.from_fees e.0 }

pub allowed : (w : World) (tx : Tx) → refusal_of w (records.Tx tx) ≡ None → is_allowed w.ledger tx ≡ true
allowed w tx h = ap (λ (o : Option Rule). is_none o) h

-- an accepted block
block_by : (b : Bool) (w : World) (slot pulse : ℕ) → IsGood w → IsMovedBy (cond b (flows_of_boundary w) []) (pots_of w.ledger) (pots_of (pulsed slot pulse (crossed b w)).ledger)
block_by true w slot pulse g = boundary_balances w g.ledger.sound.accounts g.frozen.pending g.ledger.own (payments_are_covered w g.frozen_own g.frozen.treasury)
block_by false w slot pulse g = λ p. refl

pub accepted_moves : (w : World) (r : Record) → IsGood w → is_within_limits r ≡ true → refusal_of w r ≡ None → IsMovedBy (flows_of_accepted w r) (pots_of w.ledger) (pots_of (world_after_accepted w r).ledger)
accepted_moves w (records.Genesis x) g h e = cc
accepted_moves w (records.Block slot pulse) g h e = block_by (enters_next w.ledger slot) w slot pulse g
accepted_moves w (records.Rewards u) g h e = λ p. refl
accepted_moves w (records.Tx tx) g h e = tx_moves w.ledger tx g.ledger.sound (tx_parts tx h).withdrawals (allowed w tx e)
accepted_moves w (records.Print what) g h e = λ p. refl

moves_by : (o : Option Rule) (w : World) (r : Record) → IsGood w → is_within_limits r ≡ true → refusal_of w r ≡ o → IsMovedBy (flows_by o w r) (pots_of w.ledger) (pots_of (step_by o w r).0.ledger)
moves_by (Some rule) w r g h e = λ p. refl
moves_by None w r g h e = accepted_moves w r g h e

record_moves : (w : World) (r : Record) → IsGood w → is_within_limits r ≡ true → IsMovedBy (flows_of w r) (pots_of w.ledger) (pots_of (step w r).0.ledger)
record_moves w r g h = moves_by (refusal_of w r) w r g h refl

pub accepted_good : (w : World) (r : Record) → IsGood w → is_within_limits r ≡ true → refusal_of w r ≡ None → IsGood (world_after_accepted w r)
accepted_good w (records.Genesis x) g h e = g
accepted_good w (records.Block slot pulse) g h e = pulsed_good slot pulse (crossed (enters_next w.ledger slot) w) (crossed_good (enters_next w.ledger slot) w g)
accepted_good w (records.Rewards u) g h e = rewards_good w u g (own_rewards u h) (covered w u e)
accepted_good w (records.Tx tx) g h e = tx_good w tx g (allowed w tx e)
accepted_good w (records.Print what) g h e = g

good_by : (o : Option Rule) (w : World) (r : Record) → IsGood w → is_within_limits r ≡ true → refusal_of w r ≡ o → IsGood (step_by o w r).0
good_by (Some rule) w r g h e = g
good_by None w r g h e = accepted_good w r g h e

pub record_good : (w : World) (r : Record) → IsGood w → is_within_limits r ≡ true → IsGood (step w r).0
record_good w r g h = good_by (refusal_of w r) w r g h refl

-- a good World whose pots hold the supply s
record IsHeld (s : ℕ) (w : World) : Type 0 where
  good : IsGood w
  supply : supply_of w.ledger ≡ s

all_held : {s : ℕ} (rs : List Record) (w : World) → IsHeld s w → list_all is_within_limits rs ≡ true → IsHeld s (world_after_all w rs)
all_held [] w g h = g
all_held (r ∷ rs) w g h =
    let here : is_within_limits r ≡ true = left_of _ _ h in
    all_held rs (step w r).0
    (record {
      good = record_good w r g.good here;
      supply = moves_keep_supply (flows_of w r) (pots_of w.ledger) (pots_of (step w r).0.ledger) (record_moves w r g.good here) ∙ g.supply;
    })
    (right_of _ _ h)

reached_held : (w : World) (h : IsReached w) → IsHeld h.genesis.supply w
reached_held w h =
    subst (λ (v : World). IsHeld h.genesis.supply v) h.reached
    (all_held h.records (world_of_genesis h.genesis) (record { good = genesis_good h.genesis; supply = genesis_holds_supply h.genesis h.no_fault }) h.all_within)

pub reached_good : (w : World) → IsReached w → IsGood w
reached_good w h = (reached_held w h).good

pub flows_balance : FlowsBalance
flows_balance w h r e = record_moves w r (reached_good w h) e

pub supply_stays : SupplyStays
supply_stays w h = (reached_held w h).supply

pub epochs_ratify_one_list : EpochsRatifyOneList
epochs_ratify_one_list w h = one_list_is_ratified w.frozen (reached_held w h).good.frozen_own

pub stands_between_boundaries : StandsBetweenBoundaries
stands_between_boundaries w h = (reached_held w h).good.frozen
