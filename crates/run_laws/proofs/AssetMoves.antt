-- Each record changes the assets of outputs by what it mints and burns.
use Rattle.std.proofs.Common.{◌≡◌, ℕ, ◌+◌, List, [], Bool, true, false, Option, Some, None, refl, ap, sym, arith}
use Rattle.std.specs.Prelude.{ℤ}
use Rattle.assets.specs.Quantities.{all_burned, all_minted, quantity_of}
use Rattle.gov_ids.specs.declared.assets.AssetId.{AssetId}
use Rattle.gov_ids.specs.declared.OutRef.{OutRef}
use Rattle.book_records.specs.declared.Output.{Output}
use Rattle.book_records.specs.Outputs.{assets_in}
use Rattle.tx_records.specs.declared.record.Record.{Record}
use Rattle.tx_records.specs.declared.record.Record.TheVariants as records
use Rattle.tx_records.specs.declared.reply.Reply.TheVariants.{Refused}
use Rattle.tx_records.specs.declared.reply.Rule.{Rule}
use Rattle.tx_records.specs.declared.tx.Scripts.{Scripts}
use Rattle.tx_records.specs.declared.tx.Scripts.TheVariants.{Absent, Passed, Failed}
use Rattle.tx_records.specs.declared.tx.Tx.{Tx}
use Rattle.ledger_model.specs.Broken.{is_allowed}
use Rattle.ledger_model.specs.Ledger.{Ledger}
use Rattle.ledger_model.specs.Sound.{IsSound}
use Rattle.ledger_model.specs.Transaction.{accepted_as, ledger_after_tx}
use Rattle.ledger_model.specs.UtxoRules.{is_failed}
use Rattle.tx_balance.proofs.Mints.{failed_keeps_assets, passed_mints}
use Rattle.run_model.specs.Laws.{AssetsChangeByMint, mint_of}
use Rattle.run_model.specs.Step.{acceptance_of, crossed, enters_next, pulsed, refusal_of, step_by, world_after_accepted}
use Rattle.run_model.specs.World.{World}
use Rattle.run_laws.proofs.GoodBlock.{update_only}
use Rattle.run_laws.proofs.Reach.{allowed, reached_good}

-- outputs change by what is minted and burned
abbrev IsMintedBy : List (AssetId × ℤ) → AssetId → List (OutRef × Output) → List (OutRef × Output) → Type 0
IsMintedBy mint a old new = assets_in new a + quantity_of (all_burned mint) a ≡ assets_in old a + quantity_of (all_minted mint) a

module _ (a : AssetId) where
  outputs_stay : (mint : List (AssetId × ℤ)) (old new : List (OutRef × Output)) → mint ≡ [] → assets_in new a ≡ assets_in old a → IsMintedBy mint a old new
  outputs_stay mint old new none same =
      omega (
        arith,
        same,
        ap (λ (m : List (AssetId × ℤ)). quantity_of (all_burned m) a) none,
        ap (λ (m : List (AssetId × ℤ)). quantity_of (all_minted m) a) none,
      )

  -- a transaction, by what became of its scripts
  tx_mints : (sc : Scripts) (l : Ledger) (tx : Tx) → tx.scripts ≡ sc → IsSound l → is_allowed l tx ≡ true
      → IsMintedBy (mint_of (records.Tx tx) (accepted_as sc)) a l.outputs (ledger_after_tx l tx).outputs
  tx_mints Absent l tx e s h = passed_mints l tx s (ap is_failed e) h a
  tx_mints Passed l tx e s h = passed_mints l tx s (ap is_failed e) h a
  tx_mints Failed l tx e s h = outputs_stay [] l.outputs (ledger_after_tx l tx).outputs refl (failed_keeps_assets l tx s (ap is_failed e) h a)

  -- a block, whether or not it crosses a boundary
  block_outputs : (b : Bool) (w : World) (slot pulse : ℕ) → (pulsed slot pulse (crossed b w)).ledger.outputs ≡ w.ledger.outputs
  block_outputs true w slot pulse = ap (λ (l : Ledger). l.outputs) (sym (update_only w.pending w.ledger))
  block_outputs false w slot pulse = refl

  accepted_mints : (w : World) (r : Record) → IsSound w.ledger → refusal_of w r ≡ None → IsMintedBy (mint_of r (acceptance_of r)) a w.ledger.outputs (world_after_accepted w r).ledger.outputs
  accepted_mints w (records.Genesis x) s e = refl
  accepted_mints w (records.Block slot pulse) s e =
      let v : World = pulsed slot pulse (crossed (enters_next w.ledger slot) w) in
      outputs_stay [] w.ledger.outputs v.ledger.outputs refl (ap (λ (os : List (OutRef × Output)). assets_in os a) (block_outputs (enters_next w.ledger slot) w slot pulse))
  accepted_mints w (records.Rewards u) s e = refl
  accepted_mints w (records.Tx tx) s e = tx_mints tx.scripts w.ledger tx refl s (allowed w tx e)
  accepted_mints w (records.Print what) s e = refl

  -- a refused record mints nothing
  none_refused : (r : Record) (rule : Rule) → mint_of r (Refused rule) ≡ []
  none_refused (records.Genesis x) rule = refl
  none_refused (records.Block slot pulse) rule = refl
  none_refused (records.Rewards u) rule = refl
  none_refused (records.Tx tx) rule = refl
  none_refused (records.Print what) rule = refl

  mints_by : (o : Option Rule) (w : World) (r : Record) → IsSound w.ledger → refusal_of w r ≡ o → IsMintedBy (mint_of r (step_by o w r).1) a w.ledger.outputs (step_by o w r).0.ledger.outputs
  mints_by (Some rule) w r s e = outputs_stay (mint_of r (Refused rule)) w.ledger.outputs w.ledger.outputs (none_refused r rule) refl
  mints_by None w r s e = accepted_mints w r s e

pub assets_change_by_mint : AssetsChangeByMint
assets_change_by_mint w h r e a = mints_by a (refusal_of w r) w r (reached_good w h).ledger.sound refl
