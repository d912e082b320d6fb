-- What passes of each proposal of the records passes of each live one.
use Rattle.std.proofs.Common.{◌≡◌, ℕ, ◌+◌, List, [], ◌∷◌, ◌++◌, Bool, true, false, ◌&&◌, not, cond, Option, Some, None, filter, map, refl, ap, sym, subst}
use Rattle.std.specs.List.{enumerate_from, list_all}
use Rattle.std.proofs.lemmas.Bool.{and_from}
use Rattle.gov_ids.specs.declared.ActionId.{ActionId}
use Rattle.gov_ids.specs.declared.TxId.{TxId}
use Rattle.gov_actions.specs.declared.action.Action.{Action}
use Rattle.gov_actions.specs.declared.action.Proposal.{Proposal}
use Rattle.gov_model.specs.Kept.{is_kept}
use Rattle.gov_model.specs.Ratified.{expired_of, is_one_of, ratified_of}
use Rattle.tx_records.specs.declared.record.Record.{Record}
use Rattle.tx_records.specs.declared.record.Record.TheVariants as records
use Rattle.tx_records.specs.declared.reply.Rule.{Rule}
use Rattle.tx_records.specs.declared.tx.ProposalRecord.{ProposalRecord}
use Rattle.tx_records.specs.declared.tx.Scripts.{Scripts}
use Rattle.tx_records.specs.declared.tx.Scripts.TheVariants.{Absent, Passed, Failed}
use Rattle.tx_records.specs.declared.tx.Tx.{Tx}
use Rattle.ledger_model.specs.Ledger.{Ledger}
use Rattle.ledger_model.specs.Transaction.{after_scripts, last_voting_epoch, made_proposal}
use Rattle.run_model.specs.Boundary.{after_rewards, world_after_boundary}
use Rattle.run_model.specs.Genesis.{world_of_genesis}
use Rattle.run_model.specs.Runs.{world_after_all}
use Rattle.run_model.specs.Step.{crossed, enters_next, pulsed, refusal_of, step, step_by, world_after_accepted}
use Rattle.run_model.specs.World.{World}
use Rattle.dormant_laws.proofs.Lists.{left_of, right_of}
use Rattle.run_laws.proofs.GoodBlock.{update_only}
use Rattle.checkpoint_model.specs.Laws.{ReachedWereProposed, all_proposed}
use Rattle.checkpoint_model.specs.Resumable.{unvoted}
use Rattle.further_laws.proofs.Fronted.{new_of, scripts_more}

module _ (passes : ActionId → Action → Bool) where
  abbrev AllPass : List Proposal → Type 0
  AllPass ps = list_all (λ (p : Proposal). passes p.id p.action) ps ≡ true

  pass_unvoted : (ps : List Proposal) → AllPass ps → AllPass (map unvoted ps)
  pass_unvoted [] h = refl
  pass_unvoted (p ∷ ps) h = and_from (passes p.id p.action) _ (left_of _ _ h) (pass_unvoted ps (right_of _ _ h))

  pass_voted : (ps : List Proposal) → AllPass (map unvoted ps) → AllPass ps
  pass_voted [] h = refl
  pass_voted (p ∷ ps) h = and_from (passes p.id p.action) _ (left_of _ _ h) (pass_voted ps (right_of _ _ h))

  pass_append : (ps qs : List Proposal) → AllPass ps → AllPass qs → AllPass (ps ++ qs)
  pass_append [] qs h k = k
  pass_append (p ∷ ps) qs h k = and_from (passes p.id p.action) _ (left_of _ _ h) (pass_append ps qs (right_of _ _ h) k)

  pass_filter : (t : Proposal → Bool) (ps : List Proposal) → AllPass ps → AllPass (filter t ps)
  pass_filter t [] h = refl
  pass_filter t (p ∷ ps) h = elim (t p) as (λ b. AllPass (cond b (p ∷ filter t ps) (filter t ps))) [
    | true ↦ and_from (passes p.id p.action) _ (left_of _ _ h) (pass_filter t ps (right_of _ _ h))
    | false ↦ pass_filter t ps (right_of _ _ h)
  ]

  pass_made : (last : ℕ) (id : TxId) (n : ℕ) (ps : List ProposalRecord) → list_all (λ (p : ℕ × ProposalRecord). passes (record { tx = id; index = p.0 }) p.1.action) (enumerate_from n ps) ≡ true
      → AllPass (map unvoted (map (λ (p : ℕ × ProposalRecord). made_proposal last id p.0 p.1) (enumerate_from n ps)))
  pass_made last id n [] h = refl
  pass_made last id n (p ∷ ps) h = and_from (passes (record { tx = id; index = n }) p.action) _ (left_of _ _ h) (pass_made last id (n + 1) ps (right_of _ _ h))

  pass_new : (sc : Scripts) (l : Ledger) (tx : Tx) → all_proposed passes (records.Tx tx) ≡ true → AllPass (new_of sc l tx)
  pass_new Absent l tx h = pass_made (last_voting_epoch l) tx.id 0 tx.proposals h
  pass_new Passed l tx h = pass_made (last_voting_epoch l) tx.id 0 tx.proposals h
  pass_new Failed l tx h = refl

  pass_scripts : (sc : Scripts) (l : Ledger) (tx : Tx) → AllPass l.proposals → all_proposed passes (records.Tx tx) ≡ true → AllPass (after_scripts sc l tx).proposals
  pass_scripts sc l tx h k =
      pass_voted (after_scripts sc l tx).proposals
      (subst (λ (ps : List Proposal). AllPass ps) (sym (scripts_more sc l tx)) (pass_append (map unvoted l.proposals) (new_of sc l tx) (pass_unvoted l.proposals h) (pass_new sc l tx k)))

  pass_boundary : (w : World) → AllPass w.ledger.proposals → AllPass (world_after_boundary w).ledger.proposals
  pass_boundary w h =
      let l : Ledger = (after_rewards w).ledger in
      let there : AllPass l.proposals = subst (λ (ps : List Proposal). AllPass ps) (ap (λ (m : Ledger). m.proposals) (update_only w.pending w.ledger)) h in
      let stays : Proposal → Bool = λ a. not (is_one_of (ratified_of w.frozen) a) && not (is_one_of (expired_of w.frozen (ratified_of w.frozen)) a) in
      pass_filter (is_kept (filter stays l.proposals) (world_after_boundary w).ledger.state.last) (filter stays l.proposals) (pass_filter stays l.proposals there)

  pass_block : (b : Bool) (w : World) (slot pulse : ℕ) → AllPass w.ledger.proposals → AllPass (pulsed slot pulse (crossed b w)).ledger.proposals
  pass_block true w slot pulse h = pass_boundary w h
  pass_block false w slot pulse h = h

  pass_accepted : (w : World) (r : Record) → AllPass w.ledger.proposals → all_proposed passes r ≡ true → AllPass (world_after_accepted w r).ledger.proposals
  pass_accepted w (records.Genesis g) h k = h
  pass_accepted w (records.Block slot pulse) h k = pass_block (enters_next w.ledger slot) w slot pulse h
  pass_accepted w (records.Rewards u) h k = h
  pass_accepted w (records.Tx tx) h k = pass_scripts tx.scripts w.ledger tx h k
  pass_accepted w (records.Print what) h k = h

  pass_step : (o : Option Rule) (w : World) (r : Record) → AllPass w.ledger.proposals → all_proposed passes r ≡ true → AllPass (step_by o w r).0.ledger.proposals
  pass_step (Some rule) w r h k = h
  pass_step None w r h k = pass_accepted w r h k

  pass_all : (rs : List Record) (w : World) → AllPass w.ledger.proposals → list_all (all_proposed passes) rs ≡ true → AllPass (world_after_all w rs).ledger.proposals
  pass_all [] w h k = h
  pass_all (r ∷ rs) w h k = pass_all rs (step w r).0 (pass_step (refusal_of w r) w r h (left_of _ _ k)) (right_of _ _ k)

pub reached_were_proposed : ReachedWereProposed
reached_were_proposed passes w h k =
    subst (λ (v : World). list_all (λ (p : Proposal). passes p.id p.action) v.ledger.proposals ≡ true) h.reached (pass_all passes h.records (world_of_genesis h.genesis) refl k)
