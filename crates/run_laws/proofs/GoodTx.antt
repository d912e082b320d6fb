-- A transaction keeps a World good.
use Rattle.std.proofs.Common.{◌≡◌, ℕ, ◌+◌, ◌<◌, ◌≤◌, List, [], ◌∷◌, ◌++◌, Bool, true, false, map, refl, ap, sym, subst, ◌∙◌, arith}
use Rattle.std.specs.List.{AllByRecursion, IsDistinct, enumerate_from}
use Rattle.maps.specs.Maps.{has_member, with_key}
use Rattle.maps.proofs.Ties.{is_equal}
use Rattle.gov_ids.specs.declared.ActionId.{ActionId}
use Rattle.gov_ids.specs.declared.TxId.{TxId}
use Rattle.gov_ids.specs.Orders.{txid_cmp}
use Rattle.gov_ids.specs.Same.{same_action}
use Rattle.gov_ids.proofs.Exacts.{action_id_exact}
use Rattle.gov_actions.specs.declared.action.Proposal.{Proposal}
use Rattle.gov_actions.specs.declared.state.EnactState.{EnactState}
use Rattle.gov_model.specs.Laws.{HaveDistinctIds}
use Rattle.gov_model.specs.Ratified.{ids_of}
use Rattle.tx_records.specs.declared.tx.ProposalRecord.{ProposalRecord}
use Rattle.tx_records.specs.declared.tx.Scripts.{Scripts}
use Rattle.tx_records.specs.declared.tx.Scripts.TheVariants.{Absent, Passed, Failed}
use Rattle.tx_records.specs.declared.tx.Tx.{Tx}
use Rattle.ledger_model.specs.Ledger.{Ledger}
use Rattle.ledger_model.specs.Broken.{is_allowed}
use Rattle.ledger_model.specs.Draft.{last_draft}
use Rattle.ledger_model.specs.Transaction.{after_passed, after_scripts, last_voting_epoch, ledger_after_tx, made_proposal, made_proposals, with_votes}
use Rattle.tx_balance.proofs.OutputParts.{parts_of, id_is_new}
use Rattle.tx_balance.proofs.Sounds.{IsSteady, kept, still_used, new_used, tx_steady, allowed_stays_sound}
use Rattle.run_model.specs.World.{World}
use Rattle.run_laws.proofs.Good.{IsGood, IsGoodLedger}
use Rattle.dormant_laws.proofs.Lists.{all_weaken, all_append, own_append}

abbrev IsGiven : List TxId → ActionId → Type 0
IsGiven used a = has_member txid_cmp used a.tx ≡ true

abbrev HasOwnIds : Ledger → Type 0
HasOwnIds l = HaveDistinctIds l.proposals × AllByRecursion (IsGiven l.used) (ids_of l.proposals)

-- the ids of new proposals
abbrev new_ids : TxId → ℕ → List ProposalRecord → List ActionId
new_ids id n ps = map (λ p. let a : ActionId = record { tx = id; index = p.0 } in a) (enumerate_from n ps)

other_index : (id : TxId) (i j : ℕ) (b : Bool) → i < j → same_action (record { tx = id; index = i }) (record { tx = id; index = j }) ≡ b → b ≡ false
other_index id i j true lt e = absurd (
    let one : i ≡ j = ap (λ (a : ActionId). a.index) (action_id_exact (record { tx = id; index = i }) (record { tx = id; index = j }) (is_equal _ e)) in omega arith
    )
other_index id i j false lt e = refl

later : (id : TxId) (i n : ℕ) (ps : List ProposalRecord) → i < n → AllByRecursion (λ a. same_action (record { tx = id; index = i }) a ≡ false) (new_ids id n ps)
later id i n [] lt = tt
later id i n (p ∷ ps) lt = (other_index id i n _ lt refl, later id i (n + 1) ps (omega arith))

new_own : (id : TxId) (n : ℕ) (ps : List ProposalRecord) → IsDistinct same_action (new_ids id n ps)
unfolding IsDistinct
new_own id n [] = tt
new_own id n (p ∷ ps) = (later id n (n + 1) ps (omega arith), new_own id (n + 1) ps)

other_tx : (used : List TxId) (a : ActionId) (id : TxId) (i : ℕ) (b : Bool) → has_member txid_cmp used a.tx ≡ true → has_member txid_cmp used id ≡ false → same_action a (record { tx = id; index = i }) ≡ b → b ≡ false
other_tx used a id i true h n e =
    let one : a.tx ≡ id = ap (λ (x : ActionId). x.tx) (action_id_exact a (record { tx = id; index = i }) (is_equal _ e)) in
    let yes : has_member txid_cmp used id ≡ true = ap (λ (t : TxId). has_member txid_cmp used t) (sym one) ∙ h in cc
other_tx used a id i false h n e = refl

apart_one : (used : List TxId) (a : ActionId) (id : TxId) (n : ℕ) (ps : List ProposalRecord) → has_member txid_cmp used a.tx ≡ true → has_member txid_cmp used id ≡ false → AllByRecursion (λ y. same_action a y ≡ false) (new_ids id n ps)
apart_one used a id n [] h f = tt
apart_one used a id n (p ∷ ps) h f = (other_tx used a id n _ h f refl, apart_one used a id (n + 1) ps h f)

new_ids_used : (used : List TxId) (id : TxId) (n : ℕ) (ps : List ProposalRecord) → AllByRecursion (λ (a : ActionId). has_member txid_cmp (with_key txid_cmp id used) a.tx ≡ true) (new_ids id n ps)
new_ids_used used id n [] = tt
new_ids_used used id n (p ∷ ps) = (new_used used id, new_ids_used used id (n + 1) ps)

-- the ids of all proposals after a transaction
pub ids_append : (xs ys : List Proposal) → ids_of (xs ++ ys) ≡ ids_of xs ++ ids_of ys
ids_append [] ys = refl
ids_append (x ∷ xs) ys = ap (λ (list : List ActionId). x.id ∷ list) (ids_append xs ys)

ids_voted : (tx : Tx) (ps : List Proposal) → ids_of (map (with_votes tx) ps) ≡ ids_of ps
ids_voted tx [] = refl
ids_voted tx (p ∷ ps) = ap (λ (list : List ActionId). p.id ∷ list) (ids_voted tx ps)

ids_made : (last : ℕ) (id : TxId) (n : ℕ) (ps : List ProposalRecord) → ids_of (map (λ p. made_proposal last id p.0 p.1) (enumerate_from n ps)) ≡ new_ids id n ps
ids_made last id n [] = refl
ids_made last id n (p ∷ ps) = ap (λ (list : List ActionId). let a : ActionId = record { tx = id; index = n } in a ∷ list) (ids_made last id (n + 1) ps)

passed_own : (l : Ledger) (tx : Tx) → IsGoodLedger l → has_member txid_cmp l.used tx.id ≡ false → HasOwnIds (after_passed l tx)
passed_own l tx g fresh =
    let d : Ledger = last_draft l tx in
    let old : List ActionId = ids_of l.proposals in
    let new : List ActionId = new_ids tx.id 0 tx.proposals in
    let now : List TxId = with_key txid_cmp tx.id l.used in
    let ids : ids_of (after_passed l tx).proposals ≡ old ++ new =
    ids_append (map (with_votes tx) d.proposals) (made_proposals (last_voting_epoch l) tx)
    ∙ ap (λ (list : List ActionId). list ++ ids_of (made_proposals (last_voting_epoch l) tx)) (ids_voted tx d.proposals ∙ (kept l tx g.sound).ids)
    ∙ ap (λ (list : List ActionId). old ++ list) (ids_made (last_voting_epoch l) tx.id 0 tx.proposals) in
    let apart : AllByRecursion (λ x. AllByRecursion (λ y. same_action x y ≡ false) new) old =
    all_weaken (IsGiven l.used) (λ x. AllByRecursion (λ y. same_action x y ≡ false) new) (λ a h. apart_one l.used a tx.id 0 tx.proposals h fresh) old g.used in (
      subst (λ (list : List ActionId). IsDistinct same_action list) (sym ids) (own_append old new g.own (new_own tx.id 0 tx.proposals) apart),
      subst (λ (list : List ActionId). AllByRecursion (IsGiven now) list) (sym ids)
          (all_append (IsGiven now) old new (all_weaken (IsGiven l.used) (IsGiven now) (λ a e. still_used l.used tx.id a.tx e) old g.used) (new_ids_used l.used tx.id 0 tx.proposals)),
    )

own_by : (sc : Scripts) (l : Ledger) (tx : Tx) → IsGoodLedger l → has_member txid_cmp l.used tx.id ≡ false → HasOwnIds (after_scripts sc l tx)
own_by Absent l tx g fresh = passed_own l tx g fresh
own_by Passed l tx g fresh = passed_own l tx g fresh
own_by Failed l tx g fresh = (g.own, all_weaken (IsGiven l.used) (IsGiven (with_key txid_cmp tx.id l.used)) (λ a e. still_used l.used tx.id a.tx e) (ids_of l.proposals) g.used)

pub tx_good : (w : World) (tx : Tx) → IsGood w → is_allowed w.ledger tx ≡ true → IsGood (record w { ledger = ledger_after_tx w.ledger tx })
tx_good w tx g allowed =
    let l : Ledger = w.ledger in
    let s : IsSteady l (ledger_after_tx l tx) = tx_steady l tx g.ledger.sound in
    let state : l.state ≡ (ledger_after_tx l tx).state = ap (λ (x : Ledger). x.state) s.only in
    let own : HasOwnIds (ledger_after_tx l tx) = own_by tx.scripts l tx g.ledger (id_is_new l tx (parts_of l tx allowed)) in
    record {
      ledger = record { sound = allowed_stays_sound l tx g.ledger.sound allowed; own = own.0; used = own.1 };
      frozen_own = g.frozen_own;
      frozen = record {
        epoch = g.frozen.epoch ∙ ap (λ (x : Ledger). x.epoch) s.only;
        state = subst (λ (x : EnactState). x ≡ record w.frozen.start { treasury = x.treasury }) state g.frozen.state;
        treasury = subst (λ (x : EnactState). w.frozen.start.treasury ≤ x.treasury) state g.frozen.treasury;
        pending = λ u e. let c = g.frozen.pending u e in
            record { balanced = c.balanced; reserves_cover = omega (arith, c.reserves_cover, ap (λ (x : Ledger). x.reserves) s.only); fees_cover = omega (arith, c.fees_cover, s.fees) };
        live = λ a h. s.live a (g.frozen.live a h);
      };
    }
