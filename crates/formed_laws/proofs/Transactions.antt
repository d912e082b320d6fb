-- An allowed transaction of the form keeps the form of a ledger's parts.
use Rattle.std.proofs.Common.{◌≡◌, ℕ, ◌+◌, ◌^◌, ◌<◌, ◌≤◌, List, [], ◌∷◌, true, false, cond, Option, Some, None, filter, length, map, refl, arith}
use Rattle.std.specs.List.{AllByRecursion, enumerate_from, list_all}
use Rattle.std.specs.Option.{option_to_list}
use Rattle.std.proofs.lemmas.Bool.{and_from, lt-ltb, ltb-true}
use Rattle.maps.specs.Maps.{without_keys}
use Rattle.maps.specs.Words.{none_or}
use Rattle.maps.proofs.Sets.{all-with_key}
use Rattle.gov_ids.specs.declared.ActionId.{ActionId}
use Rattle.gov_ids.specs.declared.TxId.{TxId}
use Rattle.gov_ids.specs.Orders.{outref_cmp, txid_cmp, voter_cmp}
use Rattle.gov_ids.specs.Same.{same_action}
use Rattle.gov_actions.specs.declared.action.Proposal.{Proposal}
use Rattle.tx_records.proofs.Parts.{TxParts, tx_parts}
use Rattle.tx_records.specs.declared.limits.TheConstants.{OUTPUT_LIMIT, TX_LIST_LIMIT}
use Rattle.tx_records.specs.declared.tx.ProposalRecord.{ProposalRecord}
use Rattle.tx_records.specs.declared.tx.Scripts.{Scripts}
use Rattle.tx_records.specs.declared.tx.Scripts.TheVariants.{Absent, Passed, Failed}
use Rattle.tx_records.specs.declared.tx.Tx.{Tx}
use Rattle.tx_records.specs.declared.tx.TxOutput.{TxOutput}
use Rattle.tx_records.specs.declared.tx.VoteRecord.{VoteRecord}
use Rattle.tx_records.specs.Limits.{is_u64}
use Rattle.tx_records.specs.TxLimits as tx_limits
use Rattle.ledger_model.specs.Broken.{body_checks, first_broken, tx_checks}
use Rattle.ledger_model.specs.Draft.{last_draft}
use Rattle.ledger_model.specs.Ledger.{Ledger}
use Rattle.ledger_model.specs.Transaction.{after_failed, after_passed, after_scripts, kept_output, last_voting_epoch, ledger_after_tx, made_outputs, made_proposal, made_proposals, made_return, votes_on, with_votes}
use Rattle.ledger_model.specs.UtxoRules.{unless_failed, utxo_checks}
use Rattle.ledger_model.proofs.Unbroken.{IsUnbroken, unbroken-append}
use Rattle.tx_balance.proofs.Passed.{body_parts}
use Rattle.dormant_laws.proofs.Lists.{all_append, all_made, all_weaken, left_of, right_of}
use Rattle.text_forms.specs.Ids.{is_ref, is_tx_id, is_voter}
use Rattle.formed_laws.specs.Records.{is_cast, is_cert, is_formed_tx, is_made_output, is_proposed}
use Rattle.formed_laws.specs.Worlds.{is_conway_fork}
use Rattle.formed_laws.proofs.Certs.{by_draft}
use Rattle.formed_laws.proofs.Each.{Each, each-filter, each-with_values}
use Rattle.formed_laws.proofs.Forks.{forks_of}
use Rattle.formed_laws.proofs.Parts.{HasDeposits, HasParts, IsKept, has_deposits, is_any, is_kept_output}

-- what of a transaction has the form
record IsFormedTx (tx : Tx) : Type 0 where
  id : is_tx_id tx.id ≡ true
  outputs : list_all is_made_output tx.outputs ≡ true
  returned : none_or is_made_output tx.collateral_return ≡ true
  certs : list_all is_cert tx.certs ≡ true
  proposals : list_all is_proposed tx.proposals ≡ true
  votes : list_all is_cast tx.votes ≡ true

formed_tx : (tx : Tx) → is_formed_tx tx ≡ true → IsFormedTx tx
formed_tx tx h =
    let proposals = left_of _ _ h in
    let certs = left_of _ _ proposals in
    let returned = left_of _ _ certs in
    let outputs = left_of _ _ returned in
    record { id = left_of _ _ outputs; outputs = right_of _ _ outputs; returned = right_of _ _ returned; certs = right_of _ _ certs; proposals = right_of _ _ proposals; votes = right_of _ _ h }

-- ---- outputs

made_each : (id : TxId) (n : ℕ) (os : List TxOutput) → is_tx_id id ≡ true → n + length os ≤ OUTPUT_LIMIT → list_all is_made_output os ≡ true
    → Each is_ref is_kept_output (map (λ (p : ℕ × TxOutput). (record { tx = id; index = p.0 }, kept_output p.1)) (enumerate_from n os))
made_each id n [] h l f = tt
made_each id n (o ∷ os) h l f =
    ((and_from _ _ h (lt-ltb n (2 ^ 16) (omega (arith, l))), left_of (is_made_output o) (list_all is_made_output os) f), made_each id (n + 1) os h (omega (arith, l)) (right_of (is_made_output o) (list_all is_made_output os) f))

return_each : (id : TxId) (n : ℕ) (o : Option TxOutput) → is_tx_id id ≡ true → n ≤ OUTPUT_LIMIT → none_or is_made_output o ≡ true
    → Each is_ref is_kept_output (map (λ (x : TxOutput). (record { tx = id; index = n }, kept_output x)) (option_to_list o))
return_each id n None h l f = tt
return_each id n (Some o) h l f = ((and_from _ _ h (lt-ltb n (2 ^ 16) (omega (arith, l))), f), tt)

-- ---- proposals

made_kept : (last : ℕ) (id : TxId) (n : ℕ) (ps : List ProposalRecord) → is_u64 last ≡ true → is_tx_id id ≡ true → n + length ps ≤ TX_LIST_LIMIT → list_all is_proposed ps ≡ true
    → AllByRecursion (λ (p : ProposalRecord). is_conway_fork p.action ≡ true) ps → AllByRecursion IsKept (map (λ (p : ℕ × ProposalRecord). made_proposal last id p.0 p.1) (enumerate_from n ps))
made_kept last id n [] e h l f g = tt
made_kept last id n (p ∷ ps) e h l f g =
    let form : is_proposed p ≡ true = left_of (is_proposed p) (list_all is_proposed ps) f in
    let kept : IsKept (made_proposal last id n p) = record {
      id = and_from _ _ h (lt-ltb n (2 ^ 16) (omega (arith, l)));
      action = right_of _ _ form;
      fork = g.0;
      deposit = left_of _ _ (left_of _ _ form);
      account = right_of _ _ (left_of _ _ form);
      last = e;
      votes = tt;
    } in
    (kept, made_kept last id (n + 1) ps e h (omega (arith, l)) (right_of (is_proposed p) (list_all is_proposed ps) f) g.1)

cast_each : (id : ActionId) (vs : List VoteRecord) → list_all is_cast vs ≡ true → Each is_voter is_any (map (λ (v : VoteRecord). (v.voter, v.vote)) (filter (λ (v : VoteRecord). same_action v.action id) vs))
cast_each id [] f = tt
cast_each id (v ∷ vs) f =
    elim (same_action v.action id) as (λ b. Each is_voter is_any (map (λ (x : VoteRecord). (x.voter, x.vote)) (cond b (v ∷ filter (λ (x : VoteRecord). same_action x.action id) vs) (filter (λ (x : VoteRecord). same_action x.action id) vs)))) [
      | true ↦ ((left_of _ _ (left_of (is_cast v) (list_all is_cast vs) f), refl), cast_each id vs (right_of (is_cast v) (list_all is_cast vs) f))
      | false ↦ cast_each id vs (right_of (is_cast v) (list_all is_cast vs) f)
    ]

voted : (tx : Tx) (p : Proposal) → list_all is_cast tx.votes ≡ true → IsKept p → IsKept (with_votes tx p)
voted tx p f k = record {
  id = k.id;
  action = k.action;
  fork = k.fork;
  deposit = k.deposit;
  account = k.account;
  last = k.last;
  votes = each-with_values is_voter is_any voter_cmp (votes_on tx p.id) p.votes (cast_each p.id tx.votes f) k.votes;
}

-- ---- the ledger

module _ (l : Ledger) (tx : Tx) (h : HasParts l) (f : IsFormedTx tx) (limits : TxParts tx) (early : l.epoch ≤ 2 ^ 62) where
  last_fits : is_u64 (last_voting_epoch l) ≡ true
  last_fits =
      let deposits : HasDeposits l.state.params = has_deposits l.state.params h.state.params in
      let life : l.state.params.gov_action_lifetime < 2 ^ 32 = ltb-true l.state.params.gov_action_lifetime (2 ^ 32) deposits.lifetime in
      lt-ltb (last_voting_epoch l) (2 ^ 64) (omega (arith, life, early))

  passed_parts : AllByRecursion (λ (p : ProposalRecord). is_conway_fork p.action ≡ true) tx.proposals → HasParts (after_passed l tx)
  passed_parts forks =
      let d : Ledger = last_draft l tx in
      let k : HasParts d = by_draft l tx f.certs h in
      record {
        network = k.network;
        long = k.long;
        state = k.state;
        outputs = each-with_values is_ref is_kept_output outref_cmp (made_outputs tx) (without_keys outref_cmp tx.inputs l.outputs)
            (made_each tx.id 0 tx.outputs f.id (omega (arith, limits.outputs)) f.outputs) (each-filter is_ref is_kept_output _ l.outputs h.outputs);
        used = all-with_key txid_cmp (λ (t : TxId). is_tx_id t ≡ true) tx.id l.used f.id h.used;
        accounts = k.accounts;
        pools = k.pools;
        dreps = k.dreps;
        hot = k.hot;
        proposals = all_append IsKept (map (with_votes tx) d.proposals) (made_proposals (last_voting_epoch l) tx)
            (all_made IsKept IsKept (with_votes tx) (λ p x. voted tx p f.votes x) d.proposals k.proposals)
            (made_kept (last_voting_epoch l) tx.id 0 tx.proposals last_fits f.id (omega (arith, limits.proposals)) f.proposals forks);
      }

  failed_parts : HasParts (after_failed l tx)
  failed_parts = record {
    network = h.network;
    long = h.long;
    state = h.state;
    outputs = each-with_values is_ref is_kept_output outref_cmp (made_return tx) (without_keys outref_cmp tx.collateral l.outputs)
        (return_each tx.id (length tx.outputs) tx.collateral_return f.id limits.outputs f.returned) (each-filter is_ref is_kept_output _ l.outputs h.outputs);
    used = all-with_key txid_cmp (λ (t : TxId). is_tx_id t ≡ true) tx.id l.used f.id h.used;
    accounts = h.accounts;
    pools = h.pools;
    dreps = h.dreps;
    hot = h.hot;
    proposals = h.proposals;
  }

  body_forks : IsUnbroken (body_checks l tx) → AllByRecursion (λ (p : ProposalRecord). is_conway_fork p.action ≡ true) tx.proposals
  body_forks e =
      forks_of l (last_draft l tx) 0 tx.proposals (all_weaken IsKept (λ (p : Proposal). is_conway_fork p.action ≡ true) (λ p k. k.fork) l.proposals h.proposals)
      (right_of _ _ h.state.version) (body_parts l tx e).proposals

  scripts_parts : (sc : Scripts) → IsUnbroken (unless_failed sc (body_checks l tx)) → HasParts (after_scripts sc l tx)
  scripts_parts Absent e = passed_parts (body_forks e)
  scripts_parts Passed e = passed_parts (body_forks e)
  scripts_parts Failed e = failed_parts

pub tx_keeps_parts : (l : Ledger) (tx : Tx) → HasParts l → is_formed_tx tx ≡ true → tx_limits.is_within_limits tx ≡ true → l.epoch ≤ 2 ^ 62 → first_broken l tx ≡ None → HasParts (ledger_after_tx l tx)
tx_keeps_parts l tx h f within early e =
    let all : IsUnbroken (tx_checks l tx) = record { none = e } in
    let body = (unbroken-append (utxo_checks l tx) (unless_failed tx.scripts (body_checks l tx)) all).1 in
    scripts_parts l tx h (formed_tx tx f) (tx_parts tx within) early tx.scripts body
