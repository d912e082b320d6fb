use Rattle.std.proofs.Common.{List, map, ap, sym, subst, ◌∙◌}
use Rattle.std.specs.List.{AllZip}
use Rattle.book_records.specs.declared.Output.{Output}
use Rattle.draft_changes.specs.declared.changed_names.ChangedNames.{ChangedNames}
use Rattle.gov_actions.specs.declared.action.Proposal.{Proposal}
use Rattle.gov_ids.specs.declared.Credential.{Credential}
use Rattle.gov_ids.specs.declared.OutRef.{OutRef}
use Rattle.gov_ids.specs.Orders.{credential_cmp, pool_cmp}
use Rattle.ledger_model.specs.Transaction.{made_outputs, with_votes}
use Rattle.proposal_store.specs.Leaving.{without_votes_of}
use Rattle.run_model.specs.SoundWorld.{AreSoundProposals}
use Rattle.tx_records.proofs.Parts.{tx_parts}
use Rattle.undo_before.specs.Names.{account_names, drep_names}
use Rattle.undo_before.specs.Old.{old_at, old_outputs}
use Rattle.undo_before.proofs.Passed.{passed_entries}
use Rattle.undo_model.specs.Holds.{HoldsOldVotes}
use Rattle.utxo_set.specs.Utxos.{Utxos}
use Rattle.undo_before.proofs.transactions.entries_of_passed.Goals as goal

pub outputs_of_passed-requires : goal.outputs_of_passed-requires
outputs_of_passed-requires c = record { few = (tx_parts c.args.tx.now c.requires.within).outputs }

pub votes_of_passed-requires : goal.votes_of_passed-requires
votes_of_passed-requires c = record { sound = subst (λ (ps : List Proposal). AreSoundProposals ps) (sym c.proposals.ensures) c.live-live.ensures.sound.ledger.proposals }

pub returns : goal.returns
returns c =
    let l = c.args.s.now.ledger in
    let tx = c.args.tx.now in
    let changes = c.args.changes.now in
    let names = c.in_ok-names.ensures.names in
    let left = c.as_slice-3.ensures ∙ ap (λ (n : ChangedNames). n.left) names in
    let votes = c.in_ok-votes.votes in
    passed_entries l tx changes (record {
      outputs = c.in_ok-outputs.outputs;
      accounts = c.in_ok-accounts.accounts;
      pools = c.in_ok-pools.pools;
      dreps = c.in_ok-dreps.dreps;
      hot = c.in_ok-hot.hot;
      votes = votes;
    })
    c.live-live.ensures.sound.ledger.maps c.requires.allowed c.requires.drafted
    (c.in_ok-outputs.ensures ∙ ap (λ (os : List (OutRef × Output)). old_outputs tx.inputs (made_outputs tx) os) (ap (λ (u : Utxos). u.outputs) c.outputs.ensures.value ∙ c.stake-stake.ensures.outputs))
    (c.in_ok-accounts.ensures ∙ (λ i. old_at credential_cmp (c.stake-stake.ensures.accounts i) (account_names (names i) (c.stake-stake.ensures.accounts i))))
    (c.in_ok-pools.ensures ∙ (λ i. old_at pool_cmp (c.pools.ensures i) (c.as_slice.ensures i)) ∙ ap (λ (n : ChangedNames). old_at pool_cmp l.pools n.pools) names)
    (c.in_ok-dreps.ensures ∙ (λ i. old_at credential_cmp (c.dreps.ensures.dreps i) (drep_names (names i) (c.dreps.ensures.dreps i))))
    (c.in_ok-hot.ensures ∙ (λ i. old_at credential_cmp (c.hot.ensures i) (c.as_slice-2.ensures i)) ∙ ap (λ (n : ChangedNames). old_at credential_cmp l.hot n.hot) names)
    (subst (λ (ps : List Proposal). AllZip (HoldsOldVotes votes) ps (map (with_votes tx) (map (without_votes_of changes.left) ps))) c.proposals.ensures
    (subst (λ (cs : List Credential). AllZip (HoldsOldVotes votes) c.proposals.result.now (map (with_votes tx) (map (without_votes_of cs) c.proposals.result.now))) left c.in_ok-votes.ensures))
