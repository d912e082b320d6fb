use Rattle.std.proofs.Common.{◌≡◌, ◌+◌, List, ◌++◌, None, map, arith, sym, subst, ap, ◌∙◌}
use Rattle.std.specs.List.{AllByRecursion}
use Rattle.std.specs.Map.{keys_of}
use Rattle.tx_records.proofs.Parts.{tx_parts}
use Rattle.book_records.specs.declared.Registered.{Registered}
use Rattle.book_records.specs.Outputs.{lovelace_in}
use Rattle.gov_actions.specs.declared.action.Proposal.{Proposal}
use Rattle.gov_actions.specs.declared.state.EnactState.{EnactState}
use Rattle.gov_ids.specs.declared.Credential.{Credential}
use Rattle.gov_ids.specs.Orders.{outref_cmp}
use Rattle.gov_model.specs.Proposals.{deposits_of}
use Rattle.draft_changes.specs.of_ledger_books.declared.Books.{Books}
use Rattle.draft_changes.specs.of_ledger_books.Parts.{ledger_of_books}
use Rattle.ledger_model.specs.Ledger.{Ledger}
use Rattle.ledger_model.specs.Transaction.{last_voting_epoch, made_outputs, made_proposals, with_votes}
use Rattle.maps.specs.Maps.{value_at, without_keys}
use Rattle.stake_book.specs.Stakes.{balances_in}
use Rattle.utxo_set.specs.Utxos.{Utxos}
use Rattle.live_ledger.specs.Kept.{IsLiveLedger}
use Rattle.live_ledger.specs.Proposed.{IsUnknown}
use Rattle.live_ledger.proofs.Committing.{passes}
use Rattle.live_ledger.proofs.Parts.{passed_parts}
use Rattle.live_ledger.proofs.state.commit.pass.Goals as goal

pub lay_over-requires : goal.lay_over-requires
lay_over-requires c =
    let p = passes (ledger_of_books c.args.b.now) c.args.tx.now c.requires.kept c.requires.within c.requires.allowed c.args.changes c.requires.passed c.requires.drafted in
    record { stake = (c.requires.kept.sound.accounts, p.before); lower = p.lower; fit = p.fit }

-- the outputs are still those of the ledger
pub apply-requires-clause-few_outputs : goal.apply-requires-clause-few_outputs
apply-requires-clause-few_outputs c = (tx_parts c.args.tx.now c.requires.within).outputs

pub apply-requires-clause-absent : goal.apply-requires-clause-absent
apply-requires-clause-absent c =
    let p = passes (ledger_of_books c.args.b.now) c.args.tx.now c.requires.kept c.requires.within c.requires.allowed c.args.changes c.requires.passed c.requires.drafted in
    subst (λ (u : Utxos). AllByRecursion (λ r. value_at outref_cmp (without_keys outref_cmp c.args.tx.now.inputs u.outputs) r ≡ None) (keys_of (made_outputs c.args.tx.now))) (sym c.in_ok-lay_over.ensures.rest.outputs) p.absent

pub apply-requires-clause-room : goal.apply-requires-clause-room
apply-requires-clause-room c =
    let p = passes (ledger_of_books c.args.b.now) c.args.tx.now c.requires.kept c.requires.within c.requires.allowed c.args.changes c.requires.passed c.requires.drafted in
    omega (
      arith,
      p.room,
      ap (λ (u : Utxos). lovelace_in (without_keys outref_cmp c.args.tx.now.inputs u.outputs)) c.in_ok-lay_over.ensures.rest.outputs,
      ap (λ (es : List (Credential × Registered)). balances_in es) c.in_ok-lay_over.ensures.accounts,
    )

pub apply-requires-clause-few_proposals : goal.apply-requires-clause-few_proposals
apply-requires-clause-few_proposals c = (tx_parts c.args.tx.now c.requires.within).proposals

pub apply-requires-clause-unknown : goal.apply-requires-clause-unknown
apply-requires-clause-unknown c =
    let p = passes (ledger_of_books c.args.b.now) c.args.tx.now c.requires.kept c.requires.within c.requires.allowed c.args.changes c.requires.passed c.requires.drafted in
    subst (λ (ps : List Proposal). IsUnknown c.args.tx.now.id (map (with_votes c.args.tx.now) ps)) (sym c.in_ok-lay_over.ensures.proposals) p.unknown

pub apply-requires-clause-deposits : goal.apply-requires-clause-deposits
apply-requires-clause-deposits c =
    let p = passes (ledger_of_books c.args.b.now) c.args.tx.now c.requires.kept c.requires.within c.requires.allowed c.args.changes c.requires.passed c.requires.drafted in
    omega (arith, p.deposits, ap (λ (ps : List Proposal). deposits_of (map (with_votes c.args.tx.now) ps)) c.in_ok-lay_over.ensures.proposals)

pub overflow_add-b : goal.overflow_add-b
overflow_add-b c =
    let p = passes (ledger_of_books c.args.b.now) c.args.tx.now c.requires.kept c.requires.within c.requires.allowed c.args.changes c.requires.passed c.requires.drafted in
    omega (arith, p.fee, ap (λ (x : Books). x.fees) c.in_ok-lay_over.ensures.others)

pub overflow_add-b-2 : goal.overflow_add-b-2
overflow_add-b-2 c =
    let p = passes (ledger_of_books c.args.b.now) c.args.tx.now c.requires.kept c.requires.within c.requires.allowed c.args.changes c.requires.passed c.requires.drafted in
    omega (arith, p.donation, ap (λ (x : Books). x.donations) c.in_ok-lay_over.ensures.others)

-- the votes of those that left have gone, and the votes and the proposals of the transaction have come; the books are those of the ledger after its changes
pub returns : goal.returns
returns c =
    let b = c.args.b.now in
    let l = ledger_of_books b in
    let tx = c.args.tx.now in
    let p = passes (ledger_of_books c.args.b.now) c.args.tx.now c.requires.kept c.requires.within c.requires.allowed c.args.changes c.requires.passed c.requires.drafted in
    let laid = c.in_ok-lay_over.ensures in
    let now = c.lay_over.new.b in
    let stake = c.apply.new.stake in
    let proposals = c.apply.new.proposals in
    let proposed = c.in_ok-apply.ensures.proposed
    ∙ ap (λ n. map (with_votes tx) now.proposals ++ made_proposals (b.epoch + n) tx) (c.from.ensures ∙ ap (λ (s : EnactState). s.params.gov_action_lifetime) c.get.ensures)
    ∙ ap (λ (ps : List Proposal). map (with_votes tx) ps ++ made_proposals (last_voting_epoch l) tx) laid.proposals in
    let is = ap (λ (x : Books). ledger_of_books (record x { stake = stake; proposals = proposals; fees = x.fees + tx.fee; donations = x.donations + tx.donation })) laid.others
    ∙ passed_parts l tx b.stake c.args.changes now.stake stake now.pools now.dreps now.hot proposals laid.accounts laid.rest c.in_ok-apply.ensures.made laid.pools laid.dreps laid.hot proposed in
    record { ledger = is ∙ p.is; kept = subst (λ (x : Ledger). IsLiveLedger x) (sym is) p.kept; frozen = c.in_ok-apply.ensures.made.kept.frozen ∙ laid.rest.frozen }
