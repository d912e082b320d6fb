use Rattle.std.proofs.Common.{◌≡◌, ℕ, ◌+◌, List, [], ◌∷◌, ◌++◌, None, ap, sym, subst, ◌∙◌}
use Rattle.std.specs.List.{IsDistinct}
use Rattle.std.specs.Map.{keys_of, values_of}
use Rattle.gov_ids.specs.declared.ActionId.{ActionId}
use Rattle.gov_ids.specs.contracts.ActionIdPartialEq.TheImpl as action_eq
use Rattle.gov_actions.specs.declared.action.Proposal.{Proposal}
use Rattle.gov_model.specs.Proposals.{proposal_of}
use Rattle.indexmap.specs.IndexMap.{get, insert_entry}
use Rattle.indexmap.proofs.CallerLemmas.{insert_entry-new}
use Rattle.proposal_store.specs.Store.{IsStore}
use Rattle.proposal_store.specs.Voted.{AreNoted}
use Rattle.proposal_store.proofs.Entries.{lookup_finds, values_with, IsStore-added, IsStore-counted}
use Rattle.proposal_store.proofs.Noting.{AreNoted-added, AreNoted-same, none_noted}
use Rattle.proposal_store.proofs.store.ProposalStore.append.Goals as goal

pub note_beside-requires-clause-fresh : goal.note_beside-requires-clause-fresh
note_beside-requires-clause-fresh c =
    none_noted c.self.inside.voted (values_of c.self.inside.proposals.entries) c.args.p c.self.invariant.1
    (ap (λ (ps : List Proposal). proposal_of c.args.p.id ps) c.self.view_is ∙ c.requires.absent)

pub note_beside-requires-clause-once : goal.note_beside-requires-clause-once
note_beside-requires-clause-once c = c.self.invariant.1.once

pub invariant_of-self-in_err-note_beside : goal.invariant_of-self-in_err-note_beside
invariant_of-self-in_err-note_beside c =
    let a = c.self.inside in
    let new = c.note_beside.new in
    let no = c.in_err-note_beside.ensures in
    subst (λ (es : List (ActionId × Proposal)). IsStore es new.families new.added a.deposits × AreNoted new.voted (values_of es)) (sym c.reserve.ensures.entries) (
      IsStore-counted a.proposals.entries a.families new.families a.added new.added a.deposits no.no_child no.no_count c.self.invariant.0,
      AreNoted-same a.voted new.voted (values_of a.proposals.entries) no.no_note c.self.invariant.1,
    )

pub invariant_of-self-2 : goal.invariant_of-self-2
invariant_of-self-2 c =
    let a = c.self.inside in
    let m = a.proposals in
    let p = c.args.p in
    let new = c.note_beside.new in
    let more = c.in_ok-note_beside.ensures in
    let none : proposal_of p.id (values_of m.entries) ≡ None = ap (λ (ps : List Proposal). proposal_of p.id ps) c.self.view_is ∙ c.requires.absent in
    let absent : get action_eq.eq-value.it m p.id ≡ None = lookup_finds p.id m.entries c.self.invariant.0.keyed ∙ none in
    let entries : c.insert.new.self.entries ≡ m.entries ++ (p.id, p) ∷ [] =
    c.in_ok-insert.ensures.entries ∙ (λ i. insert_entry action_eq.eq-value.it (c.reserve.ensures.entries i) (c.id.ensures i) p) ∙ insert_entry-new action_eq.eq-value.it m p.id p absent in
    subst (λ (es : List (ActionId × Proposal)). IsStore es new.families new.added (a.deposits + c.deposit.result) × AreNoted new.voted (values_of es)) (sym entries) (
      subst (λ (d : ℕ). IsStore (m.entries ++ (p.id, p) ∷ []) new.families new.added (a.deposits + d)) (sym c.deposit.ensures)
          (IsStore-added m.entries a.families new.families a.added new.added a.deposits p c.self.invariant.0 more.children more.counts c.requires.ordered (subst (λ (es : List (ActionId × Proposal)). IsDistinct action_eq.eq-value.it (keys_of es)) entries c.insert.ensures.unique)),
      subst (λ (ps : List Proposal). AreNoted new.voted ps) (sym (values_with m.entries p.id p)) (AreNoted-added a.voted new.voted (values_of m.entries) p c.self.invariant.1 none more.notes c.note_beside.ensures.apart),
    )

pub returns-clause-ok : goal.returns-clause-ok
returns-clause-ok c =
    let m = c.self.inside.proposals in
    let p = c.args.p in
    let absent : get action_eq.eq-value.it m p.id ≡ None = lookup_finds p.id m.entries c.self.invariant.0.keyed ∙ ap (λ (ps : List Proposal). proposal_of p.id ps) c.self.view_is ∙ c.requires.absent in
    let entries : c.insert.new.self.entries ≡ m.entries ++ (p.id, p) ∷ [] =
    c.in_ok-insert.ensures.entries ∙ (λ i. insert_entry action_eq.eq-value.it (c.reserve.ensures.entries i) (c.id.ensures i) p) ∙ insert_entry-new action_eq.eq-value.it m p.id p absent in
    ap (λ (es : List (ActionId × Proposal)). values_of es) entries ∙ values_with m.entries p.id p ∙ ap (λ (ps : List Proposal). ps ++ p ∷ []) c.self.view_is
