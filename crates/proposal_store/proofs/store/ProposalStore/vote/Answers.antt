use Rattle.std.proofs.Common.{◌≡◌, List, Some, None, ap, sym, subst, ◌∙◌}
use Rattle.std.specs.HashMap.{HashMap}
use Rattle.std.specs.Map.{values_of, set_value}
use Rattle.std.proofs.lemmas.Result.{on_ok_weaker, on_err_weaker}
use Rattle.std.proofs.lemmas.Map.Steps.{set_value_same}
use Rattle.gov_ids.specs.declared.ActionId.{ActionId}
use Rattle.gov_ids.specs.contracts.ActionIdPartialEq.TheImpl as action_eq
use Rattle.gov_actions.specs.declared.action.Proposal.{Proposal}
use Rattle.gov_model.specs.Proposals.{proposal_of, with_vote, with_change}
use Rattle.proposal_store.specs.Changes.{changing}
use Rattle.proposal_store.specs.Store.{IsStore}
use Rattle.proposal_store.specs.Voted.{AreNoted}
use Rattle.proposal_store.proofs.Noting.{AreNoted-voted, found_noted}
use Rattle.proposal_store.proofs.Entries.{lookup_finds}
use Rattle.proposal_store.proofs.Voting.{values_each, IsStore-voted, change_absent, set_value-each, changing_votes, setting_votes, put_votes, put_ordered, found_ordered}
use Rattle.proposal_store.proofs.store.ProposalStore.vote.Goals as goal

pub returns-in-None-clause-ok : goal.returns-in-None-clause-ok
returns-in-None-clause-ok c =
    let id = c.args.id.now in
    let es = c.self.inside.proposals.entries in
    let f = with_vote c.args.v c.args.vote in
    let absent : proposal_of id c.args.self.now ≡ None = sym (ap (λ (ps : List Proposal). proposal_of id ps) c.self.view_is) ∙ sym (lookup_finds id es c.self.invariant.0.keyed) ∙ sym c.in-None.ensures.value in
    ap (λ (m : HashMap ActionId Proposal _). values_of m.entries) c.get_mut.follows.holds-at-none ∙ c.self.view_is ∙ sym (change_absent id f c.args.self.now absent)

pub returns-in-Some-clause-ok : goal.returns-in-Some-clause-ok
returns-in-Some-clause-ok c =
    let id = c.args.id.now in
    let es = c.self.inside.proposals.entries in
    let p = c.in-Some.p.now in
    let f = with_vote c.args.v c.args.vote in
    on_ok_weaker c.vote.result
    (λ h. ap (λ (l : List (ActionId × Proposal)). values_of l) (
    (c.get_mut.follows.holds c.vote.new.self).0
    ∙ ap (λ (q : Proposal). set_value (action_eq.eq-value.it id) es q) h
    ∙ set_value-each id f p es c.self.invariant.0.keyed c.self.invariant.0.distinct (sym c.in-Some.ensures.value)
    )
    ∙ values_each (changing id f) es
    ∙ ap (λ (ps : List Proposal). with_change id f ps) c.self.view_is)
    c.vote.ensures.ok

pub returns-in-Some-clause-err : goal.returns-in-Some-clause-err
returns-in-Some-clause-err c =
    let id = c.args.id.now in
    let es = c.self.inside.proposals.entries in
    let p = c.in-Some.p.now in
    on_err_weaker c.vote.result
    (λ h. ap (λ (l : List (ActionId × Proposal)). values_of l) (
    (c.get_mut.follows.holds c.vote.new.self).0
    ∙ ap (λ (q : Proposal). set_value (action_eq.eq-value.it id) es q) h
    ∙ set_value_same (action_eq.eq-value.it id) es p (sym c.in-Some.ensures.value)
    )
    ∙ c.self.view_is)
    c.vote.ensures.err

pub vote-requires-clause-noted : goal.vote-requires-clause-noted
vote-requires-clause-noted c =
    let es = c.self.inside.proposals.entries in
    let found : proposal_of c.args.id.now (values_of es) ≡ Some c.in-Some.p.now = sym (lookup_finds c.args.id.now es c.self.invariant.0.keyed) ∙ sym c.in-Some.ensures.value in
    found_noted c.self.inside.voted c.args.id.now c.in-Some.p.now (values_of es) c.self.invariant.1 found

pub vote-requires-clause-once : goal.vote-requires-clause-once
vote-requires-clause-once c = c.self.invariant.1.once

pub invariant_of-self : goal.invariant_of-self
invariant_of-self c =
    let id = c.args.id.now in
    let a = c.self.inside in
    let es = a.proposals.entries in
    let p = c.in-Some.p.now in
    let new = c.vote.new.self in
    let notes = c.vote.new.voted in
    let votes = new.votes in
    let ok = c.vote.ensures.ok in
    let err = c.vote.ensures.err in
    let there = sym c.in-Some.ensures.value in
    let found : proposal_of id (values_of es) ≡ Some p = sym (lookup_finds id es c.self.invariant.0.keyed) ∙ there in
    let alone : new ≡ record p { votes = votes } = put_votes c.vote.result p new c.args.v c.args.vote ok err in
    let ordered = put_ordered c.vote.result p new c.args.v c.args.vote ok err (found_ordered id p es c.self.invariant.0.ordered there) in
    let f : Proposal → Proposal = λ q. record q { votes = votes } in
    subst (λ (l : List (ActionId × Proposal)). IsStore l a.families a.added a.deposits × AreNoted notes (values_of l))
    (sym ((c.get_mut.follows.holds new).0 ∙ ap (λ (q : Proposal). set_value (action_eq.eq-value.it id) es q) alone ∙ set_value-each id f p es c.self.invariant.0.keyed c.self.invariant.0.distinct there)) (
      IsStore-voted (changing id f) (changing_votes id f (setting_votes votes ordered)) es a.families a.added a.deposits c.self.invariant.0,
      subst (λ (ps : List Proposal). AreNoted notes ps) (sym (values_each (changing id f) es))
          (AreNoted-voted a.voted notes id p new (values_of es) found c.vote.ensures.notes c.vote.ensures.apart c.self.invariant.1),
    )
