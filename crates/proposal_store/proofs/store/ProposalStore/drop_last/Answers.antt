use Rattle.std.proofs.Common.{◌≡◌, ℕ, ◌-◌, List, [], ◌∷◌, ◌++◌, ap, sym, subst, ◌∙◌}
use Rattle.std.specs.List.{IsDistinct}
use Rattle.std.specs.Map.{values_of}
use Rattle.gov_ids.specs.declared.ActionId.{ActionId}
use Rattle.gov_ids.specs.declared.Credential.{Credential}
use Rattle.gov_ids.specs.Same.{same_action}
use Rattle.gov_actions.specs.declared.action.Action.{Action}
use Rattle.gov_actions.specs.declared.action.Proposal.{Proposal}
use Rattle.gov_model.specs.Ratified.{ids_of}
use Rattle.proposal_store.specs.Added.{count_among, count_at, members_added}
use Rattle.proposal_store.specs.Store.{IsStore}
use Rattle.proposal_store.specs.Voted.{AreNoted}
use Rattle.proposal_store.proofs.Entries.{IsStore-front, values_with}
use Rattle.proposal_store.proofs.Noting.{AreNoted-front}
use Rattle.proposal_store.proofs.store.ProposalStore.drop_last.Goals as goal

pub invariant_of-self-2 : goal.invariant_of-self-2
invariant_of-self-2 c =
    let a = c.self.inside in
    let front = c.pop.new.self.entries in
    let id = c.in-Some.field-0-0 in
    let p = c.in-Some.p in
    let entries : a.proposals.entries ≡ front ++ (id, p) ∷ [] = c.in-Some.ensures.entries in
    let values : values_of (front ++ (id, p) ∷ []) ≡ values_of front ++ p ∷ [] = values_with front id p in
    let store : IsStore (front ++ (id, p) ∷ []) a.families a.added a.deposits = subst (λ (es : List (ActionId × Proposal)). IsStore es a.families a.added a.deposits) entries c.self.invariant.0 in
    let notes : AreNoted a.voted (values_of front ++ p ∷ []) =
    subst (λ (ps : List Proposal). AreNoted a.voted ps) values (subst (λ (es : List (ActionId × Proposal)). AreNoted a.voted (values_of es)) entries c.self.invariant.1) in
    let lowered : (q : Credential) → count_at c.lower.new.self q ≡ count_at a.added q - count_among q (members_added p.action) = λ q.
    c.lower.ensures q ∙ ap (λ (m : List (Credential × ℕ)). count_at a.added q - count_among q m) (c.new_members.ensures ∙ ap (λ (x : Action). members_added x) c.action.ensures) in (
      subst (λ (d : ℕ). IsStore front c.forget_last.new.self c.lower.new.self (a.deposits - d)) (sym c.deposit.ensures)
          (IsStore-front front id p a.families c.forget_last.new.self a.added c.lower.new.self a.deposits store c.forget_last.ensures lowered),
      AreNoted-front a.voted c.forget_votes.new.voted (values_of front) p (subst (λ (ps : List Proposal). IsDistinct same_action (ids_of ps)) values store.distinct) c.forget_votes.ensures.without c.forget_votes.ensures.once notes,
    )
