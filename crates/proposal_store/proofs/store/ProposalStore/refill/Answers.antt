use Rattle.std.proofs.Common.{◌≡◌, Bool, true, false, not, List, ◌∷◌, ◌++◌, cond, filter, ap, sym, subst, ◌∙◌, arith}
use Rattle.std.specs.List.{IsDistinct}
use Rattle.std.specs.Map.{values_of}
use Rattle.gov_ids.specs.declared.ActionId.{ActionId}
use Rattle.gov_ids.specs.Orders.{action_id_cmp}
use Rattle.gov_ids.specs.Same.{same_action}
use Rattle.maps.specs.Maps.{has_member}
use Rattle.gov_actions.specs.declared.action.Proposal.{Proposal}
use Rattle.gov_model.specs.Ratified.{ids_of}
use Rattle.gov_model.specs.Proposals.{deposits_of}
use Rattle.gov_model.proofs.KeptOf.{own_filter}
use Rattle.proposal_store.specs.Store.{AllOrdered, is_in, is_out}
use Rattle.proposal_store.proofs.Retaining.{fresh, part_paid, paid_at, ordered_at, ordered_filter, taken, passed_over}
use Rattle.proposal_store.proofs.store.ProposalStore.refill.Goals as goal

-- the kept ones, p and those behind it are all that are to be kept
whole : (f : Proposal → Bool) (p : Proposal) (front all : List Proposal) (es rest : List (ActionId × Proposal)) (id : ActionId) → f p ≡ true → es ≡ (id, p) ∷ rest → front ++ filter f (values_of es) ≡ all
    → all ≡ front ++ p ∷ filter f (values_of rest)
whole f p front all es rest id passes steps h =
    sym h ∙ ap (λ (l : List (ActionId × Proposal)). front ++ filter f (values_of l)) steps ∙ ap (λ b. front ++ cond b (p ∷ filter f (values_of rest)) (filter f (values_of rest))) passes

pub append-requires-clause-absent : goal.append-requires-clause-absent
append-requires-clause-absent c =
    let f = is_in c.args.keep.now.keys in
    let all = whole f c.in-Some.p c.loop-p.self _ _ c.next.new.self _ (ap (λ (id : ActionId). has_member action_id_cmp c.args.keep.now.keys id) (sym c.id.ensures) ∙ sym c.contains.ensures ∙ c.if-contains.true) c.in-Some.ensures.steps c.loop-p.invariant.kept in
    fresh c.loop-p.self (filter f (values_of c.next.new.self)) c.in-Some.p (subst (λ (ps : List Proposal). IsDistinct same_action (ids_of ps)) all (own_filter f (values_of c.args.proposals.entries) c.requires.distinct))

pub append-requires-clause-fits : goal.append-requires-clause-fits
append-requires-clause-fits c =
    let f = is_in c.args.keep.now.keys in
    let all = whole f c.in-Some.p c.loop-p.self _ _ c.next.new.self _ (ap (λ (id : ActionId). has_member action_id_cmp c.args.keep.now.keys id) (sym c.id.ensures) ∙ sym c.contains.ensures ∙ c.if-contains.true) c.in-Some.ensures.steps c.loop-p.invariant.kept in
    omega (
      arith,
      ap (λ (ps : List Proposal). deposits_of ps) all,
      paid_at c.loop-p.self (filter f (values_of c.next.new.self)) c.in-Some.p,
      part_paid f (values_of c.args.proposals.entries),
      c.requires.fit,
    )

pub append-requires-clause-ordered : goal.append-requires-clause-ordered
append-requires-clause-ordered c =
    let f = is_in c.args.keep.now.keys in
    let all = whole f c.in-Some.p c.loop-p.self _ _ c.next.new.self _ (ap (λ (id : ActionId). has_member action_id_cmp c.args.keep.now.keys id) (sym c.id.ensures) ∙ sym c.contains.ensures ∙ c.if-contains.true) c.in-Some.ensures.steps c.loop-p.invariant.kept in
    ordered_at c.loop-p.self (filter f (values_of c.next.new.self)) c.in-Some.p (subst (λ (ps : List Proposal). AllOrdered ps) all (ordered_filter f (values_of c.args.proposals.entries) c.requires.ordered))

pub loop-p-preserved-in-Continue-1 : goal.loop-p-preserved-in-Continue-1
loop-p-preserved-in-Continue-1 c =
    let set = c.args.keep.now.keys in
    let passes : is_in set c.in-Some.p ≡ true = ap (λ (id : ActionId). has_member action_id_cmp set id) (sym c.id.ensures) ∙ sym c.contains.ensures ∙ c.if-contains.true in
    let seen = c.in-Some.ensures.steps in
    let rest = values_of c.next.new.self in
    record {
      kept = ap (λ (ps : List Proposal). ps ++ filter (is_in set) rest) c.in_ok-append.ensures.ok
          ∙ taken (is_in set) c.in-Some.p c.loop-p.self rest _ passes (sym (ap (λ (l : List (ActionId × Proposal)). c.loop-p.self ++ filter (is_in set) (values_of l)) seen) ∙ c.loop-p.invariant.kept);
      removed = passed_over (is_out set) c.in-Some.p c.loop-p.removed.items rest _ (ap not passes) (sym (ap (λ (l : List (ActionId × Proposal)). c.loop-p.removed.items ++ filter (is_out set) (values_of l)) seen) ∙ c.loop-p.invariant.removed);
    }

pub loop-p-preserved : goal.loop-p-preserved
loop-p-preserved c =
    let set = c.args.keep.now.keys in
    let fails : is_in set c.in-Some.p ≡ false = ap (λ (id : ActionId). has_member action_id_cmp set id) (sym c.id.ensures) ∙ sym c.contains.ensures ∙ c.if-contains.false in
    let seen = c.in-Some.ensures.steps in
    let rest = values_of c.next.new.self in
    record {
      kept = passed_over (is_in set) c.in-Some.p c.loop-p.self rest _ fails (sym (ap (λ (l : List (ActionId × Proposal)). c.loop-p.self ++ filter (is_in set) (values_of l)) seen) ∙ c.loop-p.invariant.kept);
      removed = ap (λ (ps : List Proposal). ps ++ filter (is_out set) rest) c.in_ok-push.ensures.items
          ∙ taken (is_out set) c.in-Some.p c.loop-p.removed.items rest _ (ap not fails) (sym (ap (λ (l : List (ActionId × Proposal)). c.loop-p.removed.items ++ filter (is_out set) (values_of l)) seen) ∙ c.loop-p.invariant.removed);
    }
