-- A change of votes leaves what the store keeps.
use Rattle.std.proofs.Common.{◌≡◌, ℕ, true, false, cond, List, [], ◌∷◌, map, filter, Option, Some, None, Result, Ok, Err, OnOk, OnErr, refl, ap, sym, subst, ◌∙◌, arith}
use Rattle.std.specs.List.{AllByRecursion, IsDistinct}
use Rattle.std.specs.Map.{values_of, lookup, set_value}
use Rattle.std.proofs.lemmas.List.Sums.{sum_by-cons}
use Rattle.std.proofs.lemmas.Cmp.{eq_by_cmp_equiv}
use Rattle.gov_ids.specs.declared.ActionId.{ActionId}
use Rattle.gov_ids.specs.declared.Voter.{Voter}
use Rattle.gov_ids.specs.contracts.ActionIdPartialEq.TheImpl as action_eq
use Rattle.gov_ids.specs.Orders.{voter_cmp}
use Rattle.gov_ids.specs.Same.{same_action}
use Rattle.gov_ids.proofs.Sames.{action_same}
use Rattle.gov_ids.proofs.Totals.{action_id_total, voter_total}
use Rattle.gov_actions.specs.declared.action.Action.{Action}
use Rattle.gov_actions.specs.declared.action.Proposal.{Proposal}
use Rattle.gov_actions.specs.declared.action.Purpose.{Purpose}
use Rattle.gov_actions.specs.declared.action.Vote.{Vote}
use Rattle.gov_model.specs.Ratified.{ids_of}
use Rattle.gov_model.specs.Proposals.{proposal_of, is_child, children_of, deposits_of, with_vote, without_vote, with_change}
use Rattle.maps.proofs.Kept.{IsMap-with_value, IsMap-without_key}
use Rattle.maps.specs.Maps.{IsMap}
use Rattle.proposal_store.specs.declared.families.Parent.{Parent}
use Rattle.proposal_store.specs.Added.{times_added}
use Rattle.proposal_store.specs.Changes.{each, changing}
use Rattle.proposal_store.specs.Store.{AllKeyed, AllOrdered, IsStore}
use Rattle.proposal_store.proofs.Adding.{Counts, kept_by}

-- only votes are changed, and they stay in order
pub record ChangesVotes (g : Proposal → Proposal) : Type 0 where
  pub ids : (p : Proposal) → (g p).id ≡ p.id
  pub actions : (p : Proposal) → (g p).action ≡ p.action
  pub deposits : (p : Proposal) → (g p).deposit ≡ p.deposit
  pub ordered : (p : Proposal) → IsMap voter_cmp p.votes → IsMap voter_cmp (g p).votes

pub values_each : (g : Proposal → Proposal) (es : List (ActionId × Proposal)) → values_of (each g es) ≡ map g (values_of es)
values_each g [] = refl
values_each g (e ∷ es) = ap (λ (l : List Proposal). g e.1 ∷ l) (values_each g es)

module _ (g : Proposal → Proposal) (c : ChangesVotes g) where
  keyed_each : (es : List (ActionId × Proposal)) → AllKeyed es → AllKeyed (each g es)
  keyed_each [] h = tt
  keyed_each (e ∷ es) h = (h.0 ∙ sym (c.ids e.1), keyed_each es h.1)

  ids_each : (ps : List Proposal) → ids_of (map g ps) ≡ ids_of ps
  ids_each [] = refl
  ids_each (p ∷ ps) = λ i. c.ids p i ∷ ids_each ps i

  deposits_each : (ps : List Proposal) → deposits_of (map g ps) ≡ deposits_of ps
  deposits_each [] = refl
  deposits_each (p ∷ ps) = omega (
    arith,
    c.deposits p,
    deposits_each ps,
    sum_by-cons (λ (q : Proposal). q.deposit) (g p) (map g ps),
    sum_by-cons (λ (q : Proposal). q.deposit) p ps,
  )

  ordered_each : (ps : List Proposal) → AllOrdered ps → AllOrdered (map g ps)
  ordered_each [] h = tt
  ordered_each (p ∷ ps) h = (c.ordered p h.0, ordered_each ps h.1)

  same_child : (purpose : Purpose) (previous : Option ActionId) (p : Proposal) → is_child purpose previous (g p) ≡ is_child purpose previous p
  same_child purpose previous p = ap (λ (a : Action). is_child purpose previous (record p { action = a })) (c.actions p)

  children_each : (purpose : Purpose) (previous : Option ActionId) (ps : List Proposal) → children_of purpose previous (map g ps) ≡ children_of purpose previous ps
  children_each purpose previous [] = refl
  children_each purpose previous (p ∷ ps) =
      let of_rest : List Proposal = filter (is_child purpose previous) ps in
      let of_changed : List Proposal = filter (is_child purpose previous) (map g ps) in
      let later : ids_of of_changed ≡ ids_of of_rest = children_each purpose previous ps in
      ap (λ b. ids_of (cond b (g p ∷ of_changed) of_changed)) (same_child purpose previous p)
      ∙ elim (is_child purpose previous p) as (λ b. ids_of (cond b (g p ∷ of_changed) of_changed) ≡ ids_of (cond b (p ∷ of_rest) of_rest)) [
        | true ↦ λ i. c.ids p i ∷ later i
        | false ↦ later
      ]

  pub IsStore-voted : (es : List (ActionId × Proposal)) (index : List (Parent × List ActionId)) (counts : Counts) (sum : ℕ) → IsStore es index counts sum → IsStore (each g es) index counts sum
  IsStore-voted es index counts sum h =
      let values : values_of (each g es) ≡ map g (values_of es) = values_each g es in
      record {
        keyed = keyed_each es h.keyed;
        distinct = subst (λ (ids : List ActionId). IsDistinct same_action ids) (sym (ap (λ (ps : List Proposal). ids_of ps) values ∙ ids_each (values_of es))) h.distinct;
        children = λ q. h.children q ∙ sym (ap (λ (ps : List Proposal). children_of q.purpose q.previous ps) values ∙ children_each q.purpose q.previous (values_of es));
        added = λ q. h.added q ∙ sym (ap (λ (ps : List Proposal). times_added q ps) values ∙ kept_by g c.actions q (values_of es));
        deposits = h.deposits ∙ sym (ap (λ (ps : List Proposal). deposits_of ps) values ∙ deposits_each (values_of es));
        ordered = subst (λ (ps : List Proposal). AllOrdered ps) (sym values) (ordered_each (values_of es) h.ordered);
      }

-- where there is none, nothing changes
pub change_absent : (id : ActionId) (f : Proposal → Proposal) (ps : List Proposal) → proposal_of id ps ≡ None → with_change id f ps ≡ ps
change_absent id f [] h = refl
change_absent id f (p ∷ ps) h =
    elim (same_action p.id id) as (λ b. cond b (Some p) (proposal_of id ps) ≡ None → cond b (f p) p ∷ with_change id f ps ≡ p ∷ ps) [
      | true ↦ λ h. cc
      | false ↦ λ h. ap (λ (l : List Proposal). p ∷ l) (change_absent id f ps h)
    ] h

pub each_absent : (id : ActionId) (f : Proposal → Proposal) (es : List (ActionId × Proposal)) → proposal_of id (values_of es) ≡ None → each (changing id f) es ≡ es
each_absent id f [] h = refl
each_absent id f (e ∷ es) h =
    elim (same_action e.1.id id) as (λ b. cond b (Some e.1) (proposal_of id (values_of es)) ≡ None → (e.0, cond b (f e.1) e.1) ∷ each (changing id f) es ≡ e ∷ es) [
      | true ↦ λ h. cc
      | false ↦ λ h. ap (λ (l : List (ActionId × Proposal)). e ∷ l) (each_absent id f es h)
    ] h

-- no other has the id of one that ties with it
pub none_else : (id x : ActionId) (ps : List Proposal) → same_action x id ≡ true → AllByRecursion (λ q. same_action x q ≡ false) (ids_of ps) → proposal_of id ps ≡ None
none_else id x [] t h = refl
none_else id x (p ∷ ps) t h =
    let other : same_action p.id id ≡ false = (eq_by_cmp_equiv action_id_total).symm p.id id ∙ sym ((eq_by_cmp_equiv action_id_total).congr x id p.id t) ∙ h.0 in
    ap (λ b. cond b (Some p) (proposal_of id ps)) other ∙ none_else id x ps t h.1

-- a proposal that is written where one of its id stood is that one, changed
pub set_value-each : (id : ActionId) (f : Proposal → Proposal) (p : Proposal) (es : List (ActionId × Proposal)) → AllKeyed es → IsDistinct same_action (ids_of (values_of es))
    → lookup (action_eq.eq-value.it id) es ≡ Some p → set_value (action_eq.eq-value.it id) es (f p) ≡ each (changing id f) es
unfolding IsDistinct
set_value-each id f p [] h d m = cc
set_value-each id f p (e ∷ es) h d m =
    let here : action_eq.eq-value.it id e.0 ≡ same_action e.1.id id = (λ i. action_same i id (h.0 i)) ∙ (eq_by_cmp_equiv action_id_total).symm id e.1.id in
    let m2 : cond (same_action e.1.id id) (Some e.1) (lookup (action_eq.eq-value.it id) es) ≡ Some p = ap (λ b. cond b (Some e.1) (lookup (action_eq.eq-value.it id) es)) (sym here) ∙ m in
    ap (λ b. cond b ((e.0, f p) ∷ es) (e ∷ set_value (action_eq.eq-value.it id) es (f p))) here
    ∙ elim (same_action e.1.id id) as (λ b. same_action e.1.id id ≡ b → cond b (Some e.1) (lookup (action_eq.eq-value.it id) es) ≡ Some p
    → cond b ((e.0, f p) ∷ es) (e ∷ set_value (action_eq.eq-value.it id) es (f p)) ≡ (e.0, cond b (f e.1) e.1) ∷ each (changing id f) es) [
      | true ↦ λ t m.
          let value : p ≡ e.1 = cc in
          let rest : each (changing id f) es ≡ es = each_absent id f es (none_else id e.1.id (values_of es) t d.0) in
          λ i. (e.0, f (value i)) ∷ sym rest i
      | false ↦ λ t m. ap (λ (l : List (ActionId × Proposal)). e ∷ l) (set_value-each id f p es h.1 d.1 m)
    ] refl m2

-- f only where the id is
pub changing_votes : (id : ActionId) (f : Proposal → Proposal) → ChangesVotes f → ChangesVotes (changing id f)
changing_votes id f c = record {
  ids = λ p. elim (same_action p.id id) as (λ b. (cond b (f p) p).id ≡ p.id) [ true ↦ c.ids p | false ↦ refl ];
  actions = λ p. elim (same_action p.id id) as (λ b. (cond b (f p) p).action ≡ p.action) [ true ↦ c.actions p | false ↦ refl ];
  deposits = λ p. elim (same_action p.id id) as (λ b. (cond b (f p) p).deposit ≡ p.deposit) [ true ↦ c.deposits p | false ↦ refl ];
  ordered = λ p h. elim (same_action p.id id) as (λ b. IsMap voter_cmp (cond b (f p) p).votes) [ true ↦ c.ordered p h | false ↦ h ];
}

-- votes that are in order in any case
pub setting_votes : (votes : List (Voter × Vote)) → IsMap voter_cmp votes → ChangesVotes (λ p. record p { votes = votes })
setting_votes votes h = record { ids = λ p. refl; actions = λ p. refl; deposits = λ p. refl; ordered = λ p _. h }

-- votes without those of a voter
pub dropping_votes : (v : Voter) → ChangesVotes (without_vote v)
dropping_votes v = record { ids = λ p. refl; actions = λ p. refl; deposits = λ p. refl; ordered = λ p h. IsMap-without_key voter_cmp v p.votes h }

-- a proposal with one vote put in, or as it was, has other votes alone
pub put_votes : {T E : Type 0} (r : Result T E) (old new : Proposal) (v : Voter) (vote : Vote) → OnOk r (new ≡ with_vote v vote old) → OnErr r (new ≡ old) → new ≡ record old { votes = new.votes }
put_votes (Ok x) old new v vote ok err = ok ∙ sym (ap (λ (q : Proposal). record old { votes = q.votes }) ok)
put_votes (Err e) old new v vote ok err = err ∙ sym (ap (λ (q : Proposal). record old { votes = q.votes }) err)

-- and they are in order
pub put_ordered : {T E : Type 0} (r : Result T E) (old new : Proposal) (v : Voter) (vote : Vote) → OnOk r (new ≡ with_vote v vote old) → OnErr r (new ≡ old) → IsMap voter_cmp old.votes → IsMap voter_cmp new.votes
put_ordered (Ok x) old new v vote ok err h = subst (λ (q : Proposal). IsMap voter_cmp q.votes) (sym ok) (IsMap-with_value voter_total v vote old.votes h)
put_ordered (Err e) old new v vote ok err h = subst (λ (q : Proposal). IsMap voter_cmp q.votes) (sym err) h

-- the votes of a proposal that is found are in order
pub found_ordered : (id : ActionId) (p : Proposal) (es : List (ActionId × Proposal)) → AllOrdered (values_of es) → lookup (action_eq.eq-value.it id) es ≡ Some p → IsMap voter_cmp p.votes
found_ordered id p [] h m = cc
found_ordered id p (e ∷ es) h m =
    elim (action_eq.eq-value.it id e.0) as (λ b. cond b (Some e.1) (lookup (action_eq.eq-value.it id) es) ≡ Some p → IsMap voter_cmp p.votes) [
      | true ↦ λ m. let is : e.1 ≡ p = cc in subst (λ (q : Proposal). IsMap voter_cmp q.votes) is h.0
      | false ↦ λ m. found_ordered id p es h.1 m
    ] m

-- each proposal is at its id, each id once, and votes are in order
pub record IsListed (es : List (ActionId × Proposal)) : Type 0 where
  pub keyed : AllKeyed es
  pub distinct : IsDistinct same_action (ids_of (values_of es))
  pub ordered : AllOrdered (values_of es)

pub IsListed-changed : (g : Proposal → Proposal) → ChangesVotes g → (es new : List (ActionId × Proposal)) → new ≡ each g es → AllKeyed es → IsDistinct same_action (ids_of (values_of es)) → AllOrdered (values_of es) → IsListed new
IsListed-changed g c es new is keyed distinct ordered =
    let values : values_of (each g es) ≡ map g (values_of es) = values_each g es in
    subst (λ (l : List (ActionId × Proposal)). IsListed l) (sym is) (record {
      keyed = keyed_each g c es keyed;
      distinct = subst (λ (ids : List ActionId). IsDistinct same_action ids) (sym (ap (λ (ps : List Proposal). ids_of ps) values ∙ ids_each g c (values_of es))) distinct;
      ordered = subst (λ (ps : List Proposal). AllOrdered ps) (sym values) (ordered_each g c (values_of es) ordered);
    })
