-- What is noted of the votes of DReps, and what stays noted.
use Rattle.std.proofs.Common.{◌≡◌, ℕ, ◌+◌, ◌<◌, length, get_or, drop, add-one, true, false, cond, not, ◌||◌, ◌&&◌, List, [], ◌∷◌, ◌++◌, map, Option, Some, None, IfSome, is_some, option_map, unwrap_or, if◌then◌else◌, refl, ap, sym, subst, ◌∙◌}
use Rattle.std.proofs.Math.Seq.{drop-cons}
use Rattle.std.specs.List.{AllByRecursion, IsDistinct}
use Rattle.std.specs.Map.{values_of}
use Rattle.std.specs.Ordering.{eq_by_cmp}
use Rattle.std.proofs.lemmas.Cmp.{eq_by_cmp_equiv}
use Rattle.gov_actions.specs.declared.action.Proposal.{Proposal}
use Rattle.gov_actions.specs.declared.action.Vote.{Vote}
use Rattle.gov_ids.specs.declared.ActionId.{ActionId}
use Rattle.gov_ids.specs.declared.Credential.{Credential}
use Rattle.gov_ids.specs.declared.Voter.{Voter}
use Rattle.gov_ids.specs.declared.Voter.TheVariants as voter
use Rattle.gov_ids.specs.Orders.{action_id_cmp, credential_cmp, voter_cmp}
use Rattle.gov_ids.proofs.Exacts.{action_id_exact, credential_exact}
use Rattle.gov_ids.proofs.Totals.{action_id_total, voter_total}
use Rattle.gov_model.specs.Ratified.{ids_of}
use Rattle.gov_model.specs.Proposals.{proposal_of, without_vote}
use Rattle.maps.proofs.Lookups.{has_key-without_key, value_at-without_key, without_key_absent}
use Rattle.maps.proofs.Ties.{same_key}
use Rattle.maps.specs.Maps.{IsMap, has_member, value_at, without_key, without_member}
use Rattle.maps.specs.Words.{or_else, some_and}
use Rattle.gov_ids.specs.Same.{same_action}
use Rattle.proposal_store.specs.Changes.{changing, dropping, each}
use Rattle.proposal_store.specs.Store.{AllOrdered}
use Rattle.proposal_store.specs.Voted.{has_vote, is_drep, is_noted, is_voted_on, noted_of, AreNoted, AreOnce}
use Rattle.proposal_store.proofs.Once.{has_last, has_left_out, distinct_left_out}
use Rattle.proposal_store.proofs.Retaining.{fresh}

-- notes of DReps
abbrev pub Notes : Type 0
Notes = List (Credential × List ActionId)

-- ---- one more

-- the notes have the proposal of the DRep beside those before
abbrev pub HasOneMore : Credential → ActionId → Notes → Notes → Type 0
HasOneMore drep id old new = (c : Credential) → noted_of new c ≡ (if eq_by_cmp credential_cmp drep c then noted_of old c ++ id ∷ [] else noted_of old c)

-- where the look-up finds what was noted before
pub has_one_more : (drep : Credential) (id : ActionId) (ids : List ActionId) (old new : Notes) → ((c : Credential) → value_at credential_cmp new c ≡ cond (eq_by_cmp credential_cmp drep c) (Some (ids ++ id ∷ [])) (value_at credential_cmp old c))
    → noted_of old drep ≡ ids → HasOneMore drep id old new
has_one_more drep id ids old new at is c =
    ap (λ (o : Option (List ActionId)). unwrap_or o []) (at c)
    ∙ elim (eq_by_cmp credential_cmp drep c) as (λ b. eq_by_cmp credential_cmp drep c ≡ b → unwrap_or (cond b (Some (ids ++ id ∷ [])) (value_at credential_cmp old c)) [] ≡ cond b (noted_of old c ++ id ∷ []) (noted_of old c)) [
      | true ↦ λ t. ap (λ (l : List ActionId). l ++ id ∷ []) (sym is ∙ ap (λ (q : Credential). noted_of old q) (same_key credential_exact drep c t))
      | false ↦ λ _. refl
    ] refl

-- ---- look-ups

-- with one more at the end
found_last : (id : ActionId) (ps : List Proposal) (p : Proposal) → proposal_of id (ps ++ p ∷ []) ≡ or_else (proposal_of id ps) (cond (same_action p.id id) (Some p) None)
found_last id [] p = refl
found_last id (q ∷ ps) p =
    elim (same_action q.id id) as (λ b. cond b (Some q) (proposal_of id (ps ++ p ∷ [])) ≡ or_else (cond b (Some q) (proposal_of id ps)) (cond (same_action p.id id) (Some p) None)) [
      | true ↦ refl
      | false ↦ found_last id ps p
    ]

or_none : (o : Option Proposal) → or_else o None ≡ o
or_none None = refl
or_none (Some p) = refl

-- each changed, with its id
found_mapped : (g : Proposal → Proposal) → ((p : Proposal) → (g p).id ≡ p.id) → (id : ActionId) (ps : List Proposal) → proposal_of id (map g ps) ≡ option_map g (proposal_of id ps)
found_mapped g same id [] = refl
found_mapped g same id (p ∷ ps) =
    (λ i. cond (same_action (same p i) id) (Some (g p)) (found_mapped g same id ps i))
    ∙ elim (same_action p.id id) as (λ b. cond b (Some (g p)) (option_map g (proposal_of id ps)) ≡ option_map g (cond b (Some p) (proposal_of id ps))) [ true ↦ refl | false ↦ refl ]

changed_here : (id : ActionId) (f : Proposal → Proposal) (q : ActionId) (p : Proposal) → same_action p.id q ≡ true → Some (changing id f p) ≡ cond (same_action id q) (Some (f p)) (Some p)
changed_here id f q p t =
    let is : p.id ≡ q = same_key action_id_exact p.id q t in
    ap (λ (x : ActionId). Some (cond (same_action x id) (f p) p)) is
    ∙ ap (λ b. Some (cond b (f p) p)) ((eq_by_cmp_equiv action_id_total).symm q id)
    ∙ elim (same_action id q) as (λ b. Some (cond b (f p) p) ≡ cond b (Some (f p)) (Some p)) [ true ↦ refl | false ↦ refl ]

changed_or_not : (id : ActionId) (f : Proposal → Proposal) (q : ActionId) (ps : List Proposal) → option_map (changing id f) (proposal_of q ps) ≡ cond (same_action id q) (option_map f (proposal_of q ps)) (proposal_of q ps)
changed_or_not id f q [] = elim (same_action id q) as (λ b. ◌≡◌ {A = Option Proposal} None (cond b None None)) [ true ↦ refl | false ↦ refl ]
changed_or_not id f q (p ∷ ps) =
    elim (same_action p.id q) as (λ b. same_action p.id q ≡ b → option_map (changing id f) (cond b (Some p) (proposal_of q ps)) ≡ cond (same_action id q) (option_map f (cond b (Some p) (proposal_of q ps))) (cond b (Some p) (proposal_of q ps))) [
      | true ↦ λ t. changed_here id f q p t
      | false ↦ λ _. changed_or_not id f q ps
    ] refl

-- the one of an id changed, with its id
found_changed : (id : ActionId) (f : Proposal → Proposal) → ((p : Proposal) → (f p).id ≡ p.id) → (q : ActionId) (ps : List Proposal)
    → proposal_of q (map (changing id f) ps) ≡ cond (same_action id q) (option_map f (proposal_of q ps)) (proposal_of q ps)
found_changed id f same q ps =
    found_mapped (changing id f) (λ p. elim (same_action p.id id) as (λ b. (cond b (f p) p).id ≡ p.id) [ true ↦ same p | false ↦ refl ]) q ps
    ∙ changed_or_not id f q ps

-- the votes of what is found are in order
ordered_found : (id : ActionId) (ps : List Proposal) → AllOrdered ps → IfSome (proposal_of id ps) (λ p. IsMap voter_cmp p.votes)
ordered_found id [] o = tt
ordered_found id (p ∷ ps) o = elim (same_action p.id id) as (λ b. IfSome (cond b (Some p) (proposal_of id ps)) (λ q. IsMap voter_cmp q.votes)) [ true ↦ o.0 | false ↦ ordered_found id ps o.1 ]

-- a vote less
vote_less : (v : Voter) (c : Credential) (o : Option Proposal) → IfSome o (λ p. IsMap voter_cmp p.votes) → some_and (has_vote c) (option_map (without_vote v) o) ≡ (not (is_drep v c) && some_and (has_vote c) o)
vote_less v c None m = elim (is_drep v c) as (λ b. false ≡ (not b && false)) [ true ↦ refl | false ↦ refl ]
vote_less v c (Some p) m = has_key-without_key voter_total v p.votes (voter.Drep c) m

-- the proposal that is found has the id
pub found_id : (id : ActionId) (p : Proposal) (ps : List Proposal) → proposal_of id ps ≡ Some p → p.id ≡ id
found_id id p [] h = cc
found_id id p (q ∷ ps) h =
    elim (same_action q.id id) as (λ b. same_action q.id id ≡ b → cond b (Some q) (proposal_of id ps) ≡ Some p → p.id ≡ id) [
      | true ↦ λ t h. let is : q ≡ p = cc in ap (λ (x : Proposal). x.id) (sym is) ∙ same_key action_id_exact q.id id t
      | false ↦ λ _ h. found_id id p ps h
    ] refl h

-- ---- what the notes have

abbrev pub HasOne : Proposal → Notes → Notes → Type 0
HasOne p old new = (c : Credential) → noted_of new c ≡ cond (has_vote c p) (noted_of old c ++ p.id ∷ []) (noted_of old c)

pub AreNoted-none : (notes : Notes) → notes ≡ [] → AreNoted notes []
unfolding IsDistinct
AreNoted-none notes h = record {
  noted = λ c id. ap (λ (l : Notes). is_noted l c id) h;
  once = λ c. subst (λ (l : Notes). IsDistinct same_action (noted_of l c)) (sym h) tt;
}

pub AreNoted-same : (old new : Notes) (ps : List Proposal) → ((c : Credential) → noted_of new c ≡ noted_of old c) → AreNoted old ps → AreNoted new ps
AreNoted-same old new ps e h = record {
  noted = λ c id. ap (λ (ids : List ActionId). has_member action_id_cmp ids id) (e c) ∙ h.noted c id;
  once = λ c. subst (λ (ids : List ActionId). IsDistinct same_action ids) (sym (e c)) (h.once c);
}

-- of a new proposal none is noted
pub none_noted : (notes : Notes) (ps : List Proposal) (p : Proposal) → AreNoted notes ps → proposal_of p.id ps ≡ None → (c : Credential) → is_noted notes c p.id ≡ false
none_noted notes ps p h absent c = h.noted c p.id ∙ ap (λ (o : Option Proposal). some_and (has_vote c) o) absent

-- of one that is found its votes are
pub found_noted : (notes : Notes) (id : ActionId) (p : Proposal) (ps : List Proposal) → AreNoted notes ps → proposal_of id ps ≡ Some p → (c : Credential) → is_noted notes c p.id ≡ has_vote c p
found_noted notes id p ps h found c =
    ap (λ (x : ActionId). is_noted notes c x) (found_id id p ps found)
    ∙ h.noted c id
    ∙ ap (λ (o : Option Proposal). some_and (has_vote c) o) found

-- one proposal more
pub AreNoted-added : (old new : Notes) (ps : List Proposal) (p : Proposal) → AreNoted old ps → proposal_of p.id ps ≡ None → HasOne p old new → AreOnce new → AreNoted new (ps ++ p ∷ [])
AreNoted-added old new ps p h absent more once = record {
  noted = λ c id.
      let was = is_noted old c id in
      ap (λ (ids : List ActionId). has_member action_id_cmp ids id) (more c)
      ∙ elim (has_vote c p) as (λ b. has_member action_id_cmp (cond b (noted_of old c ++ p.id ∷ []) (noted_of old c)) id ≡ cond b (was || same_action p.id id) was) [ true ↦ has_last (noted_of old c) p.id id | false ↦ refl ]
      ∙ elim (same_action p.id id) as (λ b. same_action p.id id ≡ b → cond (has_vote c p) (was || b) was ≡ some_and (has_vote c) (or_else (proposal_of id ps) (cond b (Some p) None))) [
        | true ↦ λ t.
            let is : p.id ≡ id = same_key action_id_exact p.id id t in
            let none : proposal_of id ps ≡ None = ap (λ (x : ActionId). proposal_of x ps) (sym is) ∙ absent in
            let no : was ≡ false = h.noted c id ∙ ap (λ (o : Option Proposal). some_and (has_vote c) o) none in
            ap (λ b. cond (has_vote c p) (b || true) b) no
            ∙ elim (has_vote c p) as (λ b. cond b true false ≡ b) [ true ↦ refl | false ↦ refl ]
            ∙ ap (λ (o : Option Proposal). some_and (has_vote c) (or_else o (Some p))) (sym none)
        | false ↦ λ _.
            elim (has_vote c p) as (λ b. cond b (was || false) was ≡ was) [ true ↦ elim was as (λ b. (b || false) ≡ b) [ true ↦ refl | false ↦ refl ] | false ↦ refl ]
            ∙ h.noted c id
            ∙ ap (λ (o : Option Proposal). some_and (has_vote c) o) (sym (or_none (proposal_of id ps)))
      ] refl
      ∙ ap (λ (o : Option Proposal). some_and (has_vote c) o) (sym (found_last id ps p));
  once = once;
}

-- the votes of a proposal that is found change, with their notes
pub AreNoted-voted : (old new : Notes) (id : ActionId) (p written : Proposal) (ps : List Proposal) → proposal_of id ps ≡ Some p
    → ((c : Credential) (q : ActionId) → is_noted new c q ≡ cond (same_action p.id q) (has_vote c written) (is_noted old c q)) → AreOnce new → AreNoted old ps
    → AreNoted new (map (changing id (λ (q : Proposal). record q { votes = written.votes })) ps)
AreNoted-voted old new id p written ps found at once h =
    let f : Proposal → Proposal = λ q. record q { votes = written.votes } in
    record {
      noted = λ c q.
          at c q
          ∙ ap (λ (x : ActionId). cond (same_action x q) (has_vote c written) (is_noted old c q)) (found_id id p ps found)
          ∙ elim (same_action id q) as (λ b. same_action id q ≡ b → cond b (has_vote c written) (is_noted old c q) ≡ some_and (has_vote c) (cond b (option_map f (proposal_of q ps)) (proposal_of q ps))) [
            | true ↦ λ t.
                let there : proposal_of q ps ≡ Some p = ap (λ (x : ActionId). proposal_of x ps) (sym (same_key action_id_exact id q t)) ∙ found in
                ap (λ (o : Option Proposal). some_and (has_vote c) (option_map f o)) (sym there)
            | false ↦ λ _. h.noted c q
          ] refl
          ∙ ap (λ (o : Option Proposal). some_and (has_vote c) o) (sym (found_changed id f (λ _. refl) q ps));
      once = once;
    }

-- the vote of a voter leaves a proposal, with its note
pub AreNoted-dropped : (old new : Notes) (id : ActionId) (v : Voter) (ps : List Proposal) → AllOrdered ps
    → ((c : Credential) → noted_of new c ≡ cond (is_drep v c) (without_member action_id_cmp id (noted_of old c)) (noted_of old c)) → AreNoted old ps
    → AreNoted new (map (changing id (without_vote v)) ps)
AreNoted-dropped old new id v ps o at h = record {
  noted = λ c q.
      let was = is_noted old c q in
      ap (λ (ids : List ActionId). has_member action_id_cmp ids q) (at c)
      ∙ elim (is_drep v c) as (λ b. has_member action_id_cmp (cond b (without_member action_id_cmp id (noted_of old c)) (noted_of old c)) q ≡ cond b (not (same_action id q) && was) was) [ true ↦ has_left_out (noted_of old c) id q (h.once c) | false ↦ refl ]
      ∙ ap (λ b. cond (is_drep v c) (not (same_action id q) && b) b) (h.noted c q)
      ∙ elim (same_action id q) as (λ b. cond (is_drep v c) (not b && is_voted_on c q ps) (is_voted_on c q ps) ≡ some_and (has_vote c) (cond b (option_map (without_vote v) (proposal_of q ps)) (proposal_of q ps))) [
        | true ↦
            elim (is_drep v c) as (λ b. cond b false (is_voted_on c q ps) ≡ (not b && is_voted_on c q ps)) [ true ↦ refl | false ↦ refl ]
            ∙ sym (vote_less v c (proposal_of q ps) (ordered_found q ps o))
        | false ↦ elim (is_drep v c) as (λ b. cond b (is_voted_on c q ps) (is_voted_on c q ps) ≡ is_voted_on c q ps) [ true ↦ refl | false ↦ refl ]
      ]
      ∙ ap (λ (x : Option Proposal). some_and (has_vote c) x) (sym (found_changed id (without_vote v) (λ _. refl) q ps));
  once = λ c. subst (λ (ids : List ActionId). IsDistinct same_action ids) (sym (at c))
      (elim (is_drep v c) as (λ b. IsDistinct same_action (cond b (without_member action_id_cmp id (noted_of old c)) (noted_of old c))) [ true ↦ distinct_left_out id (noted_of old c) (h.once c) | false ↦ h.once c ]);
}

-- the last proposal leaves, with the notes of its votes
pub AreNoted-front : (old new : Notes) (ps : List Proposal) (p : Proposal) → IsDistinct same_action (ids_of (ps ++ p ∷ []))
    → ((c : Credential) → noted_of new c ≡ cond (has_vote c p) (without_member action_id_cmp p.id (noted_of old c)) (noted_of old c)) → AreOnce new → AreNoted old (ps ++ p ∷ []) → AreNoted new ps
AreNoted-front old new ps p d at once h = record {
  noted = λ c q.
      let here = same_action p.id q in
      let before : is_noted old c q ≡ some_and (has_vote c) (or_else (proposal_of q ps) (cond here (Some p) None)) = h.noted c q ∙ ap (λ (o : Option Proposal). some_and (has_vote c) o) (found_last q ps p) in
      ap (λ (ids : List ActionId). has_member action_id_cmp ids q) (at c)
      ∙ elim (has_vote c p) as (λ b. has_member action_id_cmp (cond b (without_member action_id_cmp p.id (noted_of old c)) (noted_of old c)) q ≡ cond b (not here && is_noted old c q) (is_noted old c q)) [ true ↦ has_left_out (noted_of old c) p.id q (h.once c) | false ↦ refl ]
      ∙ ap (λ b. cond (has_vote c p) (not here && b) b) before
      ∙ elim here as (λ b. same_action p.id q ≡ b → cond (has_vote c p) (not b && some_and (has_vote c) (or_else (proposal_of q ps) (cond b (Some p) None))) (some_and (has_vote c) (or_else (proposal_of q ps) (cond b (Some p) None))) ≡ is_voted_on c q ps) [
        | true ↦ λ t.
            let none : proposal_of q ps ≡ None = ap (λ (x : ActionId). proposal_of x ps) (sym (same_key action_id_exact p.id q t)) ∙ fresh ps [] p d in
            ap (λ (o : Option Proposal). cond (has_vote c p) false (some_and (has_vote c) (or_else o (Some p)))) none
            ∙ elim (has_vote c p) as (λ b. cond b false b ≡ false) [ true ↦ refl | false ↦ refl ]
            ∙ ap (λ (o : Option Proposal). some_and (has_vote c) o) (sym none)
        | false ↦ λ _.
            ap (λ (o : Option Proposal). cond (has_vote c p) (some_and (has_vote c) o) (some_and (has_vote c) o)) (or_none (proposal_of q ps))
            ∙ elim (has_vote c p) as (λ b. cond b (is_voted_on c q ps) (is_voted_on c q ps) ≡ is_voted_on c q ps) [ true ↦ refl | false ↦ refl ]
      ] refl;
  once = once;
}

-- ---- a DRep leaves

-- the notes are without the DRep
abbrev pub HasLeft : Credential → Notes → Notes → Type 0
HasLeft drep old new = (c : Credential) → noted_of new c ≡ (if eq_by_cmp credential_cmp drep c then [] else noted_of old c)

pub has_left : (drep : Credential) (old new : Notes) → ((c : Credential) → value_at credential_cmp new c ≡ cond (eq_by_cmp credential_cmp drep c) None (value_at credential_cmp old c)) → HasLeft drep old new
has_left drep old new at c =
    ap (λ (o : Option (List ActionId)). unwrap_or o []) (at c)
    ∙ elim (eq_by_cmp credential_cmp drep c) as (λ b. unwrap_or (cond b None (value_at credential_cmp old c)) [] ≡ cond b [] (noted_of old c)) [ true ↦ refl | false ↦ refl ]

pub AreNoted-cleared : (drep : Credential) (old new : Notes) (ps : List Proposal) → HasLeft drep old new → AllOrdered ps → AreNoted old ps → AreNoted new (map (without_vote (voter.Drep drep)) ps)
unfolding IsDistinct
AreNoted-cleared drep old new ps left o h =
    let v = voter.Drep drep in
    record {
      noted = λ c q.
          ap (λ (ids : List ActionId). has_member action_id_cmp ids q) (left c)
          ∙ elim (eq_by_cmp credential_cmp drep c) as (λ b. has_member action_id_cmp (cond b [] (noted_of old c)) q ≡ (not b && is_noted old c q)) [ true ↦ refl | false ↦ refl ]
          ∙ ap (λ b. not (is_drep v c) && b) (h.noted c q)
          ∙ sym (vote_less v c (proposal_of q ps) (ordered_found q ps o))
          ∙ ap (λ (x : Option Proposal). some_and (has_vote c) x) (sym (found_mapped (without_vote v) (λ _. refl) q ps));
      once = λ c. subst (λ (ids : List ActionId). IsDistinct same_action ids) (sym (left c))
          (elim (eq_by_cmp credential_cmp drep c) as (λ b. IsDistinct same_action (cond b [] (noted_of old c))) [ true ↦ tt | false ↦ h.once c ]);
    }

-- the votes of DReps on a proposal are noted
abbrev IsNoted : Notes → Proposal → Type 0
IsNoted notes p = (c : Credential) → is_noted notes c p.id ≡ has_vote c p

all_noted_from : (notes : Notes) (all ps : List Proposal) → AreNoted notes all → AllByRecursion (λ (p : Proposal). proposal_of p.id all ≡ Some p) ps → AllByRecursion (λ (p : Proposal). IsNoted notes p) ps
all_noted_from notes all [] h f = tt
all_noted_from notes all (p ∷ ps) h f = (found_noted notes p.id p all h f.0, all_noted_from notes all ps h f.1)

later_found : (p : Proposal) (all ps : List Proposal) → AllByRecursion (λ q. same_action p.id q ≡ false) (ids_of ps) → AllByRecursion (λ (q : Proposal). proposal_of q.id all ≡ Some q) ps
    → AllByRecursion (λ (q : Proposal). proposal_of q.id (p ∷ all) ≡ Some q) ps
later_found p all [] d f = tt
later_found p all (q ∷ ps) d f = (ap (λ b. cond b (Some p) (proposal_of q.id all)) d.0 ∙ f.0, later_found p all ps d.1 f.1)

-- each is found by its id
all_found : (ps : List Proposal) → IsDistinct same_action (ids_of ps) → AllByRecursion (λ (p : Proposal). proposal_of p.id ps ≡ Some p) ps
unfolding IsDistinct
all_found [] d = tt
all_found (p ∷ ps) d = (ap (λ b. cond b (Some p) (proposal_of p.id ps)) ((eq_by_cmp_equiv action_id_total).refl p.id), later_found p ps ps d.0 (all_found ps d.1))

-- it has no vote where none is noted
dropped_is : (notes : Notes) (drep : Credential) (p : Proposal) → IsNoted notes p → dropping (voter.Drep drep) (noted_of notes drep) p ≡ without_vote (voter.Drep drep) p
dropped_is notes drep p h =
    let v = voter.Drep drep in
    ap (λ b. cond b (without_vote v p) p) (h drep)
    ∙ elim (value_at voter_cmp p.votes v) as (λ (o : Option Vote). value_at voter_cmp p.votes v ≡ o → cond (is_some o) (without_vote v p) p ≡ without_vote v p) [
      | None ↦ λ e. ap (λ (votes : List (Voter × Vote)). record p { votes = votes }) (sym (without_key_absent voter_cmp v p.votes e))
      | Some x ↦ λ _. refl
    ] refl

dropped_each : (notes : Notes) (drep : Credential) (es : List (ActionId × Proposal)) → AllByRecursion (λ (p : Proposal). IsNoted notes p) (values_of es) → each (dropping (voter.Drep drep) (noted_of notes drep)) es ≡ each (without_vote (voter.Drep drep)) es
dropped_each notes drep [] h = refl
dropped_each notes drep (e ∷ es) h = λ i. (e.0, dropped_is notes drep e.1 h.0 i) ∷ dropped_each notes drep es h.1 i

pub each_dropped : (notes : Notes) (drep : Credential) (es : List (ActionId × Proposal)) → IsDistinct same_action (ids_of (values_of es)) → AreNoted notes (values_of es)
    → each (dropping (voter.Drep drep) (noted_of notes drep)) es ≡ each (without_vote (voter.Drep drep)) es
each_dropped notes drep es d h = dropped_each notes drep es (all_noted_from notes (values_of es) (values_of es) h (all_found (values_of es) d))

-- ---- one id after another

without_twice : (v : Voter) (votes : List (Voter × Vote)) → IsMap voter_cmp votes → without_key voter_cmp v (without_key voter_cmp v votes) ≡ without_key voter_cmp v votes
without_twice v votes m =
    without_key_absent voter_cmp v (without_key voter_cmp v votes)
    (value_at-without_key voter_total v votes v m ∙ ap (λ b. cond b None (value_at voter_cmp votes v)) ((eq_by_cmp_equiv voter_total).refl v))

dropping_next : (v : Voter) (id : ActionId) (ids : List ActionId) (p : Proposal) → IsMap voter_cmp p.votes → dropping v ids (changing id (without_vote v) p) ≡ dropping v (id ∷ ids) p
dropping_next v id ids p m =
    elim (same_action p.id id) as (λ b. dropping v ids (cond b (without_vote v p) p) ≡ cond (b || has_member action_id_cmp ids p.id) (without_vote v p) p) [
      | true ↦ elim (has_member action_id_cmp ids p.id) as (λ b. cond b (without_vote v (without_vote v p)) (without_vote v p) ≡ without_vote v p) [
        | true ↦ ap (λ (votes : List (Voter × Vote)). record p { votes = votes }) (without_twice v p.votes m)
        | false ↦ refl
      ]
      | false ↦ refl
    ]

pub each_next : (v : Voter) (id : ActionId) (ids : List ActionId) (es : List (ActionId × Proposal)) → AllOrdered (values_of es) → each (dropping v ids) (each (changing id (without_vote v)) es) ≡ each (dropping v (id ∷ ids)) es
each_next v id ids [] o = refl
each_next v id ids (e ∷ es) o = λ i. (e.0, dropping_next v id ids e.1 o.0 i) ∷ each_next v id ids es o.1 i

pub each_none : (v : Voter) (es : List (ActionId × Proposal)) → each (dropping v []) es ≡ es
each_none v [] = refl
each_none v (e ∷ es) = ap (λ (l : List (ActionId × Proposal)). e ∷ l) (each_none v es)

pub drop_next : (v : Voter) (ids : List ActionId) (i : ℕ) (d : ActionId) → i < length ids → (es new : List (ActionId × Proposal)) → new ≡ each (changing (get_or ids i d) (without_vote v)) es → AllOrdered (values_of es)
    → each (dropping v (drop (i + 1) ids)) new ≡ each (dropping v (drop i ids)) es
drop_next v ids i d l es new is o =
    let id = get_or ids i d in
    let cut : drop i ids ≡ id ∷ drop (i + 1) ids = drop-cons ids i d l ∙ ap (λ n. id ∷ drop n ids) (sym (add-one i)) in
    ap (λ (es : List (ActionId × Proposal)). each (dropping v (drop (i + 1) ids)) es) is
    ∙ each_next v id (drop (i + 1) ids) es o
    ∙ ap (λ (ks : List ActionId). each (dropping v ks) es) (sym cut)
