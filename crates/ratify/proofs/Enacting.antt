-- One more action that is enacted, after some that do not delay.
use Rattle.std.proofs.Common.{◌≡◌, ℕ, ◌-◌, List, [], ◌∷◌, ◌++◌, Bool, true, not, Option, Some, None, filter, filter_map, fold, map, sum_by, refl, ap, sym, ◌∙◌, arith}
use Rattle.std.specs.List.{last_or}
use Rattle.std.proofs.lemmas.Bool.{and_parts}
use Rattle.std.proofs.lemmas.List.{map-append}
use Rattle.std.proofs.lemmas.List.Elements.{filter-append, filter_map-append}
use Rattle.std.proofs.lemmas.List.Sums.{fold-append, sum_by-append}
use Rattle.maps.specs.Words.{holds}
use Rattle.gov_ids.specs.declared.ActionId.{ActionId}
use Rattle.pparams.specs.declared.Update.{Update}
use Rattle.pparams.specs.Overlay.{laid_over}
use Rattle.gov_actions.specs.declared.action.Action.{Action}
use Rattle.gov_actions.specs.declared.action.Action.TheVariants.{NoConfidence, UpdateCommittee, NewConstitution, HardForkInitiation, ParameterChange, TreasuryWithdrawals, Info}
use Rattle.gov_actions.specs.declared.action.Proposal.{Proposal}
use Rattle.gov_actions.specs.declared.action.Purpose.{Purpose}
use Rattle.gov_actions.specs.declared.action.Purpose.TheVariants as purpose
use Rattle.gov_actions.specs.declared.state.EnactState.{EnactState}
use Rattle.gov_actions.specs.declared.state.LastIds.{LastIds}
use Rattle.gov_actions.specs.Kinds.{is_delaying, purpose_of, same_purpose}
use Rattle.gov_model.specs.Enacted.{committee_after, document_after, script_after, version_after, enacted_after, enacted_from, last_ids_after, update_of, withdrawn_by}
use Rattle.gov_model.specs.Ready.{goes_on_after}
use Rattle.gov_model.specs.Snapshot.{Snapshot}

-- an action with its id
abbrev with_id : Proposal → ActionId × Action
with_id a = (a.id, a.action)

-- the last of these actions
abbrev last_action : List (ActionId × Action) → Option Action
last_action acts = last_or None (map (λ b. b.1) acts)

-- there is no such action, or it does not delay
abbrev is_quiet : Option Action → Bool
is_quiet None = true
is_quiet (Some x) = not (is_delaying x)

quiet_from : (o : Option Action) (es : List Proposal) → is_quiet o ≡ true → goes_on_after es ≡ true → is_quiet (last_or o (map (λ (b : ActionId × Action). b.1) (map with_id es))) ≡ true
quiet_from o [] q h = q
quiet_from o (e ∷ es) q h = let parts = and_parts _ _ h in quiet_from (Some e.action) es parts.0 parts.1

-- what only actions that delay change
record StandsStill (s : EnactState) (o : Option Action) : Type 0 where
  version : version_after s.version o ≡ s.version
  committee : committee_after s.committee o ≡ s.committee
  document : document_after s.document o ≡ s.document
  script : script_after s.script o ≡ s.script

stands_still : (s : EnactState) (o : Option Action) → is_quiet o ≡ true → StandsStill s o
stands_still s None q = record { version = refl; committee = refl; document = refl; script = refl }
stands_still s (Some (NoConfidence previous)) q = cc
stands_still s (Some (UpdateCommittee previous remove add threshold)) q = cc
stands_still s (Some (NewConstitution previous document script)) q = cc
stands_still s (Some (HardForkInitiation previous version)) q = cc
stands_still s (Some (ParameterChange previous update policy)) q = record { version = refl; committee = refl; document = refl; script = refl }
stands_still s (Some (TreasuryWithdrawals targets policy)) q = record { version = refl; committee = refl; document = refl; script = refl }
stands_still s (Some Info) q = record { version = refl; committee = refl; document = refl; script = refl }

last-push : {X : Type 0} (o : Option X) (xs : List X) (x : X) → last_or o (xs ++ x ∷ []) ≡ Some x
last-push o [] x = refl
last-push o (y ∷ ys) x = last-push (Some y) ys x

last-append : {X : Type 0} (o : Option X) (xs ys : List X) → last_or o (xs ++ ys) ≡ last_or (last_or o xs) ys
last-append o [] ys = refl
last-append o (x ∷ xs) ys = last-append (Some x) xs ys

-- the last id of a purpose
id_more : (o : Option ActionId) (p : Purpose) (acts : List (ActionId × Action)) (a : ActionId × Action)
    → let of_p : ActionId × Action → Bool = λ b. holds same_purpose (purpose_of b.1) p in
    last_or (last_or o (map (λ b. b.0) (filter of_p acts))) (map (λ b. b.0) (filter of_p (a ∷ []))) ≡ last_or o (map (λ b. b.0) (filter of_p (acts ++ a ∷ [])))
id_more o p acts a =
    let of_p : ActionId × Action → Bool = λ b. holds same_purpose (purpose_of b.1) p in
    let id : ActionId × Action → ActionId = λ b. b.0 in
    sym (last-append o (map id (filter of_p acts)) (map id (filter of_p (a ∷ []))))
    ∙ ap (last_or o) (sym (map-append id (filter of_p acts) (filter of_p (a ∷ []))) ∙ ap (map id) (sym (filter-append of_p acts (a ∷ []))))

ids_more : (last : LastIds) (acts : List (ActionId × Action)) (a : ActionId × Action) → last_ids_after (last_ids_after last acts) (a ∷ []) ≡ last_ids_after last (acts ++ a ∷ [])
ids_more last acts a = λ i. record {
  committee = id_more last.committee purpose.Committee acts a i;
  constitution = id_more last.constitution purpose.Constitution acts a i;
  hardfork = id_more last.hardfork purpose.HardFork acts a i;
  parameters = id_more last.parameters purpose.Parameters acts a i;
}

one_more : (s : EnactState) (acts : List (ActionId × Action)) (a : ActionId × Action) → is_quiet (last_action acts) ≡ true → enacted_from (enacted_from s acts) (a ∷ []) ≡ enacted_from s (acts ++ a ∷ [])
one_more s acts a q =
    let still : StandsStill s (last_action acts) = stands_still s (last_action acts) q in
    let act : ActionId × Action → Action = λ b. b.1 in
    let is_last : Some a.1 ≡ last_action (acts ++ a ∷ []) = sym (ap (last_or None) (map-append act acts (a ∷ [])) ∙ last-push None (map act acts) a.1) in
    let update : ActionId × Action → Option Update = λ b. update_of b.1 in
    let due : ActionId × Action → ℕ = λ b. withdrawn_by b.1 in
    let treasury : s.treasury - sum_by due acts - sum_by due (a ∷ []) ≡ s.treasury - sum_by due (acts ++ a ∷ []) = omega (arith, sum_by-append due acts (a ∷ [])) in
    λ i. record {
      params = (sym (fold-append laid_over s.params (filter_map update acts) (filter_map update (a ∷ []))) ∙ ap (fold laid_over s.params) (sym (filter_map-append update acts (a ∷ [])))) i;
      version = (ap (λ v. version_after v (Some a.1)) still.version ∙ ap (version_after s.version) is_last) i;
      committee = (ap (λ v. committee_after v (Some a.1)) still.committee ∙ ap (committee_after s.committee) is_last) i;
      document = (ap (λ v. document_after v (Some a.1)) still.document ∙ ap (document_after s.document) is_last) i;
      script = (ap (λ v. script_after v (Some a.1)) still.script ∙ ap (script_after s.script) is_last) i;
      last = ids_more s.last acts a i;
      treasury = treasury i;
    }

-- a proposal that is enacted after those of es
pub enacted-push : (s : Snapshot) (es : List Proposal) (a : Proposal) → goes_on_after es ≡ true → enacted_from (enacted_after s es) ((a.id, a.action) ∷ []) ≡ enacted_after s (es ++ a ∷ [])
enacted-push s es a h = one_more s.start (map with_id es) (with_id a) (quiet_from None es refl h) ∙ ap (enacted_from s.start) (sym (map-append with_id es (a ∷ [])))

-- nothing is enacted
pub enacted-none : (s : Snapshot) → enacted_after s [] ≡ s.start
enacted-none s = let treasury : s.start.treasury - 0 ≡ s.start.treasury = omega arith in λ i. record s.start { treasury = treasury i }
