-- Enacting proposals of the form keeps the form of what can be enacted.
use Rattle.std.proofs.Common.{◌≡◌, ℕ, List, [], ◌∷◌, Bool, true, false, ◌&&◌, ◌==◌, cond, Option, Some, None, filter, filter_map, flat_map, fold, map, refl, unwrap_or}
use Rattle.std.specs.List.{AllByRecursion, cons_option, last_or, list_all}
use Rattle.std.proofs.lemmas.Bool.{and_from}
use Rattle.maps.specs.Maps.{without_keys}
use Rattle.maps.specs.Words.{holds, none_or}
use Rattle.gov_ids.specs.declared.ActionId.{ActionId}
use Rattle.gov_ids.specs.declared.Credential.{Credential}
use Rattle.gov_ids.specs.Orders.{credential_cmp}
use Rattle.pparams.specs.declared.Params.{Params}
use Rattle.pparams.specs.declared.Update.{Update}
use Rattle.pparams.specs.Overlay.{laid_over}
use Rattle.gov_actions.specs.declared.action.Action.{Action}
use Rattle.gov_actions.specs.declared.action.Action.TheVariants.{NoConfidence, UpdateCommittee, NewConstitution, HardForkInitiation, ParameterChange, TreasuryWithdrawals, Info}
use Rattle.gov_actions.specs.declared.action.Proposal.{Proposal}
use Rattle.gov_actions.specs.declared.action.Purpose.{Purpose}
use Rattle.gov_actions.specs.declared.action.Purpose.TheVariants as purpose
use Rattle.gov_actions.specs.declared.state.Committee.{Committee}
use Rattle.gov_actions.specs.declared.state.LastIds.{LastIds}
use Rattle.gov_actions.specs.Kinds.{last_of, priority_of, purpose_of, same_purpose}
use Rattle.gov_model.specs.Enacted.{committee_after, document_after, enacted_after, last_id_after, last_ids_after, members_after, script_after, update_of, version_after}
use Rattle.gov_model.specs.Ratified.{is_one_of, order_of, ratified_of}
use Rattle.gov_model.specs.Sides.{members_of}
use Rattle.gov_model.specs.Snapshot.{Snapshot}
use Rattle.tx_records.specs.Limits.{is_slot, is_u32, is_u64}
use Rattle.dormant_laws.proofs.Lists.{all_append, all_passing, left_of, right_of}
use Rattle.text_forms.specs.Actions.{are_members, are_prices, is_action, is_economic_update, is_governance_update, is_member, is_network_update, is_previous, is_technical_update, is_update}
use Rattle.text_forms.specs.Ids.{are_u64, are_units, is_action_id, is_credential, is_hash, is_ratio, is_u16, is_unit}
use Rattle.text_forms.specs.States.{are_economic_params, are_governance_params, are_last_ids, are_network_params, are_params, are_technical_params, is_conway_version}
use Rattle.formed_laws.specs.Worlds.{is_conway_fork}
use Rattle.formed_laws.proofs.Each.{Each, each-filter, each-with_values}
use Rattle.formed_laws.proofs.Parts.{HasState, IsKept, is_seated}

-- ---- parameters

-- what an update names takes the place of the old
over : {A : Type 0} (p : A → Bool) (o : Option A) (x : A) → none_or p o ≡ true → p x ≡ true → p (unwrap_or o x) ≡ true
over p None x h k = k
over p (Some y) x h k = h

-- two tests of each
meet : {a b x y r s : Bool} → (a ≡ true → x ≡ true → r ≡ true) → (b ≡ true → y ≡ true → s ≡ true) → (a && b) ≡ true → (x && y) ≡ true → (r && s) ≡ true
meet f g h k = and_from _ _ (f (left_of _ _ h) (left_of _ _ k)) (g (right_of _ _ h) (right_of _ _ k))

network_over : (p : Params) (u : Update) → is_network_update u ≡ true → are_network_params p ≡ true → are_network_params (laid_over p u) ≡ true
network_over p u =
    meet (
    meet (
    meet (
    meet (
    meet (meet (over is_u32 u.max_block_body_size p.max_block_body_size) (over is_u32 u.max_tx_size p.max_tx_size)) (over is_u32 u.max_block_header_size p.max_block_header_size)
    ) (over is_u32 u.max_value_size p.max_value_size)
    ) (over are_u64 u.max_tx_ex_units p.max_tx_ex_units)
    ) (over are_u64 u.max_block_ex_units p.max_block_ex_units)
    ) (over is_u16 u.max_collateral_inputs p.max_collateral_inputs)

economic_over : (p : Params) (u : Update) → is_economic_update u ≡ true → are_economic_params p ≡ true → are_economic_params (laid_over p u) ≡ true
economic_over p u =
    meet (
    meet (
    meet (
    meet (
    meet (
    meet (
    meet (
    meet (meet (over is_u64 u.min_fee_a p.min_fee_a) (over is_u64 u.min_fee_b p.min_fee_b)) (over is_u64 u.key_deposit p.key_deposit)
    ) (over is_u64 u.pool_deposit p.pool_deposit)
    ) (over is_unit u.rho p.rho)
    ) (over is_unit u.tau p.tau)
    ) (over is_u64 u.min_pool_cost p.min_pool_cost)
    ) (over is_u64 u.coins_per_utxo_byte p.coins_per_utxo_byte)
    ) (over are_prices u.prices p.prices)
    ) (over is_ratio u.min_fee_ref_script_cost_per_byte p.min_fee_ref_script_cost_per_byte)

technical_over : (p : Params) (u : Update) → is_technical_update u ≡ true → are_technical_params p ≡ true → are_technical_params (laid_over p u) ≡ true
technical_over p u =
    meet (
    meet (
    meet (meet (over is_ratio u.a0 p.a0) (over is_u32 u.e_max p.e_max)) (over is_u16 u.n_opt p.n_opt)
    ) (over (is_hash 32) u.cost_models p.cost_models)
    ) (over is_u16 u.collateral_percentage p.collateral_percentage)

governance_over : (p : Params) (u : Update) → is_governance_update u ≡ true → are_governance_params p ≡ true → are_governance_params (laid_over p u) ≡ true
governance_over p u =
    meet (
    meet (
    meet (
    meet (
    meet (
    meet (meet (over (are_units 5) u.pool_voting_thresholds p.pool_voting_thresholds) (over (are_units 10) u.drep_voting_thresholds p.drep_voting_thresholds)) (over is_u32 u.gov_action_lifetime p.gov_action_lifetime)
    ) (over is_u64 u.gov_action_deposit p.gov_action_deposit)
    ) (over is_u64 u.drep_deposit p.drep_deposit)
    ) (over is_u32 u.drep_activity p.drep_activity)
    ) (over is_u16 u.committee_min_size p.committee_min_size)
    ) (over is_u32 u.committee_max_term_length p.committee_max_term_length)

params_over : (p : Params) (u : Update) → is_update u ≡ true → are_params p ≡ true → are_params (laid_over p u) ≡ true
params_over p u = meet (meet (meet (network_over p u) (economic_over p u)) (technical_over p u)) (governance_over p u)

abbrev updates_of : List Proposal → List Update
updates_of es = filter_map (λ (a : ActionId × Action). update_of a.1) (map (λ (a : Proposal). (a.id, a.action)) es)

update_formed : (a : Action) → is_action a ≡ true → none_or is_update (update_of a) ≡ true
update_formed (NoConfidence previous) h = refl
update_formed (UpdateCommittee previous remove add threshold) h = refl
update_formed (NewConstitution previous document script) h = refl
update_formed (HardForkInitiation previous version) h = refl
update_formed (ParameterChange previous update policy) h = right_of _ _ (left_of _ _ h)
update_formed (TreasuryWithdrawals targets policy) h = refl
update_formed Info h = refl

one_over : (o : Option Update) (rest : List Update) (p : Params) → are_params p ≡ true → none_or is_update o ≡ true → ((q : Params) → are_params q ≡ true → are_params (fold laid_over q rest) ≡ true)
    → are_params (fold laid_over p (cons_option o rest)) ≡ true
one_over None rest p h f k = k p h
one_over (Some u) rest p h f k = k (laid_over p u) (params_over p u f h)

all_over : (es : List Proposal) (p : Params) → are_params p ≡ true → AllByRecursion IsKept es → are_params (fold laid_over p (updates_of es)) ≡ true
all_over [] p h f = h
all_over (a ∷ es) p h f = one_over (update_of a.action) (updates_of es) p h (update_formed a.action f.0.action) (λ q k. all_over es q k f.1)

-- ---- the last action

-- of the form, and no fork to an earlier era
record IsLast (o : Option Action) : Type 0 where
  form : none_or is_action o ≡ true
  fork : none_or is_conway_fork o ≡ true

last_from : (o : Option Action) (es : List Proposal) → IsLast o → AllByRecursion IsKept es → IsLast (last_or o (map (λ (a : ActionId × Action). a.1) (map (λ (a : Proposal). (a.id, a.action)) es)))
last_from o [] h f = h
last_from o (a ∷ es) h f = last_from (Some a.action) es (record { form = f.0.action; fork = f.0.fork }) f.1

version_formed : (old : ℕ × ℕ) (o : Option Action) → is_conway_version old ≡ true → none_or is_action o ≡ true → none_or is_conway_fork o ≡ true → is_conway_version (version_after old o) ≡ true
version_formed old None h f g = h
version_formed old (Some (NoConfidence previous)) h f g = h
version_formed old (Some (UpdateCommittee previous remove add threshold)) h f g = h
version_formed old (Some (NewConstitution previous document script)) h f g = h
version_formed old (Some (HardForkInitiation previous version)) h f g = and_from _ _ (right_of _ _ f) g
version_formed old (Some (ParameterChange previous update policy)) h f g = h
version_formed old (Some (TreasuryWithdrawals targets policy)) h f g = h
version_formed old (Some Info) h f g = h

members_each : (ms : List (Credential × ℕ)) → list_all is_member ms ≡ true → Each is_credential is_slot ms
members_each [] h = tt
members_each (m ∷ ms) h =
    let here : is_member m ≡ true = left_of (is_member m) (list_all is_member ms) h in
    ((left_of _ _ here, right_of _ _ here), members_each ms (right_of (is_member m) (list_all is_member ms) h))

pub each_members : (ms : List (Credential × ℕ)) → Each is_credential is_slot ms → list_all is_member ms ≡ true
each_members [] h = refl
each_members (m ∷ ms) h = and_from (is_member m) (list_all is_member ms) (and_from _ _ h.0.0 h.0.1) (each_members ms h.1)

old_members : (o : Option Committee) → none_or is_seated o ≡ true → Each is_credential is_slot (members_of o)
old_members None h = tt
old_members (Some c) h = members_each c.members (left_of _ _ h)

seated_formed : (old : Option Committee) (remove : List Credential) (add : List (Credential × ℕ)) → none_or is_seated old ≡ true → are_members add ≡ true → list_all is_member (members_after remove add (members_of old)) ≡ true
seated_formed old remove add h f =
    each_members (members_after remove add (members_of old))
    (each-with_values is_credential is_slot credential_cmp add (without_keys credential_cmp remove (members_of old)) (members_each add (right_of _ _ (left_of _ _ f)))
    (each-filter is_credential is_slot _ (members_of old) (old_members old h)))

committee_formed : (old : Option Committee) (o : Option Action) → none_or is_seated old ≡ true → none_or is_action o ≡ true → none_or is_seated (committee_after old o) ≡ true
committee_formed old None h f = h
committee_formed old (Some (NoConfidence previous)) h f = refl
committee_formed old (Some (UpdateCommittee previous remove add threshold)) h f =
    and_from _ _ (seated_formed old remove add h (right_of _ _ (left_of _ _ f))) (right_of _ _ f)
committee_formed old (Some (NewConstitution previous document script)) h f = h
committee_formed old (Some (HardForkInitiation previous version)) h f = h
committee_formed old (Some (ParameterChange previous update policy)) h f = h
committee_formed old (Some (TreasuryWithdrawals targets policy)) h f = h
committee_formed old (Some Info) h f = h

document_formed : (old : List ℕ) (o : Option Action) → is_hash 32 old ≡ true → none_or is_action o ≡ true → is_hash 32 (document_after old o) ≡ true
document_formed old None h f = h
document_formed old (Some (NoConfidence previous)) h f = h
document_formed old (Some (UpdateCommittee previous remove add threshold)) h f = h
document_formed old (Some (NewConstitution previous document script)) h f = right_of _ _ (left_of _ _ f)
document_formed old (Some (HardForkInitiation previous version)) h f = h
document_formed old (Some (ParameterChange previous update policy)) h f = h
document_formed old (Some (TreasuryWithdrawals targets policy)) h f = h
document_formed old (Some Info) h f = h

script_formed : (old : Option (List ℕ)) (o : Option Action) → none_or (is_hash 28) old ≡ true → none_or is_action o ≡ true → none_or (is_hash 28) (script_after old o) ≡ true
script_formed old None h f = h
script_formed old (Some (NoConfidence previous)) h f = h
script_formed old (Some (UpdateCommittee previous remove add threshold)) h f = h
script_formed old (Some (NewConstitution previous document script)) h f = right_of _ _ f
script_formed old (Some (HardForkInitiation previous version)) h f = h
script_formed old (Some (ParameterChange previous update policy)) h f = h
script_formed old (Some (TreasuryWithdrawals targets policy)) h f = h
script_formed old (Some Info) h f = h

-- ---- the last ids

last_id : (o : Option ActionId) (xs : List ActionId) → none_or is_action_id o ≡ true → AllByRecursion (λ (id : ActionId). is_action_id id ≡ true) xs → none_or is_action_id (last_or o xs) ≡ true
last_id o [] h f = h
last_id o (x ∷ xs) h f = last_id (Some x) xs f.0 f.1

ids_formed : (t : ActionId × Action → Bool) (es : List Proposal) → AllByRecursion IsKept es
    → AllByRecursion (λ (id : ActionId). is_action_id id ≡ true) (map (λ (a : ActionId × Action). a.0) (filter t (map (λ (a : Proposal). (a.id, a.action)) es)))
ids_formed t [] h = tt
ids_formed t (a ∷ es) h =
    elim (t (a.id, a.action)) as (λ c. AllByRecursion (λ (id : ActionId). is_action_id id ≡ true)
    (map (λ (x : ActionId × Action). x.0) (cond c ((a.id, a.action) ∷ filter t (map (λ (x : Proposal). (x.id, x.action)) es)) (filter t (map (λ (x : Proposal). (x.id, x.action)) es))))) [
      | true ↦ (h.0.id, ids_formed t es h.1)
      | false ↦ ids_formed t es h.1
    ]

last_ids_formed : (last : LastIds) (es : List Proposal) → are_last_ids last ≡ true → AllByRecursion IsKept es → are_last_ids (last_ids_after last (map (λ (a : Proposal). (a.id, a.action)) es)) ≡ true
last_ids_formed last es h f =
    let hardfork = left_of _ _ h in
    let constitution = left_of _ _ hardfork in
    and_from _ _ (
    and_from _ _ (and_from _ _ (one purpose.Committee (left_of _ _ constitution)) (one purpose.Constitution (right_of _ _ constitution))) (one purpose.HardFork (right_of _ _ hardfork))
    ) (one purpose.Parameters (right_of _ _ h))
  where
    one : (p : Purpose) → is_previous (last_of last p) ≡ true → is_previous (last_id_after last (map (λ (a : Proposal). (a.id, a.action)) es) p) ≡ true
    one p k = last_id (last_of last p) _ k (ids_formed (λ a. holds same_purpose (purpose_of a.1) p) es f)

-- ---- the state

abbrev last_action : List Proposal → Option Action
last_action es = last_or None (map (λ (a : ActionId × Action). a.1) (map (λ (a : Proposal). (a.id, a.action)) es))

enacted_formed : (f : Snapshot) (es : List Proposal) (treasury : ℕ) → HasState f.start → AllByRecursion IsKept es → HasState (record (enacted_after f es) { treasury = treasury })
enacted_formed f es treasury h k =
    let last : IsLast (last_action es) = last_from None es (record { form = refl; fork = refl }) k in
    record {
      params = all_over es f.start.params h.params k;
      version = version_formed f.start.version (last_action es) h.version last.form last.fork;
      committee = committee_formed f.start.committee (last_action es) h.committee last.form;
      document = document_formed f.start.document (last_action es) h.document last.form;
      script = script_formed f.start.script (last_action es) h.script last.form;
      last = last_ids_formed f.start.last es h.last k;
    }

in_priority : (P : Proposal → Type 0) (ns : List ℕ) (ps : List Proposal) → AllByRecursion P ps → AllByRecursion P (flat_map (λ (n : ℕ). filter (λ (p : Proposal). priority_of p.action == n) ps) ns)
in_priority P [] ps h = tt
in_priority P (n ∷ ns) ps h = all_append P (filter (λ (p : Proposal). priority_of p.action == n) ps) _ (all_passing P (λ (p : Proposal). priority_of p.action == n) ps h) (in_priority P ns ps h)

-- what the pass over a snapshot enacts
pub ratified_formed : (f : Snapshot) (treasury : ℕ) → HasState f.start → AllByRecursion IsKept f.proposals
    → HasState (record (enacted_after f (filter (is_one_of (ratified_of f)) (order_of f))) { treasury = treasury })
ratified_formed f treasury h k =
    enacted_formed f (filter (is_one_of (ratified_of f)) (order_of f)) treasury h
    (all_passing IsKept (is_one_of (ratified_of f)) (order_of f) (in_priority IsKept (0 ∷ 1 ∷ 2 ∷ 3 ∷ 4 ∷ 5 ∷ 6 ∷ []) f.proposals k))
