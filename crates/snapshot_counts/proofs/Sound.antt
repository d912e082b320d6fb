-- A snapshot that fits is sound.
use Rattle.std.proofs.Common.{◌≡◌, ℕ, ◌+◌, ◌^◌, ◌<◌, ◌≤◌, ◌&&◌, Bool, true, List, [], ◌∷◌, Option, Some, None, unwrap_or, arith}
use Rattle.std.specs.declared.cmp.Ordering.{Ordering}
use Rattle.std.specs.List.{AllByRecursion, list_all}
use Rattle.std.specs.Map.{keys_of}
use Rattle.std.proofs.lemmas.Bool.{and_parts, leb-true, ltb-true, not-true}
use Rattle.coin_frac.specs.declared.TheConstants.{SUPPLY_LIMIT}
use Rattle.maps.specs.Maps.{IsMap, sum_values}
use Rattle.maps.specs.Words.{none_or}
use Rattle.maps.proofs.Fresh.{distinct_from_repeats}
use Rattle.gov_ids.specs.Orders.{action_id_cmp, credential_cmp, pool_cmp, voter_cmp}
use Rattle.pparams.specs.declared.Update.{Update}
use Rattle.gov_actions.specs.declared.action.Action.{Action}
use Rattle.gov_actions.specs.declared.action.Action.TheVariants.{NoConfidence, UpdateCommittee, NewConstitution, HardForkInitiation, ParameterChange, TreasuryWithdrawals, Info}
use Rattle.gov_actions.specs.declared.action.Proposal.{Proposal}
use Rattle.gov_actions.specs.declared.state.Committee.{Committee}
use Rattle.gov_model.specs.Proposals.{deposits_of}
use Rattle.gov_model.specs.Ratified.{ids_of}
use Rattle.gov_model.specs.Sides.{members_of}
use Rattle.gov_model.specs.Snapshot.{Snapshot}
use Rattle.run_model.specs.SoundWorld.{AreSoundProposals, AreSoundStakes, IsSoundSnapshot, activity_set_by, held_by}
use Rattle.text_forms.specs.Actions.{are_proposals, is_action, is_governance_update, is_proposal, is_update}
use Rattle.text_forms.specs.Ids.{is_map}
use Rattle.text_forms.specs.States.{are_governance_params, is_committee}
use Rattle.tx_records.specs.Limits.{is_u32}
use Rattle.resume_checks.proofs.Ordered.{set_from_rising}
use Rattle.snapshot_counts.specs.Fitting.{IsFitting}

left_of : (a b : Bool) → (a && b) ≡ true → a ≡ true
left_of a b h = (and_parts a b h).0

right_of : (a b : Bool) → (a && b) ≡ true → b ≡ true
right_of a b h = (and_parts a b h).1

pub map_from : {K X : Type 0} (cmp : K → K → Ordering) (es : List (K × X)) → is_map cmp es ≡ true → IsMap cmp es
map_from cmp es h = set_from_rising cmp (keys_of es) h

-- ---- proposals

active_number : (n : ℕ) → is_u32 n ≡ true → n ≤ 2 ^ 32
active_number n h = let small : n < 2 ^ 32 = ltb-true n (2 ^ 32) h in omega (arith, small)

active_option : (o : Option ℕ) → none_or is_u32 o ≡ true → unwrap_or o 0 ≤ 2 ^ 32
active_option None h = omega arith
active_option (Some n) h = active_number n h

active_update : (u : Update) → is_update u ≡ true → unwrap_or u.drep_activity 0 ≤ 2 ^ 32
active_update u h =
    let governance : is_governance_update u ≡ true = right_of _ _ h in
    active_option u.drep_activity (right_of _ _ (left_of _ _ (left_of _ _ governance)))

active : (a : Action) → is_action a ≡ true → activity_set_by a ≤ 2 ^ 32
active (NoConfidence previous) h = omega arith
active (UpdateCommittee previous remove add threshold) h = omega arith
active (NewConstitution previous document script) h = omega arith
active (HardForkInitiation previous version) h = omega arith
active (ParameterChange previous update policy) h = active_update update (right_of _ _ (left_of _ _ h))
active (TreasuryWithdrawals targets policy) h = omega arith
active Info h = omega arith

each_active : (ps : List Proposal) → list_all is_proposal ps ≡ true → AllByRecursion (λ (p : Proposal). activity_set_by p.action ≤ 2 ^ 32) ps
each_active [] h = tt
each_active (p ∷ ps) h =
    let here : is_proposal p ≡ true = left_of (is_proposal p) (list_all is_proposal ps) h in
    (active p.action (right_of _ _ (left_of _ _ (left_of _ _ (left_of _ _ (left_of _ _ (left_of _ _ here)))))), each_active ps (right_of (is_proposal p) (list_all is_proposal ps) h))

each_voted : (ps : List Proposal) → list_all is_proposal ps ≡ true → AllByRecursion (λ (p : Proposal). IsMap voter_cmp p.votes) ps
each_voted [] h = tt
each_voted (p ∷ ps) h = (map_from voter_cmp p.votes (right_of _ _ (left_of (is_proposal p) (list_all is_proposal ps) h)), each_voted ps (right_of (is_proposal p) (list_all is_proposal ps) h))

proposals_sound : (ps : List Proposal) → are_proposals ps ≡ true → AreSoundProposals ps
proposals_sound ps h =
    let each : list_all is_proposal ps ≡ true = left_of _ _ h in
    record { ids = distinct_from_repeats action_id_cmp (ids_of ps) (not-true _ (right_of _ _ h)); votes = each_voted ps each; activities = each_active ps each }

-- ---- all of it

seated : (o : Option Committee) → none_or is_committee o ≡ true → IsMap credential_cmp (members_of o)
seated None h = set_from_rising credential_cmp [] h
seated (Some c) h = map_from credential_cmp c.members (left_of _ _ (left_of _ _ h))

pub held_within : (f : Snapshot) → IsFitting f → sum_values held_by f.entries + deposits_of f.proposals ≤ SUPPLY_LIMIT
held_within f h = leb-true (sum_values held_by f.entries + deposits_of f.proposals) SUPPLY_LIMIT h.held

pub mark_sound : (f : Snapshot) → IsFitting f → AreSoundStakes SUPPLY_LIMIT f.mark
mark_sound f h =
    let accounts = left_of _ _ (left_of _ _ (left_of _ _ (left_of _ _ h.form))) in
    record { pools = map_from pool_cmp f.mark (left_of _ _ (right_of _ _ (left_of _ _ accounts))); sum = leb-true (sum_values (λ n. n) f.mark) SUPPLY_LIMIT h.mark }

pub snapshot_sound : (f : Snapshot) → IsFitting f → IsSoundSnapshot SUPPLY_LIMIT f
snapshot_sound f h =
    let start = right_of _ _ h.form in
    let proposals = left_of _ _ h.form in
    let hots = left_of _ _ proposals in
    let accounts = left_of _ _ (left_of _ _ hots) in
    let stakes = left_of _ _ accounts in
    let dreps = left_of _ _ (left_of _ _ stakes) in
    let committee = left_of _ _ (left_of _ _ (left_of _ _ (left_of _ _ start))) in
    let governance : are_governance_params f.start.params ≡ true = right_of _ _ (left_of _ _ (left_of _ _ committee)) in
    record {
      entries = map_from credential_cmp f.entries (left_of _ _ (left_of _ _ dreps));
      dreps = map_from credential_cmp f.dreps (right_of _ _ dreps);
      pool_accounts = map_from pool_cmp f.pool_accounts (left_of _ _ (left_of _ _ (right_of _ _ accounts)));
      hot = map_from credential_cmp f.hot (right_of _ _ (left_of _ _ hots));
      proposals = proposals_sound f.proposals (right_of _ _ proposals);
      committee = seated f.start.committee (right_of _ _ committee);
      held = held_within f h;
      activity = active_number f.start.params.drep_activity (right_of _ _ (left_of _ _ (left_of _ _ governance)));
    }
