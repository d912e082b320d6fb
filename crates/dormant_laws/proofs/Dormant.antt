-- The dormant bound holds of every World that records reach.
use Rattle.std.proofs.Common.{◌≡◌, ℕ, ◌+◌, ◌^◌, ◌<◌, ◌≤◌, ◌==◌, ◌⊎◌, inl, inr, List, [], ◌∷◌, ◌++◌, Bool, true, false, cond, Option, Some, None, filter, filter_map, flat_map, map, fold, take, length, unwrap_or, refl, ap, subst, sym, ◌∙◌, arith}
use Rattle.std.specs.List.{AllByRecursion, cons_option, enumerate_from, list_all}
use Rattle.std.specs.Ordering.{eq_by_cmp, match_ordering}
use Rattle.std.specs.List.Sorted.{IsStrictlySortedBy}
use Rattle.std.specs.Map.{keys_of, values_of}
use Rattle.std.specs.declared.cmp.Ordering.TheVariants.{Less, Equal, Greater}
use Rattle.std.proofs.lemmas.Bool.{ltb-true}
use Rattle.maps.proofs.Lookups.{none_below}
use Rattle.maps.proofs.Same.{value_at_first}
use Rattle.maps.proofs.Ties.{all_tied, is_equal}
use Rattle.maps.specs.Maps.{IsMap, changed_where, value_at, with_value, with_values, without_key}
use Rattle.maps.specs.Words.{is_empty, none_or}
use Rattle.gov_ids.specs.declared.ActionId.{ActionId}
use Rattle.gov_ids.specs.declared.Credential.{Credential}
use Rattle.gov_ids.specs.declared.TxId.{TxId}
use Rattle.gov_ids.specs.declared.Voter.TheVariants as voter
use Rattle.gov_ids.specs.Orders.{credential_cmp}
use Rattle.gov_ids.proofs.Totals.{credential_total}
use Rattle.pparams.specs.declared.Params.{Params}
use Rattle.pparams.specs.declared.Update.{Update}
use Rattle.pparams.specs.Overlay.{laid_over}
use Rattle.run_model.specs.of_book_records.declared.DrepState.{DrepState}
use Rattle.tx_records.specs.of_gov_actions.declared.action.Action.{Action}
use Rattle.tx_records.specs.of_gov_actions.declared.action.Action.TheVariants.{NoConfidence, UpdateCommittee, NewConstitution, HardForkInitiation, ParameterChange, TreasuryWithdrawals, Info}
use Rattle.tx_records.specs.of_gov_actions.declared.action.Proposal.{Proposal}
use Rattle.tx_records.specs.of_gov_actions.declared.state.LastIds.{LastIds}
use Rattle.tx_records.specs.of_gov_actions.Kinds.{priority_of}
use Rattle.run_model.specs.of_gov_model.Enacted.{enacted_after, update_of}
use Rattle.run_model.specs.of_gov_model.Kept.{kept_of}
use Rattle.run_model.specs.of_gov_model.Ratified.{is_one_of, order_of, ratified_of}
use Rattle.run_model.specs.of_gov_model.Snapshot.{Snapshot}
use Rattle.tx_records.proofs.Parts.{genesis_parts, tx_parts}
use Rattle.tx_records.specs.declared.cert.Cert.{Cert}
use Rattle.tx_records.specs.declared.cert.Cert.TheVariants.{AccountReg, AccountUnreg, Delegate, PoolReg, PoolRetire, DrepReg, DrepUnreg, DrepUpdate, HotAuth, HotResign}
use Rattle.tx_records.specs.declared.genesis.Genesis.{Genesis}
use Rattle.tx_records.specs.declared.record.Record.{Record}
use Rattle.tx_records.specs.declared.record.Record.TheVariants as records
use Rattle.tx_records.specs.declared.record.Rewards.{Rewards}
use Rattle.tx_records.specs.declared.reply.Rule.{Rule}
use Rattle.tx_records.specs.declared.tx.ProposalRecord.{ProposalRecord}
use Rattle.tx_records.specs.declared.tx.Scripts.{Scripts}
use Rattle.tx_records.specs.declared.tx.Scripts.TheVariants.{Absent, Passed, Failed}
use Rattle.tx_records.specs.declared.tx.Tx.{Tx}
use Rattle.run_model.specs.of_ledger_model.Ledger.{Ledger, params_of}
use Rattle.run_model.specs.of_book_records.Dormancy.{is_kept_active, extended}
use Rattle.run_model.specs.of_gov_model.Proposals.{without_vote}
use Rattle.run_model.specs.of_ledger_model.Changes.{changed_by, dormant_added, fresh_expiry, has_voted, having_acted, new_drep, refreshed, voters_refreshed, withdrawn}
use Rattle.run_model.specs.of_ledger_model.Draft.{draft_with, is_refused, last_draft}
use Rattle.run_model.specs.of_ledger_model.Transaction.{after_passed, after_scripts, last_voting_epoch, ledger_after_tx, made_proposal, made_proposals, with_votes}
use Rattle.run_model.specs.World.{World}
use Rattle.run_model.specs.Boundary.{after_members, after_rewards, update_applied, world_after_boundary}
use Rattle.run_model.specs.Genesis.{ledger_of_genesis, world_of_genesis}
use Rattle.run_model.specs.Laws.{DormantBound, IsWithinDormantBound}
use Rattle.tx_records.specs.Limits.{is_action, is_slot, is_u32}
use Rattle.tx_records.specs.GenesisLimits as genesis_limits
use Rattle.tx_records.specs.RecordLimits.{is_within_limits}
use Rattle.tx_records.specs.TxLimits as tx_limits
use Rattle.run_model.specs.Runs.{IsReached, world_after_all}
use Rattle.run_model.specs.Step.{crossed, enters_next, refusal_of, step, step_by, world_after_accepted}
use Rattle.dormant_laws.proofs.Lists.{all_append, all_made, all_passing, all_weaken, left_of, right_of}

-- what holds of each DRep of a map
abbrev EachDrep : (DrepState → Type 0) → List (Credential × DrepState) → Type 0
EachDrep P es = AllByRecursion (λ (e : Credential × DrepState). P e.1) es

-- what holds of each value of a map after a change
module _ (P : DrepState → Type 0) where
  by_test : (b : Bool) (x y : DrepState) → P x → P y → P (cond b x y)
  by_test true x y h k = h
  by_test false x y h k = k

  each_with_value : (k : Credential) (v : DrepState) (es : List (Credential × DrepState)) → P v → EachDrep P es → EachDrep P (with_value credential_cmp k v es)
  each_with_value k v [] p h = (p, tt)
  each_with_value k v (e ∷ es) p h =
      elim (credential_cmp k e.0) as (λ r. EachDrep P (match_ordering r ((k, v) ∷ e ∷ es) ((e.0, v) ∷ es) (e ∷ with_value credential_cmp k v es))) [
        | Less ↦ (p, h)
        | Equal ↦ (p, h.1)
        | Greater ↦ (h.0, each_with_value k v es p h.1)
      ]

  each_with_values : (new es : List (Credential × DrepState)) → EachDrep P new → EachDrep P es → EachDrep P (with_values credential_cmp new es)
  each_with_values [] es p h = h
  each_with_values (e ∷ new) es p h = each_with_values new (with_value credential_cmp e.0 e.1 es) p.1 (each_with_value e.0 e.1 es p.0 h)

  each_without_key : (k : Credential) (es : List (Credential × DrepState)) → EachDrep P es → EachDrep P (without_key credential_cmp k es)
  each_without_key k [] h = tt
  each_without_key k (e ∷ es) h = elim (eq_by_cmp credential_cmp k e.0) as (λ b. EachDrep P (cond b es (e ∷ without_key credential_cmp k es))) [
    | true ↦ h.1
    | false ↦ (h.0, each_without_key k es h.1)
  ]

  found_by : (b : Bool) (v x : DrepState) (rest : Option DrepState) → P v → (rest ≡ Some x → P x) → cond b (Some v) rest ≡ Some x → P x
  found_by true v x rest p k e = let is : v ≡ x = cc in subst P is p
  found_by false v x rest p k e = k e

  each_found : (es : List (Credential × DrepState)) (k : Credential) (x : DrepState) → EachDrep P es → value_at credential_cmp es k ≡ Some x → P x
  each_found [] k x h e = cc
  each_found (v ∷ es) k x h e = found_by (eq_by_cmp credential_cmp k v.0) v.1 x (value_at credential_cmp es k) h.0 (λ d. each_found es k x h.1 d) e

-- what holds of each value that a look-up finds holds of each value
pub all_from_found : {X : Type 0} (P : X → Type 0) (es : List (Credential × X)) → IsMap credential_cmp es → ((k : Credential) (x : X) → value_at credential_cmp es k ≡ Some x → P x) → AllByRecursion P (values_of es)
unfolding IsStrictlySortedBy
all_from_found P [] h f = tt
all_from_found P (e ∷ es) h f = (
  f e.0 e.1 (value_at_first credential_total e es),
  all_from_found P es h.1 (
      λ k x t. f k x (
      elim (eq_by_cmp credential_cmp k e.0) as (λ b. eq_by_cmp credential_cmp k e.0 ≡ b → cond b (Some e.1) (value_at credential_cmp es k) ≡ Some x) [
        | true ↦ λ tie. let none : value_at credential_cmp es k ≡ None = none_below credential_cmp k es (all_tied credential_total k e.0 (keys_of es) (is_equal _ tie) h.0) in cc
        | false ↦ λ tie. t
      ] refl
      )
      ),
)

each_of_all : (P : DrepState → Type 0) (es : List (Credential × DrepState)) → AllByRecursion P (values_of es) → EachDrep P es
each_of_all P [] h = tt
each_of_all P (e ∷ es) h = (h.0, each_of_all P es h.1)

-- the same where some values change, and the claim with them
each_changed : (P Q : DrepState → Type 0) (p : Credential → DrepState → Bool) (f : DrepState → DrepState) → ((x : DrepState) → P x → Q (f x)) → ((x : DrepState) → P x → Q x)
    → (es : List (Credential × DrepState)) → EachDrep P es → EachDrep Q (changed_where p f es)
each_changed P Q p f k j [] h = tt
each_changed P Q p f k j (e ∷ es) h = (by_test Q (p e.0 e.1) (f e.1) e.1 (k e.1 h.0) (j e.1 h.0), each_changed P Q p f k j es h.1)

-- no epoch is dormant, or no proposal is live
abbrev IsAwake : ℕ → List Proposal → Type 0
IsAwake dormant ps = (dormant ≡ 0) ⊎ (ps ≡ [])

awake_made : (f : Proposal → Proposal) (dormant : ℕ) (ps : List Proposal) → IsAwake dormant ps → IsAwake dormant (map f ps)
awake_made f dormant ps (inl e) = inl e
awake_made f dormant ps (inr e) = inr (ap (λ (list : List Proposal). map f list) e)

-- certificates leave the dormant count
cert_dormant : (c : Cert) (d : Ledger) → (changed_by c d).dormant ≡ d.dormant
cert_dormant (AccountReg cred deposit pool drep) d = refl
cert_dormant (AccountUnreg cred refund) d = refl
cert_dormant (Delegate cred pool drep) d = refl
cert_dormant (PoolReg pool cost pledge margin account key) d = refl
cert_dormant (PoolRetire pool epoch) d = refl
cert_dormant (DrepReg cred deposit) d = refl
cert_dormant (DrepUnreg cred refund) d = refl
cert_dormant (DrepUpdate cred) d = refl
cert_dormant (HotAuth cold key) d = refl
cert_dormant (HotResign cold) d = refl

either_dormant : (b : Bool) (c : Cert) (d : Ledger) → (cond b d (changed_by c d)).dormant ≡ d.dormant
either_dormant true c d = refl
either_dormant false c d = cert_dormant c d

certs_dormant : (l : Ledger) (cs : List Cert) (d : Ledger) → (fold (draft_with l) d cs).dormant ≡ d.dormant
certs_dormant l [] d = refl
certs_dormant l (c ∷ cs) d = certs_dormant l cs (draft_with l d c) ∙ either_dormant (is_refused l d c) c d

-- a proposal ends the dormant epochs
awake_after : (last : ℕ) (id : TxId) (ps : List ProposalRecord) (old : List Proposal) (dormant : ℕ) → IsAwake dormant old → (is_empty ps ≡ false → dormant ≡ 0)
    → IsAwake dormant (old ++ map (λ p. made_proposal last id p.0 p.1) (enumerate_from 0 ps))
awake_after last id [] old dormant (inl e) k = inl e
awake_after last id [] old dormant (inr e) k = inr (ap (λ (list : List Proposal). list ++ []) e)
awake_after last id (p ∷ ps) old dormant a k = inl (k refl)

refresh_dormant : (b : Bool) (tx : Tx) (v : Ledger) → b ≡ false → (voters_refreshed tx (cond b v (dormant_added v))).dormant ≡ 0
refresh_dormant true tx v e = cc
refresh_dormant false tx v e = refl

-- where there was no proposal the boundary keeps none, and it counts an epoch only where none is left
none_kept : (dormant : ℕ) (ps : List Proposal) (enacted expired : List ActionId) (last : LastIds) → IsAwake dormant ps → IsAwake dormant (kept_of ps enacted expired last)
none_kept dormant ps enacted expired last (inl e) = inl e
none_kept dormant ps enacted expired last (inr e) = inr (ap (λ (list : List Proposal). kept_of list enacted expired last) e)

noted_awake : (ps : List Proposal) (dormant : ℕ) → IsAwake dormant ps → IsAwake (cond (is_empty ps) (dormant + 1) dormant) ps
noted_awake [] dormant a = inr refl
noted_awake (p ∷ ps) dormant (inl e) = inl e
noted_awake (p ∷ ps) dormant (inr e) = cc

noted_most : (b : Bool) (n : ℕ) → cond b (n + 1) n ≤ n + 1
noted_most true n = omega arith
noted_most false n = omega arith

-- updates and proposals that set no activity past a limit
module _ (most : ℕ) where
  abbrev pub IsActive : Option ℕ → Type 0
  IsActive None = Unit {0}
  IsActive (Some n) = n ≤ most

  abbrev pub IsActiveUpdate : Option Update → Type 0
  IsActiveUpdate None = Unit {0}
  IsActiveUpdate (Some u) = IsActive u.drep_activity

  abbrev pub IsActiveAction : Action → Type 0
  IsActiveAction a = IsActiveUpdate (update_of a)

  abbrev pub AreActive : List Proposal → Type 0
  AreActive ps = AllByRecursion (λ (p : Proposal). IsActiveAction p.action) ps

  abbrev pub AreActiveRecords : List ProposalRecord → Type 0
  AreActiveRecords ps = AllByRecursion (λ (p : ProposalRecord). IsActiveAction p.action) ps

  made_live : (last : ℕ) (id : TxId) (n : ℕ) (ps : List ProposalRecord) → AreActiveRecords ps
      → AreActive (map (λ p. made_proposal last id p.0 p.1) (enumerate_from n ps))
  made_live last id n [] h = tt
  made_live last id n (p ∷ ps) h = (h.0, made_live last id (n + 1) ps h.1)

  -- enacting such proposals leaves the activity within its range
  overlaid : (o : Option ℕ) (n : ℕ) → n ≤ most → IsActive o → unwrap_or o n ≤ most
  overlaid None n h k = h
  overlaid (Some m) n h k = k

  one_overlaid : (o : Option Update) (rest : List Update) (s : Params) → s.drep_activity ≤ most → IsActiveUpdate o
      → ((t : Params) → t.drep_activity ≤ most → (fold laid_over t rest).drep_activity ≤ most) → (fold laid_over s (cons_option o rest)).drep_activity ≤ most
  one_overlaid None rest s h a k = k s h
  one_overlaid (Some u) rest s h a k = k (laid_over s u) (overlaid u.drep_activity s.drep_activity h a)

  abbrev updates_of : List Proposal → List Update
  updates_of es = filter_map (λ (a : ActionId × Action). update_of a.1) (map (λ (a : Proposal). (a.id, a.action)) es)

  all_overlaid : (es : List Proposal) (s : Params) → s.drep_activity ≤ most → AreActive es → (fold laid_over s (updates_of es)).drep_activity ≤ most
  all_overlaid [] s h a = h
  all_overlaid (p ∷ es) s h a = one_overlaid (update_of p.action) (updates_of es) s h a.0 (λ t k. all_overlaid es t k a.1)

  in_order_active : (ns : List ℕ) (ps : List Proposal) → AreActive ps → AreActive (flat_map (λ (n : ℕ). filter (λ (p : Proposal). priority_of p.action == n) ps) ns)
  in_order_active [] ps h = tt
  in_order_active (n ∷ ns) ps h =
      all_append (λ (p : Proposal). IsActiveAction p.action) (filter (λ (p : Proposal). priority_of p.action == n) ps) _ (all_passing (λ (p : Proposal). IsActiveAction p.action) (λ (p : Proposal). priority_of p.action == n) ps h) (in_order_active ns ps h)

  enacted_active : (f : Snapshot) → f.start.params.drep_activity ≤ most → AreActive f.proposals
      → (enacted_after f (filter (is_one_of (ratified_of f)) (order_of f))).params.drep_activity ≤ most
  enacted_active f h a =
      all_overlaid (filter (is_one_of (ratified_of f)) (order_of f)) f.start.params h
      (all_passing (λ (p : Proposal). IsActiveAction p.action) (is_one_of (ratified_of f)) (order_of f) (in_order_active (0 ∷ 1 ∷ 2 ∷ 3 ∷ 4 ∷ 5 ∷ 6 ∷ []) f.proposals a))

-- the bound: expiries begin within top, and activities are within most
module _ (top most : ℕ) where
  abbrev IsTimely : ℕ → ℕ → DrepState → Type 0
  IsTimely dormant epoch d = d.expiry + dormant ≤ top + most + epoch

-- what may be asked of live proposals beside it: it stays where their actions do
module _ (top most : ℕ) (IsLive : List Proposal → Type 0) (stays : (f : Proposal → Proposal) → ((p : Proposal) → (f p).action ≡ p.action) → (ps : List Proposal) → IsLive ps → IsLive (map f ps)) where
  abbrev IsSoon : ℕ → ℕ → DrepState → Type 0
  IsSoon dormant epoch d = IsTimely top most dormant epoch d

  -- the law, with the activity of the parameters within its range
  pub record AreWithin (dormant epoch length : ℕ) (ps : List Proposal) (es : List (Credential × DrepState)) : Type 0 where
    pub awake : IsAwake dormant ps
    pub at_most : dormant ≤ epoch
    pub dreps : EachDrep (IsSoon dormant epoch) es
    pub activity : length ≤ most
    pub live : IsLive ps

  abbrev IsWithin : Ledger → Type 0
  IsWithin l = AreWithin l.dormant l.epoch l.state.params.drep_activity l.proposals l.dreps

  fresh_is_timely : (l : Ledger) → IsWithin l → fresh_expiry l + l.dormant ≤ top + most + l.epoch
  fresh_is_timely l h = omega (arith, h.at_most, h.activity)

  -- where only the DReps change
  dreps_within : (l : Ledger) (es : List (Credential × DrepState)) → IsWithin l → EachDrep (IsSoon l.dormant l.epoch) es → IsWithin (record l { dreps = es })
  dreps_within l es h d = record { awake = h.awake; at_most = h.at_most; dreps = d; activity = h.activity; live = h.live }

  acted_within : (p : Credential → DrepState → Bool) (l : Ledger) → IsWithin l → IsWithin (record l { dreps = changed_where p (having_acted l) l.dreps })
  acted_within p l h =
      dreps_within l (changed_where p (having_acted l) l.dreps) h
      (each_changed (IsSoon l.dormant l.epoch) (IsSoon l.dormant l.epoch) p (having_acted l) (λ x k. fresh_is_timely l h) (λ x k. k) l.dreps h.dreps)

  cert_within : (c : Cert) (l : Ledger) → IsWithin l → IsWithin (changed_by c l)
  cert_within (AccountReg cred deposit pool drep) l h = h
  cert_within (AccountUnreg cred refund) l h = h
  cert_within (Delegate cred pool drep) l h = h
  cert_within (PoolReg pool cost pledge margin account key) l h = h
  cert_within (PoolRetire pool epoch) l h = h
  cert_within (DrepReg cred deposit) l h =
      dreps_within l (with_value credential_cmp cred (new_drep l) l.dreps) h (each_with_value (IsSoon l.dormant l.epoch) cred (new_drep l) l.dreps (fresh_is_timely l h) h.dreps)
  cert_within (DrepUnreg cred refund) l h = record {
    awake = awake_made (without_vote (voter.Drep cred)) l.dormant l.proposals h.awake;
    at_most = h.at_most;
    dreps = each_without_key (IsSoon l.dormant l.epoch) cred l.dreps h.dreps;
    activity = h.activity;
    live = stays (without_vote (voter.Drep cred)) (λ p. refl) l.proposals h.live;
  }
  cert_within (DrepUpdate cred) l h = acted_within (λ q x. eq_by_cmp credential_cmp cred q) l h
  cert_within (HotAuth cold key) l h = h
  cert_within (HotResign cold) l h = h

  either_within : (b : Bool) (c : Cert) (d : Ledger) → IsWithin d → IsWithin (cond b d (changed_by c d))
  either_within true c d h = h
  either_within false c d h = cert_within c d h

  certs_within : (l : Ledger) (cs : List Cert) (d : Ledger) → IsWithin d → IsWithin (fold (draft_with l) d cs)
  certs_within l [] d h = h
  certs_within l (c ∷ cs) d h = certs_within l cs (draft_with l d c) (either_within (is_refused l d c) c d h)

  -- the refresh
  added_within : (l : Ledger) → IsWithin l → IsWithin (dormant_added l)
  added_within l h = record {
    awake = inl refl;
    at_most = omega arith;
    dreps = each_changed (IsSoon l.dormant l.epoch) (IsSoon 0 l.epoch) (λ c d. is_kept_active l.epoch l.dormant d) (extended l.dormant) (λ x k. omega (arith, k)) (λ x k. omega (arith, k)) l.dreps h.dreps;
    activity = h.activity;
    live = h.live;
  }

  refresh_within : (b : Bool) (tx : Tx) (l : Ledger) → IsWithin l → IsWithin (voters_refreshed tx (cond b l (dormant_added l)))
  refresh_within true tx l h = acted_within (λ c d. has_voted tx c) l h
  refresh_within false tx l h = acted_within (λ c d. has_voted tx c) (dormant_added l) (added_within l h)

  draft_within : (tx : Tx) (l : Ledger) → IsWithin l → IsWithin (last_draft l tx)
  draft_within tx l h = certs_within l (take (length tx.certs) tx.certs) (refreshed tx (withdrawn tx l)) (refresh_within (is_empty tx.proposals) tx (withdrawn tx l) h)

  passed_within : (l : Ledger) (tx : Tx) → IsWithin l → ((ps : List Proposal) → IsLive ps → IsLive (ps ++ made_proposals (last_voting_epoch l) tx)) → IsWithin (after_passed l tx)
  passed_within l tx h new =
      let d : Ledger = last_draft l tx in
      let k : IsWithin d = draft_within tx l h in
      record {
        awake = awake_after (last_voting_epoch l) tx.id tx.proposals (map (with_votes tx) d.proposals) d.dormant (awake_made (with_votes tx) d.dormant d.proposals k.awake) (
            λ e. certs_dormant l (take (length tx.certs) tx.certs) (refreshed tx (withdrawn tx l)) ∙ refresh_dormant (is_empty tx.proposals) tx (withdrawn tx l) e
            );
        at_most = k.at_most;
        dreps = k.dreps;
        activity = k.activity;
        live = new (map (with_votes tx) d.proposals) (stays (with_votes tx) (λ p. refl) d.proposals k.live);
      }

  tx_within : (sc : Scripts) (l : Ledger) (tx : Tx) → IsWithin l → ((ps : List Proposal) → IsLive ps → IsLive (ps ++ made_proposals (last_voting_epoch l) tx)) → IsWithin (after_scripts sc l tx)
  tx_within Absent l tx h new = passed_within l tx h new
  tx_within Passed l tx h new = passed_within l tx h new
  tx_within Failed l tx h new = h

-- the same of a World, and of what it froze, where the activity that live proposals leave is within its range too
module _ (top most : ℕ) where
  pub kept_active : (f : Proposal → Proposal) → ((p : Proposal) → (f p).action ≡ p.action) → (ps : List Proposal) → AreActive most ps → AreActive most (map f ps)
  kept_active f same ps h =
      all_made (λ (p : Proposal). IsActiveAction most p.action) (λ (p : Proposal). IsActiveAction most p.action) f (λ p k. subst (λ (a : Action). IsActiveAction most a) (sym (same p)) k) ps h

  abbrev pub IsActiveLedger : Ledger → Type 0
  IsActiveLedger l = IsWithin top most (AreActive most) kept_active l

  active_after : (sc : Scripts) (l : Ledger) (tx : Tx) → IsActiveLedger l → AreActiveRecords most tx.proposals → IsActiveLedger (after_scripts sc l tx)
  active_after sc l tx h new =
      tx_within top most (AreActive most) kept_active sc l tx h (λ ps k. all_append (λ (p : Proposal). IsActiveAction most p.action) ps (made_proposals (last_voting_epoch l) tx) k (made_live most (last_voting_epoch l) tx.id 0 tx.proposals new))

  pub record IsWithinWorld (w : World) : Type 0 where
    pub ledger : IsActiveLedger w.ledger
    pub start : w.frozen.start.params.drep_activity ≤ most
    pub frozen : AreActive most w.frozen.proposals

  -- the boundary
  update_within : (o : Option Rewards) (l : Ledger) → IsActiveLedger l → IsActiveLedger (update_applied o l)
  update_within None l h = h
  update_within (Some u) l h = h

  pub boundary_within : (w : World) → IsWithinWorld w → IsWithinWorld (world_after_boundary w)
  boundary_within w h =
      let l : Ledger = (after_rewards w).ledger in
      let k : IsActiveLedger l = update_within w.pending w.ledger h.ledger in
      let kept : List Proposal = (after_members w).ledger.proposals in
      let most_now : cond (is_empty kept) (l.dormant + 1) l.dormant ≤ l.dormant + 1 = noted_most (is_empty kept) l.dormant in
      let activity : (world_after_boundary w).ledger.state.params.drep_activity ≤ most = enacted_active most w.frozen h.start h.frozen in
      let live : AreActive most kept = all_passing (λ (p : Proposal). IsActiveAction most p.action) _ _ (all_passing (λ (p : Proposal). IsActiveAction most p.action) _ l.proposals k.live) in
      record {
        ledger = record {
          awake = noted_awake kept l.dormant (none_kept l.dormant l.proposals _ _ _ k.awake);
          at_most = omega (arith, most_now, k.at_most);
          dreps = all_weaken (λ (e : Credential × DrepState). IsTimely top most l.dormant l.epoch e.1)
              (λ (e : Credential × DrepState). IsTimely top most (cond (is_empty kept) (l.dormant + 1) l.dormant) (l.epoch + 1) e.1) (λ e j. omega (arith, j, most_now)) l.dreps k.dreps;
          activity = activity;
          live = live;
        };
        start = activity;
        frozen = live;
      }

  pub crossed_within : (b : Bool) (w : World) → IsWithinWorld w → IsWithinWorld (crossed b w)
  crossed_within true w h = boundary_within w h
  crossed_within false w h = h

-- the bound of the law
abbrev pub IsBounded : World → Type 0
IsBounded w = IsWithinWorld (2 ^ 62) (2 ^ 32) w

-- what reading gives of activities
short : (n : ℕ) → is_u32 n ≡ true → n ≤ 2 ^ 32
short n h = let less : n < 2 ^ 32 = ltb-true n (2 ^ 32) h in omega (arith, less)

short_option : (o : Option ℕ) → none_or is_u32 o ≡ true → IsActive (2 ^ 32) o
short_option None h = tt
short_option (Some n) h = short n h

action_active : (a : Action) → is_action a ≡ true → IsActiveAction (2 ^ 32) a
action_active (NoConfidence previous) h = tt
action_active (UpdateCommittee previous remove add threshold) h = tt
action_active (NewConstitution previous document script) h = tt
action_active (HardForkInitiation previous version) h = tt
action_active (ParameterChange previous update policy) h = short_option update.drep_activity (right_of _ _ (left_of _ _ h))
action_active (TreasuryWithdrawals targets policy) h = tt
action_active Info h = tt

actions_active : (ps : List ProposalRecord) → list_all (λ (p : ProposalRecord). is_action p.action) ps ≡ true → AreActiveRecords (2 ^ 32) ps
actions_active [] h = tt
actions_active (p ∷ ps) h = (action_active p.action (left_of _ _ h), actions_active ps (right_of _ _ h))

tx_active : (tx : Tx) → tx_limits.is_within_limits tx ≡ true → AreActiveRecords (2 ^ 32) tx.proposals
tx_active tx h = actions_active tx.proposals (tx_parts tx h).actions

-- the genesis
abbrev Drep3 : Type 0
Drep3 = Credential × ℕ × ℕ

abbrev as_entry : Drep3 → Credential × DrepState
as_entry d = (d.0, record { deposit = d.1; expiry = d.2 })

early : (n epoch : ℕ) → is_slot n ≡ true → n + 0 ≤ 2 ^ 62 + 2 ^ 32 + epoch
early n epoch h = let less : n < 2 ^ 62 = ltb-true n (2 ^ 62) h in omega (arith, less)

all_early : (epoch : ℕ) (ds : List Drep3) → list_all (λ (d : Drep3). is_slot d.2) ds ≡ true → EachDrep (IsTimely (2 ^ 62) (2 ^ 32) 0 epoch) (map as_entry ds)
all_early epoch [] h = tt
all_early epoch (d ∷ ds) h = (early d.2 epoch (left_of _ _ h), all_early epoch ds (right_of _ _ h))

at_least_none : (n : ℕ) → 0 ≤ n
at_least_none n = omega arith

pub genesis_bounded : (g : Genesis) → genesis_limits.is_within_limits g ≡ true → IsBounded (world_of_genesis g)
genesis_bounded g h =
    let parts = genesis_parts g h in
    let activity : g.params.drep_activity ≤ 2 ^ 32 = short g.params.drep_activity (right_of _ _ (left_of _ _ parts.params)) in
    let expiries : list_all (λ (d : Drep3). is_slot d.2) g.dreps ≡ true = parts.expiries in
    let epoch : ℕ = (world_of_genesis g).ledger.epoch in
    record {
      ledger = record {
        awake = inl refl;
        at_most = at_least_none epoch;
        dreps = each_with_values (IsTimely (2 ^ 62) (2 ^ 32) 0 epoch) (map as_entry g.dreps) [] (all_early epoch g.dreps expiries) tt;
        activity = activity;
        live = tt;
      };
      start = activity;
      frozen = tt;
    }

-- each record
pub accepted_bounded : (w : World) (r : Record) → IsBounded w → is_within_limits r ≡ true → IsBounded (world_after_accepted w r)
accepted_bounded w (records.Genesis g) b h = b
accepted_bounded w (records.Block slot pulse) b h = let c = crossed_within (2 ^ 62) (2 ^ 32) (enters_next w.ledger slot) w b in record { ledger = c.ledger; start = c.start; frozen = c.frozen }
accepted_bounded w (records.Rewards u) b h = record { ledger = b.ledger; start = b.start; frozen = b.frozen }
accepted_bounded w (records.Tx tx) b h = record { ledger = active_after (2 ^ 62) (2 ^ 32) tx.scripts w.ledger tx b.ledger (tx_active tx h); start = b.start; frozen = b.frozen }
accepted_bounded w (records.Print what) b h = b

pub bounded_by : (o : Option Rule) (w : World) (r : Record) → IsBounded w → is_within_limits r ≡ true → IsBounded (step_by o w r).0
bounded_by (Some rule) w r b h = b
bounded_by None w r b h = accepted_bounded w r b h

all_bounded : (rs : List Record) (w : World) → IsBounded w → list_all is_within_limits rs ≡ true → IsBounded (world_after_all w rs)
all_bounded [] w b h = b
all_bounded (r ∷ rs) w b h = all_bounded rs (step w r).0 (bounded_by (refusal_of w r) w r b (left_of _ _ h)) (right_of _ _ h)

reached_bounded : (w : World) → IsReached w → IsBounded w
reached_bounded w h = subst (λ (v : World). IsBounded v) h.reached (all_bounded h.records (world_of_genesis h.genesis) (genesis_bounded h.genesis h.within) h.all_within)

law_of : (IsLive : List Proposal → Type 0) (stays : (f : Proposal → Proposal) → ((p : Proposal) → (f p).action ≡ p.action) → (ps : List Proposal) → IsLive ps → IsLive (map f ps)) (l : Ledger)
    → IsWithin (2 ^ 62) (2 ^ 32) IsLive stays l → IsWithinDormantBound l
law_of IsLive stays l b = record { awake = b.awake; at_most = b.at_most; expiries = λ c d e. each_found (IsTimely (2 ^ 62) (2 ^ 32) l.dormant l.epoch) l.dreps c d b.dreps e }

pub dormant_bound : DormantBound
dormant_bound w h = law_of (AreActive (2 ^ 32)) (kept_active (2 ^ 62) (2 ^ 32)) w.ledger (reached_bounded w h).ledger

-- ---- the same of a ledger by itself

-- that of a genesis is within the bound, and its activity within its range
pub genesis_timely : (g : Genesis) → genesis_limits.is_within_limits g ≡ true → IsWithinDormantBound (ledger_of_genesis g) × ((params_of (ledger_of_genesis g)).drep_activity ≤ 2 ^ 32)
genesis_timely g h =
    let b : IsBounded (world_of_genesis g) = genesis_bounded g h in
    (law_of (AreActive (2 ^ 32)) (kept_active (2 ^ 62) (2 ^ 32)) (ledger_of_genesis g) b.ledger, b.ledger.activity)

-- the bound of a ledger is the law of it, with what its parameters and live proposals set
pub bounded_ledger : (l : Ledger) → IsMap credential_cmp l.dreps → IsWithinDormantBound l → (params_of l).drep_activity ≤ 2 ^ 32 → AreActive (2 ^ 32) l.proposals → IsActiveLedger (2 ^ 62) (2 ^ 32) l
bounded_ledger l m b activity live = record {
  awake = b.awake;
  at_most = b.at_most;
  dreps = each_of_all (IsTimely (2 ^ 62) (2 ^ 32) l.dormant l.epoch) l.dreps (all_from_found (IsTimely (2 ^ 62) (2 ^ 32) l.dormant l.epoch) l.dreps m b.expiries);
  activity = activity;
  live = live;
}

pub law_of_bounded : (l : Ledger) → IsActiveLedger (2 ^ 62) (2 ^ 32) l → IsWithinDormantBound l
law_of_bounded l b = law_of (AreActive (2 ^ 32)) (kept_active (2 ^ 62) (2 ^ 32)) l b

-- and a transaction keeps one within it
pub tx_timely : (l : Ledger) (tx : Tx) → IsMap credential_cmp l.dreps → IsWithinDormantBound l → (params_of l).drep_activity ≤ 2 ^ 32 → IsWithinDormantBound (ledger_after_tx l tx)
tx_timely l tx m b activity =
    let any : List Proposal → Type 0 = λ ps. Unit {0} in
    law_of any (λ f same ps h. tt) (ledger_after_tx l tx)
    (tx_within (2 ^ 62) (2 ^ 32) any (λ f same ps h. tt) tx.scripts l tx (record {
      awake = b.awake;
      at_most = b.at_most;
      dreps = each_of_all (IsTimely (2 ^ 62) (2 ^ 32) l.dormant l.epoch) l.dreps (all_from_found (IsTimely (2 ^ 62) (2 ^ 32) l.dormant l.epoch) l.dreps m b.expiries);
      activity = activity;
      live = tt;
    }) (λ ps h. tt))
