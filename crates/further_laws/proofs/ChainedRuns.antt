-- What records keep of the chains of live proposals.
use Rattle.std.proofs.Common.{◌≡◌, ℕ, ◌+◌, List, [], ◌∷◌, ◌++◌, Bool, true, false, ◌&&◌, ◌||◌, ◌==◌, not, All, cond, inl, inr, Contains, Option, Some, None, filter, find, flat_map, get_or, map, refl, ap, sym, subst, append-nil}
use Rattle.std.specs.List.{AllByRecursion, enumerate_from, last_or, list_all}
use Rattle.std.proofs.lemmas.Bool.{false≢true, not-false, or_cases}
use Rattle.std.proofs.lemmas.List.Elements.{All-contains, All-from_recursion, Contains-get_or, recursion_from_All}
use Rattle.maps.specs.Maps.{has_member, with_key}
use Rattle.maps.specs.Words.{holds, same_option, some_and}
use Rattle.maps.proofs.Ties.{is_equal}
use Rattle.gov_ids.specs.declared.ActionId.{ActionId}
use Rattle.gov_ids.specs.declared.TxId.{TxId}
use Rattle.gov_ids.specs.Orders.{txid_cmp}
use Rattle.gov_ids.specs.Same.{same_action}
use Rattle.gov_ids.proofs.Exacts.{action_id_exact}
use Rattle.gov_actions.specs.declared.action.Action.{Action}
use Rattle.gov_actions.specs.declared.action.Action.TheVariants.{NoConfidence, UpdateCommittee, NewConstitution, HardForkInitiation, ParameterChange, TreasuryWithdrawals, Info}
use Rattle.gov_actions.specs.declared.action.Proposal.{Proposal}
use Rattle.gov_actions.specs.declared.action.Purpose.{Purpose}
use Rattle.gov_actions.specs.declared.action.Purpose.TheVariants as purpose
use Rattle.gov_actions.specs.declared.state.EnactState.{EnactState}
use Rattle.gov_actions.specs.declared.state.LastIds.{LastIds}
use Rattle.gov_actions.specs.Kinds.{last_of, previous_of, priority_of, purpose_of, same_purpose}
use Rattle.gov_model.specs.Enacted.{last_id_after, last_ids_after}
use Rattle.gov_model.specs.Kept.{is_kept, is_parent}
use Rattle.gov_model.specs.Laws.{HaveDistinctIds}
use Rattle.gov_model.specs.Lineage.{is_last_enacted, is_live_of, may_follow}
use Rattle.gov_model.specs.Ratified.{expired_of, is_one_of, order_of, ratified_of}
use Rattle.gov_model.proofs.KeptOf.{own_filter}
use Rattle.tx_records.specs.declared.record.Record.{Record}
use Rattle.tx_records.specs.declared.record.Record.TheVariants as records
use Rattle.tx_records.specs.declared.record.Rewards.{Rewards}
use Rattle.tx_records.specs.declared.reply.Rule.{Rule}
use Rattle.tx_records.specs.declared.tx.ProposalRecord.{ProposalRecord}
use Rattle.tx_records.specs.declared.tx.Scripts.{Scripts}
use Rattle.tx_records.specs.declared.tx.Scripts.TheVariants.{Absent, Passed, Failed}
use Rattle.tx_records.specs.declared.tx.Tx.{Tx}
use Rattle.tx_records.specs.RecordLimits.{is_within_limits}
use Rattle.ledger_model.specs.Broken.{body_checks, tx_checks}
use Rattle.ledger_model.specs.Checks.{per_place_from}
use Rattle.ledger_model.specs.Draft.{last_draft}
use Rattle.ledger_model.specs.Ledger.{Ledger}
use Rattle.ledger_model.specs.ProposalRules.{action_checks, proposal_checks}
use Rattle.ledger_model.specs.Sound.{IsSound}
use Rattle.ledger_model.specs.Transaction.{after_passed, after_scripts, last_voting_epoch, ledger_after_tx, made_proposal, made_proposals}
use Rattle.ledger_model.specs.UtxoRules.{unless_failed, utxo_checks}
use Rattle.ledger_model.proofs.Unbroken.{IsUnbroken, unbroken-append, unbroken-cons, unbroken-per_place}
use Rattle.tx_balance.proofs.OutputParts.{id_is_new, parts_of}
use Rattle.tx_balance.proofs.Passed.{body_parts}
use Rattle.tx_balance.proofs.Sounds.{kept, still_used}
use Rattle.run_model.specs.Boundary.{after_rewards, enacted_proposals, update_applied, world_after_boundary}
use Rattle.run_model.specs.Genesis.{world_of_genesis}
use Rattle.run_model.specs.Runs.{IsReached, world_after_all}
use Rattle.run_model.specs.Step.{crossed, enters_next, pulsed, refusal_of, step, step_by, world_after_accepted}
use Rattle.run_model.specs.World.{World}
use Rattle.dormant_laws.proofs.Lists.{all_append, all_passing, all_weaken, left_of, right_of}
use Rattle.run_laws.proofs.Good.{IsGood}
use Rattle.run_laws.proofs.GoodBlock.{update_good, update_only}
use Rattle.run_laws.proofs.Reach.{allowed, record_good}
use Rattle.run_laws.proofs.Sound.{from_ids}
use Rattle.run_laws.proofs.Start.{genesis_good}
use Rattle.checkpoint_model.specs.Resumable.{are_chained, unvoted}
use Rattle.further_laws.proofs.Chained.{Chained, IsUsed, NamesUsed, NoneLater, all_unvoted, chained_append, chained_test, chained_unvoted, chained_voted, follow_grows, later_append, later_filter, later_unvoted, later_voted, live_unvoted, names_unvoted, names_voted, new_chained, new_later, none_new, stay_chained}
use Rattle.further_laws.proofs.Fronted.{passed_more}

-- the ids of the last enacted actions are of used transactions
abbrev AreUsed : List TxId → LastIds → Type 0
AreUsed used last = (p : Purpose) → IsUsed used (last_of last p)

-- what holds of the chains of a ledger
record IsChained (l : Ledger) : Type 0 where
  chained : Chained l.state.last [] l.proposals
  later : NoneLater l.proposals
  names : NamesUsed l.used l.proposals
  last : AreUsed l.used l.state.last

chained_same : (l m : Ledger) → m.state.last ≡ l.state.last → m.proposals ≡ l.proposals → ((o : Option ActionId) → IsUsed l.used o → IsUsed m.used o) → IsChained l → IsChained m
chained_same l m e f grows c = record {
  chained = subst (λ (ps : List Proposal). Chained m.state.last [] ps) (sym f) (subst (λ (x : LastIds). Chained x [] l.proposals) (sym e) c.chained);
  later = subst (λ (ps : List Proposal). NoneLater ps) (sym f) c.later;
  names = subst (λ (ps : List Proposal). NamesUsed m.used ps) (sym f)
      (all_weaken (λ (a : Proposal). IsUsed l.used (previous_of a.action)) (λ (a : Proposal). IsUsed m.used (previous_of a.action)) (λ a h. grows (previous_of a.action) h) l.proposals c.names);
  last = λ p. grows (last_of m.state.last p) (subst (λ (x : LastIds). IsUsed l.used (last_of x p)) (sym e) (c.last p));
}

-- ---- what a proposal names is used

is_same : (x y : ActionId) → same_action x y ≡ true → x ≡ y
is_same x y e = action_id_exact x y (is_equal _ e)

same_used : (used : List TxId) (o previous : Option ActionId) → IsUsed used o → same_option same_action previous o ≡ true → IsUsed used previous
same_used used o None h e = refl
same_used used None (Some id) h e = absurd (false≢true e)
same_used used (Some x) (Some id) h e = subst (λ (y : ActionId). has_member txid_cmp used y.tx ≡ true) (is_same x id e) h

found_used : (used : List TxId) (t : Proposal → Bool) (id : ActionId) (ps : List Proposal) → AllByRecursion (λ (p : Proposal). has_member txid_cmp used p.id.tx ≡ true) ps
    → some_and t (find (λ (p : Proposal). same_action p.id id) ps) ≡ true → has_member txid_cmp used id.tx ≡ true
found_used used t id [] h e = absurd (false≢true e)
found_used used t id (x ∷ xs) h e =
    elim (same_action x.id id) as (λ c. same_action x.id id ≡ c → some_and t (cond c (Some x) (find (λ (p : Proposal). same_action p.id id) xs)) ≡ true → has_member txid_cmp used id.tx ≡ true) [
      | true ↦ λ s e. subst (λ (y : ActionId). has_member txid_cmp used y.tx ≡ true) (is_same x.id id s) h.0
      | false ↦ λ s e. found_used used t id xs h.1 e
    ] refl e

live_used : (used : List TxId) (ps : List Proposal) (p : Purpose) (previous : Option ActionId) → AllByRecursion (λ (q : Proposal). has_member txid_cmp used q.id.tx ≡ true) ps
    → some_and (is_live_of ps p) previous ≡ true → IsUsed used previous
live_used used ps p None h e = refl
live_used used ps p (Some id) h e = found_used used (λ (q : Proposal). holds same_purpose (purpose_of q.action) p) id ps h e

named_used : (used : List TxId) (ps : List Proposal) (last : LastIds) (p : Purpose) (previous : Option ActionId) → AreUsed used last → AllByRecursion (λ (q : Proposal). has_member txid_cmp used q.id.tx ≡ true) ps
    → (is_last_enacted last p previous || some_and (is_live_of ps p) previous) ≡ true → IsUsed used previous
named_used used ps last p previous u h e = elim (or_cases (is_last_enacted last p previous) (some_and (is_live_of ps p) previous) e) [
  | inl k ↦ same_used used (last_of last p) previous (u p) k
  | inr k ↦ live_used used ps p previous h k
]

follow_used : (used : List TxId) (ps : List Proposal) (last : LastIds) (a : Action) → AreUsed used last → AllByRecursion (λ (q : Proposal). has_member txid_cmp used q.id.tx ≡ true) ps
    → may_follow ps last a ≡ true → IsUsed used (previous_of a)
follow_used used ps last (NoConfidence previous) u h e = named_used used ps last purpose.Committee previous u h e
follow_used used ps last (UpdateCommittee previous remove add threshold) u h e = named_used used ps last purpose.Committee previous u h e
follow_used used ps last (NewConstitution previous document script) u h e = named_used used ps last purpose.Constitution previous u h e
follow_used used ps last (HardForkInitiation previous version) u h e = named_used used ps last purpose.HardFork previous u h e
follow_used used ps last (ParameterChange previous update policy) u h e = named_used used ps last purpose.Parameters previous u h e
follow_used used ps last (TreasuryWithdrawals targets policy) u h e = refl
follow_used used ps last Info u h e = refl

-- ---- a transaction

abbrev Follows : Ledger → ProposalRecord → Type 0
Follows l p = may_follow l.proposals l.state.last p.action ≡ true

proposal_follows : (l d : Ledger) (n : ℕ) (p : ProposalRecord) → IsUnbroken (proposal_checks l d n p) → Follows l p
proposal_follows l d n p h =
    let a = unbroken-cons _ _ h in
    let b = unbroken-cons _ _ a.1 in
    let c = unbroken-cons _ _ b.1 in
    let e = unbroken-append (action_checks l d p.action) _ c.1 in
    not-false _ (unbroken-cons _ _ e.1).0

proposals_follow : (l d : Ledger) (n : ℕ) (ps : List ProposalRecord) → IsUnbroken (per_place_from (proposal_checks l d) n ps) → AllByRecursion (Follows l) ps
proposals_follow l d n [] h = tt
proposals_follow l d n (p ∷ ps) h =
    let parts = unbroken-per_place (proposal_checks l d) n p ps h in
    (proposal_follows l d n p parts.0, proposals_follow l d (n + 1) ps parts.1)

made_follow : (l : Ledger) (last : ℕ) (t : TxId) (n : ℕ) (ps : List ProposalRecord) → AllByRecursion (Follows l) ps
    → AllByRecursion (λ (p : Proposal). may_follow (map unvoted l.proposals) l.state.last p.action ≡ true) (map unvoted (map (λ (p : ℕ × ProposalRecord). made_proposal last t p.0 p.1) (enumerate_from n ps)))
made_follow l last t n [] h = tt
made_follow l last t n (p ∷ ps) h = (
  follow_grows l.proposals (map unvoted l.proposals) l.state.last p.action (λ q id k. live_unvoted q id l.proposals k) h.0,
  made_follow l last t (n + 1) ps h.1,
)

made_names : (used : List TxId) (last : ℕ) (t : TxId) (n : ℕ) (ps : List ProposalRecord) → AllByRecursion (λ (p : ProposalRecord). IsUsed used (previous_of p.action)) ps
    → NamesUsed used (map unvoted (map (λ (p : ℕ × ProposalRecord). made_proposal last t p.0 p.1) (enumerate_from n ps)))
made_names used last t n [] h = tt
made_names used last t n (p ∷ ps) h = (h.0, made_names used last t (n + 1) ps h.1)

-- none that was there names a new one
crossing : (used : List TxId) (t : TxId) (last : ℕ) (ps : List ProposalRecord) (xs : List Proposal) → NamesUsed used xs → has_member txid_cmp used t ≡ false
    → AllByRecursion (λ (a : Proposal). AllByRecursion (λ (b : Proposal). is_parent a b ≡ false) (map unvoted (map (λ (p : ℕ × ProposalRecord). made_proposal last t p.0 p.1) (enumerate_from 0 ps)))) (map unvoted xs)
crossing used t last ps [] h f = tt
crossing used t last ps (a ∷ xs) h f = (
  all_unvoted a (map (λ (p : ℕ × ProposalRecord). made_proposal last t p.0 p.1) (enumerate_from 0 ps)) (none_new used t a last 0 ps h.0 f),
  crossing used t last ps xs h.1 f,
)

used_grows : (used : List TxId) (t : TxId) (o : Option ActionId) → IsUsed used o → IsUsed (with_key txid_cmp t used) o
used_grows used t None h = refl
used_grows used t (Some id) h = still_used used t id.tx h

chained_passed : (l : Ledger) (tx : Tx) → (last_draft l tx).state ≡ l.state → IsChained l → AllByRecursion (λ (q : Proposal). has_member txid_cmp l.used q.id.tx ≡ true) l.proposals
    → has_member txid_cmp l.used tx.id ≡ false → AllByRecursion (Follows l) tx.proposals → IsChained (after_passed l tx)
chained_passed l tx state c used fresh follow =
    let m : Ledger = after_passed l tx in
    let final : ℕ = last_voting_epoch l in
    let made : List Proposal = made_proposals final tx in
    let old : List Proposal = map unvoted l.proposals in
    let new : List Proposal = map unvoted made in
    let more : map unvoted m.proposals ≡ old ++ new = passed_more l tx in
    let named : AllByRecursion (λ (p : ProposalRecord). IsUsed l.used (previous_of p.action)) tx.proposals =
    all_weaken (Follows l) (λ (p : ProposalRecord). IsUsed l.used (previous_of p.action)) (λ p h. follow_used l.used l.proposals l.state.last p.action c.last used h) tx.proposals follow in
    let last : m.state.last ≡ l.state.last = ap (λ (s : EnactState). s.last) state in
    let whole : Chained l.state.last [] (old ++ new) =
    chained_append l.state.last [] old new (chained_unvoted l.state.last [] l.proposals c.chained)
    (subst (λ (xs : List Proposal). Chained l.state.last xs new) (append-nil old) (new_chained l.state.last old [] new (made_follow l final tx.id 0 tx.proposals follow))) in
    let later : NoneLater (old ++ new) =
    later_append old new (later_unvoted l.proposals c.later) (later_unvoted made (new_later l.used tx.id final 0 tx.proposals named fresh)) (crossing l.used tx.id final tx.proposals l.proposals c.names fresh) in
    let names : NamesUsed l.used (old ++ new) =
    all_append (λ (a : Proposal). IsUsed l.used (previous_of a.action)) old new (names_unvoted l.used l.proposals c.names) (made_names l.used final tx.id 0 tx.proposals named) in
    record {
      chained = subst (λ (x : LastIds). Chained x [] m.proposals) (sym last) (chained_voted l.state.last [] m.proposals (subst (λ (xs : List Proposal). Chained l.state.last [] xs) (sym more) whole));
      later = later_voted m.proposals (subst (λ (xs : List Proposal). NoneLater xs) (sym more) later);
      names = all_weaken (λ (a : Proposal). IsUsed l.used (previous_of a.action)) (λ (a : Proposal). IsUsed m.used (previous_of a.action)) (λ a h. used_grows l.used tx.id (previous_of a.action) h) m.proposals
          (names_voted l.used m.proposals (subst (λ (xs : List Proposal). NamesUsed l.used xs) (sym more) names));
      last = λ p. used_grows l.used tx.id (last_of m.state.last p) (subst (λ (x : LastIds). IsUsed l.used (last_of x p)) (sym last) (c.last p));
    }

body_follows : (l : Ledger) (tx : Tx) → IsUnbroken (body_checks l tx) → AllByRecursion (Follows l) tx.proposals
body_follows l tx h = proposals_follow l (last_draft l tx) 0 tx.proposals (body_parts l tx h).proposals

chained_scripts : (sc : Scripts) (l : Ledger) (tx : Tx) → IsUnbroken (unless_failed sc (body_checks l tx)) → (last_draft l tx).state ≡ l.state → IsChained l
    → AllByRecursion (λ (q : Proposal). has_member txid_cmp l.used q.id.tx ≡ true) l.proposals → has_member txid_cmp l.used tx.id ≡ false → IsChained (after_scripts sc l tx)
chained_scripts Absent l tx h state c used fresh = chained_passed l tx state c used fresh (body_follows l tx h)
chained_scripts Passed l tx h state c used fresh = chained_passed l tx state c used fresh (body_follows l tx h)
chained_scripts Failed l tx h state c used fresh = chained_same l (after_scripts Failed l tx) refl refl (λ o k. used_grows l.used tx.id o k) c

ids_used : (w : World) → IsGood w → AllByRecursion (λ (q : Proposal). has_member txid_cmp w.ledger.used q.id.tx ≡ true) w.ledger.proposals
ids_used w g = from_ids (λ (id : ActionId). has_member txid_cmp w.ledger.used id.tx ≡ true) w.ledger.proposals g.ledger.used

draft_state : (l : Ledger) (tx : Tx) → IsSound l → (last_draft l tx).state ≡ l.state
draft_state l tx s = sym (ap (λ (d : Ledger). d.state) (kept l tx s).only)

chained_tx : (w : World) (tx : Tx) → IsGood w → IsChained w.ledger → refusal_of w (records.Tx tx) ≡ None → IsChained (ledger_after_tx w.ledger tx)
chained_tx w tx g c e =
    let l : Ledger = w.ledger in
    let all : IsUnbroken (tx_checks l tx) = record { none = e } in
    let body = (unbroken-append (utxo_checks l tx) (unless_failed tx.scripts (body_checks l tx)) all).1 in
    chained_scripts tx.scripts l tx body (draft_state l tx g.ledger.sound) c (ids_used w g) (id_is_new l tx (parts_of l tx (allowed w tx e)))

-- ---- the boundary

last_or_used : (used : List TxId) (o : Option ActionId) (xs : List ActionId) → IsUsed used o → AllByRecursion (λ (id : ActionId). has_member txid_cmp used id.tx ≡ true) xs → IsUsed used (last_or o xs)
last_or_used used o [] h k = h
last_or_used used o (x ∷ xs) h k = last_or_used used (Some x) xs k.0 k.1

acts_used : (used : List TxId) (t : ActionId × Action → Bool) (es : List Proposal) → AllByRecursion (λ (a : Proposal). has_member txid_cmp used a.id.tx ≡ true) es
    → AllByRecursion (λ (id : ActionId). has_member txid_cmp used id.tx ≡ true) (map (λ (a : ActionId × Action). a.0) (filter t (map (λ (a : Proposal). (a.id, a.action)) es)))
acts_used used t [] h = tt
acts_used used t (a ∷ es) h =
    elim (t (a.id, a.action)) as (λ c. AllByRecursion (λ (id : ActionId). has_member txid_cmp used id.tx ≡ true)
    (map (λ (x : ActionId × Action). x.0) (cond c ((a.id, a.action) ∷ filter t (map (λ (x : Proposal). (x.id, x.action)) es)) (filter t (map (λ (x : Proposal). (x.id, x.action)) es))))) [
      | true ↦ (h.0, acts_used used t es h.1)
      | false ↦ acts_used used t es h.1
    ]

last_used : (used : List TxId) (last : LastIds) (es : List Proposal) → AreUsed used last → AllByRecursion (λ (a : Proposal). has_member txid_cmp used a.id.tx ≡ true) es
    → AreUsed used (last_ids_after last (map (λ (a : Proposal). (a.id, a.action)) es))
last_used used last es u h p = by_one p
  where
    one : (q : Purpose) → IsUsed used (last_id_after last (map (λ (a : Proposal). (a.id, a.action)) es) q)
    one q = last_or_used used (last_of last q) _ (u q) (acts_used used (λ a. holds same_purpose (purpose_of a.1) q) es h)

    by_one : (q : Purpose) → IsUsed used (last_of (last_ids_after last (map (λ (a : Proposal). (a.id, a.action)) es)) q)
    by_one purpose.Committee = one purpose.Committee
    by_one purpose.Constitution = one purpose.Constitution
    by_one purpose.HardFork = one purpose.HardFork
    by_one purpose.Parameters = one purpose.Parameters

in_priority : (P : Proposal → Type 0) (ns : List ℕ) (ps : List Proposal) → AllByRecursion P ps → AllByRecursion P (flat_map (λ (n : ℕ). filter (λ (p : Proposal). priority_of p.action == n) ps) ns)
in_priority P [] ps h = tt
in_priority P (n ∷ ns) ps h = all_append P (filter (λ (p : Proposal). priority_of p.action == n) ps) _ (all_passing P (λ (p : Proposal). priority_of p.action == n) ps h) (in_priority P ns ps h)

-- what is frozen is of used transactions
abbrev IsOfUsed : World → Proposal → Type 0
IsOfUsed w a = has_member txid_cmp w.ledger.used a.id.tx ≡ true

of_live : (w : World) → IsGood w → (a : Proposal) → (b : Proposal) × Contains w.ledger.proposals b × (record a { votes = b.votes } ≡ b) → IsOfUsed w a
of_live w g a x =
    let there : IsOfUsed w x.0 = All-contains (IsOfUsed w) w.ledger.proposals x.0 (All-from_recursion (IsOfUsed w) w.ledger.proposals (ids_used w g)) x.1 in
    subst (λ (id : ActionId). has_member txid_cmp w.ledger.used id.tx ≡ true) (sym (ap (λ (p : Proposal). p.id) x.2)) there

frozen_used : (w : World) → IsGood w → AllByRecursion (IsOfUsed w) w.frozen.proposals
frozen_used w g =
    let all : All (IsOfUsed w) w.frozen.proposals =
    λ k d l. of_live w g (get_or w.frozen.proposals k d) (g.frozen.live (get_or w.frozen.proposals k d) (Contains-get_or w.frozen.proposals k d l)) in
    recursion_from_All (IsOfUsed w) w.frozen.proposals all

chained_update : (o : Option Rewards) (l : Ledger) → IsChained l → IsChained (update_applied o l)
chained_update None l c = c
chained_update (Some u) l c = chained_same l (update_applied (Some u) l) refl refl (λ o k. k) c

chained_boundary : (w : World) → IsGood w → IsChained w.ledger → IsChained (world_after_boundary w).ledger
chained_boundary w g c =
    let l : Ledger = (after_rewards w).ledger in
    let k : IsChained l = chained_update w.pending w.ledger c in
    let same : w.ledger.used ≡ l.used = ap (λ (m : Ledger). m.used) (update_only w.pending w.ledger) in
    let m : Ledger = (world_after_boundary w).ledger in
    let used : AllByRecursion (λ (a : Proposal). has_member txid_cmp l.used a.id.tx ≡ true) w.frozen.proposals =
    subst (λ (ts : List TxId). AllByRecursion (λ (a : Proposal). has_member txid_cmp ts a.id.tx ≡ true) w.frozen.proposals) same (frozen_used w g) in
    let first : AreUsed l.used w.frozen.start.last =
    λ p. subst (λ (ts : List TxId). IsUsed ts (last_of w.frozen.start.last p)) same
    (subst (λ (s : EnactState). IsUsed w.ledger.used (last_of s.last p)) g.frozen.state (c.last p)) in
    let enacted : AllByRecursion (λ (a : Proposal). has_member txid_cmp l.used a.id.tx ≡ true) (enacted_proposals w) =
    all_passing (λ (a : Proposal). has_member txid_cmp l.used a.id.tx ≡ true) (is_one_of (ratified_of w.frozen)) (order_of w.frozen)
    (in_priority (λ (a : Proposal). has_member txid_cmp l.used a.id.tx ≡ true) (0 ∷ 1 ∷ 2 ∷ 3 ∷ 4 ∷ 5 ∷ 6 ∷ []) w.frozen.proposals used) in
    let removed : Proposal → Bool = λ a. not (is_one_of (ratified_of w.frozen) a) && not (is_one_of (expired_of w.frozen (ratified_of w.frozen)) a) in
    let rest : List Proposal = filter removed l.proposals in
    let own : HaveDistinctIds rest = own_filter removed l.proposals (update_good w.pending w.ledger g.ledger).own in
    let later : NoneLater rest = later_filter removed l.proposals k.later in
    record {
      chained = stay_chained rest m.state.last own later;
      later = later_filter (is_kept rest m.state.last) rest later;
      names = all_passing (λ (a : Proposal). IsUsed l.used (previous_of a.action)) (is_kept rest m.state.last) rest (all_passing (λ (a : Proposal). IsUsed l.used (previous_of a.action)) removed l.proposals k.names);
      last = last_used l.used w.frozen.start.last (enacted_proposals w) first enacted;
    }

chained_block : (b : Bool) (w : World) (slot pulse : ℕ) → IsGood w → IsChained w.ledger → IsChained (pulsed slot pulse (crossed b w)).ledger
chained_block true w slot pulse g c = chained_same (world_after_boundary w).ledger (pulsed slot pulse (world_after_boundary w)).ledger refl refl (λ o k. k) (chained_boundary w g c)
chained_block false w slot pulse g c = chained_same w.ledger (pulsed slot pulse w).ledger refl refl (λ o k. k) c

-- ---- records

chained_accepted : (w : World) (r : Record) → IsGood w → IsChained w.ledger → refusal_of w r ≡ None → IsChained (world_after_accepted w r).ledger
chained_accepted w (records.Genesis x) g c e = c
chained_accepted w (records.Block slot pulse) g c e = chained_block (enters_next w.ledger slot) w slot pulse g c
chained_accepted w (records.Rewards u) g c e = c
chained_accepted w (records.Tx tx) g c e = chained_tx w tx g c e
chained_accepted w (records.Print what) g c e = c

chained_step : (o : Option Rule) (w : World) (r : Record) → IsGood w → IsChained w.ledger → refusal_of w r ≡ o → IsChained (step_by o w r).0.ledger
chained_step (Some rule) w r g c e = c
chained_step None w r g c e = chained_accepted w r g c e

chained_all : (rs : List Record) (w : World) → IsGood w → IsChained w.ledger → list_all is_within_limits rs ≡ true → IsChained (world_after_all w rs).ledger
chained_all [] w g c h = c
chained_all (r ∷ rs) w g c h = chained_all rs (step w r).0 (record_good w r g (left_of _ _ h)) (chained_step (refusal_of w r) w r g c refl) (right_of _ _ h)

none_enacted : (used : List TxId) → AreUsed used (record { committee = None; constitution = None; hardfork = None; parameters = None })
none_enacted used purpose.Committee = refl
none_enacted used purpose.Constitution = refl
none_enacted used purpose.HardFork = refl
none_enacted used purpose.Parameters = refl

pub reached_chained : (w : World) → IsReached w → are_chained w.ledger ≡ true
reached_chained w h =
    let start : World = world_of_genesis h.genesis in
    let c : IsChained w.ledger = subst (λ (v : World). IsChained v.ledger) h.reached
    (chained_all h.records start (genesis_good h.genesis) (record { chained = tt; later = tt; names = tt; last = none_enacted start.ledger.used }) h.all_within) in
    chained_test w.ledger.state.last [] w.ledger.proposals c.chained
