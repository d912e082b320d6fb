-- What is frozen is a prefix of what is live, except votes; so it is live in the same order.
use Rattle.std.proofs.Common.{◌≡◌, ℕ, List, [], ◌∷◌, ◌++◌, Bool, true, false, ◌||◌, cond, Option, Some, None, filter, fold, length, map, take, refl, ap, sym, subst, ◌∙◌, append_assoc, append-nil}
use Rattle.std.specs.List.{AllByRecursion, IsDistinct}
use Rattle.std.proofs.lemmas.Bool.{or_left, or_right}
use Rattle.std.proofs.lemmas.Cmp.{eq_by_cmp_equiv}
use Rattle.std.proofs.lemmas.List.{map-append}
use Rattle.std.proofs.lemmas.List.Elements.{filter-append}
use Rattle.run_laws.proofs.GoodTx.{ids_append}
use Rattle.maps.specs.Words.{is_empty}
use Rattle.gov_ids.specs.declared.ActionId.{ActionId}
use Rattle.gov_ids.specs.declared.Voter.TheVariants as voter
use Rattle.gov_ids.specs.declared.Voter.{Voter}
use Rattle.gov_ids.specs.Same.{same_action}
use Rattle.gov_ids.proofs.Totals.{action_id_total}
use Rattle.gov_actions.specs.declared.action.Proposal.{Proposal}
use Rattle.gov_model.specs.Laws.{HaveDistinctIds}
use Rattle.gov_model.specs.Proposals.{without_vote}
use Rattle.gov_model.specs.Ratified.{ids_of, is_one_of}
use Rattle.tx_records.specs.declared.cert.Cert.{Cert}
use Rattle.tx_records.specs.declared.cert.Cert.TheVariants.{AccountReg, AccountUnreg, Delegate, PoolReg, PoolRetire, DrepReg, DrepUnreg, DrepUpdate, HotAuth, HotResign}
use Rattle.tx_records.specs.declared.record.Record.{Record}
use Rattle.tx_records.specs.declared.record.Record.TheVariants as records
use Rattle.tx_records.specs.declared.reply.Rule.{Rule}
use Rattle.tx_records.specs.declared.tx.Scripts.{Scripts}
use Rattle.tx_records.specs.declared.tx.Scripts.TheVariants.{Absent, Passed, Failed}
use Rattle.tx_records.specs.declared.tx.Tx.{Tx}
use Rattle.ledger_model.specs.Changes.{changed_by, dormant_added, refreshed, voters_refreshed, withdrawn}
use Rattle.ledger_model.specs.Draft.{draft_with, is_refused, last_draft}
use Rattle.ledger_model.specs.Ledger.{Ledger}
use Rattle.ledger_model.specs.Transaction.{after_scripts, last_voting_epoch, made_proposals, with_votes}
use Rattle.run_model.specs.Boundary.{world_after_boundary}
use Rattle.run_model.specs.Genesis.{world_of_genesis}
use Rattle.run_model.specs.Runs.{IsReached, world_after_all}
use Rattle.run_model.specs.Step.{crossed, enters_next, pulsed, refusal_of, step, step_by, world_after_accepted}
use Rattle.run_model.specs.World.{World}
use Rattle.checkpoint_model.specs.Resumable.{live_of, unvoted}

-- ---- what a transaction leaves of proposals, votes aside

unvoted_by : (v : Voter) (ps : List Proposal) → map unvoted (map (without_vote v) ps) ≡ map unvoted ps
unvoted_by v [] = refl
unvoted_by v (p ∷ ps) = ap (λ (xs : List Proposal). unvoted p ∷ xs) (unvoted_by v ps)

unvoted_after : (tx : Tx) (ps : List Proposal) → map unvoted (map (with_votes tx) ps) ≡ map unvoted ps
unvoted_after tx [] = refl
unvoted_after tx (p ∷ ps) = ap (λ (xs : List Proposal). unvoted p ∷ xs) (unvoted_after tx ps)

unvoted_by_cert : (c : Cert) (d : Ledger) → map unvoted (changed_by c d).proposals ≡ map unvoted d.proposals
unvoted_by_cert (AccountReg cred deposit pool drep) d = refl
unvoted_by_cert (AccountUnreg cred refund) d = refl
unvoted_by_cert (Delegate cred pool drep) d = refl
unvoted_by_cert (PoolReg pool cost pledge margin account key) d = refl
unvoted_by_cert (PoolRetire pool epoch) d = refl
unvoted_by_cert (DrepReg cred deposit) d = refl
unvoted_by_cert (DrepUnreg cred refund) d = unvoted_by (voter.Drep cred) d.proposals
unvoted_by_cert (DrepUpdate cred) d = refl
unvoted_by_cert (HotAuth cold key) d = refl
unvoted_by_cert (HotResign cold) d = refl

unvoted_either : (b : Bool) (c : Cert) (d : Ledger) → map unvoted (cond b d (changed_by c d)).proposals ≡ map unvoted d.proposals
unvoted_either true c d = refl
unvoted_either false c d = unvoted_by_cert c d

unvoted_by_certs : (l : Ledger) (cs : List Cert) (d : Ledger) → map unvoted (fold (draft_with l) d cs).proposals ≡ map unvoted d.proposals
unvoted_by_certs l [] d = refl
unvoted_by_certs l (c ∷ cs) d = unvoted_by_certs l cs (draft_with l d c) ∙ unvoted_either (is_refused l d c) c d

unvoted_refreshed : (b : Bool) (tx : Tx) (d : Ledger) → map unvoted (voters_refreshed tx (cond b d (dormant_added d))).proposals ≡ map unvoted d.proposals
unvoted_refreshed true tx d = refl
unvoted_refreshed false tx d = refl

unvoted_draft : (l : Ledger) (tx : Tx) → map unvoted (last_draft l tx).proposals ≡ map unvoted l.proposals
unvoted_draft l tx = unvoted_by_certs l (take (length tx.certs) tx.certs) (refreshed tx (withdrawn tx l)) ∙ unvoted_refreshed (is_empty tx.proposals) tx (withdrawn tx l)

-- ---- the front

-- what is frozen, and then what came since, votes aside
record IsFronted (w : World) : Type 0 where
  rest : List Proposal
  front : map unvoted w.ledger.proposals ≡ map unvoted w.frozen.proposals ++ rest

fronted_anew : (w : World) → w.frozen.proposals ≡ w.ledger.proposals → IsFronted w
fronted_anew w e = record { rest = []; front = ap (λ (ps : List Proposal). map unvoted ps) (sym e) ∙ sym (append-nil (map unvoted w.frozen.proposals)) }

-- with more at the end
fronted_more : (w v : World) (new : List Proposal) → v.frozen.proposals ≡ w.frozen.proposals → map unvoted v.ledger.proposals ≡ map unvoted w.ledger.proposals ++ new → IsFronted w → IsFronted v
fronted_more w v new e m f = record {
  rest = f.rest ++ new;
  front = m
      ∙ ap (λ (xs : List Proposal). xs ++ new) f.front
      ∙ append_assoc (map unvoted w.frozen.proposals) f.rest new
      ∙ ap (λ (ps : List Proposal). map unvoted ps ++ (f.rest ++ new)) (sym e);
}

-- what a transaction adds
abbrev pub new_of : Scripts → Ledger → Tx → List Proposal
new_of Absent l tx = map unvoted (made_proposals (last_voting_epoch l) tx)
new_of Passed l tx = map unvoted (made_proposals (last_voting_epoch l) tx)
new_of Failed l tx = []

pub passed_more : (l : Ledger) (tx : Tx) → map unvoted (map (with_votes tx) (last_draft l tx).proposals ++ made_proposals (last_voting_epoch l) tx)
    ≡ map unvoted l.proposals ++ map unvoted (made_proposals (last_voting_epoch l) tx)
passed_more l tx =
    map-append unvoted (map (with_votes tx) (last_draft l tx).proposals) (made_proposals (last_voting_epoch l) tx)
    ∙ ap (λ (xs : List Proposal). xs ++ map unvoted (made_proposals (last_voting_epoch l) tx)) (unvoted_after tx (last_draft l tx).proposals ∙ unvoted_draft l tx)

pub scripts_more : (sc : Scripts) (l : Ledger) (tx : Tx) → map unvoted (after_scripts sc l tx).proposals ≡ map unvoted l.proposals ++ new_of sc l tx
scripts_more Absent l tx = passed_more l tx
scripts_more Passed l tx = passed_more l tx
scripts_more Failed l tx = sym (append-nil (map unvoted l.proposals))

fronted_block : (b : Bool) (w : World) (slot pulse : ℕ) → IsFronted w → IsFronted (pulsed slot pulse (crossed b w))
fronted_block true w slot pulse f = fronted_anew (pulsed slot pulse (world_after_boundary w)) refl
fronted_block false w slot pulse f = record { rest = f.rest; front = f.front }

fronted_accepted : (w : World) (r : Record) → IsFronted w → IsFronted (world_after_accepted w r)
fronted_accepted w (records.Genesis g) f = f
fronted_accepted w (records.Block slot pulse) f = fronted_block (enters_next w.ledger slot) w slot pulse f
fronted_accepted w (records.Rewards u) f = record { rest = f.rest; front = f.front }
fronted_accepted w (records.Tx tx) f = fronted_more w (world_after_accepted w (records.Tx tx)) (new_of tx.scripts w.ledger tx) refl (scripts_more tx.scripts w.ledger tx) f
fronted_accepted w (records.Print what) f = f

fronted_step : (o : Option Rule) (w : World) (r : Record) → IsFronted w → IsFronted (step_by o w r).0
fronted_step (Some rule) w r f = f
fronted_step None w r f = fronted_accepted w r f

fronted_all : (rs : List Record) (w : World) → IsFronted w → IsFronted (world_after_all w rs)
fronted_all [] w f = f
fronted_all (r ∷ rs) w f = fronted_all rs (step w r).0 (fronted_step (refusal_of w r) w r f)

reached_fronted : (w : World) → IsReached w → IsFronted w
reached_fronted w h = subst (λ (v : World). IsFronted v) h.reached (fronted_all h.records (world_of_genesis h.genesis) (fronted_anew (world_of_genesis h.genesis) refl))

-- ---- the same order

same_ids : (ps : List Proposal) → ids_of (map unvoted ps) ≡ ids_of ps
same_ids [] = refl
same_ids (p ∷ ps) = ap (λ (xs : List ActionId). p.id ∷ xs) (same_ids ps)

filter_unvoted_by : (b : Bool) (p : Proposal) (ps qs : List Proposal) → map unvoted ps ≡ qs → map unvoted (cond b (p ∷ ps) ps) ≡ cond b (unvoted p ∷ qs) qs
filter_unvoted_by true p ps qs e = ap (λ (xs : List Proposal). unvoted p ∷ xs) e
filter_unvoted_by false p ps qs e = e

-- a filter by ids does not look at votes
filter_unvoted : (ids : List ActionId) (ps : List Proposal) → map unvoted (filter (is_one_of ids) ps) ≡ filter (is_one_of ids) (map unvoted ps)
filter_unvoted ids [] = refl
filter_unvoted ids (p ∷ ps) = filter_unvoted_by (is_one_of ids p) p (filter (is_one_of ids) ps) (filter (is_one_of ids) (map unvoted ps)) (filter_unvoted ids ps)

all_in_more : (id : ActionId) (ids : List ActionId) (ps : List Proposal) → AllByRecursion (λ (p : Proposal). is_one_of ids p ≡ true) ps → AllByRecursion (λ (p : Proposal). is_one_of (id ∷ ids) p ≡ true) ps
all_in_more id ids [] h = tt
all_in_more id ids (p ∷ ps) h = (or_right (same_action p.id id) (is_one_of ids p) h.0, all_in_more id ids ps h.1)

all_in_own : (ps : List Proposal) → AllByRecursion (λ (p : Proposal). is_one_of (ids_of ps) p ≡ true) ps
all_in_own [] = tt
all_in_own (p ∷ ps) = (or_left (same_action p.id p.id) (is_one_of (ids_of ps) p) ((eq_by_cmp_equiv action_id_total).refl p.id), all_in_more p.id (ids_of ps) ps (all_in_own ps))

filter_all : (t : Proposal → Bool) (ps : List Proposal) → AllByRecursion (λ (p : Proposal). t p ≡ true) ps → filter t ps ≡ ps
filter_all t [] h = refl
filter_all t (p ∷ ps) h = ap (λ (b : Bool). cond b (p ∷ filter t ps) (filter t ps)) h.0 ∙ ap (λ (xs : List Proposal). p ∷ xs) (filter_all t ps h.1)

filter_none : (t : Proposal → Bool) (ps : List Proposal) → AllByRecursion (λ (p : Proposal). t p ≡ false) ps → filter t ps ≡ []
filter_none t [] h = refl
filter_none t (p ∷ ps) h = ap (λ (b : Bool). cond b (p ∷ filter t ps) (filter t ps)) h.0 ∙ filter_none t ps h.1

both_false : (b c : Bool) → b ≡ false → c ≡ false → (b || c) ≡ false
both_false true c e f = e
both_false false c e f = f

none_of : (ps : List Proposal) → AllByRecursion (λ (p : Proposal). is_one_of [] p ≡ false) ps
none_of [] = tt
none_of (p ∷ ps) = (refl, none_of ps)

none_of_more : (id : ActionId) (ids : List ActionId) (front : List ActionId) (ps : List Proposal) → AllByRecursion (λ q. same_action id q ≡ false) (front ++ ids_of ps)
    → AllByRecursion (λ (p : Proposal). is_one_of ids p ≡ false) ps → AllByRecursion (λ (p : Proposal). is_one_of (id ∷ ids) p ≡ false) ps
none_of_more id ids (x ∷ front) ps h k = none_of_more id ids front ps h.1 k
none_of_more id ids [] [] h k = tt
none_of_more id ids [] (p ∷ ps) h k = (both_false (same_action p.id id) (is_one_of ids p) ((eq_by_cmp_equiv action_id_total).symm p.id id ∙ h.0) k.0, none_of_more id ids [] ps h.1 k.1)

-- where all ids are distinct, those of the front are none of the rest
apart_from_rest : (ids : List ActionId) (ps : List Proposal) → IsDistinct same_action (ids ++ ids_of ps) → AllByRecursion (λ (p : Proposal). is_one_of ids p ≡ false) ps
unfolding IsDistinct
apart_from_rest [] ps d = none_of ps
apart_from_rest (id ∷ ids) ps d = none_of_more id ids ids ps d.0 (apart_from_rest ids ps d.1)

-- the frozen ones are those among the live ones
in_order_by : (live frozen rest : List Proposal) → HaveDistinctIds live → map unvoted live ≡ map unvoted frozen ++ rest → map unvoted (live_of frozen live) ≡ map unvoted frozen
in_order_by live frozen rest d e =
    let ids : List ActionId = ids_of frozen in
    let own : AllByRecursion (λ (p : Proposal). is_one_of ids p ≡ true) (map unvoted frozen) =
    subst (λ (xs : List ActionId). AllByRecursion (λ (p : Proposal). is_one_of xs p ≡ true) (map unvoted frozen)) (same_ids frozen) (all_in_own (map unvoted frozen)) in
    let all : ids_of live ≡ ids ++ ids_of rest =
    sym (same_ids live) ∙ ap (λ (ps : List Proposal). ids_of ps) e ∙ ids_append (map unvoted frozen) rest ∙ ap (λ (xs : List ActionId). xs ++ ids_of rest) (same_ids frozen) in
    let apart : AllByRecursion (λ (p : Proposal). is_one_of ids p ≡ false) rest = apart_from_rest ids rest (subst (λ (xs : List ActionId). IsDistinct same_action xs) all d) in
    filter_unvoted ids live
    ∙ ap (λ (ps : List Proposal). filter (is_one_of ids) ps) e
    ∙ filter-append (is_one_of ids) (map unvoted frozen) rest
    ∙ ap (λ (ps : List Proposal). ps ++ filter (is_one_of ids) rest) (filter_all (is_one_of ids) (map unvoted frozen) own)
    ∙ ap (λ (ps : List Proposal). map unvoted frozen ++ ps) (filter_none (is_one_of ids) rest apart)
    ∙ append-nil (map unvoted frozen)

pub live_in_order : (w : World) → IsReached w → HaveDistinctIds w.ledger.proposals → map unvoted (live_of w.frozen.proposals w.ledger.proposals) ≡ map unvoted w.frozen.proposals
live_in_order w h d = let f : IsFronted w = reached_fronted w h in in_order_by w.ledger.proposals w.frozen.proposals f.rest d f.front
