-- What a record that stays in the epoch changes can be named.
use Rattle.std.proofs.Common.{◌≡◌, ℕ, ◌+◌, List, [], ◌∷◌, ◌++◌, Bool, true, false, cond, ◌||◌, Option, Some, None, is_none, is_some, unwrap_or, fold, length, map, take, refl, ap, sym, ◌∙◌, arith}
use Rattle.std.proofs.lemmas.List.{length-map}
use Rattle.maps.proofs.Sets.{has_member-with_key}
use Rattle.maps.specs.Maps.{has_member, with_key, with_values, without_key}
use Rattle.maps.specs.Words.{is_empty}
use Rattle.gov_ids.proofs.Totals.{txid_total}
use Rattle.gov_ids.specs.declared.TxId.{TxId}
use Rattle.gov_ids.specs.declared.Voter.{Voter}
use Rattle.gov_ids.specs.declared.Voter.TheVariants as voter
use Rattle.gov_ids.specs.Orders.{txid_cmp, voter_cmp}
use Rattle.gov_actions.specs.declared.action.Proposal.{Proposal}
use Rattle.gov_actions.specs.declared.action.Vote.{Vote}
use Rattle.tx_records.specs.declared.cert.Cert.{Cert}
use Rattle.tx_records.specs.declared.cert.Cert.TheVariants.{AccountReg, AccountUnreg, Delegate, PoolReg, PoolRetire, DrepReg, DrepUnreg, DrepUpdate, HotAuth, HotResign}
use Rattle.tx_records.specs.declared.record.Record.{Record}
use Rattle.tx_records.specs.declared.record.Record.TheVariants as records
use Rattle.tx_records.specs.declared.record.Rewards.{Rewards}
use Rattle.tx_records.specs.declared.reply.Rule.{Rule}
use Rattle.tx_records.specs.declared.tx.Scripts.{Scripts}
use Rattle.tx_records.specs.declared.tx.Scripts.TheVariants.{Absent, Passed, Failed}
use Rattle.tx_records.specs.declared.tx.Tx.{Tx}
use Rattle.ledger_model.proofs.Unbroken.{IsUnbroken, unbroken-cons}
use Rattle.ledger_model.specs.Checks.{first_among}
use Rattle.ledger_model.specs.Changes.{changed_by, dormant_added, refreshed, voters_refreshed, withdrawn}
use Rattle.ledger_model.specs.Draft.{draft_with, is_refused, last_draft}
use Rattle.ledger_model.specs.Ledger.{Ledger}
use Rattle.ledger_model.specs.Sound.{IsSound}
use Rattle.ledger_model.specs.Transaction.{after_failed, after_passed, after_scripts, last_voting_epoch, made_proposals, votes_on, with_votes}
use Rattle.ledger_model.proofs.DraftKeeps.{changed_to, draft_keeps}
use Rattle.run_model.specs.Boundary.{update_applied}
use Rattle.run_model.specs.SoundWorld.{IsSoundWorld}
use Rattle.run_model.specs.Step.{crossed, enters_next, pulsed, refusal_of, reward_checks, step, step_by}
use Rattle.run_model.specs.World.{World}
use Rattle.tx_balance.proofs.OutputParts.{id_is_new, parts_of}
use Rattle.undo_model.specs.Holds.{HoldsUnused}
use Rattle.undo_model.specs.Laws.{EachRecordHasOldValues}
use Rattle.undo_model.proofs.Naming.{IsWithin, all_is_held, bare, naming_all, with_named}

-- ---- proposals without their votes

bare_votes : (votes : Proposal → List (Voter × Vote)) (ps : List Proposal) → map bare (map (λ (p : Proposal). record p { votes = votes p }) ps) ≡ map bare ps
bare_votes votes [] = refl
bare_votes votes (p ∷ ps) = ap (λ (xs : List Proposal). bare p ∷ xs) (bare_votes votes ps)

bare_cert : (c : Cert) (d : Ledger) → map bare (changed_by c d).proposals ≡ map bare d.proposals
bare_cert (AccountReg cred deposit pool drep) d = refl
bare_cert (AccountUnreg cred refund) d = refl
bare_cert (Delegate cred pool drep) d = refl
bare_cert (PoolReg pool cost pledge margin account key) d = refl
bare_cert (PoolRetire pool epoch) d = refl
bare_cert (DrepReg cred deposit) d = refl
bare_cert (DrepUnreg cred refund) d = bare_votes (λ (p : Proposal). without_key voter_cmp (voter.Drep cred) p.votes) d.proposals
bare_cert (DrepUpdate cred) d = refl
bare_cert (HotAuth cold key) d = refl
bare_cert (HotResign cold) d = refl

bare_either : (b : Bool) (c : Cert) (d : Ledger) → map bare (cond b d (changed_by c d)).proposals ≡ map bare d.proposals
bare_either true c d = refl
bare_either false c d = bare_cert c d

bare_certs : (l : Ledger) (cs : List Cert) (d : Ledger) → map bare (fold (draft_with l) d cs).proposals ≡ map bare d.proposals
bare_certs l [] d = refl
bare_certs l (c ∷ cs) d = bare_certs l cs (draft_with l d c) ∙ bare_either (is_refused l d c) c d

bare_refresh : (b : Bool) (tx : Tx) (d : Ledger) → map bare (voters_refreshed tx (cond b d (dormant_added d))).proposals ≡ map bare d.proposals
bare_refresh true tx d = refl
bare_refresh false tx d = refl

bare_draft : (l : Ledger) (tx : Tx) → map bare (last_draft l tx).proposals ≡ map bare l.proposals
bare_draft l tx =
    bare_certs l (take (length tx.certs) tx.certs) (refreshed tx (withdrawn tx l)) ∙ bare_refresh (is_empty tx.proposals) tx (withdrawn tx l)

taken_first : {A : Type 0} (xs ys : List A) → take (length xs) (xs ++ ys) ≡ xs
taken_first [] ys = refl
taken_first {A} (x ∷ xs) ys = ap (λ (zs : List A). x ∷ zs) (taken_first xs ys)

taken_whole : {A : Type 0} (xs : List A) → take (length xs) xs ≡ xs
taken_whole [] = refl
taken_whole {A} (x ∷ xs) = ap (λ (zs : List A). x ∷ zs) (taken_whole xs)

bare_passed : (l : Ledger) (tx : Tx) → map bare (take (length l.proposals) (after_passed l tx).proposals) ≡ map bare l.proposals
bare_passed l tx =
    let old : List Proposal = map (with_votes tx) (last_draft l tx).proposals in
    let made = made_proposals (last_voting_epoch l) tx in
    let same : map bare old ≡ map bare l.proposals =
    bare_votes (λ (p : Proposal). with_values voter_cmp (votes_on tx p.id) p.votes) (last_draft l tx).proposals ∙ bare_draft l tx in
    let long : length l.proposals ≡ length old = sym (length-map l.proposals bare) ∙ ap (λ (ps : List Proposal). length ps) (sym same) ∙ length-map old bare in
    ap (λ n. map bare (take n (old ++ made))) long ∙ ap (λ (ps : List Proposal). map bare ps) (taken_first old made) ∙ same

-- ---- the used ids

same_used : (used : List TxId) → HoldsUnused None used used
same_used used = record { values = λ id e. cc; others = λ id other. refl }

one_more : (id : TxId) (used : List TxId) → has_member txid_cmp used id ≡ false → HoldsUnused (Some id) used (with_key txid_cmp id used)
one_more id used new = record {
  values = λ q e. ap (λ (o : Option TxId). has_member txid_cmp used (unwrap_or o id)) (sym e) ∙ new;
  others = λ q other. has_member-with_key txid_total id used q ∙ ap (λ b. b || has_member txid_cmp used q) other;
}

-- ---- records

-- v is within what old values of w can name
abbrev CanBeNamed : World → World → Type 0
CanBeNamed w v = (unused : Option TxId) × IsWithin w v unused

-- a World has old values for itself
same_world : (w : World) → IsWithin w w None
same_world w = record { used = same_used w.ledger.used; pending = λ e. refl; first = ap (λ (ps : List Proposal). map bare ps) (taken_whole w.ledger.proposals); others = refl }

passed : (w : World) (tx : Tx) → IsSoundWorld w → has_member txid_cmp w.ledger.used tx.id ≡ false → CanBeNamed w (record w { ledger = after_passed w.ledger tx })
passed w tx g new =
    let l : Ledger = w.ledger in
    let s : IsSound l = g.ledger.maps in
    let only : changed_to l (last_draft l tx) ≡ last_draft l tx =
    (draft_keeps tx l (length tx.certs) (record { accounts = s.accounts; pools = s.pools; dreps = s.dreps; hot = s.hot })).only in (
      Some tx.id,
      record {
        used = one_more tx.id l.used new;
        pending = λ e. refl;
        first = bare_passed l tx;
        others = ap (λ (x : Ledger). record w { ledger = with_named x (after_passed l tx) }) (sym only);
      },
    )

failed : (w : World) (tx : Tx) → has_member txid_cmp w.ledger.used tx.id ≡ false → CanBeNamed w (record w { ledger = after_failed w.ledger tx })
failed w tx new = (
  Some tx.id,
  record {
    used = one_more tx.id w.ledger.used new;
    pending = λ e. refl;
    first = ap (λ (ps : List Proposal). map bare ps) (taken_whole w.ledger.proposals);
    others = refl;
  },
)

by_scripts : (scripts : Scripts) (w : World) (tx : Tx) → IsSoundWorld w → has_member txid_cmp w.ledger.used tx.id ≡ false → CanBeNamed w (record w { ledger = after_scripts scripts w.ledger tx })
by_scripts Absent w tx g new = passed w tx g new
by_scripts Passed w tx g new = passed w tx g new
by_scripts Failed w tx g new = failed w tx new

-- the boundary adds an epoch
same_epoch : (o : Option Rewards) (l : Ledger) → (update_applied o l).epoch ≡ l.epoch
same_epoch None l = refl
same_epoch (Some u) l = refl

by_crossing : (b : Bool) (w : World) (slot pulse : ℕ) → (crossed b w).ledger.epoch ≡ w.ledger.epoch → CanBeNamed w (pulsed slot pulse (crossed b w))
by_crossing true w slot pulse h = absurd (omega (arith, h, ap (λ n. n + 1) (same_epoch w.pending w.ledger)))
by_crossing false w slot pulse h = (None, record { used = same_used w.ledger.used; pending = λ e. refl; first = (same_world w).first; others = refl })

-- no reward update was pending where one is accepted
pub none_given : {A : Type 0} {x y : A} (w : World) (u : Rewards) → first_among (reward_checks w u) ≡ None → is_some w.pending ≡ true → x ≡ y
none_given w u e given =
    let all : IsUnbroken (reward_checks w u) = record { none = e } in
    let none : is_some w.pending ≡ false = (unbroken-cons _ _ (unbroken-cons _ _ all).1).0 in
    cc

by_rule : (o : Option Rule) (w : World) (r : Record) → IsSoundWorld w → refusal_of w r ≡ o → (step_by o w r).0.ledger.epoch ≡ w.ledger.epoch → CanBeNamed w (step_by o w r).0
by_rule (Some rule) w r g e h = (None, same_world w)
by_rule None w (records.Genesis genesis) g e h = (None, same_world w)
by_rule None w (records.Block slot pulse) g e h = by_crossing (enters_next w.ledger slot) w slot pulse h
by_rule None w (records.Rewards u) g e h = (None, record { used = same_used w.ledger.used; pending = none_given w u e; first = (same_world w).first; others = refl })
by_rule None w (records.Tx tx) g e h = by_scripts tx.scripts w tx g (id_is_new w.ledger tx (parts_of w.ledger tx (ap (λ (o : Option Rule). is_none o) e)))
by_rule None w (records.Print what) g e h = (None, same_world w)

pub each_record_has_old_values : EachRecordHasOldValues
each_record_has_old_values w r g h =
    let named : CanBeNamed w (step w r).0 = by_rule (refusal_of w r) w r g refl h in
    (naming_all w (step w r).0 named.0, all_is_held w (step w r).0 named.0 g named.1)
