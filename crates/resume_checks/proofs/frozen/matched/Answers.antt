use Rattle.std.proofs.Common.{◌≡◌, ℕ, ◌+◌, ◌<◌, ◌≤◌, List, [], ◌∷◌, ◌++◌, true, false, drop, get_or, length, ap, subst, sym, ◌∙◌, arith}
use Rattle.std.proofs.lemmas.Bool.{ltb-false, ltb-true}
use Rattle.std.proofs.lemmas.Cmp.{eq_by_cmp_equiv}
use Rattle.gov_ids.specs.declared.ActionId.{ActionId}
use Rattle.gov_ids.specs.contracts.ActionIdPartialEq.TheImpl as action_eq
use Rattle.gov_ids.specs.Same.{same_action}
use Rattle.gov_ids.proofs.Sames.{action_same}
use Rattle.gov_ids.proofs.Totals.{action_id_total}
use Rattle.gov_actions.specs.declared.action.Proposal.{Proposal}
use Rattle.resume_checks.specs.Frozen.{matched, with_votes}
use Rattle.resume_checks.proofs.Matching.{passed, past_all, taken}
use Rattle.resume_checks.proofs.frozen.matched.Goals.{in-Some+then-eq+in_ok-with_votes+in_ok-push, in-Some+else-eq, in_default}
use Rattle.resume_checks.proofs.frozen.matched.Goals as goal

-- the derived test, the other way round
turned : (a b : ActionId) → action_eq.eq-value.it a b ≡ same_action b a
turned a b = (λ i. action_same i a b) ∙ (eq_by_cmp_equiv action_id_total).symm a b

-- as many are frozen as the next place says
place_is : (c : goal.Joined-get) → c.len.result ≡ length c.loop-proposal.frozen.items
place_is c = c.len.ensures ∙ c.loop-proposal.frozen.ok.0

pub loop-proposal-preserved : goal.loop-proposal-preserved
loop-proposal-preserved c =
    let live = c.args.live.now in
    let voted = c.args.voted.now in
    let items : List Proposal = c.loop-proposal.frozen.items in
    let i : ℕ = c.loop-proposal.proposal-index in
    let p : Proposal = c.proposal-item.result in
    let all : List Proposal = matched live voted in
    let Left : List Proposal → Type 0 = λ ps. ps ++ matched (drop (i + 1) live) (drop (length ps) voted) ≡ all in
    elim c.match-get.branch [
      | in-Some+then-eq+in_ok-with_votes+in_ok-push w ↦
          let v = w.in-Some.next.now in
          let within : length items < length voted = omega (arith, ltb-true c.len.result (length voted) (sym w.in-Some.ensures.lookup.0), place_is c) in
          let here : v ≡ get_or voted (length items) v = w.in-Some.ensures.lookup.1 ∙ ap (λ (k : ℕ). get_or voted k v) (place_is c) in
          let same : same_action p.id v.0 ≡ true = sym (w.eq.ensures ∙ turned v.0 p.id) ∙ w.if-eq.true in
          let now : c.match-get.frozen.items ≡ items ++ with_votes p v.1 ∷ [] =
          ap (λ f. f.items) w.frozen-is ∙ w.in_ok-push.ensures.items ∙ ap (λ (q : Proposal). items ++ q ∷ []) w.in_ok-with_votes.ensures in
          subst Left (sym now) (taken live voted items all i p c.loop-proposal-test.true c.proposal-item.is c.loop-proposal.invariant v within here same)
      | in-Some+else-eq w ↦
          let v = w.in-Some.next.now in
          let within : length items < length voted = omega (arith, ltb-true c.len.result (length voted) (sym w.in-Some.ensures.lookup.0), place_is c) in
          let here : v ≡ get_or voted (length items) v = w.in-Some.ensures.lookup.1 ∙ ap (λ (k : ℕ). get_or voted k v) (place_is c) in
          let apart : same_action p.id v.0 ≡ false = sym (w.eq.ensures ∙ turned v.0 p.id) ∙ w.if-eq.false in
          let now : c.match-get.frozen.items ≡ items = ap (λ f. f.items) w.frozen-is in
          subst Left (sym now) (passed live voted items all i p c.loop-proposal-test.true c.proposal-item.is c.loop-proposal.invariant v within here apart)
      | in_default w ↦
          let past : length voted ≤ length items = omega (arith, ltb-false c.len.result (length voted) (sym w.in_default.ensures.lookup.0), place_is c) in
          let now : c.match-get.frozen.items ≡ items = ap (λ f. f.items) w.frozen-is in
          subst Left (sym now) (past_all live voted items all i p c.loop-proposal-test.true c.proposal-item.is c.loop-proposal.invariant past)
    ]
