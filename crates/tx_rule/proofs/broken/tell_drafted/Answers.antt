use Rattle.std.proofs.Common.{◌≡◌, List, ◌++◌, ap, sym, ◌∙◌, append_assoc}
use Rattle.std.proofs.lemmas.Result.{on_ok_weaker}
use Rattle.tx_records.specs.declared.reply.Rule.{Rule}
use Rattle.ledger_model.specs.Broken.{balance_checks}
use Rattle.ledger_model.specs.Changes.{refreshed, withdrawn}
use Rattle.ledger_model.specs.Checks.{Check, per_place}
use Rattle.ledger_model.specs.Draft.{draft_after, last_draft}
use Rattle.ledger_model.specs.Ledger.{Ledger}
use Rattle.ledger_model.specs.ProposalRules.{proposal_checks, vote_checks}
use Rattle.cert_deleg.specs.of_live_ledger.Drafts.{Drafted}
use Rattle.rule_checks.specs.Told.{told_with}
use Rattle.rule_checks.proofs.Telling.{told_both}
use Rattle.tx_rule.proofs.Certified.{checks_from}
use Rattle.tx_rule.proofs.broken.tell_drafted.Goals as goal

-- four lists that are told in turn
told_four : (a b c d : List Check) (t0 t1 t2 t3 t4 : List Rule) → t1 ≡ told_with a t0 → t2 ≡ told_with b t1 → t3 ≡ told_with c t2 → t4 ≡ told_with d t3
    → t4 ≡ told_with (a ++ (b ++ c ++ d)) t0
told_four a b c d t0 t1 t2 t3 t4 e f g h =
    let all : b ++ c ++ d ≡ b ++ (c ++ d) = simp append_assoc in
    h
    ∙ ap (λ (t : List Rule). told_with d t) g
    ∙ told_both c d t2
    ∙ ap (λ (t : List Rule). told_with (c ++ d) t) f
    ∙ told_both b (c ++ d) t1
    ∙ ap (λ (t : List Rule). told_with (b ++ (c ++ d)) t) e
    ∙ told_both a (b ++ (c ++ d)) t0
    ∙ ap (λ (cs : List Check). told_with (a ++ cs) t0) (sym all)

pub tell_certs-requires-clause-begun : goal.tell_certs-requires-clause-begun
tell_certs-requires-clause-begun c =
    let tx = c.args.tx.now in
    c.in_ok-refresh.ensures.ledger
    ∙ ap (refreshed tx) (c.in_ok-empty.ensures.ledger ∙ ap (λ (d : Drafted). withdrawn tx d.ledger) c.requires.fresh)
    ∙ ap (λ (l : Ledger). draft_after l tx 0) (sym (c.in_ok-refresh.ensures.start ∙ c.in_ok-empty.ensures.start))

pub returns : goal.returns
returns c =
    let l = c.args.draft.now.start in
    let tx = c.args.tx.now in
    let begun = c.in_ok-refresh.ensures.start ∙ c.in_ok-empty.ensures.start in
    let start = c.in_ok-moved.ensures.start ∙ begun in
    let ledger = c.in_ok-moved.ensures.ledger ∙ ap (λ (x : Ledger). last_draft x tx) begun in
    on_ok_weaker c.tell_balance.result
    (λ done. told_four (checks_from l tx 0) (per_place (proposal_checks l (last_draft l tx)) tx.proposals) (per_place (vote_checks l (last_draft l tx)) tx.votes) (balance_checks l tx) _ _ _ _ _
    (c.in_ok-moved.ensures.rules ∙ ap (λ (x : Ledger). told_with (checks_from x tx 0) c.args.told.now) begun)
    (c.in_ok-tell.ensures ∙ (λ j. told_with (per_place (proposal_checks (start j) (ledger j)) tx.proposals) c.tell_certs.new.told))
    (c.in_ok-tell-2.ensures ∙ (λ j. told_with (per_place (vote_checks (start j) (ledger j)) tx.votes) c.tell.new.told))
    (done ∙ ap (λ (x : Ledger). told_with (balance_checks x tx) c.tell-2.new.told) (c.start.ensures.start ∙ start)))
    c.tell_balance.ensures
