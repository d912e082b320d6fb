use Rattle.std.proofs.Common.{◌≡◌, List, ◌++◌, ap, sym, ◌∙◌, append_assoc}
use Rattle.std.proofs.lemmas.Result.{on_ok_weaker}
use Rattle.tx_records.specs.declared.reply.Rule.{Rule}
use Rattle.ledger_model.specs.Broken.{balance_checks}
use Rattle.ledger_model.specs.CertRules.{withdrawal_checks}
use Rattle.ledger_model.specs.Checks.{Check, per_place}
use Rattle.ledger_model.specs.Draft.{last_draft}
use Rattle.ledger_model.specs.ProposalRules.{proposal_checks, vote_checks}
use Rattle.cert_deleg.specs.of_live_ledger.Drafts.{Drafted}
use Rattle.rule_checks.specs.Told.{told_with}
use Rattle.rule_checks.proofs.Telling.{told_both}
use Rattle.tx_rule.specs.Drafted.{told_in_draft}
use Rattle.tx_rule.proofs.Certified.{checks_from}
use Rattle.tx_rule.proofs.broken.tell_passed.Goals as goal

-- a list of checks, and the others behind it
told_later : (a b c d e : List Check) (told : List Rule) → told_with (b ++ (c ++ d ++ e)) (told_with a told) ≡ told_with (a ++ b ++ c ++ d ++ e) told
told_later a b c d e told =
    let all : a ++ b ++ c ++ d ++ e ≡ a ++ (b ++ (c ++ d ++ e)) = simp append_assoc in
    told_both a (b ++ (c ++ d ++ e)) told
    ∙ ap (λ (cs : List Check). told_with cs told) (sym all)

pub returns : goal.returns
returns c =
    let l = c.args.s.now.ledger in
    let tx = c.args.tx.now in
    on_ok_weaker c.tell_drafted-ended.result
    (λ done. done
    ∙ ap (λ (d : Drafted). told_with (told_in_draft d.start tx) c.tell_withdrawals.new.told) c.new-draft.ensures
    ∙ ap (λ (told : List Rule). told_with (told_in_draft l tx) told) c.in_ok-tell_withdrawals.ensures
    ∙ told_later (per_place (withdrawal_checks l) tx.withdrawals) (checks_from l tx 0) (per_place (proposal_checks l (last_draft l tx)) tx.proposals) (per_place (vote_checks l (last_draft l tx)) tx.votes)
    (balance_checks l tx) c.args.told.now)
    c.tell_drafted-ended.ensures
