use Rattle.std.proofs.Common.{ℕ, ◌+◌, List, ◌++◌, true, false, drop, ap, sym, ◌∙◌}
use Rattle.std.proofs.lemmas.List.{append-nil}
use Rattle.gov_actions.specs.declared.action.Proposal.{Proposal}
use Rattle.gov_ids.specs.declared.Account.{Account}
use Rattle.gov_ids.specs.declared.ActionId.{ActionId}
use Rattle.frozen_reads.specs.Targets.{targets_among}
use Rattle.frozen_reads.proofs.Targeted.{next_found}
use Rattle.frozen_reads.proofs.targets.targets_among.Goals.{then-contains+in_ok-extend_from_slice, else-contains}
use Rattle.frozen_reads.proofs.targets.targets_among.Goals as goal

pub loop-p-preserved : goal.loop-p-preserved
loop-p-preserved c =
    let ids : List ActionId = c.args.ids.now.keys in
    let ps : List Proposal = c.args.proposals.now in
    let i : ℕ = c.loop-p.p-index in
    let p : Proposal = c.p-item.result in
    let old : List (Account × ℕ) = c.loop-p.targets.items in
    let rest : List (Account × ℕ) = targets_among ids (drop (i + 1) ps) in
    elim c.if-contains.branch [
      | then-contains+in_ok-extend_from_slice w ↦
          ap (λ v. v.items ++ rest) w.targets-is
          ∙ ap (λ (l : List (Account × ℕ)). l ++ rest) (w.in_ok-extend_from_slice.ensures.items ∙ ap (λ (ts : List (Account × ℕ)). old ++ ts) w.targets_of.ensures)
          ∙ next_found ids old ps i p c.loop-p-test.true c.p-item.is true (sym c.contains.ensures ∙ w.if-contains.true)
          ∙ c.loop-p.invariant
      | else-contains w ↦
          ap (λ v. v.items ++ rest) w.targets-is
          ∙ ap (λ (l : List (Account × ℕ)). l ++ rest) (sym (append-nil old))
          ∙ next_found ids old ps i p c.loop-p-test.true c.p-item.is false (sym c.contains.ensures ∙ w.if-contains.false)
          ∙ c.loop-p.invariant
    ]
