use Rattle.std.proofs.Common.{◌≡◌, List, IfOk, cond, map, subst, ◌∙◌}
use Rattle.book_records.specs.declared.Registered.{Registered}
use Rattle.gov_actions.specs.declared.action.Proposal.{Proposal}
use Rattle.gov_ids.specs.declared.ActionId.{ActionId}
use Rattle.gov_ids.specs.declared.Credential.{Credential}
use Rattle.gov_ids.specs.Orders.{action_id_cmp}
use Rattle.gov_ids.proofs.Totals.{action_id_total}
use Rattle.maps.proofs.Sets.{has_member-in_order}
use Rattle.maps.specs.Maps.{in_order}
use Rattle.payments.specs.Amounts.{goes_by}
use Rattle.stake_book.specs.Stakes.{accounts_of}
use Rattle.tx_records.specs.declared.report.Removed.{Removed}
use Rattle.tx_records.specs.declared.report.Why.TheVariants.{Enacted, Expired, Dropped}
use Rattle.epoch_pass.specs.Removals.{removed_by}
use Rattle.epoch_pass.proofs.reports.removed_of.Goals as goal

-- sets of ids tell what the lists of them tell
removed_in_order : (accounts : List (Credential × Registered)) (enacted expired : List ActionId) (ps : List Proposal)
    → map (removed_by accounts (in_order action_id_cmp enacted) (in_order action_id_cmp expired)) ps ≡ map (removed_by accounts enacted expired) ps
removed_in_order accounts enacted expired ps = λ i. map (λ (p : Proposal). (let r : Removed = record {
  id = p.id;
  why = cond (has_member-in_order action_id_total enacted p.id i) Enacted (cond (has_member-in_order action_id_total expired p.id i) Expired Dropped);
  amount = p.deposit;
  to = goes_by accounts p.account;
} in r)) ps

pub returns : goal.returns
returns c =
    let accounts : List (Credential × Registered) = accounts_of c.args.stake.now in
    let ps : List Proposal = c.args.proposals.now in
    subst (λ (rs : List Removed). IfOk c.removed_beside.result (λ l. l.items ≡ rs))
    ((λ i. map (removed_by accounts (c.in_ok-enacted.ensures i) (c.in_ok-expired.ensures i)) ps) ∙ removed_in_order accounts c.args.enacted.now c.args.expired.now ps)
    c.removed_beside.ensures
