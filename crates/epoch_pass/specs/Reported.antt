-- What a boundary reports of a target and of a proposal, by the World before the step. (Own)
use Rattle.std.specs.Prelude.{◌≡◌, ℕ, not, List, map}
use Rattle.gov_actions.specs.declared.action.Proposal.{Proposal}
use Rattle.gov_ids.specs.declared.Account.{Account}
use Rattle.gov_ids.specs.declared.ActionId.{ActionId}
use Rattle.gov_ids.specs.declared.Credential.{Credential}
use Rattle.gov_model.specs.Ratified.{expired_of, ratified_of}
use Rattle.gov_model.specs.Snapshot.{Snapshot}
use Rattle.ledger_model.specs.Ledger.{Ledger, is_account}
use Rattle.run_model.specs.Report.{goes_to, why_of}
use Rattle.run_model.specs.World.{World}
use Rattle.tx_records.specs.declared.report.Paid.{Paid}
use Rattle.tx_records.specs.declared.report.Removed.{Removed}

-- the targets by credential
abbrev pub by_credential : List (Account × ℕ) → List (Credential × ℕ)
by_credential targets = map (λ t. (t.0.cred, t.1)) targets

-- a target, paid or kept
abbrev pub paid_in : Ledger → Account × ℕ → Paid
paid_in l t = record { account = t.0; amount = t.1; kept = not (is_account l t.0.cred) }

-- a removed proposal
abbrev pub removed_in : World → Proposal → Removed
removed_in w p = record { id = p.id; why = why_of w.frozen p; amount = p.deposit; to = goes_to w.ledger p.account }

-- the lists are what a snapshot ratifies, and what of it expires
pub record AreDecided (f : Snapshot) (enacted over : List ActionId) : Type 0 where
  pub ratified : enacted ≡ ratified_of f
  pub expired : over ≡ expired_of f (ratified_of f)
