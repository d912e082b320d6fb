-- What removals report, by accounts and lists of ids. (EPOCH of the formal specification)
use Rattle.std.specs.Prelude.{ℕ, not, List, map, if◌then◌else◌}
use Rattle.book_records.specs.declared.Registered.{Registered}
use Rattle.gov_actions.specs.declared.action.Proposal.{Proposal}
use Rattle.gov_actions.specs.declared.state.LastIds.{LastIds}
use Rattle.gov_ids.specs.declared.Account.{Account}
use Rattle.gov_ids.specs.declared.ActionId.{ActionId}
use Rattle.gov_ids.specs.declared.Credential.{Credential}
use Rattle.gov_ids.specs.Orders.{credential_cmp}
use Rattle.gov_model.specs.Kept.{kept_of}
use Rattle.gov_model.specs.Proposals.{others_than}
use Rattle.gov_model.specs.Ratified.{ids_of, is_one_of}
use Rattle.maps.specs.Maps.{has_key}
use Rattle.payments.specs.Amounts.{goes_by}
use Rattle.tx_records.specs.declared.report.Paid.{Paid}
use Rattle.tx_records.specs.declared.report.Removed.{Removed}
use Rattle.tx_records.specs.declared.report.Why.{Why}
use Rattle.tx_records.specs.declared.report.Why.TheVariants.{Enacted, Expired, Dropped}

-- the proposals that leave, if these are enacted and those expire
abbrev pub leaving_of : List Proposal → List ActionId → List ActionId → LastIds → List Proposal
leaving_of ps enacted expired last = others_than (ids_of (kept_of ps enacted expired last)) ps

-- the deposit of a proposal, with its return account
abbrev pub refund_of : Proposal → Credential × ℕ
refund_of p = (p.account.cred, p.deposit)

-- the deposits of proposals
abbrev pub refunds_of : List Proposal → List (Credential × ℕ)
refunds_of ps = map refund_of ps

-- why a proposal is removed
abbrev pub why_by : List ActionId → List ActionId → Proposal → Why
why_by enacted expired p = if is_one_of enacted p then Enacted else (if is_one_of expired p then Expired else Dropped)

-- a removed proposal
abbrev pub removed_by : List (Credential × Registered) → List ActionId → List ActionId → Proposal → Removed
removed_by accounts enacted expired p =
    record { id = p.id; why = why_by enacted expired p; amount = p.deposit; to = goes_by accounts p.account }

-- a target, paid or kept
abbrev pub paid_by : List (Credential × Registered) → Account × ℕ → Paid
paid_by accounts t = record { account = t.0; amount = t.1; kept = not (has_key credential_cmp accounts t.0.cred) }
