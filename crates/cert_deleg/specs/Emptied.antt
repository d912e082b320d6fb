-- Accounts that give their balances.
use Rattle.std.specs.Prelude.{ℕ, List, map}
use Rattle.maps.specs.Maps.{changed_at, changed_where}
use Rattle.maps.specs.Words.{among}
use Rattle.gov_ids.specs.declared.Account.{Account}
use Rattle.gov_ids.specs.declared.Credential.{Credential}
use Rattle.gov_ids.specs.Orders.{credential_cmp}
use Rattle.gov_ids.specs.Same.{same_credential}
use Rattle.ledger_model.specs.Changes.{emptied}
use Rattle.ledger_model.specs.Ledger.{Ledger}

-- the account of one credential
abbrev pub emptied_at : Credential → Ledger → Ledger
emptied_at k l = record l { accounts = changed_at credential_cmp k emptied l.accounts }

-- those of these withdrawals
abbrev pub emptied_all : List (Account × ℕ) → Ledger → Ledger
emptied_all withdrawals l = record l { accounts = changed_where (λ c r. among same_credential c (map (λ x. x.0.cred) withdrawals)) emptied l.accounts }
