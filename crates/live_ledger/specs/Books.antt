-- What changes of the book of outputs keep. (Own)
use Rattle.std.specs.Prelude.{◌≡◌, List}
use Rattle.maps.specs.Maps.{with_key, with_values, without_keys}
use Rattle.gov_ids.specs.declared.OutRef.{OutRef}
use Rattle.gov_ids.specs.declared.TxId.{TxId}
use Rattle.gov_ids.specs.Orders.{credential_cmp, outref_cmp, txid_cmp}
use Rattle.book_records.specs.declared.Output.{Output}
use Rattle.view_map.specs.View.{frozen_of}
use Rattle.stake_book.specs.Stakes.{Stakes, accounts_of}

-- the registrations and the frozen entries remain
pub record KeepsAccounts (before after : Stakes) : Type 0 where
  pub accounts : accounts_of after ≡ accounts_of before
  pub frozen : frozen_of credential_cmp after.accounts ≡ frozen_of credential_cmp before.accounts

-- outputs were taken, others were put, and an id was marked as used
-- the registrations and the frozen entries remain
pub record IsMade (before after : Stakes) (taken : List OutRef) (made : List (OutRef × Output)) (id : TxId) : Type 0 where
  pub outputs : after.outputs ≡ record { outputs = with_values outref_cmp made (without_keys outref_cmp taken before.outputs.outputs); used = with_key txid_cmp id before.outputs.used }
  pub kept : KeepsAccounts before after
