-- What the transactions of the wallet are made of. (Own)
use Rattle.std.specs.Prelude.{ℕ, List, [], ◌∷◌, None, true}
use Rattle.gov_ids.specs.declared.Account.{Account}
use Rattle.gov_ids.specs.declared.CredKind.TheVariants.{Key}
use Rattle.gov_ids.specs.declared.Credential.{Credential}
use Rattle.gov_ids.specs.declared.OutRef.{OutRef}
use Rattle.gov_ids.specs.declared.TxId.{TxId}
use Rattle.tx_records.specs.declared.tx.Scripts.TheVariants.{Absent}
use Rattle.tx_records.specs.declared.tx.Tx.{Tx}
use Rattle.tx_records.specs.declared.tx.TxOutput.{TxOutput}

-- the credential of a key
abbrev pub key : List ℕ → Credential
key hash = record { hash = hash; kind = Key }

-- the account of a key on mainnet
abbrev pub account : List ℕ → Account
account hash = record { network = 1; cred = key hash }

-- an output of 65 bytes to a key on mainnet, without a stake part and without native assets
abbrev pub output : List ℕ → ℕ → TxOutput
output to lovelace = record {
  address = record { network = 1; payment = key to; stake = None };
  lovelace = lovelace;
  bytes = 65;
  assets = [];
}

-- a transaction of 330 bytes that spends one output and pays a fee, and does nothing else
abbrev pub spending : TxId → OutRef → ℕ → Tx
spending id spent fee = record {
  id = id;
  inputs = spent ∷ [];
  outputs = [];
  fee = fee;
  size = 330;
  script_fee = 0;
  witnessed = true;
  scripts = Absent;
  from = None;
  until = None;
  collateral = [];
  collateral_return = None;
  mint = [];
  treasury = None;
  donation = 0;
  withdrawals = [];
  certs = [];
  proposals = [];
  votes = [];
}
