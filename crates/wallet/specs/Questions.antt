-- The transactions that the wallet asks about. (Own)
use Rattle.std.specs.Prelude.{ℕ, ◌==◌, ◌-◌, [], ◌∷◌, None, Some, if◌then◌else◌, min, replicate}
use Rattle.gov_actions.specs.declared.action.Action.TheVariants.{HardForkInitiation, NewConstitution}
use Rattle.gov_actions.specs.declared.action.Vote.TheVariants.{Yes}
use Rattle.gov_ids.specs.declared.Drep.TheVariants.{Registered}
use Rattle.gov_ids.specs.declared.Voter.TheVariants as voters
use Rattle.tx_records.specs.declared.cert.Cert.TheVariants.{Delegate, DrepReg}
use Rattle.tx_records.specs.declared.tx.Tx.{Tx}
use Rattle.wallet.specs.declared.parts.TheConstants.{ALICE, BOB, FORK, GENESIS, GOVERNANCE, TRANSFER}
use Rattle.wallet.specs.Parts.{account, key, output, spending}

-- Alice's 15,000 lovelace: 4,000 go to Bob, the fee is paid, and the rest comes back
abbrev pub transfer : ℕ → Tx
transfer fee = record (spending TRANSFER (record { tx = GENESIS; index = 0 }) (min fee 11000)) {
  outputs = output BOB 4000 ∷ output ALICE (11000 - min fee 11000) ∷ [];
}

-- Alice proposes a hard fork to version 11.0
abbrev pub hard_fork : Tx
hard_fork = record (spending FORK (record { tx = TRANSFER; index = 1 }) 400) {
  outputs = output ALICE 9200 ∷ [];
  proposals = record { deposit = 1000; account = account ALICE; action = HardForkInitiation None (11, 0) } ∷ [];
}

-- Bob becomes a DRep to whom Alice delegates, proposes a constitution, and votes on the hard fork
abbrev pub governance : Tx
governance = record (spending GOVERNANCE (record { tx = TRANSFER; index = 0 }) 400) {
  outputs = output BOB 2100 ∷ [];
  certs = DrepReg (key BOB) (Some 500) ∷ Delegate (key ALICE) None (Some (Registered (key BOB))) ∷ [];
  proposals = record {
    deposit = 1000;
    account = account BOB;
    action = NewConstitution None (replicate 32 0x99) None;
  } ∷ [];
  votes = record { voter = voters.Drep (key BOB); action = record { tx = FORK; index = 0 }; vote = Yes } ∷ [];
}

-- the transaction of a question: the third asks about governance too soon, the fifth again
abbrev pub asked_by : ℕ → Tx
asked_by question =
    if question == 1 then transfer 300 else
    if question == 2 then transfer 400 else
    if question == 4 then hard_fork else governance
