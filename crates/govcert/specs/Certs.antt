-- The certificates that are judged here, as a transaction has them.
use Rattle.gov_actions.specs.declared.state.HotState.{HotState}
use Rattle.gov_actions.specs.declared.state.HotState.TheVariants.{Hot, Resigned}
use Rattle.gov_ids.specs.declared.Credential.{Credential}
use Rattle.tx_records.specs.declared.cert.Cert.{Cert}
use Rattle.tx_records.specs.declared.cert.Cert.TheVariants.{DrepReg, DrepUnreg, DrepUpdate, HotAuth, HotResign}
use Rattle.govcert.specs.declared.cold_key.ColdKeyCert.{ColdKeyCert}
use Rattle.govcert.specs.declared.drep.DrepAct.{DrepAct}
use Rattle.govcert.specs.declared.drep.DrepAct.TheVariants.{Register, End, Update}
use Rattle.govcert.specs.declared.drep.DrepCert.{DrepCert}

-- the certificate that asks this of a DRep
abbrev pub drep_cert : Credential → DrepAct → Cert
drep_cert cred (Register deposit) = DrepReg cred deposit
drep_cert cred (End refund) = DrepUnreg cred refund
drep_cert cred Update = DrepUpdate cred

-- one of a DRep
abbrev pub cert_of_drep : DrepCert → Cert
cert_of_drep c = drep_cert c.cred c.act

-- the certificate by which a cold key authorizes a hot key or resigns
abbrev pub cold_key_cert : Credential → HotState → Cert
cold_key_cert cold (Hot key) = HotAuth cold key
cold_key_cert cold Resigned = HotResign cold

-- one of a cold key
abbrev pub cert_of_cold_key : ColdKeyCert → Cert
cert_of_cold_key c = cold_key_cert c.cold c.to
