-- A certificate, by what it is of.
use Rattle.cert_deleg.specs.Certs.{cert_of_account, cert_of_pool}
use Rattle.govcert.specs.Certs.{cert_of_cold_key, cert_of_drep}
use Rattle.tx_records.specs.declared.cert.Cert.{Cert}
use Rattle.tx_rule.specs.declared.part.CertPart.{CertPart}
use Rattle.tx_rule.specs.declared.part.CertPart.TheVariants.{Account, Pool, Drep, ColdKey}

-- the certificate of a part
abbrev pub cert_of_part : CertPart → Cert
cert_of_part (Account c) = cert_of_account c
cert_of_part (Pool c) = cert_of_pool c
cert_of_part (Drep c) = cert_of_drep c
cert_of_part (ColdKey c) = cert_of_cold_key c
