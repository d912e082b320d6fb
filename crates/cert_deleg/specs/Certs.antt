-- The certificates that are judged here, as a transaction has them.
use Rattle.gov_ids.specs.declared.Credential.{Credential}
use Rattle.gov_ids.specs.declared.PoolId.{PoolId}
use Rattle.tx_records.specs.declared.cert.Cert.{Cert}
use Rattle.tx_records.specs.declared.cert.Cert.TheVariants.{AccountReg, AccountUnreg, Delegate, PoolReg, PoolRetire}
use Rattle.cert_deleg.specs.declared.account.AccountAct.{AccountAct}
use Rattle.cert_deleg.specs.declared.account.AccountAct.TheVariants as account
use Rattle.cert_deleg.specs.declared.account.AccountCert.{AccountCert}
use Rattle.cert_deleg.specs.declared.pool.PoolAct.{PoolAct}
use Rattle.cert_deleg.specs.declared.pool.PoolAct.TheVariants as pool
use Rattle.cert_deleg.specs.declared.pool.PoolCert.{PoolCert}

-- the certificate that asks this of an account
abbrev pub account_cert : Credential → AccountAct → Cert
account_cert cred (account.Register deposit pool drep) = AccountReg cred deposit pool drep
account_cert cred (account.End refund) = AccountUnreg cred refund
account_cert cred (account.Delegate pool drep) = Delegate cred pool drep

-- one of an account
abbrev pub cert_of_account : AccountCert → Cert
cert_of_account c = account_cert c.cred c.act

-- the certificate that asks this of a pool
abbrev pub pool_cert : PoolId → PoolAct → Cert
pool_cert id (pool.Register terms) = PoolReg id terms.cost terms.pledge terms.margin terms.account terms.key
pool_cert id (pool.Retire epoch) = PoolRetire id epoch

-- one of a pool
abbrev pub cert_of_pool : PoolCert → Cert
cert_of_pool c = pool_cert c.pool c.act
