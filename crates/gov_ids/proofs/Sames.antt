-- The derived `==` of each id is the test of its order. After `a == b` a proof cites `c.eq.ensures ∙ (λ i. outref_same i a b)`.
use Rattle.std.specs.Prelude.{◌≡◌}
use Rattle.std.proofs.Common.{◌∙◌}
use Rattle.std.specs.Ordering.{eq_by_cmp}
use Rattle.gov_ids.specs.contracts.AccountOrd.TheImpl.Laws as account_laws
use Rattle.gov_ids.specs.contracts.AccountPartialEq.TheImpl as account_eq
use Rattle.gov_ids.specs.contracts.ActionIdOrd.TheImpl.Laws as action_laws
use Rattle.gov_ids.specs.contracts.ActionIdPartialEq.TheImpl as action_eq
use Rattle.gov_ids.specs.contracts.CredentialOrd.TheImpl.Laws as credential_laws
use Rattle.gov_ids.specs.contracts.CredentialPartialEq.TheImpl as credential_eq
use Rattle.gov_ids.specs.contracts.DrepOrd.TheImpl.Laws as drep_laws
use Rattle.gov_ids.specs.contracts.DrepPartialEq.TheImpl as drep_eq
use Rattle.gov_ids.specs.contracts.OutRefOrd.TheImpl.Laws as outref_laws
use Rattle.gov_ids.specs.contracts.OutRefPartialEq.TheImpl as outref_eq
use Rattle.gov_ids.specs.contracts.PoolIdOrd.TheImpl.Laws as pool_laws
use Rattle.gov_ids.specs.contracts.PoolIdPartialEq.TheImpl as pool_eq
use Rattle.gov_ids.specs.contracts.TxIdOrd.TheImpl.Laws as txid_laws
use Rattle.gov_ids.specs.contracts.TxIdPartialEq.TheImpl as txid_eq
use Rattle.gov_ids.specs.contracts.VoterOrd.TheImpl.Laws as voter_laws
use Rattle.gov_ids.specs.contracts.VoterPartialEq.TheImpl as voter_eq
use Rattle.gov_ids.specs.Same.{same_credential, same_pool, same_txid, same_action, same_outref, same_account, same_drep, same_voter}
use Rattle.gov_ids.specs.Derived.{account_is, credential_is, drep_is, voter_is}

pub credential_same : credential_eq.eq-value.it ≡ same_credential
credential_same = (λ i a b. credential_laws.matches_eq-law a b i) ∙ (λ i. eq_by_cmp (credential_is i))

pub pool_same : pool_eq.eq-value.it ≡ same_pool
pool_same i a b = pool_laws.matches_eq-law a b i

pub txid_same : txid_eq.eq-value.it ≡ same_txid
txid_same i a b = txid_laws.matches_eq-law a b i

pub action_same : action_eq.eq-value.it ≡ same_action
action_same i a b = action_laws.matches_eq-law a b i

pub outref_same : outref_eq.eq-value.it ≡ same_outref
outref_same i a b = outref_laws.matches_eq-law a b i

pub account_same : account_eq.eq-value.it ≡ same_account
account_same = (λ i a b. account_laws.matches_eq-law a b i) ∙ (λ i. eq_by_cmp (account_is i))

pub drep_same : drep_eq.eq-value.it ≡ same_drep
drep_same = (λ i a b. drep_laws.matches_eq-law a b i) ∙ (λ i. eq_by_cmp (drep_is i))

pub voter_same : voter_eq.eq-value.it ≡ same_voter
voter_same = (λ i a b. voter_laws.matches_eq-law a b i) ∙ (λ i. eq_by_cmp (voter_is i))
