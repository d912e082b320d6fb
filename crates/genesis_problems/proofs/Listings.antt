-- The names of a genesis' pools and DReps in order are as good as their lists.
use Rattle.std.proofs.Common.{◌≡◌, List, refl, ap, ◌∙◌}
use Rattle.gov_ids.specs.declared.Credential.{Credential}
use Rattle.gov_ids.specs.declared.Drep.{Drep}
use Rattle.gov_ids.specs.declared.Drep.TheVariants.{Registered, Abstain, NoConfidence}
use Rattle.gov_ids.specs.declared.PoolId.{PoolId}
use Rattle.gov_ids.specs.Orders.{credential_cmp, pool_cmp}
use Rattle.gov_ids.proofs.Totals.{credential_total, pool_total}
use Rattle.maps.proofs.Sets.{has_member-in_order}
use Rattle.maps.specs.Maps.{has_member, in_order}
use Rattle.tx_records.specs.declared.genesis.Genesis.{Genesis}
use Rattle.run_model.specs.Genesis.{drep_ids, is_listed_drep, pool_ids}
use Rattle.genesis_problems.specs.Listing.{is_drep_among}
use Rattle.genesis_problems.specs.Problems.{per_index, target_tests, targets_tests}
use Rattle.genesis_problems.proofs.Telling.{Tests}

-- the tests of the accounts, by these pools and DReps
abbrev pub found_targets : Genesis → List PoolId → List Credential → Tests
found_targets g pools dreps = per_index (λ i a. target_tests (has_member pool_cmp pools) (is_drep_among dreps) i a.3 a.4) g.accounts

drep_by : (dreps more : List Credential) → ((c : Credential) → has_member credential_cmp dreps c ≡ has_member credential_cmp more c) → (d : Drep) → is_drep_among dreps d ≡ is_drep_among more d
drep_by dreps more e (Registered c) = e c
drep_by dreps more e Abstain = refl
drep_by dreps more e NoConfidence = refl

among_listed : (g : Genesis) → is_drep_among (drep_ids g) ≡ is_listed_drep g
among_listed g = λ i d. by d i
  where
    by : (d : Drep) → is_drep_among (drep_ids g) d ≡ is_listed_drep g d
    by (Registered c) = refl
    by Abstain = refl
    by NoConfidence = refl

pub targets_are : (g : Genesis) (pools : List PoolId) (dreps : List Credential) → pools ≡ in_order pool_cmp (pool_ids g) → dreps ≡ in_order credential_cmp (drep_ids g)
    → found_targets g pools dreps ≡ targets_tests g
targets_are g pools dreps p q =
    let same_pools : has_member pool_cmp pools ≡ has_member pool_cmp (pool_ids g) = λ i x. (ap (λ (ks : List PoolId). has_member pool_cmp ks x) p ∙ has_member-in_order pool_total (pool_ids g) x) i in
    let same_dreps : is_drep_among dreps ≡ is_drep_among (drep_ids g) = λ i x. drep_by dreps (drep_ids g) (λ c. ap (λ (ks : List Credential). has_member credential_cmp ks c) q ∙ has_member-in_order credential_total (drep_ids g) c) x i in
    λ i. per_index (λ k a. target_tests (same_pools i) ((same_dreps ∙ among_listed g) i) k a.3 a.4) g.accounts
