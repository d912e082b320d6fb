-- The names of a genesis' pools and DReps in order are as good as their lists.
use Rattle.std.proofs.Common.{◌≡◌, List, Bool, true, false, not, ◌||◌, refl, ap, ◌∙◌}
use Rattle.std.specs.List.{list_any}
use Rattle.gov_ids.specs.declared.Credential.{Credential}
use Rattle.gov_ids.specs.declared.Drep.{Drep}
use Rattle.gov_ids.specs.declared.Drep.TheVariants.{Registered, Abstain, NoConfidence}
use Rattle.gov_ids.specs.declared.PoolId.{PoolId}
use Rattle.gov_ids.specs.Orders.{credential_cmp, pool_cmp}
use Rattle.gov_ids.proofs.Totals.{credential_total, pool_total}
use Rattle.maps.proofs.Sets.{has_member-in_order}
use Rattle.maps.specs.Maps.{has_member, in_order}
use Rattle.maps.specs.Words.{none_or}
use Rattle.tx_records.specs.declared.genesis.Genesis.{Genesis}
use Rattle.genesis_balance.specs.of_run_model.Genesis.{drep_ids, names_an_unknown, pool_ids}
use Rattle.genesis_books.specs.Listing.{is_drep_among}

-- an account names an unknown, as the code tests it
abbrev pub found_unknown : Genesis → List PoolId → List Credential → Bool
found_unknown g pools dreps = list_any (λ a. not (none_or (has_member pool_cmp pools) a.3) || not (none_or (is_drep_among dreps) a.4)) g.accounts

drep_by : (dreps more : List Credential) → ((c : Credential) → has_member credential_cmp dreps c ≡ has_member credential_cmp more c) → (d : Drep) → is_drep_among dreps d ≡ is_drep_among more d
drep_by dreps more e (Registered c) = e c
drep_by dreps more e Abstain = refl
drep_by dreps more e NoConfidence = refl

pub unknown_is : (g : Genesis) (pools : List PoolId) (dreps : List Credential) → pools ≡ in_order pool_cmp (pool_ids g) → dreps ≡ in_order credential_cmp (drep_ids g)
    → found_unknown g pools dreps ≡ names_an_unknown g
unknown_is g pools dreps p q =
    let same_pools : has_member pool_cmp pools ≡ has_member pool_cmp (pool_ids g) = λ i x. (ap (λ (ks : List PoolId). has_member pool_cmp ks x) p ∙ has_member-in_order pool_total (pool_ids g) x) i in
    let same_dreps : is_drep_among dreps ≡ is_drep_among (drep_ids g) = λ i x. drep_by dreps (drep_ids g) (λ c. ap (λ (ks : List Credential). has_member credential_cmp ks c) q ∙ has_member-in_order credential_total (drep_ids g) c) x i in
    λ i. list_any (λ a. not (none_or (same_pools i) a.3) || not (none_or (same_dreps i) a.4)) g.accounts

-- where four tests fail, the fifth decides
pub last_of_five : (a b c d e x : Bool) → a ≡ false → b ≡ false → c ≡ false → d ≡ false → x ≡ e → x ≡ (a || b || c || d || e)
last_of_five true b c d e x p q r s t = cc
last_of_five false true c d e x p q r s t = cc
last_of_five false false true d e x p q r s t = cc
last_of_five false false false true e x p q r s t = cc
last_of_five false false false false e x p q r s t = t
