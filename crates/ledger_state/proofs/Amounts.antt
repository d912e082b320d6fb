-- The rewards of an update, one after another.
use Rattle.std.proofs.Common.{◌≡◌, ℕ, ◌+◌, ◌<◌, List, drop, get_or, length, refl, ◌∙◌}
use Rattle.gov_ids.specs.declared.Credential.{Credential}
use Rattle.gov_ids.specs.Orders.{credential_cmp}
use Rattle.gov_ids.specs.contracts.CredentialOrd.TheImpl as credential_ord
use Rattle.gov_ids.specs.Derived.{credential_is}
use Rattle.maps.specs.Maps.{with_value, with_values}
use Rattle.epoch_start.proofs.proofs_of_genesis_books.Walks.{walk_on}

-- with these rewards
abbrev pub with_rewards : List (Credential × ℕ) → List (Credential × ℕ) → List (Credential × ℕ)
with_rewards rs es = with_values credential_cmp rs es

-- with the first of what is left, by the derived order, and then with the others
pub amounts_next : (rs : List (Credential × ℕ)) (i : ℕ) (d : Credential × ℕ) (old new : List (Credential × ℕ)) → i < length rs
    → new ≡ with_value credential_ord.cmp-value.it (get_or rs i d).0 (get_or rs i d).1 old → with_rewards (drop (i + 1) rs) new ≡ with_rewards (drop i rs) old
amounts_next rs i d old new l e =
    walk_on with_rewards (λ es (r : Credential × ℕ). with_value credential_cmp r.0 r.1 es) (λ r rest es. refl) rs i d old new l
    (e ∙ (λ j. with_value (credential_is j) (get_or rs i d).0 (get_or rs i d).1 old))
