-- The members of a genesis' committee, one after another.
use Rattle.std.proofs.Common.{◌≡◌, ℕ, ◌+◌, ◌<◌, List, ◌∷◌, Option, Some, None, drop, filter_map, get_or, length, map, refl, ◌∙◌}
use Rattle.std.specs.Option.{option_map}
use Rattle.gov_actions.specs.declared.state.HotState.{HotState}
use Rattle.gov_actions.specs.declared.state.HotState.TheVariants.{Hot}
use Rattle.gov_ids.specs.declared.Credential.{Credential}
use Rattle.gov_ids.specs.Orders.{credential_cmp}
use Rattle.gov_ids.specs.contracts.CredentialOrd.TheImpl as credential_ord
use Rattle.gov_ids.specs.Derived.{credential_is}
use Rattle.maps.specs.Maps.{with_value, with_values}
use Rattle.genesis_books.specs.Members.{with_hot_key}
use Rattle.genesis_books.proofs.Walks.{walk_on}

abbrev pub Member : Type 0
Member = Credential × ℕ × Option Credential

-- with the terms of these members
abbrev pub with_terms : List Member → List (Credential × ℕ) → List (Credential × ℕ)
with_terms ms es = with_values credential_cmp (map (λ (m : Member). (m.0, m.1)) ms) es

-- with the hot keys of these members
abbrev pub with_hot : List Member → List (Credential × HotState) → List (Credential × HotState)
with_hot ms es = with_values credential_cmp (filter_map (λ (m : Member). option_map (λ key. (m.0, Hot key)) m.2) ms) es

hot_by : (cold : Credential) (n : ℕ) (key : Option Credential) (ms : List Member) (es : List (Credential × HotState)) → with_hot ((cold, n, key) ∷ ms) es ≡ with_hot ms (with_hot_key cold key es)
hot_by cold n None ms es = refl
hot_by cold n (Some key) ms es = refl

pub hot_more : (m : Member) (ms : List Member) (es : List (Credential × HotState)) → with_hot (m ∷ ms) es ≡ with_hot ms (with_hot_key m.0 m.2 es)
hot_more m ms es = hot_by m.0 m.1 m.2 ms es

-- with the term of the first of what is left, by the derived order, and then with those of the others
pub terms_next : (ms : List Member) (i : ℕ) (d : Member) (old new : List (Credential × ℕ)) → i < length ms → new ≡ with_value credential_ord.cmp-value.it (get_or ms i d).0 (get_or ms i d).1 old
    → with_terms (drop (i + 1) ms) new ≡ with_terms (drop i ms) old
terms_next ms i d old new l e =
    walk_on with_terms (λ es m. with_value credential_cmp m.0 m.1 es) (λ m rest es. refl) ms i d old new l (e ∙ (λ j. with_value (credential_is j) (get_or ms i d).0 (get_or ms i d).1 old))
