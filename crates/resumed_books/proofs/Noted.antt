-- The entries at the last freeze, noted one after another.
use Rattle.std.proofs.Common.{◌≡◌, ℕ, ◌+◌, ◌<◌, List, ◌∷◌, true, false, not, cond, ◌||◌, [], length, get_or, drop, Option, Some, None, is_some, refl, ap, sym, ◌∙◌}
use Rattle.std.specs.Map.{keys_of}
use Rattle.std.specs.Option.{option_or}
use Rattle.std.specs.Ordering.{eq_by_cmp}
use Rattle.std.proofs.lemmas.List.{at_drop_more}
use Rattle.std.proofs.lemmas.Map.Entries.{option_filter}
use Rattle.std.proofs.lemmas.Map.Keys.{IsDistinct-from_sorted}
use Rattle.book_records.specs.declared.Entry.{Entry}
use Rattle.gov_ids.specs.declared.Credential.{Credential}
use Rattle.gov_ids.specs.Orders.{credential_cmp}
use Rattle.gov_ids.proofs.Exacts.{credential_exact}
use Rattle.gov_ids.proofs.Totals.{credential_total}
use Rattle.maps.proofs.Kept.{IsMap-with_values, IsMap-without_keys}
use Rattle.maps.proofs.Lookups.{value_at-entries_where, value_at-without_keys}
use Rattle.maps.proofs.Same.{map_from_value_at}
use Rattle.maps.proofs.Several.{value_at-with_values_distinct, without_keys_more}
use Rattle.maps.specs.Maps.{IsMap, entries_where, has_key, has_member, value_at, with_value, with_values, without_key, without_keys}
use Rattle.stake_book.specs.Stakes.{Stakes}
use Rattle.resumed_books.specs.Noted.{added_to, with_frozen}

-- one more entry is noted
pub noted_next : (items : List (Credential × Entry)) (i : ℕ) (d : Credential × Entry) (old new : Stakes) → i < length items
    → new ≡ with_frozen (with_value credential_cmp (get_or items i d).0 (get_or items i d).1 old.accounts.frozen) old
    → with_frozen (with_values credential_cmp (drop (i + 1) items) new.accounts.frozen) new ≡ with_frozen (with_values credential_cmp (drop i items) old.accounts.frozen) old
noted_next items i d old new l put =
    ap (λ (s : Stakes). with_frozen (with_values credential_cmp (drop (i + 1) items) s.accounts.frozen) s) put
    ∙ sym (at_drop_more (λ (left : List (Credential × Entry)). with_frozen (with_values credential_cmp left old.accounts.frozen) old) items i d l)

-- one more credential has none
pub none_next : (items : List Credential) (i : ℕ) (d : Credential) (old new : Stakes) → i < length items → IsMap credential_cmp old.accounts.frozen
    → new ≡ with_frozen (without_key credential_cmp (get_or items i d) old.accounts.frozen) old
    → with_frozen (without_keys credential_cmp (drop (i + 1) items) new.accounts.frozen) new ≡ with_frozen (without_keys credential_cmp (drop i items) old.accounts.frozen) old
none_next items i d old new l h put =
    ap (λ (s : Stakes). with_frozen (without_keys credential_cmp (drop (i + 1) items) s.accounts.frozen) s) put
    ∙ ap (λ (es : List (Credential × Entry)). with_frozen es old) (sym (without_keys_more credential_total credential_exact (get_or items i d) (drop (i + 1) items) old.accounts.frozen h))
    ∙ sym (at_drop_more (λ (left : List Credential). with_frozen (without_keys credential_cmp left old.accounts.frozen) old) items i d l)

-- a key with a value is among the keys
key_member : (es : List (Credential × Entry)) (q : Credential) → has_member credential_cmp (keys_of es) q ≡ has_key credential_cmp es q
key_member [] q = refl
key_member (e ∷ es) q = elim (eq_by_cmp credential_cmp q e.0) as (λ b. (b || has_member credential_cmp (keys_of es) q) ≡ is_some (cond b (Some e.1) (value_at credential_cmp es q))) [ true ↦ refl | false ↦ key_member es q ]

-- what was there, or is there still
settled : (x y : Option Entry) → cond (is_some (option_filter (λ v. not (is_some x)) y)) None (option_or x y) ≡ x
settled None None = refl
settled None (Some e) = refl
settled (Some d) None = refl
settled (Some d) (Some e) = refl

-- these entries noted over the live ones, without those that were added, are these entries
pub noted_are : (entries live : List (Credential × Entry)) → IsMap credential_cmp entries → IsMap credential_cmp live
    → without_keys credential_cmp (added_to entries live) (with_values credential_cmp entries live) ≡ entries
noted_are entries live h k =
    map_from_value_at credential_total credential_exact (without_keys credential_cmp (added_to entries live) (with_values credential_cmp entries live)) entries
    (IsMap-without_keys credential_cmp (added_to entries live) (with_values credential_cmp entries live) (IsMap-with_values credential_total entries live k)) h
    (λ q.
    value_at-without_keys credential_total (added_to entries live) (with_values credential_cmp entries live) q
    ∙ (λ i. cond (key_member (entries_where (λ c e. not (has_key credential_cmp entries c)) live) q i) None (value_at-with_values_distinct credential_total entries live q (IsDistinct-from_sorted credential_cmp (keys_of entries) h) i))
    ∙ ap (λ (x : Option Entry). cond (is_some x) None (option_or (value_at credential_cmp entries q) (value_at credential_cmp live q))) (value_at-entries_where credential_total credential_exact (λ c e. not (has_key credential_cmp entries c)) live q k)
    ∙ settled (value_at credential_cmp entries q) (value_at credential_cmp live q))

-- entries that are noted so after a freeze are those at the last freeze
pub frozen_are : (entries : List (Credential × Entry)) (s f n w : Stakes) (added : List Credential) → IsMap credential_cmp entries → IsMap credential_cmp s.accounts.live → f ≡ with_frozen s.accounts.live s
    → n ≡ with_frozen (with_values credential_cmp entries f.accounts.frozen) f → added ≡ added_to entries s.accounts.live → w ≡ with_frozen (without_keys credential_cmp added n.accounts.frozen) n → w ≡ with_frozen entries s
frozen_are entries s f n w added h k froze noted is none =
    none
    ∙ (λ i. with_frozen (without_keys credential_cmp (is i) (noted i).accounts.frozen) (noted i))
    ∙ (λ i. with_frozen (without_keys credential_cmp (added_to entries s.accounts.live) (with_values credential_cmp entries (froze i).accounts.frozen)) (froze i))
    ∙ ap (λ (es : List (Credential × Entry)). with_frozen es s) (noted_are entries s.accounts.live h k)
