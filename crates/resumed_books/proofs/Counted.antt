-- The count of what is frozen finds the DReps and the deposits of the lists.
use Rattle.std.proofs.Common.{◌≡◌, ℕ, ◌+◌, ◌<◌, ◌≤◌, ◌^◌, true, false, ◌||◌, cond, List, [], ◌∷◌, length, map, get_or, drop, unwrap_or, is_some, Some, refl, ap, sym, ◌∙◌, arith}
use Rattle.std.specs.Map.{keys_of}
use Rattle.std.specs.Ordering.{eq_by_cmp}
use Rattle.std.proofs.lemmas.List.{at_drop_more, drop_all}
use Rattle.accounts.specs.Accounts.{Accounts}
use Rattle.book_records.specs.declared.DrepState.{DrepState}
use Rattle.drep_book.specs.Dreps.{Dreps}
use Rattle.drep_pulser.specs.Facts.{HasFrozen, held_by}
use Rattle.coin_frac.specs.Totals.{total_of}
use Rattle.gov_actions.specs.declared.action.Proposal.{Proposal}
use Rattle.gov_ids.specs.declared.Credential.{Credential}
use Rattle.gov_ids.specs.Orders.{credential_cmp}
use Rattle.gov_ids.proofs.Totals.{credential_total}
use Rattle.gov_model.specs.Snapshot.{Snapshot}
use Rattle.gov_model.specs.Stake.{deposits_to}
use Rattle.maps.proofs.Several.{has_key-with_values}
use Rattle.maps.specs.Maps.{has_key, has_member, value_at, with_value, with_values}
use Rattle.view_map.specs.View.{frozen_of}
use Rattle.resumed_books.specs.Counts.{HasLists}

-- a DRep with its expiry, as the book has it
abbrev pub as_drep : Credential × ℕ → Credential × DrepState
as_drep d = (d.0, record { deposit = 0; expiry = d.1 })

-- one more DRep is put in
pub drep_next : (items : List (Credential × ℕ)) (i : ℕ) (d : Credential × ℕ) (es fs : List (Credential × DrepState)) → i < length items
    → fs ≡ with_value credential_cmp (as_drep (get_or items i d)).0 (as_drep (get_or items i d)).1 es
    → with_values credential_cmp (map as_drep (drop (i + 1) items)) fs ≡ with_values credential_cmp (map as_drep (drop i items)) es
drep_next items i d es fs l put =
    ap (λ (x : List (Credential × DrepState)). with_values credential_cmp (map as_drep (drop (i + 1) items)) x) put
    ∙ sym (at_drop_more (λ (left : List (Credential × ℕ)). with_values credential_cmp (map as_drep left) es) items i d l)

-- a key with a value is among the keys
named : (ds : List (Credential × ℕ)) (c : Credential) → has_member credential_cmp (keys_of (map as_drep ds)) c ≡ has_key credential_cmp ds c
named [] c = refl
named (d ∷ ds) c =
    elim (eq_by_cmp credential_cmp c d.0) as (λ b. (b || has_member credential_cmp (keys_of (map as_drep ds)) c) ≡ is_some (cond b (Some d.1) (value_at credential_cmp ds c))) [
      | true ↦ refl
      | false ↦ named ds c
    ]

-- the book has the DReps of the list
pub dreps_done : (items : List (Credential × ℕ)) (i : ℕ) (es : List (Credential × DrepState)) (c : Credential) → length items ≤ i
    → with_values credential_cmp (map as_drep (drop i items)) es ≡ with_values credential_cmp (map as_drep items) [] → has_key credential_cmp es c ≡ has_key credential_cmp items c
dreps_done items i es c l e =
    ap (λ (x : List (Credential × DrepState)). has_key credential_cmp x c)
    (sym (ap (λ (left : List (Credential × ℕ)). with_values credential_cmp (map as_drep left) es) (drop_all i items l)) ∙ e)
    ∙ has_key-with_values credential_total (map as_drep items) [] c ∙ named items c

-- the snapshot of the lists has what the count is made of
pub has_frozen : (f : Snapshot) (a : Accounts) (book : Dreps) (deposits : List (Credential × ℕ)) (dreps : List (Credential × ℕ)) (proposals : List Proposal)
    → HasLists f (frozen_of credential_cmp a) dreps proposals → ((c : Credential) → has_key credential_cmp book.dreps c ≡ has_key credential_cmp dreps c)
    → ((s : Snapshot) (c : Credential) → s.proposals ≡ proposals → unwrap_or (value_at credential_cmp deposits c) 0 ≡ deposits_to s c)
    → held_by (frozen_of credential_cmp a) + total_of deposits < 2 ^ 64 → HasFrozen f a book deposits
has_frozen f a book deposits dreps proposals h registered paid room = record {
  entries = h.entries;
  dreps = λ c. ap (λ (ds : List (Credential × ℕ)). has_key credential_cmp ds c) h.dreps ∙ sym (registered c);
  deposits = λ c. paid f c h.proposals;
  room = omega (arith, room, ap held_by h.entries);
}
