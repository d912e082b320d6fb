-- The names of an object are those of its members, each once, in order.
use Rattle.std.proofs.Common.{◌≡◌, ℕ, List, [], ◌∷◌, refl, ap, map}
use Rattle.std.specs.Borrow.{Bor}
use Rattle.std.specs.BTreeSet.{insert_key}
use Rattle.std.specs.Cmp.Lexicographic.{slice_cmp}
use Rattle.std.specs.Ordering.{match_ordering, nat_cmp}
use Rattle.std.specs.declared.cmp.Ordering.{Ordering}
use Rattle.std.specs.declared.cmp.Ordering.TheVariants as ord
use Rattle.serde_json.specs.Data.{Data, Members, no_members, member, put}
use Rattle.record_notes.specs.Seen.{names_in}

-- a member more is a name more
pub names_in-put : (k : List ℕ) (d : Data) (ms : Members) → names_in (put k d ms) ≡ insert_key (slice_cmp nat_cmp) (names_in ms) k
names_in-put k d no_members = refl
names_in-put k d (member l e ms) = by (slice_cmp nat_cmp k l) (names_in-put k d ms) where
  by : (o : Ordering) → names_in (put k d ms) ≡ insert_key (slice_cmp nat_cmp) (names_in ms) k
      → names_in (match_ordering o (member k d (member l e ms)) (member l d ms) (member l e (put k d ms)))
      ≡ match_ordering o (k ∷ l ∷ names_in ms) (l ∷ names_in ms) (l ∷ insert_key (slice_cmp nat_cmp) (names_in ms) k)
  by ord.Less rest = refl
  by ord.Equal rest = refl
  by ord.Greater rest = ap (λ (ls : List (List ℕ)). l ∷ ls) rest

-- borrowed names are in the order of the names
pub seen-insert : (k : Bor (List ℕ)) (ks : List (Bor (List ℕ)))
    → map (λ (n : Bor (List ℕ)). n.now) (insert_key (λ (a b : Bor (List ℕ)). slice_cmp nat_cmp a.now b.now) ks k) ≡ insert_key (slice_cmp nat_cmp) (map (λ (n : Bor (List ℕ)). n.now) ks) k.now
seen-insert k [] = refl
seen-insert k (l ∷ ls) = by (slice_cmp nat_cmp k.now l.now) (seen-insert k ls) where
  by : (o : Ordering)
      → map (λ (n : Bor (List ℕ)). n.now) (insert_key (λ (a b : Bor (List ℕ)). slice_cmp nat_cmp a.now b.now) ls k) ≡ insert_key (slice_cmp nat_cmp) (map (λ (n : Bor (List ℕ)). n.now) ls) k.now
      → map (λ (n : Bor (List ℕ)). n.now) (match_ordering o (k ∷ l ∷ ls) (l ∷ ls) (l ∷ insert_key (λ (a b : Bor (List ℕ)). slice_cmp nat_cmp a.now b.now) ls k))
      ≡ match_ordering o (k.now ∷ l.now ∷ map (λ (n : Bor (List ℕ)). n.now) ls) (l.now ∷ map (λ (n : Bor (List ℕ)). n.now) ls) (l.now ∷ insert_key (slice_cmp nat_cmp) (map (λ (n : Bor (List ℕ)). n.now) ls) k.now)
  by ord.Less rest = refl
  by ord.Equal rest = refl
  by ord.Greater rest = ap (λ (ns : List (List ℕ)). l.now ∷ ns) rest
