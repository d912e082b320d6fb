-- A map with its old values put back is the map before, and so are a set and the votes on proposals.
use Rattle.std.proofs.Common.{◌≡◌, ℕ, zero, suc, List, [], ◌∷◌, true, false, cond, not, ◌&&◌, ◌||◌, Option, Some, None, map, take, refl, ap, sym, ◌∙◌}
use Rattle.std.specs.declared.cmp.Ordering.{Ordering}
use Rattle.std.specs.Ordering.{eq_by_cmp}
use Rattle.std.specs.Cmp.{IsTotalOrder}
use Rattle.std.specs.FinMap.{IsAntisymmetric}
use Rattle.std.specs.List.{AllByRecursion, AllZip}
use Rattle.std.specs.Map.{keys_of}
use Rattle.std.proofs.lemmas.Cmp.{eq_by_cmp_equiv}
use Rattle.maps.proofs.Replaced.{IsMap-with_option, value_at-with_option}
use Rattle.maps.proofs.Same.{map_from_value_at, set_from_has_member}
use Rattle.maps.proofs.Sets.{IsSet-without_member, has_member-without_member}
use Rattle.maps.proofs.Ties.{same_key}
use Rattle.maps.specs.Maps.{IsMap, IsSet, has_member, value_at}
use Rattle.maps.specs.Replaced.{with_option}
use Rattle.gov_ids.proofs.Exacts.{txid_exact, voter_exact}
use Rattle.gov_ids.proofs.Totals.{txid_total, voter_total}
use Rattle.gov_ids.specs.declared.ActionId.{ActionId}
use Rattle.gov_ids.specs.declared.TxId.{TxId}
use Rattle.gov_ids.specs.declared.Voter.{Voter}
use Rattle.gov_ids.specs.Orders.{txid_cmp, voter_cmp}
use Rattle.gov_actions.specs.declared.action.Proposal.{Proposal}
use Rattle.gov_actions.specs.declared.action.Vote.{Vote}
use Rattle.undo_model.specs.Holds.{HoldsOld, HoldsOldVotes, HoldsUnused}
use Rattle.undo_model.specs.Undone.{old_votes_on, with_old, with_old_votes, without_unused}

-- ---- maps

module _ {K X : Type 0} {cmp : K → K → Ordering} (o : IsTotalOrder cmp) where
  IsMap-with_old : (olds : List (K × Option X)) (es : List (K × X)) → IsMap cmp es → IsMap cmp (with_old cmp olds es)
  IsMap-with_old [] es h = h
  IsMap-with_old (old ∷ olds) es h = IsMap-with_old olds (with_option cmp old.0 old.1 es) (IsMap-with_option o old.0 old.1 es h)

  module _ (exact : IsAntisymmetric cmp) (before : List (K × X)) where
    -- a map that has at q what it had before, or has an old value to come there, has it once all are put back
    value_at-with_old : (olds : List (K × Option X)) (es : List (K × X)) (q : K) → IsMap cmp es
        → AllByRecursion (λ (old : K × Option X). value_at cmp before old.0 ≡ old.1) olds
        → (has_member cmp (keys_of olds) q ≡ false → value_at cmp es q ≡ value_at cmp before q)
        → value_at cmp (with_old cmp olds es) q ≡ value_at cmp before q
    value_at-with_old [] es q h values others = others refl
    value_at-with_old (old ∷ olds) es q h values others =
        value_at-with_old olds (with_option cmp old.0 old.1 es) q (IsMap-with_option o old.0 old.1 es h) values.1
        (λ absent. value_at-with_option o old.0 old.1 es q h
        ∙ elim (eq_by_cmp cmp old.0 q) as (λ b. eq_by_cmp cmp old.0 q ≡ b → cond b old.1 (value_at cmp es q) ≡ value_at cmp before q) [
          | true ↦ λ t. sym values.0 ∙ ap (λ k. value_at cmp before k) (same_key exact old.0 q t)
          | false ↦ λ t. others (ap (λ b. b || has_member cmp (keys_of olds) q) ((eq_by_cmp_equiv o).symm q old.0 ∙ t) ∙ absent)
        ] refl)

    pub old_map : (olds : List (K × Option X)) (after : List (K × X)) → IsMap cmp before → IsMap cmp after → HoldsOld cmp olds before after → with_old cmp olds after ≡ before
    old_map olds after g h held =
        map_from_value_at o exact (with_old cmp olds after) before (IsMap-with_old olds after h) g
        (λ q. value_at-with_old olds after q h held.values (λ absent. held.others q absent))

-- ---- the used ids

pub old_used : (unused : Option TxId) (before after : List TxId) → IsSet txid_cmp before → IsSet txid_cmp after → HoldsUnused unused before after → without_unused unused after ≡ before
old_used None before after g h held = set_from_has_member txid_total txid_exact after before h g (λ q. held.others q refl)
old_used (Some id) before after g h held =
    set_from_has_member txid_total txid_exact (without_unused (Some id) after) before (IsSet-without_member txid_cmp id after h) g
    (λ q. has_member-without_member txid_total id after q h
    ∙ elim (eq_by_cmp txid_cmp id q) as (λ b. eq_by_cmp txid_cmp id q ≡ b → (not b && has_member txid_cmp after q) ≡ has_member txid_cmp before q) [
      | true ↦ λ t. sym (held.values id refl) ∙ ap (λ k. has_member txid_cmp before k) (same_key txid_exact id q t)
      | false ↦ λ t. held.others q t
    ] refl)

-- ---- votes

-- that a proposal's voters are in order, each once
abbrev pub HasVotes : Proposal → Type 0
HasVotes p = IsMap voter_cmp p.votes

old_votes : (olds : List ((ActionId × Voter) × Option Vote)) (before after : Proposal) → HasVotes before → HasVotes after → HoldsOldVotes olds before after → with_old_votes olds after ≡ before
old_votes olds before after g h held =
    let votes : with_old voter_cmp (old_votes_on after.id olds) after.votes ≡ before.votes =
    ap (λ (id : ActionId). with_old voter_cmp (old_votes_on id olds) after.votes) (ap (λ (p : Proposal). p.id) held.others)
    ∙ old_map voter_total voter_exact before.votes (old_votes_on before.id olds) after.votes g h held.votes in
    λ i. record (held.others i) { votes = votes i }

pub old_proposals : (olds : List ((ActionId × Voter) × Option Vote)) (before after : List Proposal) → AllByRecursion HasVotes before → AllByRecursion HasVotes after
    → AllZip (HoldsOldVotes olds) before after → map (with_old_votes olds) after ≡ before
old_proposals olds [] [] g h held = refl
old_proposals olds [] (q ∷ qs) g h held = absurd held
old_proposals olds (p ∷ ps) [] g h held = absurd held
old_proposals olds (p ∷ ps) (q ∷ qs) g h held =
    let first : with_old_votes olds q ≡ p = old_votes olds p q g.0 h.0 held.0 in
    let rest : map (with_old_votes olds) qs ≡ ps = old_proposals olds ps qs g.1 h.1 held.1 in
    λ i. first i ∷ rest i

-- what holds of all holds of the first n
pub all_taken : {A : Type 0} (P : A → Type 0) (n : ℕ) (xs : List A) → AllByRecursion P xs → AllByRecursion P (take n xs)
all_taken P zero xs h = tt
all_taken P (suc n) [] h = tt
all_taken P (suc n) (x ∷ xs) h = (h.0, all_taken P n xs h.1)
