-- The lines of all proposals, priority by priority.
use Rattle.std.proofs.Common.{◌≡◌, ◌==◌, ℕ, ◌+◌, ◌<◌, ◌≤◌, List, [], ◌∷◌, ◌++◌, Bool, true, false, cond, drop, flat_map, length, map, slice_index_or, zip, refl, ap, sym, ◌∙◌, zero-add}
use Rattle.std.specs.List.{range_with_len}
use Rattle.std.proofs.lemmas.List.{at_drop_all, at_drop_more}
use Rattle.std.proofs.lemmas.List.Elements.{filter-append}
use Rattle.std.proofs.lemmas.List.Folds.{flat_map-map}
use Rattle.std.proofs.lemmas.List.FromFn.{get_or-range_with_len}
use Rattle.certificate_model.specs.Certificate.{claim_of_proposal}
use Rattle.claims.specs.Blocks.{all_blocks, blocks_from}
use Rattle.gov_actions.specs.declared.action.Proposal.{Proposal}
use Rattle.gov_actions.specs.declared.tally.Tally.{Tally}
use Rattle.gov_actions.specs.Kinds.{in_order_of_priority, priority_of}
use Rattle.gov_model.specs.Ratified.{order_of}
use Rattle.gov_model.specs.Snapshot.{Snapshot}
use Rattle.maps.specs.Words.{fronts_from, with_fronts}
use Rattle.ratify.specs.Passes.{of_priority, tally_after}
use Rattle.ratify.specs.Wholes.{IsOfOneList}

-- ---- one priority

-- those of the priority from a place on: the next one, if it is of it, and then the others
pub from_next : (n : ℕ) (ps : List Proposal) (i : ℕ) (a : Proposal) → i < length ps → a ≡ slice_index_or ps i a
    → of_priority n (drop i ps) ≡ of_priority n (a ∷ []) ++ of_priority n (drop (i + 1) ps)
from_next n ps i a within is =
    at_drop_more (of_priority n) ps i a within
    ∙ ap (λ (x : Proposal). of_priority n (x ∷ drop (i + 1) ps)) (sym is)
    ∙ filter-append (λ (p : Proposal). priority_of p.action == n) (a ∷ []) (drop (i + 1) ps)

pub none_left : (n : ℕ) (ps : List Proposal) (i : ℕ) → length ps ≤ i → of_priority n (drop i ps) ≡ []
none_left n ps i end = at_drop_all (of_priority n) ps i end

pub of_it : (n : ℕ) (a : Proposal) → (priority_of a.action == n) ≡ true → a ∷ [] ≡ of_priority n (a ∷ [])
of_it n a e = sym (ap (λ (b : Bool). cond b (a ∷ []) []) e)

pub of_another : (n : ℕ) (a : Proposal) → (priority_of a.action == n) ≡ false → [] ≡ of_priority n (a ∷ [])
of_another n a e = sym (ap (λ (b : Bool). cond b (a ∷ []) []) e)

-- ---- all priorities

-- the proposals of the priorities from p on
abbrev pub later : List Proposal → ℕ → List Proposal
later ps p = flat_map (λ n. of_priority n ps) (drop p (range_with_len 0 7))

pub next_priority : (ps : List Proposal) (p : ℕ) → p < 7 → later ps p ≡ of_priority p ps ++ later ps (p + 1)
next_priority ps p within =
    at_drop_more (flat_map (λ n. of_priority n ps)) (range_with_len 0 7) p 0 within
    ∙ ap (λ (n : ℕ). of_priority n ps ++ later ps (p + 1)) (get_or-range_with_len 0 7 p 0 within ∙ zero-add p)

pub none_later : (ps : List Proposal) (p : ℕ) → 7 ≤ p → later ps p ≡ []
none_later ps p end = at_drop_all (flat_map (λ n. of_priority n ps)) (range_with_len 0 7) p end

pub all_later : (ps : List Proposal) → later ps 0 ≡ in_order_of_priority ps
all_later ps = refl

-- ---- the tallies

-- each proposal with its tally
paired : (s : Snapshot) (front ps : List Proposal)
    → map (λ (x : List Proposal × Proposal). (x.1, tally_after s x)) (fronts_from front ps) ≡ zip ps (map (tally_after s) (fronts_from front ps))
paired s front [] = refl
paired s front (p ∷ ps) = ap (λ (l : List (Proposal × Tally)). (p, tally_after s (front, p)) ∷ l) (paired s (front ++ p ∷ []) ps)

-- the lines of a whole pass are those of all proposals with their tallies
pub all_are : (s : Snapshot) → IsOfOneList s → blocks_from s [] (order_of s) ≡ all_blocks s
all_are s whole =
    sym (flat_map-map (claim_of_proposal s) (λ (x : List Proposal × Proposal). (x.1, tally_after s x)) (with_fronts (order_of s)))
    ∙ ap (λ (l : List (Proposal × Tally)). flat_map (claim_of_proposal s) l)
    (paired s [] (order_of s) ∙ ap (λ (ts : List Tally). zip (order_of s) ts) whole.tallies)
