-- The order of priority, a priority after the other.
use Rattle.std.proofs.Common.{◌≡◌, ℕ, zero, suc, ◌+◌, ◌==◌, ◌<◌, true, false, cond, List, [], ◌∷◌, ◌++◌, flat_map, get_or, length, take, refl, ap, sym, ◌∙◌, add-one, arith}
use Rattle.std.proofs.Math.Seq.{take-suc}
use Rattle.std.proofs.lemmas.Grind.{flat_map-append}
use Rattle.std.specs.List.{All}
use Rattle.std.proofs.lemmas.List.{append-nil}
use Rattle.std.proofs.lemmas.List.Elements.{All-append, All-filter, All-nil}
use Rattle.gov_actions.specs.declared.action.Proposal.{Proposal}
use Rattle.gov_actions.specs.Kinds.{in_order_of_priority, priority_of}
use Rattle.ratify.specs.Passes.{of_priority}
use Rattle.ratify.proofs.Fronts.{filter-push}

-- the priorities in order
abbrev pub priorities : List ℕ
priorities = 0 ∷ 1 ∷ 2 ∷ 3 ∷ 4 ∷ 5 ∷ 6 ∷ []

priority_at : (n : ℕ) → n < 7 → get_or priorities n 0 ≡ n
priority_at zero h = refl
priority_at (suc zero) h = refl
priority_at (suc (suc zero)) h = refl
priority_at (suc (suc (suc zero))) h = refl
priority_at (suc (suc (suc (suc zero)))) h = refl
priority_at (suc (suc (suc (suc (suc zero))))) h = refl
priority_at (suc (suc (suc (suc (suc (suc zero)))))) h = refl
priority_at (suc (suc (suc (suc (suc (suc (suc n))))))) h = absurd (omega arith)

-- the proposals of the first n priorities
abbrev pub of_first : ℕ → List Proposal → List Proposal
of_first n ps = flat_map (λ m. of_priority m ps) (take n priorities)

-- those of one priority more
pub of_first-suc : (n : ℕ) (ps : List Proposal) → n < 7 → of_first (suc n) ps ≡ of_first n ps ++ of_priority n ps
of_first-suc n ps h =
    let of_one : ℕ → List Proposal = λ m. of_priority m ps in
    ap (flat_map of_one) (take-suc priorities n 0 h ∙ ap (λ m. take n priorities ++ m ∷ []) (priority_at n h))
    ∙ flat_map-append of_one (take n priorities) (n ∷ []) ∙ ap (λ l. of_first n ps ++ l) (append-nil (of_priority n ps))

module _ (P : Proposal → Type 0) (ps : List Proposal) (all : All P ps) where
  all_of : (ns : List ℕ) → All P (flat_map (λ n. of_priority n ps) ns)
  all_of [] = All-nil P
  all_of (n ∷ ns) = All-append P (of_priority n ps) (flat_map (λ m. of_priority m ps) ns) (All-filter _ P ps all) (all_of ns)

  -- what holds of each proposal holds of each in order
  pub all_in_order : All P (in_order_of_priority ps)
  all_in_order = all_of priorities

module _ (n i : ℕ) (ps : List Proposal) (a : Proposal) (h : i < length ps) (is : a ≡ get_or ps i a) where
  taken : take (i + 1) ps ≡ take i ps ++ a ∷ []
  taken = ap (λ (m : ℕ). take m ps) (add-one i) ∙ take-suc ps i a h ∙ ap (λ (x : Proposal). take i ps ++ x ∷ []) (sym is)

  pushed : of_priority n (take (i + 1) ps) ≡ cond (priority_of a.action == n) (of_priority n (take i ps) ++ a ∷ []) (of_priority n (take i ps))
  pushed = ap (of_priority n) taken ∙ filter-push (λ (p : Proposal). priority_of p.action == n) (take i ps) a

  -- one more of the priority
  pub with_next : (priority_of a.action == n) ≡ true → of_priority n (take i ps) ++ a ∷ [] ≡ of_priority n (take (i + 1) ps)
  with_next test = sym (pushed ∙ ap (λ b. cond b (of_priority n (take i ps) ++ a ∷ []) (of_priority n (take i ps))) test)

  -- one of another
  pub without_next : (priority_of a.action == n) ≡ false → of_priority n (take i ps) ≡ of_priority n (take (i + 1) ps)
  without_next test = sym (pushed ∙ ap (λ b. cond b (of_priority n (take i ps) ++ a ∷ []) (of_priority n (take i ps))) test)
