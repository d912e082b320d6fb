-- The lines of frozen proposals, one priority after the other.
use Rattle.std.proofs.Common.{◌≡◌, ◌==◌, ℕ, ◌+◌, ◌<◌, ◌≤◌, List, [], ◌∷◌, ◌++◌, Bool, true, false, cond, drop, flat_map, length, map, slice_index_or, refl, ap, sym, ◌∙◌, zero-add}
use Rattle.std.specs.List.{range_with_len}
use Rattle.std.proofs.lemmas.List.{append-nil, at_drop_all, at_drop_more, get_or-map}
use Rattle.std.proofs.lemmas.List.Concat.{flat_map-append}
use Rattle.std.proofs.lemmas.List.Elements.{filter-append}
use Rattle.std.proofs.lemmas.List.FromFn.{get_or-range_with_len}
use Rattle.gov_actions.specs.declared.action.Proposal.{Proposal}
use Rattle.gov_actions.specs.Kinds.{priority_of}
use Rattle.gov_model.specs.Snapshot.{Snapshot}
use Rattle.shortfall_model.specs.ShortLines.{short_lines, shortfall_lines}
use Rattle.shortfall_model.specs.Silent.{drep_count, short_of}
use Rattle.tally.specs.Cells.{cell_of}
use Rattle.tally.specs.declared.cells.TallyCell.{TallyCell}
use Rattle.text_model.specs.Words.{Text}
use Rattle.short_lines.specs.Ranked.{lines_of, of_priority}

module _ (s : Snapshot) where
  -- those of the priority from a place on
  abbrev pub lines_from : ℕ → List Proposal → ℕ → List (List Text)
  lines_from n ps i = lines_of s (of_priority n (drop i ps))

  -- the next one, if it is of the priority, and then the others
  pub from_next : (n : ℕ) (ps : List Proposal) (i : ℕ) (a : Proposal) → i < length ps → a ≡ slice_index_or ps i a
      → lines_from n ps i ≡ lines_of s (of_priority n (a ∷ [])) ++ lines_from n ps (i + 1)
  from_next n ps i a within is =
      at_drop_more (λ (xs : List Proposal). lines_of s (of_priority n xs)) ps i a within
      ∙ ap (λ (x : Proposal). lines_of s (of_priority n (x ∷ drop (i + 1) ps))) (sym is)
      ∙ ap (lines_of s) (filter-append (λ (p : Proposal). priority_of p.action == n) (a ∷ []) (drop (i + 1) ps))
      ∙ flat_map-append (λ (p : Proposal). short_lines p.id (short_of s p)) (of_priority n (a ∷ [])) (of_priority n (drop (i + 1) ps))

  -- one of the priority
  pub of_it : (n : ℕ) (a : Proposal) → (priority_of a.action == n) ≡ true → short_lines a.id (short_of s a) ≡ lines_of s (of_priority n (a ∷ []))
  of_it n a e = sym (append-nil (short_lines a.id (short_of s a))) ∙ sym (ap (λ (b : Bool). lines_of s (cond b (a ∷ []) [])) e)

  -- one of another
  pub of_another : (n : ℕ) (a : Proposal) → (priority_of a.action == n) ≡ false → [] ≡ lines_of s (of_priority n (a ∷ []))
  of_another n a e = sym (ap (λ (b : Bool). lines_of s (cond b (a ∷ []) [])) e)

  -- none is left
  pub none_left : (n : ℕ) (ps : List Proposal) (i : ℕ) → length ps ≤ i → lines_from n ps i ≡ []
  none_left n ps i end = at_drop_all (λ (xs : List Proposal). lines_of s (of_priority n xs)) ps i end

  -- what DReps count on a proposal is in its cell
  pub count_in : (ps : List Proposal) (cells : List TallyCell) (i : ℕ) (a : Proposal) (d : TallyCell) → i < length ps → a ≡ slice_index_or ps i a → cells ≡ map (cell_of s) ps
      → (slice_index_or cells i d).drep ≡ drep_count s a
  count_in ps cells i a d within is are =
      ap (λ (cs : List TallyCell). (slice_index_or cs i d).drep) are ∙ ap (λ (x : TallyCell). x.drep) (get_or-map (cell_of s) ps i a d within) ∙ ap (drep_count s) (sym is)

  -- ---- the priorities

  -- those of the priorities from p on
  abbrev pub lines_later : List Proposal → ℕ → List (List Text)
  lines_later ps p = flat_map (λ n. lines_of s (of_priority n ps)) (drop p (range_with_len 0 7))

  pub next_priority : (ps : List Proposal) (p : ℕ) → p < 7 → lines_later ps p ≡ lines_of s (of_priority p ps) ++ lines_later ps (p + 1)
  next_priority ps p within =
      at_drop_more (flat_map (λ n. lines_of s (of_priority n ps))) (range_with_len 0 7) p 0 within
      ∙ ap (λ (n : ℕ). lines_of s (of_priority n ps) ++ lines_later ps (p + 1)) (get_or-range_with_len 0 7 p 0 within ∙ zero-add p)

  pub none_later : (ps : List Proposal) (p : ℕ) → 7 ≤ p → lines_later ps p ≡ []
  none_later ps p end = at_drop_all (flat_map (λ n. lines_of s (of_priority n ps))) (range_with_len 0 7) p end

  twice : (g : ℕ → List Proposal) (ns : List ℕ) → lines_of s (flat_map g ns) ≡ flat_map (λ n. lines_of s (g n)) ns
  twice g [] = refl
  twice g (n ∷ ns) = flat_map-append (λ (a : Proposal). short_lines a.id (short_of s a)) (g n) (flat_map g ns) ∙ ap (λ (ls : List (List Text)). lines_of s (g n) ++ ls) (twice g ns)

  pub all_priorities : shortfall_lines s ≡ lines_later s.proposals 0
  all_priorities = twice (λ n. of_priority n s.proposals) (range_with_len 0 7)
