-- A proposal that is looked at.
use Rattle.std.proofs.Common.{◌≡◌, ℕ, ◌<◌, List, [], ◌∷◌, ◌++◌, Bool, true, false, not, ◌&&◌, cond, get_or, length, map, refl, ap, sym, ◌∙◌, append_assoc}
use Rattle.std.proofs.lemmas.Bool.{and_parts}
use Rattle.std.proofs.lemmas.List.{get_or-map, map-append}
use Rattle.std.proofs.lemmas.List.Folds.{list_all-append}
use Rattle.maps.specs.Words.{with_fronts}
use Rattle.gov_actions.specs.declared.action.Proposal.{Proposal}
use Rattle.gov_actions.specs.declared.tally.Need.{Need}
use Rattle.gov_actions.specs.declared.tally.Tally.{Tally}
use Rattle.gov_actions.specs.declared.tally.Verdict.{Verdict}
use Rattle.gov_actions.specs.declared.tally.Role.TheVariants as role
use Rattle.gov_actions.specs.Kinds.{is_delaying}
use Rattle.gov_model.proofs.Delaying.{ready_goes_on}
use Rattle.gov_model.specs.Enacted.{enacted_after}
use Rattle.gov_model.specs.Need.{need_of}
use Rattle.gov_model.specs.Ratified.{ids_of, roles}
use Rattle.gov_model.specs.Ready.{follows_last, goes_on_after, has_allowed_terms, is_covered, is_met, is_ready}
use Rattle.gov_model.specs.Sides.{vote_count}
use Rattle.gov_model.specs.Snapshot.{Snapshot}
use Rattle.snapshots.specs.declared.frozen.Frozen.{Frozen}
use Rattle.snapshots.specs.Frozen.{frozen_copy_of}
use Rattle.tally.specs.declared.cells.TallyCell.{TallyCell}
use Rattle.tally.specs.Cells.{cell_of}
use Rattle.ratify.specs.declared.pass.Pass.{Pass}
use Rattle.ratify.specs.declared.passing.Passing.{Passing}
use Rattle.ratify.specs.Passes.{AddsOne, Begins, LooksAt, LooksAtOne, TellsOne, are_met, can_be_enacted, chosen_of, counts_in, is_next, pass_after, passing_after, state_after, tally_after, tally_by, verdict_by, with_enacted}
use Rattle.ratify.proofs.Fronts.{chosen-push, fronts-push}
use Rattle.ratify.proofs.Enacting.{enacted-none, enacted-push}

grouped : (g l t c x y z : Bool) → (g && (l && t && c) && (x && (y && (z && true)))) ≡ (g && l && t && c && x && y && z)
grouped false l t c x y z = refl
grouped true false t c x y z = refl
grouped true true false c x y z = refl
grouped true true true false x y z = refl
grouped true true true true false y z = refl
grouped true true true true true false z = refl
grouped true true true true true true true = refl
grouped true true true true true true false = refl

-- the test of a pass is the test of the definition
pub ready_is : (s : Snapshot) (front : List Proposal) (a : Proposal)
    → (goes_on_after (chosen_of s front) && can_be_enacted s.epoch (state_after s front) a.action
    && are_met (map (λ r. need_of r s (state_after s front) a.action) roles) (map (λ r. vote_count r s a) roles))
    ≡ is_ready s (chosen_of s front) a
ready_is s front a =
    let now = state_after s front in
    grouped (goes_on_after (chosen_of s front)) (follows_last now a.action) (has_allowed_terms s.epoch now a.action) (is_covered now a.action)
    (is_met role.Committee s now a) (is_met role.Drep s now a) (is_met role.Pool s now a)

-- what is ready is covered
pub ready_covered : (g l t c m : Bool) → (g && (l && t && c) && m) ≡ true → c ≡ true
ready_covered g l t c m h = (and_parts (l && t) c (and_parts g _ (and_parts _ m h).0).1).1

told : (s : Snapshot) (front : List Proposal) (a : Proposal) → map (tally_after s) (with_fronts front) ++ tally_after s (front, a) ∷ [] ≡ map (tally_after s) (with_fronts (front ++ a ∷ []))
told s front a =
    sym (map-append (tally_after s) (with_fronts front) ((front, a) ∷ [])) ∙ ap (map (tally_after s)) (sym (fronts-push [] front a))

-- one that is not ready changes nothing
passed_over : (s : Snapshot) (front : List Proposal) (a : Proposal) → is_ready s (chosen_of s front) a ≡ false → passing_after s front ≡ passing_after s (front ++ a ∷ [])
passed_over s front a h =
    let chosen : chosen_of s front ≡ chosen_of s (front ++ a ∷ []) =
    sym (chosen-push (is_ready s) front a ∙ ap (λ b. cond b (chosen_of s front ++ a ∷ []) (chosen_of s front)) h) in
    λ i. record {
      ratified = ids_of (chosen i);
      goes_on = goes_on_after (chosen i);
      state = enacted_after s (chosen i);
    }

alone : (b : Bool) → b ≡ (true && (b && true))
alone true = refl
alone false = refl

goes_on-push : (es : List Proposal) (a : Proposal) → goes_on_after es ≡ true → not (is_delaying a.action) ≡ goes_on_after (es ++ a ∷ [])
goes_on-push es a h =
    let test : Proposal → Bool = λ e. not (is_delaying e.action) in
    alone (test a) ∙ sym (ap (λ b. b && (test a && true)) h) ∙ sym (list_all-append test es (a ∷ []))

-- one that is ready is enacted
enacted_next : (s : Snapshot) (front : List Proposal) (a : Proposal) → is_ready s (chosen_of s front) a ≡ true → with_enacted a (passing_after s front) ≡ passing_after s (front ++ a ∷ [])
enacted_next s front a h =
    let es : List Proposal = chosen_of s front in
    let on : goes_on_after es ≡ true = ready_goes_on s es a h in
    let chosen : es ++ a ∷ [] ≡ chosen_of s (front ++ a ∷ []) = sym (chosen-push (is_ready s) front a ∙ ap (λ b. cond b (es ++ a ∷ []) es) h) in
    λ i. record {
      ratified = (sym (map-append (λ (b : Proposal). b.id) es (a ∷ [])) ∙ ap ids_of chosen) i;
      goes_on = (goes_on-push es a on ∙ ap goes_on_after chosen) i;
      state = (enacted-push s es a on ∙ ap (enacted_after s) chosen) i;
    }

-- by whether it is ready
next_is : (s : Snapshot) (front : List Proposal) (a : Proposal) (ready : Bool) → ready ≡ is_ready s (chosen_of s front) a
    → cond ready (with_enacted a (passing_after s front)) (passing_after s front) ≡ passing_after s (front ++ a ∷ [])
next_is s front a true h = enacted_next s front a (sym h)
next_is s front a false h = passed_over s front a (sym h)

-- a proposal that is looked at, by its cell and by what is computed of it
module _ (f : Frozen) (p : Passing) (a : Proposal) (cell : TallyCell) (counts : List (ℕ × ℕ)) (needs : List Need) (ready : Bool) (became : Verdict)
    (counts_are : counts ≡ counts_in cell)
    (needs_are : (s : Snapshot) → f ≡ frozen_copy_of s → needs ≡ map (λ r. need_of r s p.state a.action) roles)
    (tested : ready ≡ is_next f.epoch p a.action needs counts) (judged : became ≡ verdict_by ready a.expires_after f.epoch) where
  module _ (s : Snapshot) (front : List Proposal) (of : f ≡ frozen_copy_of s) (counted : cell ≡ cell_of s a) (before : p ≡ passing_after s front) where
    same_epoch : f.epoch ≡ s.epoch
    same_epoch = ap (λ (g : Frozen). g.epoch) of

    same_counts : counts ≡ map (λ r. vote_count r s a) roles
    same_counts = counts_are ∙ ap counts_in counted

    same_needs : needs ≡ map (λ r. need_of r s (state_after s front) a.action) roles
    same_needs = needs_are s of ∙ ap (λ (q : Passing). map (λ r. need_of r s q.state a.action) roles) before

    same_test : ready ≡ is_ready s (chosen_of s front) a
    same_test = tested ∙ (λ i. is_next (same_epoch i) (before i) a.action (same_needs i) (same_counts i)) ∙ ready_is s front a

    same_tally : tally_by a counts needs became ≡ tally_after s (front, a)
    same_tally = λ i. tally_by a (same_counts i) (same_needs i) ((judged ∙ (λ j. verdict_by (same_test j) a.expires_after (same_epoch j))) i)

  pub looked_at : LooksAtOne f cell p a (cond ready (with_enacted a p) p)
  looked_at = λ s of counted front before.
      (λ i. cond ready (with_enacted a (before i)) (before i)) ∙ next_is s front a ready (same_test s front of counted before)

  pub tally_is : TellsOne f cell p a (tally_by a counts needs became)
  tally_is = λ s of counted front before. same_tally s front of counted before

-- one more proposal is looked at, and its tally put behind the others
pub tallied : (f : Frozen) (cell : TallyCell) (p : Pass) (a : Proposal) (q : Passing) (t : Tally) → LooksAtOne f cell p.passing a q → TellsOne f cell p.passing a t
    → AddsOne f cell p a (record { passing = q; tallies = p.tallies ++ t ∷ [] })
tallied f cell p a q t looks tells = λ s of counted front before.
    let stood : p.passing ≡ passing_after s front = ap (λ (x : Pass). x.passing) before in
    let tallies : p.tallies ++ t ∷ [] ≡ map (tally_after s) (with_fronts (front ++ a ∷ [])) =
    (λ i. (before i).tallies ++ tells s of counted front stood i ∷ []) ∙ told s front a in
    λ i. record { passing = looks s of counted front stood i; tallies = tallies i }

-- before the first
pub none_looked_at : (f : Frozen) (p : Passing) → p ≡ record { ratified = []; goes_on = true; state = f.start } → Begins f p
none_looked_at f p is = λ s of. is ∙ (λ i. record { ratified = []; goes_on = true; state = (ap (λ (g : Frozen). g.start) of ∙ sym (enacted-none s)) i })

-- the cell at the place of a proposal is its cell
cell_at : (s : Snapshot) (ps : List Proposal) (cells : List TallyCell) (i : ℕ) (a : Proposal) (cell : TallyCell)
    → i < length ps → a ≡ get_or ps i a → cell ≡ get_or cells i cell → cells ≡ map (cell_of s) ps → cell ≡ cell_of s a
cell_at s ps cells i a cell h is at all =
    at ∙ ap (λ (l : List TallyCell). get_or l i cell) all ∙ get_or-map (cell_of s) ps i a cell h ∙ ap (cell_of s) (sym is)

-- one more after these
pub looked_more : (f : Frozen) (cells : List TallyCell) (p q r : Pass) (xs zs : List Proposal) (i : ℕ) (a : Proposal) (cell : TallyCell)
    → i < length f.proposals → a ≡ get_or f.proposals i a → cell ≡ get_or cells i cell → xs ++ a ∷ [] ≡ zs
    → LooksAt f cells p xs q → AddsOne f cell q a r → LooksAt f cells p zs r
looked_more f cells p q r xs zs i a cell h is at all first then = λ s of counted front before.
    let own : cell ≡ cell_of s a = cell_at s f.proposals cells i a cell h is at (counted ∙ ap (λ (g : Frozen). map (cell_of s) g.proposals) (sym of)) in
    then s of own (front ++ xs) (first s of counted front before) ∙ ap (pass_after s) (append_assoc front xs (a ∷ []) ∙ ap (λ (l : List Proposal). front ++ l) all)
