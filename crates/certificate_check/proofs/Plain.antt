-- No line of the results of a certificate begins like a line of its snapshot.
use Rattle.std.proofs.Common.{◌≡◌, false, List, [], ◌∷◌, ◌++◌, codes, flat_map, map, refl, zip}
use Rattle.snapshot_reader.specs.of_certificate_lists.Rows.{snapshot_stops}
use Rattle.certificate_model.specs.Certificate.{claim_lines, claim_of_proposal, verdict_words}
use Rattle.certificate_model.specs.Parts.{part_words, parts_of}
use Rattle.gov_model.specs.Ratified.{order_of, ratified_of, tallies_of}
use Rattle.gov_model.specs.Snapshot.{Snapshot}
use Rattle.line_parts.specs.Parts.{lines_of}
use Rattle.line_parts.specs.Shapes.{begins_with_one, is_next}
use Rattle.text_forms.specs.Lines.{joined}
use Rattle.text_model.specs.of_run_model.Report.{stakes_of}
use Rattle.text_model.specs.EpochLines.{stake_words}
use Rattle.text_model.specs.Words.{Text}

-- none of these lines does
abbrev ArePlain : List (List Text) → Type 0
ArePlain [] = Unit {0}
ArePlain (words ∷ lines) = (begins_with_one snapshot_stops (joined words) ≡ false) × ArePlain lines

plain_both : (xs ys : List (List Text)) → ArePlain xs → ArePlain ys → ArePlain (xs ++ ys)
plain_both [] ys first more = more
plain_both (x ∷ xs) ys first more = (first.0, plain_both xs ys first.1 more)

plain_map : {A : Type 0} (words : A → List Text) → ((x : A) → begins_with_one snapshot_stops (joined (words x)) ≡ false) → (xs : List A) → ArePlain (map words xs)
plain_map words each [] = tt
plain_map words each (x ∷ xs) = (each x, plain_map words each xs)

plain_flat : {A : Type 0} (lines : A → List (List Text)) → ((x : A) → ArePlain (lines x)) → (xs : List A) → ArePlain (flat_map lines xs)
plain_flat lines each [] = tt
plain_flat lines each (x ∷ xs) = plain_both (lines x) (flat_map lines xs) (each x) (plain_flat lines each xs)

plain_claims : (f : Snapshot) → ArePlain (claim_lines f)
plain_claims f =
    let stakes : List (List Text) = map stake_words (stakes_of f) in
    let proposals : List (List Text) = flat_map (claim_of_proposal f) (zip (order_of f) (tallies_of f (ratified_of f))) in
    plain_both (stakes ++ proposals) ((codes "end" ∷ []) ∷ [])
    (plain_both stakes proposals (plain_map stake_words (λ s. refl) (stakes_of f))
    (plain_flat (claim_of_proposal f) (λ x. plain_both (map (part_words x.0) (parts_of f x.0)) (verdict_words x.1 ∷ []) (plain_map (part_words x.0) (λ p. refl) (parts_of f x.0)) (refl, tt))
    (zip (order_of f) (tallies_of f (ratified_of f)))))
    (refl, tt)

plain_next : (lines : List (List Text)) → ArePlain lines → is_next snapshot_stops (lines_of lines) ≡ false
plain_next [] plain = refl
plain_next (words ∷ lines) plain = plain.0

pub none_next : (f : Snapshot) → is_next snapshot_stops (lines_of (claim_lines f)) ≡ false
none_next f = plain_next (claim_lines f) (plain_claims f)
