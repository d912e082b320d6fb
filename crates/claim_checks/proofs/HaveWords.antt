-- Each line of the results of a certificate has a word.
use Rattle.std.proofs.Common.{List, [], ◌∷◌, ◌++◌, codes, flat_map, map, zip}
use Rattle.certificate_model.specs.Certificate.{claim_lines, claim_of_proposal, verdict_words}
use Rattle.certificate_model.specs.Parts.{part_words, parts_of}
use Rattle.gov_actions.specs.declared.action.Proposal.{Proposal}
use Rattle.gov_actions.specs.declared.tally.Tally.{Tally}
use Rattle.gov_model.specs.Ratified.{order_of, ratified_of, tallies_of}
use Rattle.gov_model.specs.Snapshot.{Snapshot}
use Rattle.text_model.specs.of_run_model.Report.{stakes_of}
use Rattle.text_model.specs.EpochLines.{stake_words}
use Rattle.text_model.specs.Words.{Text}

-- each of these lines has a word
abbrev pub HaveWords : List (List Text) → Type 0
HaveWords [] = Unit {0}
HaveWords ([] ∷ lines) = ⊥
HaveWords ((word ∷ words) ∷ lines) = HaveWords lines

-- so have two lists
have_both : (xs ys : List (List Text)) → HaveWords xs → HaveWords ys → HaveWords (xs ++ ys)
have_both [] ys have more = more
have_both ([] ∷ xs) ys have more = absurd have
have_both ((word ∷ words) ∷ xs) ys have more = have_both xs ys have more

-- and the lines of several items, if those of each have
have_flat : {A : Type 0} (lines : A → List (List Text)) → ((x : A) → HaveWords (lines x)) → (xs : List A) → HaveWords (flat_map lines xs)
have_flat lines each [] = tt
have_flat lines each (x ∷ xs) = have_both (lines x) (flat_map lines xs) (each x) (have_flat lines each xs)

have_map : {A : Type 0} (words : A → List Text) → ((x : A) → HaveWords (words x ∷ [])) → (xs : List A) → HaveWords (map words xs)
have_map words each [] = tt
have_map words each (x ∷ xs) = have_both (words x ∷ []) (map words xs) (each x) (have_map words each xs)

proposal_has : (s : Snapshot) (x : Proposal × Tally) → HaveWords (claim_of_proposal s x)
proposal_has s (a, t) = have_both (map (part_words a) (parts_of s a)) (verdict_words t ∷ []) (have_map (part_words a) (λ p. tt) (parts_of s a)) tt

pub claims_have : (s : Snapshot) → HaveWords (claim_lines s)
claims_have s =
    let stakes : List (List Text) = map stake_words (stakes_of s) in
    let proposals : List (List Text) = flat_map (claim_of_proposal s) (zip (order_of s) (tallies_of s (ratified_of s))) in
    have_both (stakes ++ proposals) ((codes "end" ∷ []) ∷ [])
    (have_both stakes proposals (have_map stake_words (λ d. tt) (stakes_of s)) (have_flat (claim_of_proposal s) (proposal_has s) (zip (order_of s) (tallies_of s (ratified_of s))))) tt
