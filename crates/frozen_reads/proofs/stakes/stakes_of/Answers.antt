use Rattle.std.proofs.Common.{ℕ, List, [], ◌∷◌, ◌++◌, ap, ◌∙◌}
use Rattle.gov_ids.specs.declared.Credential.{Credential}
use Rattle.gov_ids.specs.declared.Drep.{Drep}
use Rattle.gov_ids.specs.declared.Drep.TheVariants as drep
use Rattle.frozen_reads.specs.Stakes.{registered, stakes_by}
use Rattle.frozen_reads.proofs.Reported.{predefined_last, stakes_are}
use Rattle.frozen_reads.proofs.stakes.stakes_of.Goals as goal

pub returns : goal.returns
returns c = λ s are.
    let sums : List (Drep × ℕ) = c.args.c.now.sums in
    let last : List Drep → List (Drep × ℕ) = λ ds. stakes_by sums ds in
    c.in_ok-note-2.ensures
    ∙ ap (λ (l : List (Drep × ℕ)). l ++ last (drep.NoConfidence ∷ [])) (c.in_ok-note.ensures ∙ ap (λ (l : List (Drep × ℕ)). l ++ last (drep.Abstain ∷ [])) (c.in_ok-stakes.ensures
    ∙ ap (λ (ds : List (Credential × ℕ)). last (registered ds)) c.as_slice.ensures))
    ∙ predefined_last sums (registered c.args.f.now.dreps)
    ∙ stakes_are s c.args.f.now c.args.c.now are
