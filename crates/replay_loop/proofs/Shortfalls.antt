-- Each line of a shortfall has a word.
use Rattle.std.proofs.Common.{ℕ, List, [], ◌∷◌, map}
use Rattle.std.specs.Prelude.{flat_map}
use Rattle.gov_actions.specs.declared.action.Proposal.{Proposal}
use Rattle.gov_ids.specs.declared.ActionId.{ActionId}
use Rattle.gov_ids.specs.declared.Credential.{Credential}
use Rattle.gov_model.specs.Ratified.{order_of}
use Rattle.gov_model.specs.Snapshot.{Snapshot}
use Rattle.shortfall_model.specs.ShortLines.{add_words, short_lines, shortfall_lines}
use Rattle.shortfall_model.specs.Silent.{short_of}
use Rattle.shortfall_model.specs.declared.short.Short.{Short}
use Rattle.shortfall_model.specs.declared.short.Short.TheVariants as short
use Rattle.gathered_lines.proofs.Gathering.{have_both}
use Rattle.gathered_lines.specs.Through.{HaveWords}

adds_have : (ds : List (Credential × ℕ)) → HaveWords (map add_words ds)
adds_have [] = tt
adds_have (d ∷ ds) = adds_have ds

short_have : (id : ActionId) (s : Short) → HaveWords (short_lines id s)
short_have id short.Never = tt
short_have id (short.None ayes total t) = tt
short_have id (short.Least ds ayes total t n) = adds_have ds

proposals_have : (f : Snapshot) (proposals : List Proposal) → HaveWords (flat_map (λ (a : Proposal). short_lines a.id (short_of f a)) proposals)
proposals_have f [] = tt
proposals_have f (a ∷ proposals) =
    have_both (short_lines a.id (short_of f a)) (flat_map (λ (b : Proposal). short_lines b.id (short_of f b)) proposals) (short_have a.id (short_of f a)) (proposals_have f proposals)

pub lines_have : (f : Snapshot) → HaveWords (shortfall_lines f)
lines_have f = proposals_have f (order_of f)
