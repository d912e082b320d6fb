use Rattle.std.proofs.Common.{ℕ, List, ap, sym, ◌∙◌}
use Rattle.std.specs.Prelude.{fold}
use Rattle.std.proofs.lemmas.List.{drop_all}
use Rattle.gov_ids.specs.declared.Credential.{Credential}
use Rattle.maps.specs.Maps.{in_order, with_key}
use Rattle.fewest_votes.proofs.Ranked.{active_ranks, rank_cmp, ranks_are}
use Rattle.fewest_votes.proofs.ranking.ranks.Goals as goal

pub returns : goal.returns
returns c =
    let f = c.args.f.now in
    let counts = c.args.c.now in
    sym (ap (λ (ds : List (Credential × ℕ)). fold (λ s k. with_key rank_cmp k s) c.loop-drep.ranks.keys (active_ranks f counts ds)) (drop_all c.loop-drep.drep-index c.as_slice-drep-items.result.now c.loop-drep-test.false))
    ∙ c.loop-drep.invariant
    ∙ ap (λ (ds : List (Credential × ℕ)). in_order rank_cmp (active_ranks f counts ds)) c.as_slice-drep-items.ensures
    ∙ ranks_are f counts
