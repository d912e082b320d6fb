use Rattle.std.proofs.Common.{List, [], ap, ◌∙◌}
use Rattle.gov_actions.specs.declared.action.Vote.{Vote}
use Rattle.gov_ids.specs.declared.Voter.{Voter}
use Rattle.gov_ids.specs.Orders.{voter_cmp}
use Rattle.gov_ids.proofs.Totals.{voter_total}
use Rattle.maps.specs.Maps.{with_values}
use Rattle.maps.proofs.Copied.{copied_is}
use Rattle.proposal_store.proofs.live.LiveProposal.of.Goals as goal

pub returns : goal.returns
returns c =
    ap (λ (votes : List (Voter × Vote)). record c.args.p { votes = votes })
    (c.in_ok-votes.ensures ∙ ap (λ (l : List (Voter × Vote)). with_values voter_cmp l []) c.as_slice.ensures ∙ copied_is voter_total c.args.p.votes c.requires.ordered)
