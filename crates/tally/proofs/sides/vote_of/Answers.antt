use Rattle.std.proofs.Common.{◌≡◌, List, [], Err, slice_index_or, ap, subst, sym, ◌∙◌, rules}
use Rattle.std.specs.declared.cmp.Ordering.TheVariants.{Equal}
use Rattle.std.specs.List.Sorted.{IsBinarySearchResult}
use Rattle.std.proofs.lemmas.List.Sorted.{answers_always}
use Rattle.gov_ids.specs.declared.CredKind.TheVariants.{Key}
use Rattle.gov_ids.specs.declared.Voter.{Voter}
use Rattle.gov_ids.specs.declared.Voter.TheVariants.{Committee}
use Rattle.gov_ids.specs.Orders.{voter_cmp}
use Rattle.gov_ids.specs.Derived.{voter_is}
use Rattle.gov_ids.proofs.Totals.{voter_total}
use Rattle.gov_actions.specs.declared.action.Vote.{Vote}
use Rattle.gov_actions.specs.declared.action.Vote.TheVariants.{Yes}
use Rattle.maps.specs.Maps.{IsMap, value_at}
use Rattle.snapshots.proofs.Searched.{found, missed}
use Rattle.tally.proofs.sides.vote_of.Goals as goal

abbrev nobody : Voter × Vote
nobody = (Committee (record { hash = []; kind = Key }), Yes)

pub returns-in-Ok : goal.returns-in-Ok
returns-in-Ok c =
    let votes = c.as_slice-votes.result.now in
    let voter = c.args.voter.now in
    let place = c.in-Ok.i in
    let ordered : IsMap voter_cmp votes = subst (λ (es : List (Voter × Vote)). IsMap voter_cmp es) (sym c.as_slice-votes.ensures) c.requires in
    let equal = c.in-Ok.ensures.position (λ (e : Voter × Vote). e.0) (answers_always _ _ _ (λ f a r g called. search rules)) in
    let at : voter_cmp (slice_index_or votes place nobody).0 voter ≡ Equal = subst (λ cmp. cmp (slice_index_or votes place nobody).0 voter ≡ Equal) voter_is (equal nobody) in
    sym (found voter_total voter votes place nobody ordered c.in-Ok.ensures.bound at) ∙ ap (λ (es : List (Voter × Vote)). value_at voter_cmp es voter) c.as_slice-votes.ensures

pub returns-in-Err : goal.returns-in-Err
returns-in-Err c =
    let votes = c.as_slice-votes.result.now in
    let voter = c.args.voter.now in
    let place = c.in-Err.field-0 in
    let ordered : IsMap voter_cmp votes = subst (λ (es : List (Voter × Vote)). IsMap voter_cmp es) (sym c.as_slice-votes.ensures) c.requires in
    let parted = c.in-Err.ensures.position (λ (e : Voter × Vote). e.0) (answers_always _ _ _ (λ f a r g called. search rules)) in
    let by_voter = subst (λ cmp. IsBinarySearchResult (λ (e : Voter × Vote). cmp e.0 voter) votes (Err place)) voter_is parted in
    sym (missed voter_total voter votes place ordered c.in-Err.ensures.bound by_voter) ∙ ap (λ (es : List (Voter × Vote)). value_at voter_cmp es voter) c.as_slice-votes.ensures
