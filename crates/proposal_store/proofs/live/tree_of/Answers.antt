use Rattle.std.proofs.Common.{◌≡◌, List, drop, ap, sym, ◌∙◌, ◌∷◌, ◌+◌, [], add-one, slice_index_or}
use Rattle.std.proofs.Math.Seq.{drop-cons}
use Rattle.gov_actions.specs.declared.action.Vote.{Vote}
use Rattle.gov_actions.specs.declared.action.Vote.TheVariants.{Yes}
use Rattle.gov_ids.specs.declared.CredKind.TheVariants.{Key}
use Rattle.gov_ids.specs.declared.Voter.{Voter}
use Rattle.gov_ids.specs.declared.Voter.TheVariants.{Committee}
use Rattle.gov_ids.specs.Derived.{voter_is}
use Rattle.gov_ids.specs.Orders.{voter_cmp}
use Rattle.maps.specs.Maps.{with_value, with_values}
use Rattle.proposal_store.proofs.live.tree_of.Goals as goal

abbrev nobody : Voter × Vote
nobody = (Committee (record { hash = []; kind = Key }), Yes)

pub loop-v-preserved : goal.loop-v-preserved
loop-v-preserved c =
    let votes = c.args.votes.now in
    let i = c.loop-v.v-index in
    let e = slice_index_or votes i nobody in
    let before = c.loop-v.tree.entries in
    let entered : c.insert.new.self.entries ≡ with_value voter_cmp e.0 e.1 before = c.in_ok-insert.ensures.entries ∙ (λ j. with_value (voter_is j) e.0 e.1 before) in
    let cut : drop i votes ≡ e ∷ drop (i + 1) votes = drop-cons votes i nobody c.loop-v-test.true ∙ ap (λ n. e ∷ drop n votes) (sym (add-one i)) in
    ap (λ (es : List (Voter × Vote)). with_values voter_cmp (drop (i + 1) votes) es) entered
    ∙ ap (λ (l : List (Voter × Vote)). with_values voter_cmp l before) (sym cut)
    ∙ c.loop-v.invariant
