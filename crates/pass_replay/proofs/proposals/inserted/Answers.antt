use Rattle.std.proofs.Common.{◌≡◌, Bool, true, false, not, List, [], ◌∷◌, sym, subst}
use Rattle.std.specs.List.{All, AllByRecursion, list_all}
use Rattle.std.proofs.lemmas.Bool.{not-true, and_parts}
use Rattle.std.proofs.lemmas.List.Elements.{All-cons}
use Rattle.std.proofs.lemmas.Map.Keys.{IsDistinct-cons}
use Rattle.gov_ids.specs.declared.ActionId.{ActionId}
use Rattle.gov_ids.specs.Orders.{voter_cmp}
use Rattle.gov_ids.specs.Same.{same_action}
use Rattle.gov_actions.specs.declared.action.Proposal.{Proposal}
use Rattle.gov_model.specs.Laws.{HaveDistinctIds}
use Rattle.gov_model.specs.Ratified.{ids_of}
use Rattle.maps.specs.Maps.{IsMap}
use Rattle.pass_replay.proofs.proposals.inserted.Goals as goal

-- a new id is none of theirs
apart : (id : ActionId) (ps : List Proposal) → list_all (λ (p : Proposal). not (same_action id p.id)) ps ≡ true
    → AllByRecursion (λ (k : ActionId). same_action id k ≡ false) (ids_of ps)
apart id [] h = tt
apart id (p ∷ ps) h =
    let rest : Bool = list_all (λ (q : Proposal). not (same_action id q.id)) ps in
    let parts = and_parts (not (same_action id p.id)) rest h in
    (not-true (same_action id p.id) parts.0, apart id ps parts.1)

abbrev IsOrdered : Proposal → Type 0
IsOrdered a = IsMap voter_cmp a.votes

pub returns-clause-distinct : goal.returns-clause-distinct
returns-clause-distinct c =
    let first = c.args.first in
    let rest = c.args.rest in
    subst HaveDistinctIds (sym c.in_ok-insert.ensures.ok)
    (IsDistinct-cons same_action first.id (ids_of rest) (apart first.id rest c.requires.new) c.requires.distinct)

pub returns-clause-voters : goal.returns-clause-voters
returns-clause-voters c =
    subst (All IsOrdered) (sym c.in_ok-insert.ensures.ok) (All-cons IsOrdered c.args.first c.args.rest c.requires.order c.requires.voters)
