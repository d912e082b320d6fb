use Rattle.std.proofs.Common.{◌≡◌, None, ap, sym, ◌∙◌}
use Rattle.std.specs.HashMap.{HashMap}
use Rattle.std.specs.Map.{values_of, set_value}
use Rattle.gov_ids.specs.declared.ActionId.{ActionId}
use Rattle.gov_ids.specs.contracts.ActionIdPartialEq.TheImpl as action_eq
use Rattle.gov_actions.specs.declared.action.Proposal.{Proposal}
use Rattle.gov_model.specs.Proposals.{proposal_of, without_vote}
use Rattle.proposal_store.proofs.Entries.{lookup_finds}
use Rattle.proposal_store.proofs.Voting.{each_absent, set_value-each}
use Rattle.proposal_store.proofs.store.drop_at.Goals as goal

pub returns-in-Some : goal.returns-in-Some
returns-in-Some c =
    let id = c.args.id.now in
    let es = c.args.proposals.now.entries in
    let p = c.in-Some.p.now in
    (c.get_mut.follows.holds c.drop_vote.new.self).0
    ∙ ap (λ (q : Proposal). set_value (action_eq.eq-value.it id) es q) c.drop_vote.ensures
    ∙ set_value-each id (without_vote c.args.v.now) p es c.requires.keyed c.requires.distinct (sym c.in-Some.ensures.value)

pub returns-in_default : goal.returns-in_default
returns-in_default c =
    let id = c.args.id.now in
    let es = c.args.proposals.now.entries in
    let absent : proposal_of id (values_of es) ≡ None = sym (lookup_finds id es c.requires.keyed) ∙ sym c.in_default.ensures.value in
    ap (λ (m : HashMap ActionId Proposal _). m.entries) c.get_mut.follows.holds-at-none ∙ sym (each_absent id (without_vote c.args.v.now) es absent)
