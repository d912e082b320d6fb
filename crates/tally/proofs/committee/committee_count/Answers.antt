use Rattle.std.proofs.Common.{ℕ, List, ap, sym, ◌∙◌}
use Rattle.std.proofs.lemmas.List.{drop_all}
use Rattle.gov_ids.specs.declared.Credential.{Credential}
use Rattle.tally.specs.Adding.{with_sides}
use Rattle.tally.proofs.MemberSides.{member_sides, committee_counted}
use Rattle.tally.proofs.committee.committee_count.Goals as goal

pub returns : goal.returns
returns c = λ s e.
    let f = c.args.f.now in
    let a = c.args.a.now in
    let items = c.members_of-member-items.result.now in
    let none = drop_all c.loop-member.member-index items c.loop-member-test.false in
    sym (ap (λ (ms : List (Credential × ℕ)). with_sides c.loop-member.count (member_sides f a ms)) none)
    ∙ c.loop-member.invariant.rest
    ∙ ap (λ (ms : List (Credential × ℕ)). with_sides (0, 0) (member_sides f a ms)) c.members_of-member-items.ensures
    ∙ committee_counted f a s e
