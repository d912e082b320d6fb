use Rattle.std.proofs.Common.{◌≡◌, ℕ, ◌+◌, ◌<◌, List, [], ◌∷◌, ◌++◌, Some, None, drop, length, ap, sym, ◌∙◌, append_assoc, arith}
use Rattle.std.specs.List.{slice_get}
use Rattle.std.specs.Option.{option_copied}
use Rattle.std.proofs.lemmas.List.{append-nil, drop_all}
use Rattle.maps.proofs.Lists.{never_past}
use Rattle.gov_actions.specs.declared.action.Proposal.{Proposal}
use Rattle.freeze.proofs.Sums.{from_here}
use Rattle.freeze.proofs.proposals.copied_proposals.Goals.{in-Some+in_ok-copied+in_ok-push, in_default}
use Rattle.freeze.proofs.proposals.copied_proposals.Goals as goal

pub loop-i-preserved : goal.loop-i-preserved
loop-i-preserved c =
    let store : List Proposal = c.args.store.now in
    let i : ℕ = c.loop-i.i in
    let items : List Proposal = c.loop-i.copies.items in
    let rest : List Proposal = drop (i + 1) store in
    elim c.match-at.branch [
      | in-Some+in_ok-copied+in_ok-push w ↦
          let here : slice_get store i ≡ Some w.in-Some.p.now = sym c.at.ensures ∙ ap option_copied w.in-Some.is in
          ap (λ v. v.items ++ rest) w.copies-is
          ∙ ap (λ (l : List Proposal). l ++ rest) w.in_ok-push.ensures.items
          ∙ append_assoc items (w.in_ok-copied.field-0 ∷ []) rest
          ∙ ap (λ (p : Proposal). items ++ p ∷ rest) w.in_ok-copied.ensures
          ∙ sym (from_here store i w.in-Some.p.now here (λ (l : List Proposal). items ++ l))
          ∙ c.loop-i.invariant
      | in_default w ↦
          let none : slice_get store i ≡ None = sym c.at.ensures ∙ ap option_copied w.in_default.is in
          let within : i < length store = omega (arith, c.loop-i-test.true, c.len-i-end.ensures.count) in
          absurd (never_past store i within none)
    ]

pub returns : goal.returns
returns c =
    let store : List Proposal = c.args.store.now in
    let items : List Proposal = c.loop-i.copies.items in
    c.from_vec.ensures
    ∙ sym (append-nil items)
    ∙ ap (λ (l : List Proposal). items ++ l) (sym (drop_all c.loop-i.i store (omega (arith, c.loop-i-test.false, c.len-i-end.ensures.count))))
    ∙ c.loop-i.invariant
