use Rattle.std.proofs.Common.{◌≡◌, ℕ, List, [], None, get_or, refl, subst, sym, ◌∙◌, arith}
use Rattle.std.proofs.lemmas.Bool.{false≢true}
use Rattle.std.proofs.lemmas.List.{get_or_default}
use Rattle.gov_ids.specs.declared.CredKind.TheVariants.{Key}
use Rattle.shown_lists.specs.Shows.{MemberRow, row_shown}
use Rattle.shown_lists.proofs.Places.{each_more, rows_at, rows_each}
use Rattle.shown_lists.proofs.hot.members_are_shown.Goals as goal

abbrev nothing : MemberRow
nothing = ((record { hash = []; kind = Key }, 0), None)

pub returns-then-not-is_shown : goal.returns-then-not-is_shown
returns-then-not-is_shown c =
    let rows : List MemberRow = c.args.rows.now in (
      λ t. absurd (false≢true t),
      λ e. sym c.if-not-is_shown.true ∙ c.is_shown.ensures.1 (rows_at (row_shown c.args.hot.now) rows rows c.loop-row.row-index nothing nothing e c.loop-row-test.true),
    )

pub loop-row-preserved : goal.loop-row-preserved
loop-row-preserved c = λ j d l.
    let rows : List MemberRow = c.args.rows.now in
    let i : ℕ = c.loop-row.row-index in
    let here = c.is_shown.ensures.0 c.if-not-is_shown.false in
    each_more (λ k. row_shown c.args.hot.now (get_or rows k d) ≡ get_or rows k d) i (λ k below. c.loop-row.invariant k d below)
    (subst (λ (x : MemberRow). row_shown c.args.hot.now x ≡ x) (get_or_default rows i nothing d c.loop-row-test.true) here) j l

pub returns : goal.returns
returns c =
    let rows : List MemberRow = c.args.rows.now in (
      λ t. rows_each (row_shown c.args.hot.now) rows rows refl (λ j x y l. c.loop-row.invariant j x (omega (arith, l, c.loop-row-test.false)) ∙ get_or_default rows j x y l),
      λ e. refl,
    )
