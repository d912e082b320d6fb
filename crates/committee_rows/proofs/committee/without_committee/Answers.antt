use Rattle.std.proofs.Common.{◌==◌, List, Some, None, ap, length, subst, sym, ◌∙◌}
use Rattle.std.proofs.lemmas.Bool.{false≢true}
use Rattle.shown_lists.specs.Only.{IsOnly}
use Rattle.shown_lists.specs.Shows.{MemberRow}
use Rattle.committee_rows.specs.Shown.{IsGoverning, governing_shown}
use Rattle.committee_rows.proofs.Committees.{Entries, no_rows, none_shown, without_none, without_some}
use Rattle.committee_rows.proofs.committee.without_committee.Goals.{else-is_empty-via-then-is_empty+else-is_map, else-is_empty-via-else-is_empty}
use Rattle.committee_rows.proofs.committee.without_committee.Goals as goal

pub returns-in_ok-from_slice : goal.returns-in_ok-from_slice
returns-in_ok-from_slice c =
    subst (λ (hot : Entries). IsOnly IsGoverning governing_shown (none_shown c.args.rows.now c.args.others.now) (Some (None, hot))) (sym c.in_ok-from_slice.ensures.items)
    (without_some c.args.rows.now c.args.others.now (no_rows c.args.rows.now (sym c.is_empty.ensures ∙ c.if-is_empty.true)) (sym c.is_map.ensures ∙ c.if-is_map.true))

pub returns-else-is_empty : goal.returns-else-is_empty
returns-else-is_empty c =
    without_none c.args.rows.now c.args.others.now
    (λ empty ordered. elim c.else-is_empty.branch [
      | else-is_empty-via-then-is_empty+else-is_map w ↦ false≢true (sym w.if-is_map.false ∙ w.is_map.ensures ∙ ordered)
      | else-is_empty-via-else-is_empty w ↦ false≢true (sym w.if-is_empty.false ∙ c.is_empty.ensures ∙ ap (λ (rows : List MemberRow). length rows == 0) empty)
    ])
