use Rattle.std.proofs.Common.{Bor, ◌≡◌, List, [], ◌∷◌, Option, Some, flat_map, option_map, ap, sym, ◌∙◌}
use Rattle.book_records.specs.declared.Output.{Output}
use Rattle.gov_ids.specs.declared.OutRef.{OutRef}
use Rattle.gov_ids.specs.Orders.{outref_cmp}
use Rattle.gov_ids.proofs.Totals.{outref_total}
use Rattle.text_model.specs.StateLines.{output_lines}
use Rattle.view_map.specs.Walk.{entries_past}
use Rattle.state_print.specs.Walks.{entry_then}
use Rattle.report.proofs.Handed.{put_both, put_front, nothing, of_first, put_as}
use Rattle.state_print.proofs.Walks.{fewer, several, walked}
use Rattle.state_print.proofs.outputs.put_outputs.Goals as goal

pub loop-reference-init : goal.loop-reference-init
loop-reference-init g c = λ t f r all. put_as (several outref_cmp output_lines c.args.outputs.now.outputs) all

pub loop-reference-smaller : goal.loop-reference-smaller
loop-reference-smaller g c =
    let es : List (OutRef × Output) = c.args.outputs.now.outputs in
    let past : Option OutRef → List (OutRef × Output) = λ k. entries_past outref_cmp k es in
    let e : OutRef × Output = (c.in-Some.reference, c.in-Some.output.now) in
    let found : past c.loop-reference.last ≡ e ∷ past (Some e.0) = sym (ap past c.as_ref.ensures.value) ∙ walked outref_total (option_map (λ (k : Bor OutRef). k.now) c.as_ref.result) es c.total-total.ensures.in_order.outputs ∙ ap (entry_then past) (sym c.in-Some.ensures) in
    fewer past c.loop-reference.last e found

pub returns-in_err-put_output : goal.returns-in_err-put_output
returns-in_err-put_output g c =
    let es : List (OutRef × Output) = c.args.outputs.now.outputs in
    let past : Option OutRef → List (OutRef × Output) = λ k. entries_past outref_cmp k es in
    let e : OutRef × Output = (c.in-Some.reference, c.in-Some.output.now) in
    let found : past c.loop-reference.last ≡ e ∷ past (Some e.0) = sym (ap past c.as_ref.ensures.value) ∙ walked outref_total (option_map (λ (k : Bor OutRef). k.now) c.as_ref.result) es c.total-total.ensures.in_order.outputs ∙ ap (entry_then past) (sym c.in-Some.ensures) in
    c.loop-reference.invariant (g.T.LineTaker.taken c.put_output.new.to) (g.T.LineTaker.faults c.put_output.new.to) c.from_residual.result
    (put_front _ (of_first output_lines (past c.loop-reference.last) (past (Some e.0)) e found) c.in_err-put_output.ensures c.from_residual.ensures.1)

pub loop-reference-preserved : goal.loop-reference-preserved
loop-reference-preserved g c = λ t f r later.
    let es : List (OutRef × Output) = c.args.outputs.now.outputs in
    let past : Option OutRef → List (OutRef × Output) = λ k. entries_past outref_cmp k es in
    let e : OutRef × Output = (c.in-Some.reference, c.in-Some.output.now) in
    let found : past c.loop-reference.last ≡ e ∷ past (Some e.0) = sym (ap past c.as_ref.ensures.value) ∙ walked outref_total (option_map (λ (k : Bor OutRef). k.now) c.as_ref.result) es c.total-total.ensures.in_order.outputs ∙ ap (entry_then past) (sym c.in-Some.ensures) in
    c.loop-reference.invariant t f r
    (put_both (of_first output_lines (past c.loop-reference.last) (past (Some e.0)) e found) c.in_ok-put_output.ensures later)

pub returns : goal.returns
returns g c =
    let es : List (OutRef × Output) = c.args.outputs.now.outputs in
    let past : Option OutRef → List (OutRef × Output) = λ k. entries_past outref_cmp k es in
    let ended : past c.loop-reference.last ≡ [] = sym (ap past c.as_ref.ensures.value) ∙ walked outref_total (option_map (λ (k : Bor OutRef). k.now) c.as_ref.result) es c.total-total.ensures.in_order.outputs ∙ ap (entry_then past) (sym c.in_default.ensures) in
    c.loop-reference.invariant (g.T.LineTaker.taken c.loop-reference.to) (g.T.LineTaker.faults c.loop-reference.to) _
    (nothing (ap (flat_map output_lines) (sym ended)))
