use Rattle.std.proofs.Common.{List, Bor, option_map, slice_get, ap, sym, ◌∙◌}
use Rattle.std.specs.Bound.{bound_map}
use Rattle.gov_ids.specs.declared.OutRef.{OutRef}
use Rattle.gov_ids.specs.Orders.{outref_cmp}
use Rattle.book_records.specs.declared.Output.{Output}
use Rattle.maps.proofs.Next.{entry_after-range}
use Rattle.maps.specs.Maps.{entry_after}
use Rattle.utxo_set.specs.Utxos.{Utxos}
use Rattle.utxo_set.proofs.UtxoSet.next.Goals as goal

pub returns-in_err-r : goal.returns-in_err-r
returns-in_err-r c =
    ap (option_map (λ (e : OutRef × Bor Output). (e.0, e.1.now))) c.from_residual.ensures ∙ sym (ap (λ (es : List (OutRef × Output)). slice_get es 0) c.in_err-r.ensures.steps.0)
    ∙ entry_after-range outref_cmp _ _ _ _ _ c.keys_past.ensures.start (ap (bound_map (λ k. k.now)) c.keys_past.ensures.end) (c.range.ensures.between tt)
    ∙ ap (λ (u : Utxos). entry_after outref_cmp (option_map (λ r. r.now) c.args.after) u.outputs) c.self.view_is

pub returns : goal.returns
returns c =
    sym (ap (λ (es : List (OutRef × Output)). slice_get es 0) c.in_ok-r.ensures.steps)
    ∙ entry_after-range outref_cmp _ _ _ _ _ c.keys_past.ensures.start (ap (bound_map (λ k. k.now)) c.keys_past.ensures.end) (c.range.ensures.between tt)
    ∙ ap (λ (u : Utxos). entry_after outref_cmp (option_map (λ r. r.now) c.args.after) u.outputs) c.self.view_is
