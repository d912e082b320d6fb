use Rattle.std.proofs.Common.{List, map, ap, subst, ◌∙◌}
use Rattle.book_records.specs.declared.Output.{Output}
use Rattle.book_records.specs.Outputs.{asset_totals}
use Rattle.gov_ids.specs.declared.OutRef.{OutRef}
use Rattle.report.specs.Taking.{HasPut}
use Rattle.text_model.specs.StateLines.{asset_total_words}
use Rattle.utxo_set.specs.Utxos.{Utxos}
use Rattle.state_view.proofs.put.put_assets.Goals as goal

pub returns : goal.returns
returns g c =
    subst (λ (es : List (OutRef × Output)). HasPut g.T.LineTaker.with_line g.T.LineTaker.IsPart c.args.line (g.T.LineTaker.taken c.args.to.now) (map asset_total_words (asset_totals es)) (g.T.LineTaker.taken c.put_assets.new.to) (g.T.LineTaker.faults c.args.to.now) (g.T.LineTaker.faults c.put_assets.new.to) c.put_assets.result)
    (ap (λ (u : Utxos). u.outputs) c.outputs.ensures.value ∙ c.stake.ensures.outputs) c.put_assets.ensures
