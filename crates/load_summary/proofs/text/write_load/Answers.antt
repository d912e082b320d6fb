use Rattle.std.proofs.Common.{◌≡◌, ℕ, List, OnErr, Vec, Global, map, take, ap, subst, ◌∙◌}
use Rattle.std.specs.Io.KnownBytes.{append_known}
use Rattle.load_model.specs.Json.{joined}
use Rattle.load_model.specs.SummaryText.{summary_lines}
use Rattle.load_summary.proofs.text.write_load.Goals as goal

pub returns-clause-err : goal.returns-clause-err
returns-clause-err g c =
    let same : map (λ line. line.items) c.as_slice.result.now ≡ summary_lines c.args.x.now =
    ap (λ (lines : List (Vec ℕ Global)). map (λ line. line.items) lines) c.as_slice.ensures.value ∙ c.in_ok-lines.ensures in
    subst (λ (lines : List (List ℕ)). OnErr c.write_lines.result ((k : ℕ) × (g.K.Sink.taken c.write_lines.new.sink ≡ append_known (g.K.Sink.taken c.args.sink.now) (take k (joined lines)))))
    same c.write_lines.ensures.err
