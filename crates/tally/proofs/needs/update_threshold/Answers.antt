use Rattle.std.proofs.Common.{◌≡◌, None, unwrap_or, ◌∙◌}
use Rattle.pparams.specs.Marks.{network, economic, technical, touches}
use Rattle.gov_model.specs.Thresholds.{P5}
use Rattle.tally.specs.Greatest.{raised}
use Rattle.tally.proofs.Raising.{greatest_raised}
use Rattle.tally.proofs.needs.update_threshold.Goals as goal

pub returns : goal.returns
returns c =
    let p = c.args.params.now in
    let u = c.args.update.now in
    let touched = c.groups-groups.ensures in
    let of = c.group_thresholds-thresholds.ensures in
    let first : c.raised-greatest.result ≡ raised None (touches network u) (P5 p network) =
    c.raised-greatest.ensures ∙ (λ i. raised None (touched i).network (of.p5a i)) in
    let second : c.raised-greatest-2.result ≡ raised (raised None (touches network u) (P5 p network)) (touches economic u) (P5 p economic) =
    c.raised-greatest-2.ensures ∙ (λ i. raised (first i) (touched i).economic (of.p5b i)) in
    let third : c.raised-greatest-3.result ≡ raised (raised (raised None (touches network u) (P5 p network)) (touches economic u) (P5 p economic)) (touches technical u) (P5 p technical) =
    c.raised-greatest-3.ensures ∙ (λ i. raised (second i) (touched i).technical (of.p5c i)) in
    c.unwrap_or.ensures
    ∙ (λ i. unwrap_or ((c.raised-greatest-4.ensures ∙ (λ j. raised (third j) (touched j).governance (of.p5d j))) i) (c.zero_share.ensures i))
    ∙ greatest_raised p u
