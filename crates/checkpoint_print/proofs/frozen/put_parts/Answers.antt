use Rattle.std.proofs.Common.{◌≡◌, ap, ◌∙◌}
use Rattle.gov_ids.specs.Orders.{credential_cmp}
use Rattle.report.proofs.Handed.{put_both, put_front}
use Rattle.view_map.specs.View.{frozen_of}
use Rattle.checkpoint_print.proofs.Parts.{frozen_are, voter_parts}
use Rattle.checkpoint_print.proofs.frozen.put_parts.Goals as goal

pub returns-in_err-put_stakes : goal.returns-in_err-put_stakes
returns-in_err-put_stakes g c =
    let entries : frozen_of credential_cmp c.book.result.now ≡ c.args.s.now.frozen.entries = ap (frozen_of credential_cmp) c.book.ensures.value ∙ c.stake.ensures.frozen ∙ c.live.ensures.frozen in
    put_front (voter_parts c.frozen-frozen.result.now)
    (frozen_are c.args.s.now.frozen c.frozen-frozen.result.now (frozen_of credential_cmp c.book.result.now) c.frozen-frozen.ensures entries)
    c.in_err-put_stakes.ensures c.from_residual.ensures.1

pub returns : goal.returns
returns g c =
    let entries : frozen_of credential_cmp c.book.result.now ≡ c.args.s.now.frozen.entries = ap (frozen_of credential_cmp) c.book.ensures.value ∙ c.stake.ensures.frozen ∙ c.live.ensures.frozen in
    put_both
    (frozen_are c.args.s.now.frozen c.frozen-frozen.result.now (frozen_of credential_cmp c.book.result.now) c.frozen-frozen.ensures entries)
    c.in_ok-put_stakes.ensures c.put_voters.ensures
