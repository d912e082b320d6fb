use Rattle.std.proofs.Common.{List, ◌++◌, map, ap}
use Rattle.certificate_model.specs.Certificate.{mark_words}
use Rattle.frozen_print.specs.Words.{pool_words}
use Rattle.gov_ids.specs.Orders.{credential_cmp}
use Rattle.report.proofs.Handed.{put_as}
use Rattle.report.proofs.Puts.{put_first, put_second, put_third}
use Rattle.snapshots.specs.declared.frozen.FrozenPool.{FrozenPool}
use Rattle.text_forms.specs.Snapshots.{expiry_words}
use Rattle.text_model.specs.StateLines.{account_words}
use Rattle.view_map.specs.View.{frozen_of}
use Rattle.frozen_print.proofs.voters.put_voters.Goals as goal

pub returns-in_err-put_dreps : goal.returns-in_err-put_dreps
returns-in_err-put_dreps g c =
    put_first (map expiry_words c.args.f.now.dreps) (map pool_words c.args.f.now.pools ++ map mark_words c.args.mark.now) (map account_words (frozen_of credential_cmp c.args.accounts.now))
    (put_as (ap (map expiry_words) c.as_slice.ensures) c.in_err-put_dreps.ensures) c.from_residual.ensures.1

pub returns-in_err-put_pools : goal.returns-in_err-put_pools
returns-in_err-put_pools g c =
    put_second (map expiry_words c.args.f.now.dreps) (map pool_words c.args.f.now.pools ++ map mark_words c.args.mark.now) (map account_words (frozen_of credential_cmp c.args.accounts.now))
    (put_as (ap (map expiry_words) c.as_slice.ensures) c.in_ok-put_dreps.ensures)
    (put_as (ap (λ (ps : List FrozenPool). map pool_words ps ++ map mark_words c.args.mark.now) c.as_slice-2.ensures) c.in_err-put_pools.ensures) c.from_residual-in_err-put_pools.ensures.1

pub returns : goal.returns
returns g c =
    put_third (map expiry_words c.args.f.now.dreps) (map pool_words c.args.f.now.pools ++ map mark_words c.args.mark.now) (map account_words (frozen_of credential_cmp c.args.accounts.now))
    (put_as (ap (map expiry_words) c.as_slice.ensures) c.in_ok-put_dreps.ensures)
    (put_as (ap (λ (ps : List FrozenPool). map pool_words ps ++ map mark_words c.args.mark.now) c.as_slice-2.ensures) c.in_ok-put_pools.ensures) c.put_entries.ensures
