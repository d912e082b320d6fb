use Rattle.std.proofs.Common.{ℕ, List, [], ◌∷◌, map, ap}
use Rattle.gov_ids.specs.declared.Credential.{Credential}
use Rattle.gov_ids.specs.Orders.{credential_cmp}
use Rattle.report.proofs.Handed.{put_as}
use Rattle.report.proofs.Puts.{put_first, put_second, put_third}
use Rattle.text_forms.specs.Snapshots.{expiry_words}
use Rattle.text_model.specs.StateLines.{account_words}
use Rattle.view_map.specs.View.{frozen_of}
use Rattle.checkpoint_print.specs.LineWords.{treasury_words}
use Rattle.checkpoint_print.proofs.frozen.put_stakes.Goals as goal

pub returns-in_err-put_one : goal.returns-in_err-put_one
returns-in_err-put_one g c =
    put_first (treasury_words c.args.frozen.now.start.treasury ∷ [])
    (map account_words (frozen_of credential_cmp c.args.book.now))
    (map expiry_words c.args.frozen.now.dreps)
    c.in_err-put_one.ensures c.from_residual.ensures.1

pub returns-in_err-put_entries : goal.returns-in_err-put_entries
returns-in_err-put_entries g c =
    put_second (treasury_words c.args.frozen.now.start.treasury ∷ [])
    (map account_words (frozen_of credential_cmp c.args.book.now))
    (map expiry_words c.args.frozen.now.dreps)
    c.in_ok-put_one.ensures c.in_err-put_entries.ensures c.from_residual-in_err-put_entries.ensures.1

pub returns : goal.returns
returns g c =
    put_third (treasury_words c.args.frozen.now.start.treasury ∷ [])
    (map account_words (frozen_of credential_cmp c.args.book.now))
    (map expiry_words c.args.frozen.now.dreps)
    c.in_ok-put_one.ensures c.in_ok-put_entries.ensures
    (put_as (ap (λ (ds : List (Credential × ℕ)). map expiry_words ds) c.as_slice.ensures) c.put_dreps.ensures)
