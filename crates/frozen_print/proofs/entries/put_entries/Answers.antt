use Rattle.std.proofs.Common.{List, map, ap, sym, ◌∙◌}
use Rattle.book_records.specs.declared.Entry.{Entry}
use Rattle.gov_ids.specs.declared.Credential.{Credential}
use Rattle.gov_ids.specs.Orders.{credential_cmp}
use Rattle.report.proofs.Handed.{put_both, put_front, nothing, put_as}
use Rattle.text_model.specs.StateLines.{account_words}
use Rattle.view_map.specs.View.{frozen_of}
use Rattle.frozen_print.proofs.Lists.{all_past}
use Rattle.frozen_print.proofs.entries.put_entries.Goals as goal

pub loop-credential-init : goal.loop-credential-init
loop-credential-init g c = λ t f r later.
    put_as (ap (λ (es : List (Credential × Entry)). map account_words es)
    (c.into_iter-credential-iterator.ensures.into_iter_gives ∙ c.frozen_past-credential-items.ensures ∙ all_past credential_cmp (frozen_of credential_cmp c.args.accounts.now))) later

pub returns-in_err-put_entry : goal.returns-in_err-put_entry
returns-in_err-put_entry g c =
    c.loop-credential.invariant (g.T.LineTaker.taken c.put_entry.new.to) (g.T.LineTaker.faults c.put_entry.new.to) c.from_residual.result
    (put_front _ (ap (map account_words) c.in-Some.ensures.steps) c.in_err-put_entry.ensures c.from_residual.ensures.1)

pub loop-credential-preserved : goal.loop-credential-preserved
loop-credential-preserved g c = λ t f r later.
    c.loop-credential.invariant t f r (put_both (ap (map account_words) c.in-Some.ensures.steps) c.in_ok-put_entry.ensures later)

pub returns : goal.returns
returns g c =
    c.loop-credential.invariant (g.T.LineTaker.taken c.loop-credential.to) (g.T.LineTaker.faults c.loop-credential.to) _
    (nothing (ap (map account_words) (sym c.in-None.ensures.steps.0)))
