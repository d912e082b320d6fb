use Rattle.std.proofs.Common.{◌≡◌, ◌+◌, Bor, Option, option_map, sym, subst, ◌∙◌}
use Rattle.gov_ids.specs.declared.Credential.{Credential}
use Rattle.gov_ids.specs.Orders.{credential_cmp}
use Rattle.view_map.specs.View.{frozen_of}
use Rattle.drep_pulser.specs.Facts.{AreSums}
use Rattle.drep_pulser.specs.Parts.{by_drep, entries_between, entries_left}
use Rattle.drep_pulser.proofs.Walking.{copied_is}
use Rattle.par_count.specs.Ranges.{IsShareOf, last_before}
use Rattle.par_count.proofs.finish.add_share.Goals as goal

pub returns : goal.returns
returns g c =
    let left = entries_left c.args.walk.now (frozen_of credential_cmp c.args.book.now) in
    let after : option_map (λ (k : Bor Credential). k.now) c.as_ref.result ≡ last_before c.args.worker c.args.workers = sym (copied_is c.as_ref.result) ∙ c.as_ref.ensures.value ∙ c.last_before-after.ensures in
    let until : option_map (λ (k : Bor Credential). k.now) c.as_ref-2.result ≡ last_before (c.args.worker + 1) c.args.workers = sym (copied_is c.as_ref-2.result) ∙ c.as_ref-2.ensures.value ∙ c.last_before-until.ensures in
    record {
      each = c.add.ensures.length;
      sums = subst (λ (b : Option Credential × Option Credential). AreSums (entries_between b.0 b.1 left) c.args.walk.now.deposits (by_drep c.args.walk.now.sums c.add.new.part)) (λ i. (after i, until i)) c.add.ensures.sums;
    }
