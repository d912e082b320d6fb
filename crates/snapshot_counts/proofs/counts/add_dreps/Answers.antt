use Rattle.std.proofs.Common.{ℕ, ◌+◌, List, drop, ap, sym, ◌∙◌}
use Rattle.std.proofs.lemmas.List.{at_drop_more, drop_all}
use Rattle.drep_book.specs.Dreps.{Dreps}
use Rattle.gov_ids.specs.declared.Credential.{Credential}
use Rattle.gov_ids.specs.Orders.{credential_cmp}
use Rattle.maps.specs.Maps.{with_values}
use Rattle.snapshot_counts.specs.Kept.{registered}
use Rattle.snapshot_counts.proofs.counts.add_dreps.Goals as goal

pub loop-credential-preserved : goal.loop-credential-preserved
loop-credential-preserved c =
    let dreps : List (Credential × ℕ) = c.args.dreps.now in
    let i : ℕ = c.loop-credential.credential-index in
    ap (λ (b : Dreps). with_values credential_cmp (registered (drop (i + 1) dreps)) b.dreps) c.in_ok-put.ensures.ok
    ∙ sym (at_drop_more (λ (left : List (Credential × ℕ)). with_values credential_cmp (registered left) c.loop-credential.book.dreps) dreps i _ c.loop-credential-test.true)
    ∙ c.loop-credential.invariant

pub returns : goal.returns
returns c =
    sym (ap (λ (left : List (Credential × ℕ)). with_values credential_cmp (registered left) c.loop-credential.book.dreps) (drop_all c.loop-credential.credential-index c.args.dreps.now c.loop-credential-test.false))
    ∙ c.loop-credential.invariant
