use Rattle.std.proofs.Common.{◌≡◌, ◌&&◌, refl, ◌∙◌}
use Rattle.std.specs.List.{list_all}
use Rattle.book_records.specs.declared.Registered.{Registered}
use Rattle.gov_ids.specs.declared.Credential.{Credential}
use Rattle.gov_ids.specs.declared.Drep.{Drep}
use Rattle.gov_ids.specs.declared.Drep.TheVariants as drep
use Rattle.gov_ids.specs.Orders.{pool_cmp}
use Rattle.ledger_model.specs.Ledger.{Ledger}
use Rattle.maps.specs.Maps.{has_key}
use Rattle.maps.specs.Words.{none_or}
use Rattle.checkpoint_model.specs.Resumable.{is_there}
use Rattle.resume_checks.specs.Delegations.{is_registered}
use Rattle.resume_checks.proofs.entries.delegates_to_registered.Goals as goal

there : (l : Ledger) (d : Drep) → is_registered l.dreps d ≡ is_there l d
there l (drep.Registered c) = refl
there l drep.Abstain = refl
there l drep.NoConfidence = refl

pub returns : goal.returns
returns c = λ l.
    let of : Ledger = record l { accounts = c.args.accounts.now; pools = c.args.pools.now; dreps = c.args.dreps.now } in
    c.all_delegate.ensures ∙ (λ i. list_all (λ (a : Credential × Registered). none_or (has_key pool_cmp c.args.pools.now) a.1.pool && none_or (λ d. there of d i) a.1.drep) c.args.accounts.now)
