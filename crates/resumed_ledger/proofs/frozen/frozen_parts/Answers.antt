use Rattle.std.proofs.Common.{◌≡◌, ℕ, List, ap, arith, subst, sym, true, ◌∙◌}
use Rattle.std.specs.Map.{keys_of}
use Rattle.book_records.specs.declared.Entry.{Entry}
use Rattle.frozen_lists.specs.Pools.{snapshot_of}
use Rattle.gov_ids.specs.declared.Account.{Account}
use Rattle.gov_ids.specs.declared.Credential.{Credential}
use Rattle.gov_ids.specs.declared.PoolId.{PoolId}
use Rattle.gov_ids.specs.Orders.{credential_cmp, pool_cmp}
use Rattle.gov_model.specs.Proposals.{deposits_of}
use Rattle.coin_frac.specs.declared.TheConstants.{SUPPLY_LIMIT}
use Rattle.gov_actions.specs.declared.action.Proposal.{Proposal}
use Rattle.gov_actions.specs.declared.state.HotState.{HotState}
use Rattle.run_model.specs.SoundWorld.{IsSoundSnapshot}
use Rattle.state_lists.specs.declared.lists.FrozenState.{FrozenState}
use Rattle.resume_checks.proofs.Ordered.{rising_from_set}
use Rattle.snapshots.specs.Frozen.{frozen_copy_of}
use Rattle.text_forms.specs.Ids.{is_map}
use Rattle.resumed_ledger.specs.Parts.{snapshot_in}
use Rattle.resumed_ledger.proofs.frozen.frozen_parts.Goals as goal

-- what was frozen, of its parts
abbrev of_parts : ℕ × List (Credential × Entry) × List (Credential × ℕ) × List (PoolId × Account) × List (Credential × HotState) × List Proposal → FrozenState
of_parts r = record { treasury = r.0; entries = r.1; dreps = r.2; pool_accounts = r.3; hot = r.4; proposals = r.5 }

pub returns-clause-entries : goal.returns-clause-entries
returns-clause-entries c = sym (ap (λ (x : FrozenState). x.entries) c.into_parts-treasury.ensures)

pub frozen_of-requires : goal.frozen_of-requires
frozen_of-requires c =
    let f : FrozenState = of_parts c.into_parts-treasury.result in
    let sound = subst (λ (x : FrozenState). IsSoundSnapshot SUPPLY_LIMIT (snapshot_in c.args.epoch c.args.state.now c.args.mark.now x)) c.into_parts-treasury.ensures c.requires.snapshot in
    record {
      entries = subst (λ (es : List (Credential × Entry)). is_map credential_cmp es ≡ true) (sym c.as_slice-listed.ensures) (rising_from_set credential_cmp (keys_of f.entries) sound.entries);
      mark = rising_from_set pool_cmp (keys_of c.args.mark.now) c.requires.mark.pools;
      accounts = subst (λ (es : List (PoolId × Account)). is_map pool_cmp es ≡ true) (sym c.as_slice-accounts.ensures) (rising_from_set pool_cmp (keys_of f.pool_accounts) sound.pool_accounts);
      room = omega (arith, ap deposits_of c.parts_of-parts.ensures.proposals, sound.held, c.requires.mark.sum);
    }

pub returns-clause-copy : goal.returns-clause-copy
returns-clause-copy c =
    let p = c.parts_of-parts.ensures in
    let mark = c.args.mark.now in
    let same : snapshot_of c.parts_of-parts.result c.as_slice-listed.result.now mark c.as_slice-accounts.result.now ≡ snapshot_in c.args.epoch c.args.state.now mark (of_parts c.into_parts-treasury.result) =
    λ i. record {
      epoch = p.epoch i;
      entries = c.as_slice-listed.ensures i;
      dreps = p.dreps i;
      mark = mark;
      pool_accounts = c.as_slice-accounts.ensures i;
      hot = p.hot i;
      proposals = p.proposals i;
      start = (p.start ∙ c.in_ok-start.ensures) i;
    } in
    c.in_ok-copy.ensures ∙ c.in_ok-made.ensures ∙ ap frozen_copy_of same ∙ ap (λ (x : FrozenState). frozen_copy_of (snapshot_in c.args.epoch c.args.state.now mark x)) (sym c.into_parts-treasury.ensures)
