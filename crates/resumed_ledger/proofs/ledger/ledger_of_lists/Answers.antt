use Rattle.std.proofs.Common.{◌≡◌, ℕ, List, length, ap, arith, subst, sym, ◌∙◌}
use Rattle.std.proofs.lemmas.Result.{IfOk-weaker}
use Rattle.book_records.specs.declared.Entry.{Entry}
use Rattle.checkpoint_model.specs.Resumable.{IsResumable}
use Rattle.coin_frac.specs.declared.TheConstants.{SUPPLY_LIMIT}
use Rattle.gov_ids.specs.declared.Credential.{Credential}
use Rattle.gov_ids.specs.declared.PoolId.{PoolId}
use Rattle.gov_ids.specs.Orders.{credential_cmp}
use Rattle.maps.specs.Maps.{IsMap}
use Rattle.run_model.specs.SoundWorld.{AreSoundStakes, IsSoundSnapshot}
use Rattle.run_model.specs.World.{World}
use Rattle.snapshots.specs.declared.frozen.Frozen.{Frozen}
use Rattle.snapshots.specs.Frozen.{frozen_copy_of}
use Rattle.state_lists.specs.declared.lists.StateLists.{StateLists}
use Rattle.state_lists.specs.Worlds.{frozen_of_lists, world_of_lists}
use Rattle.resumed_ledger.specs.Parts.{snapshot_in}
use Rattle.resumed_ledger.proofs.Worlds.{AreParts, frozen_room, held, of_mark, sound_books, sound_mark, sound_snapshot, world_is}
use Rattle.resumed_ledger.proofs.ledger.ledger_of_lists.Goals as goal

pub supply_of-supply-requires : goal.supply_of-supply-requires
supply_of-supply-requires c =
    let r = c.into_parts-counted.result in
    let l : StateLists = record { clock = r.0; counted = r.1; pots = r.2; state = r.3; books = r.4; pending = r.5; stakes = r.6; frozen = r.7 } in
    let sound : IsResumable (world_of_lists l) = subst (λ (x : StateLists). IsResumable (world_of_lists x)) c.into_parts-counted.ensures c.requires.sound in
    (c.resumable_is_sound.ensures (world_of_lists l) sound).ledger.within

pub frozen_parts-requires : goal.frozen_parts-requires
frozen_parts-requires c =
    let r = c.into_parts-counted.result in
    let l : StateLists = record { clock = r.0; counted = r.1; pots = r.2; state = r.3; books = r.4; pending = r.5; stakes = r.6; frozen = r.7 } in
    let sound : IsResumable (world_of_lists l) = subst (λ (x : StateLists). IsResumable (world_of_lists x)) c.into_parts-counted.ensures c.requires.sound in
    let s = c.resumable_is_sound.ensures (world_of_lists l) sound in
    let mark = sym c.as_slice-mark.ensures in
    record {
      snapshot = subst (λ (m : List (PoolId × ℕ)). IsSoundSnapshot SUPPLY_LIMIT (snapshot_in l.clock.epoch l.state m l.frozen)) mark (sound_snapshot l s);
      mark = subst (λ (m : List (PoolId × ℕ)). AreSoundStakes SUPPLY_LIMIT m) mark (sound_mark l s);
    }

pub books_of-requires : goal.books_of-requires
books_of-requires c =
    let r = c.into_parts-counted.result in
    let l : StateLists = record { clock = r.0; counted = r.1; pots = r.2; state = r.3; books = r.4; pending = r.5; stakes = r.6; frozen = r.7 } in
    let sound : IsResumable (world_of_lists l) = subst (λ (x : StateLists). IsResumable (world_of_lists x)) c.into_parts-counted.ensures c.requires.sound in
    let s = c.resumable_is_sound.ensures (world_of_lists l) sound in
    let kept = c.in_ok-kept.ensures in
    let copy = kept.copy ∙ ap (λ (m : List (PoolId × ℕ)). frozen_copy_of (snapshot_in l.clock.epoch l.state m l.frozen)) c.as_slice-mark.ensures in
    record {
      some = c.requires.some;
      few = c.requires.few;
      sound = sound_books l s;
      entries = subst (λ (es : List (Credential × Entry)). IsMap credential_cmp es) (sym kept.entries) s.frozen.entries;
      frozen = frozen_room l s c.in_ok-kept.kept.1 c.get.result.now kept.entries (c.get.ensures ∙ copy);
      counted = omega (arith, s.counted, ap (λ (es : List (Credential × Entry)). length es) kept.entries);
    }

pub of_parts-requires : goal.of_parts-requires
of_parts-requires c =
    let r = c.into_parts-counted.result in
    let l : StateLists = record { clock = r.0; counted = r.1; pots = r.2; state = r.3; books = r.4; pending = r.5; stakes = r.6; frozen = r.7 } in
    let sound : IsResumable (world_of_lists l) = subst (λ (x : StateLists). IsResumable (world_of_lists x)) c.into_parts-counted.ensures c.requires.sound in
    let s = c.resumable_is_sound.ensures (world_of_lists l) sound in
    let kept = c.in_ok-kept.ensures in
    let copy : c.in_ok-kept.kept.0 ≡ frozen_copy_of (frozen_of_lists l) = kept.copy ∙ ap (λ (m : List (PoolId × ℕ)). frozen_copy_of (snapshot_in l.clock.epoch l.state m l.frozen)) c.as_slice-mark.ensures in
    let b = c.in_ok-made.made in
    let made = c.in_ok-made.ensures in
    let parts : AreParts l c.supply_of-supply.result b.0.0 b.1.0 b.1.1 b.1.2 b.2 c.in_ok-state.state c.in_ok-kept.kept.0 b.0.1 = record {
      sum = c.supply_of-supply.ensures;
      holdings = made.outputs;
      registered = made.accounts;
      frozen = made.entries ∙ kept.entries;
      pooled = made.pools;
      represented = made.dreps;
      authorized = made.hot;
      proposed = made.proposals;
      enacted = c.in_ok-state.ensures;
      copied = copy;
      counted = made.done;
    } in
    held l c.supply_of-supply.result b.0.0 b.1.0 b.1.1 b.1.2 b.2 c.in_ok-state.state c.in_ok-kept.kept.0 b.0.1 parts s (of_mark l sound)
    (made.counts (frozen_of_lists l) (record {
      entries = sym kept.entries;
      dreps = sym (ap (λ (f : Frozen). f.dreps) (c.get.ensures ∙ copy));
      proposals = sym (ap (λ (f : Frozen). f.proposals) (c.get.ensures ∙ copy));
    }))

pub returns : goal.returns
returns c =
    let r = c.into_parts-counted.result in
    let l : StateLists = record { clock = r.0; counted = r.1; pots = r.2; state = r.3; books = r.4; pending = r.5; stakes = r.6; frozen = r.7 } in
    let sound : IsResumable (world_of_lists l) = subst (λ (x : StateLists). IsResumable (world_of_lists x)) c.into_parts-counted.ensures c.requires.sound in
    let s = c.resumable_is_sound.ensures (world_of_lists l) sound in
    let kept = c.in_ok-kept.ensures in
    let copy : c.in_ok-kept.kept.0 ≡ frozen_copy_of (frozen_of_lists l) = kept.copy ∙ ap (λ (m : List (PoolId × ℕ)). frozen_copy_of (snapshot_in l.clock.epoch l.state m l.frozen)) c.as_slice-mark.ensures in
    let b = c.in_ok-made.made in
    let made = c.in_ok-made.ensures in
    let parts : AreParts l c.supply_of-supply.result b.0.0 b.1.0 b.1.1 b.1.2 b.2 c.in_ok-state.state c.in_ok-kept.kept.0 b.0.1 = record {
      sum = c.supply_of-supply.ensures;
      holdings = made.outputs;
      registered = made.accounts;
      frozen = made.entries ∙ kept.entries;
      pooled = made.pools;
      represented = made.dreps;
      authorized = made.hot;
      proposed = made.proposals;
      enacted = c.in_ok-state.ensures;
      copied = copy;
      counted = made.done;
    } in
    IfOk-weaker c.of_parts.result _ _
    (λ (w : World) h. h ∙ world_is l c.supply_of-supply.result b.0.0 b.1.0 b.1.1 b.1.2 b.2 c.in_ok-state.state c.in_ok-kept.kept.0 b.0.1 parts s (of_mark l sound) ∙ ap world_of_lists (sym c.into_parts-counted.ensures))
    c.of_parts.ensures
