-- A block, a boundary and a reward update keep a World good.
use Rattle.std.proofs.Common.{◌≡◌, ℕ, ◌+◌, List, [], ◌∷◌, Bool, true, false, Option, Some, None, map, sum_by, refl, ap, sym, subst, arith}
use Rattle.std.specs.List.{AllByRecursion}
use Rattle.std.specs.Map.{keys_of}
use Rattle.maps.specs.Maps.{IsMap, has_member, value_at, with_values}
use Rattle.maps.specs.Words.{repeats, some_and}
use Rattle.maps.proofs.Credits.{sum_values-entries}
use Rattle.maps.proofs.Fresh.{distinct_from_repeats}
use Rattle.maps.proofs.Kept.{IsMap-changed_where, IsMap-each_value, IsMap-entries_where}
use Rattle.maps.proofs.Several.{sum_values-with_values}
use Rattle.gov_ids.specs.declared.ActionId.{ActionId}
use Rattle.gov_ids.specs.declared.Credential.{Credential}
use Rattle.gov_ids.specs.Orders.{credential_cmp, pool_cmp, txid_cmp}
use Rattle.gov_ids.proofs.Totals.{credential_total}
use Rattle.book_records.specs.declared.Registered.{Registered}
use Rattle.gov_model.specs.Laws.{HaveDistinctIds}
use Rattle.tx_records.specs.declared.record.Rewards.{Rewards}
use Rattle.gov_model.proofs.KeptOf.{ids_filter, own_filter}
use Rattle.ledger_model.specs.Ledger.{Ledger}
use Rattle.ledger_model.specs.Sound.{IsSound}
use Rattle.run_model.specs.World.{World}
use Rattle.run_model.specs.Boundary.{update_applied, after_rewards, after_terms, after_enactment, after_payments, world_after_boundary, is_reaped, without_pool}
use Rattle.run_model.specs.Laws.{IsCoveredUpdate}
use Rattle.run_model.specs.Step.{pulsed, crossed, in_order_of_credential}
use Rattle.run_laws.proofs.Good.{IsGood, IsGoodLedger}

-- the pending update changes these parts alone
pub update_only : (o : Option Rewards) (l : Ledger) → let m : Ledger = update_applied o l in record l { reserves = m.reserves; fees = m.fees; state = m.state; accounts = m.accounts } ≡ m
update_only None l = refl
update_only (Some u) l = refl

pub update_good : (o : Option Rewards) (l : Ledger) → IsGoodLedger l → IsGoodLedger (update_applied o l)
update_good None l g = g
update_good (Some u) l g = record {
  sound = record {
    outputs = g.sound.outputs;
    used = g.sound.used;
    accounts = IsMap-each_value credential_cmp _ l.accounts g.sound.accounts;
    pools = g.sound.pools;
    dreps = g.sound.dreps;
    hot = g.sound.hot;
    ids_used = g.sound.ids_used;
  };
  own = g.own;
  used = g.used;
}

pub boundary_good : (w : World) → IsGood w → IsGood (world_after_boundary w)
boundary_good w good =
    let l : Ledger = (after_rewards w).ledger in
    let g : IsGoodLedger l = update_good w.pending w.ledger good.ledger in
    let t : Ledger = (after_terms w).ledger in
    let fourth : IsMap credential_cmp (after_enactment w).ledger.accounts =
    IsMap-each_value credential_cmp _ _ (IsMap-changed_where credential_cmp (λ c (r : Registered). some_and (is_reaped t) r.pool) without_pool t.accounts g.sound.accounts) in
    let sixth : IsMap credential_cmp (after_payments w).ledger.accounts = IsMap-each_value credential_cmp _ (after_enactment w).ledger.accounts fourth in
    let own : HaveDistinctIds (world_after_boundary w).ledger.proposals = own_filter _ _ (own_filter _ l.proposals g.own) in
    record {
      ledger = record {
        sound = record {
          outputs = g.sound.outputs;
          used = g.sound.used;
          accounts = IsMap-each_value credential_cmp _ (after_payments w).ledger.accounts sixth;
          pools = IsMap-entries_where pool_cmp _ t.pools (IsMap-each_value pool_cmp _ l.pools g.sound.pools);
          dreps = g.sound.dreps;
          hot = IsMap-entries_where credential_cmp _ l.hot g.sound.hot;
          ids_used = g.sound.ids_used;
        };
        own = own;
        used = ids_filter (λ (a : ActionId). has_member txid_cmp l.used a.tx ≡ true) _ _ (ids_filter (λ (a : ActionId). has_member txid_cmp l.used a.tx ≡ true) _ l.proposals g.used);
      };
      frozen_own = own;
      frozen = record { epoch = refl; state = refl; treasury = omega arith; pending = λ u e. cc; live = λ a h. (a, h, refl) };
    }

pub boundary_epoch : (w : World) → (world_after_boundary w).ledger.epoch ≡ w.ledger.epoch + 1
boundary_epoch w = ap (λ (l : Ledger). l.epoch + 1) (sym (update_only w.pending w.ledger))

pub boundary_length : (w : World) → (world_after_boundary w).ledger.epoch_length ≡ w.ledger.epoch_length
boundary_length w = ap (λ (l : Ledger). l.epoch_length) (sym (update_only w.pending w.ledger))

pub pulsed_good : (slot pulse : ℕ) (w : World) → IsGood w → IsGood (pulsed slot pulse w)
pulsed_good slot pulse w g =
    let s : IsSound w.ledger = g.ledger.sound in
    record {
      ledger = record {
        sound = record { outputs = s.outputs; used = s.used; accounts = s.accounts; pools = s.pools; dreps = s.dreps; hot = s.hot; ids_used = s.ids_used };
        own = g.ledger.own;
        used = g.ledger.used;
      };
      frozen_own = g.frozen_own;
      frozen = record {
        epoch = g.frozen.epoch;
        state = g.frozen.state;
        treasury = g.frozen.treasury;
        pending = λ u e. let c = g.frozen.pending u e in record { balanced = c.balanced; reserves_cover = c.reserves_cover; fees_cover = c.fees_cover };
        live = g.frozen.live;
      };
    }

pub crossed_good : (b : Bool) (w : World) → IsGood w → IsGood (crossed b w)
crossed_good true w g = boundary_good w g
crossed_good false w g = g

-- a reward update in order gives what it gave
ordered_sum : (ps : List (Credential × ℕ)) → repeats credential_cmp (map (λ r. r.0) ps) ≡ false → sum_by (λ (r : Credential × ℕ). r.1) (with_values credential_cmp ps []) ≡ sum_by (λ (r : Credential × ℕ). r.1) ps
ordered_sum ps r =
    omega (
      arith,
      sum_values-with_values credential_total (λ (n : ℕ). n) ps [] (distinct_from_repeats credential_cmp (keys_of ps) r) (none_at (keys_of ps)),
      sum_values-entries (λ (n : ℕ). n) (with_values credential_cmp ps []),
      sum_values-entries (λ (n : ℕ). n) ps,
    )
  where
    none_at : (ks : List Credential) → AllByRecursion (λ q. value_at {X = ℕ} credential_cmp [] q ≡ None) ks
    none_at [] = tt
    none_at (k ∷ ks) = (refl, none_at ks)

pub rewards_good : (w : World) (u : Rewards) → IsGood w → repeats credential_cmp (map (λ r. r.0) u.rewards) ≡ false → IsCoveredUpdate w.ledger u → IsGood (record w { pending = Some (in_order_of_credential u) })
rewards_good w u g r c =
    record {
      ledger = g.ledger;
      frozen_own = g.frozen_own;
      frozen = record {
        epoch = g.frozen.epoch;
        state = g.frozen.state;
        treasury = g.frozen.treasury;
        pending = λ v e. subst (λ (x : Rewards). IsCoveredUpdate w.ledger x) (same_update (in_order_of_credential u) v e) ordered;
        live = g.frozen.live;
      };
    }
  where
    same_update : (a b : Rewards) → Some a ≡ Some b → a ≡ b
    same_update a b e = cc

    ordered : IsCoveredUpdate w.ledger (in_order_of_credential u)
    ordered = record { balanced = omega (arith, c.balanced, ordered_sum u.rewards r); reserves_cover = c.reserves_cover; fees_cover = c.fees_cover }
