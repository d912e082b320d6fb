-- The lists of a World that can be resumed, and the World of these lists.
use Rattle.std.proofs.Common.{◌≡◌, ℕ, ◌==◌, true, List, Option, Some, None, refl, sym, subst}
use Rattle.std.specs.List.{list_all}
use Rattle.std.proofs.lemmas.Bool.{and_from, and_parts, eqb-true}
use Rattle.maps.specs.Maps.{has_key}
use Rattle.maps.specs.Words.{none_or}
use Rattle.gov_ids.specs.declared.Account.{Account}
use Rattle.gov_ids.specs.declared.assets.AssetId.{AssetId}
use Rattle.gov_ids.specs.declared.OutRef.{OutRef}
use Rattle.gov_ids.specs.declared.PoolId.{PoolId}
use Rattle.gov_ids.specs.Orders.{asset_cmp, credential_cmp, pool_cmp, voter_cmp}
use Rattle.text_model.specs.of_assets.Quantities.{is_held}
use Rattle.book_records.specs.declared.Output.{Output}
use Rattle.gov_actions.specs.declared.action.Proposal.{Proposal}
use Rattle.gov_actions.specs.declared.state.Committee.{Committee}
use Rattle.gov_model.specs.Sides.{members_of}
use Rattle.tx_records.specs.declared.record.Rewards.{Rewards}
use Rattle.ledger_model.specs.Ledger.{Ledger}
use Rattle.ledger_model.specs.Supply.{supply_of}
use Rattle.run_model.specs.World.{World}
use Rattle.dormant_laws.proofs.Lists.{left_of, right_of}
use Rattle.text_forms.specs.Actions.{is_proposal}
use Rattle.text_forms.specs.Books as books
use Rattle.text_forms.specs.Ids.{is_asset_id, is_map, is_unit}
use Rattle.text_forms.specs.Snapshots.{are_pool_accounts}
use Rattle.text_forms.specs.States.{is_committee}
use Rattle.checkpoint_model.specs.Resumable.{IsResumable, is_covered}
use Rattle.resume_checks.specs.Forms.{are_accounts_of}
use Rattle.state_lists.specs.Worlds.{world_of_lists}
use Rattle.book_rows.specs.Assets.{are_assets}
use Rattle.told_lists.specs.Told.{IsListed, have_votes_in_order}
use Rattle.state_reader.specs.States.{lists_of_world}
use Rattle.state_reader.proofs.Forms.{all_weaker, books_of, frozen_of, numbers_of, parts_of, state_of}

assets_pass : (o : OutRef × Output) → books.is_output o ≡ true → are_assets o.1.assets ≡ true
assets_pass o h =
    let held = and_parts (is_map asset_cmp o.1.assets) (list_all books.is_held_asset o.1.assets) (right_of _ (books.are_held_assets o.1.assets) h) in
    and_from (is_map asset_cmp o.1.assets) _ held.0 (all_weaker books.is_held_asset (λ (e : AssetId × ℕ). is_held e.1) (λ e k. right_of (is_asset_id e.0) (is_held e.1) k) o.1.assets held.1)

members_in_order : (o : Option Committee) → none_or is_committee o ≡ true → is_map credential_cmp (members_of o) ≡ true
members_in_order None h = refl
members_in_order (Some c) h = left_of (is_map credential_cmp c.members) _ (left_of _ (is_unit c.threshold) h)

accounts_listed : (mark : List (PoolId × ℕ)) (accounts : List (PoolId × Account)) → are_pool_accounts mark accounts ≡ true → are_accounts_of mark accounts ≡ true
accounts_listed mark accounts h =
    let a = and_parts _ (list_all (λ (p : PoolId × Account). has_key pool_cmp mark p.0) accounts) h in
    and_from (is_map pool_cmp accounts) _ (left_of (is_map pool_cmp accounts) _ a.0) a.1

pending_now : (l : Ledger) (o : Option Rewards) → none_or (is_covered l) o ≡ true → none_or (λ (u : Rewards). u.epoch == l.epoch) o ≡ true
pending_now l None h = refl
pending_now l (Some u) h = left_of (u.epoch == l.epoch) _ (left_of _ _ (left_of _ _ h))

votes_in_order : (p : Proposal) → is_proposal p ≡ true → is_map voter_cmp p.votes ≡ true
votes_in_order p h = right_of _ (is_map voter_cmp p.votes) h

all_in_order : (ps : List Proposal) → list_all is_proposal ps ≡ true → have_votes_in_order ps ≡ true
all_in_order ps h = all_weaker is_proposal (λ (p : Proposal). is_map voter_cmp p.votes) votes_in_order ps h

-- the lines of its checkpoint say these lists
pub listed_of : (w : World) → IsResumable w → IsListed (lists_of_world w)
listed_of w sound =
    let h = parts_of w sound.form in
    let n = numbers_of w.ledger h.plain in
    let b = books_of w.ledger h.books in
    let f = frozen_of w.frozen h.frozen in
    record {
      network = n.network;
      length = n.length;
      version = (state_of w.ledger.state h.state).major;
      assets = all_weaker books.is_output (λ (o : OutRef × Output). are_assets o.1.assets) assets_pass w.ledger.outputs b.outputs;
      accounts = b.accounts_map;
      governing = record { members = members_in_order w.ledger.state.committee (state_of w.ledger.state h.state).committee; hot = b.hot_map };
      mark = left_of (is_map pool_cmp w.mark) _ h.mark;
      pool_accounts = subst (λ (mark : List (PoolId × ℕ)). are_accounts_of mark w.frozen.pool_accounts ≡ true) sound.mark (accounts_listed w.frozen.mark w.frozen.pool_accounts f.accounts);
      ids = b.ids;
      frozen = sound.proposals;
      votes = all_in_order w.ledger.proposals b.proposals;
      frozen_votes = all_in_order w.frozen.proposals f.proposals;
      pending = pending_now w.ledger w.pending sound.pending;
      pots = refl;
    }

-- their World is this one
pub world_same : (w : World) → IsResumable w → world_of_lists (lists_of_world w) ≡ w
world_same w sound =
    let supply : supply_of w.ledger ≡ w.ledger.supply = eqb-true (supply_of w.ledger) w.ledger.supply (left_of _ _ sound.supply) in
    let epoch = sym sound.epoch in
    let mark = sym sound.mark in
    let start = sym sound.state in
    λ i. record w { ledger = record w.ledger { supply = supply i }; frozen = record w.frozen { epoch = epoch i; mark = mark i; start = start i } }
