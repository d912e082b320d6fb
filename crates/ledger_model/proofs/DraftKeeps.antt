-- What withdrawals, the refresh and certificates keep of a ledger.
use Rattle.std.proofs.Common.{◌≡◌, ℕ, zero, suc, Contains, ◌<◌, List, [], ◌∷◌, Bool, true, false, cond, map, fold, take, length, refl, ap, sym, subst, ◌∙◌, arith}
use Rattle.std.specs.List.{slice_index_or}
use Rattle.maps.specs.Maps.{IsMap, without_key}
use Rattle.maps.specs.Words.{is_empty}
use Rattle.maps.proofs.Kept.{IsMap-changed_where, IsMap-with_value, IsMap-without_key}
use Rattle.gov_ids.specs.declared.ActionId.{ActionId}
use Rattle.gov_ids.specs.declared.Voter.{Voter}
use Rattle.gov_ids.specs.declared.Voter.TheVariants as voter
use Rattle.gov_ids.specs.Orders.{credential_cmp, pool_cmp, voter_cmp}
use Rattle.gov_ids.proofs.Totals.{credential_total, pool_total}
use Rattle.tx_records.specs.of_gov_actions.declared.action.Proposal.{Proposal}
use Rattle.tx_records.specs.of_gov_actions.declared.action.Vote.{Vote}
use Rattle.tx_records.specs.of_gov_actions.declared.state.HotState.TheVariants.{Hot, Resigned}
use Rattle.gov_model.specs.Ratified.{ids_of}
use Rattle.tx_records.specs.declared.cert.Cert.{Cert}
use Rattle.tx_records.specs.declared.cert.Cert.TheVariants.{AccountReg, AccountUnreg, Delegate, PoolReg, PoolRetire, DrepReg, DrepUnreg, DrepUpdate, HotAuth, HotResign}
use Rattle.tx_records.specs.declared.tx.Tx.{Tx}
use Rattle.ledger_model.specs.Ledger.{Ledger}
use Rattle.gov_model.specs.of_book_records.Dormancy.{is_kept_active, extended}
use Rattle.gov_model.specs.of_book_records.Pools.{retiring}
use Rattle.gov_model.specs.Proposals.{without_vote}
use Rattle.gov_model.specs.of_book_records.Delegations.{without_drep}
use Rattle.ledger_model.specs.Changes.{changed_by, delegating, emptied, has_voted, having_acted, is_withdrawn, new_account, new_drep, withdrawn, refreshed, voters_refreshed, dormant_added}
use Rattle.ledger_model.specs.Draft.{draft_after, draft_with, is_refused}

pub record HasMaps (l : Ledger) : Type 0 where
  pub accounts : IsMap credential_cmp l.accounts
  pub pools : IsMap pool_cmp l.pools
  pub dreps : IsMap credential_cmp l.dreps
  pub hot : IsMap credential_cmp l.hot

-- a proposal stands in the list, with at most its votes changed
abbrev pub IsLiveIn : List Proposal → Proposal → Type 0
IsLiveIn ps a = (b : Proposal) × Contains ps b × (record a { votes = b.votes } ≡ b)

-- d, with the parts of e that these change
abbrev pub changed_to : Ledger → Ledger → Ledger
changed_to d e = record d { dormant = e.dormant; accounts = e.accounts; pools = e.pools; dreps = e.dreps; hot = e.hot; proposals = e.proposals }

pub record KeepsRest (d e : Ledger) : Type 0 where
  pub maps : HasMaps e
  pub only : changed_to d e ≡ e
  pub ids : ids_of e.proposals ≡ ids_of d.proposals
  pub live : (a : Proposal) → IsLiveIn d.proposals a → IsLiveIn e.proposals a

kept_twice : (d e f : Ledger) → KeepsRest d e → KeepsRest e f → KeepsRest d f
kept_twice d e f a b =
    record { maps = b.maps; only = ap (λ (x : Ledger). changed_to x f) a.only ∙ b.only; ids = b.ids ∙ a.ids; live = λ x h. b.live x (a.live x h) }

-- proposals whose votes change are still there
map_at : (g : Proposal → Proposal) (ps : List Proposal) (b : Proposal) (k : ℕ) → k < length ps → slice_index_or ps k b ≡ b → (k < length (map g ps)) × (slice_index_or (map g ps) k (g b) ≡ g b)
map_at g [] b k h e = absurd (omega arith)
map_at g (p ∷ ps) b zero h e = (omega arith, ap g e)
map_at g (p ∷ ps) b (suc k) h e = let more = map_at g ps b k (omega arith) e in (omega (arith, more.0), more.1)

pub live_map : (votes : Proposal → List (Voter × Vote)) (ps : List Proposal) (a : Proposal) → IsLiveIn ps a → IsLiveIn (map (λ (p : Proposal). record p { votes = votes p }) ps) a
live_map votes ps a h =
    let at = map_at (λ (p : Proposal). record p { votes = votes p }) ps h.0 h.1.0 h.1.1 h.1.2 in
    (record h.0 { votes = votes h.0 }, (h.1.0, at.0, at.1), ap (λ (x : Proposal). record x { votes = votes h.0 }) h.2)

unvoted : (v : Voter) (ps : List Proposal) → ids_of (map (without_vote v) ps) ≡ ids_of ps
unvoted v [] = refl
unvoted v (p ∷ ps) = ap (λ (list : List ActionId). p.id ∷ list) (unvoted v ps)

-- a change that leaves the proposals
maps_alone : (d e : Ledger) → HasMaps e → changed_to d e ≡ e → e.proposals ≡ d.proposals → KeepsRest d e
maps_alone d e m o p =
    record { maps = m; only = o; ids = ap (λ (ps : List Proposal). ids_of ps) p; live = λ a h. subst (λ (ps : List Proposal). IsLiveIn ps a) (sym p) h }

cert_keeps : (c : Cert) (d : Ledger) → HasMaps d → KeepsRest d (changed_by c d)
cert_keeps (AccountReg cred deposit pool drep) d m =
    maps_alone d _ (record { accounts = IsMap-with_value credential_total cred (new_account d pool drep) d.accounts m.accounts; pools = m.pools; dreps = m.dreps; hot = m.hot }) refl refl
cert_keeps (AccountUnreg cred refund) d m =
    maps_alone d _ (record { accounts = IsMap-without_key credential_cmp cred d.accounts m.accounts; pools = m.pools; dreps = m.dreps; hot = m.hot }) refl refl
cert_keeps (Delegate cred pool drep) d m =
    maps_alone d _ (record { accounts = IsMap-changed_where credential_cmp _ (delegating pool drep) d.accounts m.accounts; pools = m.pools; dreps = m.dreps; hot = m.hot }) refl refl
cert_keeps (PoolReg pool cost pledge margin account key) d m =
    maps_alone d _ (record { accounts = m.accounts; pools = IsMap-with_value pool_total pool _ d.pools m.pools; dreps = m.dreps; hot = m.hot }) refl refl
cert_keeps (PoolRetire pool epoch) d m =
    maps_alone d _ (record { accounts = m.accounts; pools = IsMap-changed_where pool_cmp _ (retiring epoch) d.pools m.pools; dreps = m.dreps; hot = m.hot }) refl refl
cert_keeps (DrepReg cred deposit) d m =
    maps_alone d _ (record { accounts = m.accounts; pools = m.pools; dreps = IsMap-with_value credential_total cred (new_drep d) d.dreps m.dreps; hot = m.hot }) refl refl
cert_keeps (DrepUnreg cred refund) d m = record {
  maps = record {
    accounts = IsMap-changed_where credential_cmp _ without_drep d.accounts m.accounts;
    pools = m.pools;
    dreps = IsMap-without_key credential_cmp cred d.dreps m.dreps;
    hot = m.hot;
  };
  only = refl;
  ids = unvoted (voter.Drep cred) d.proposals;
  live = λ a h. live_map (λ (p : Proposal). without_key voter_cmp (voter.Drep cred) p.votes) d.proposals a h;
}
cert_keeps (DrepUpdate cred) d m =
    maps_alone d _ (record { accounts = m.accounts; pools = m.pools; dreps = IsMap-changed_where credential_cmp _ (having_acted d) d.dreps m.dreps; hot = m.hot }) refl refl
cert_keeps (HotAuth cold key) d m =
    maps_alone d _ (record { accounts = m.accounts; pools = m.pools; dreps = m.dreps; hot = IsMap-with_value credential_total cold (Hot key) d.hot m.hot }) refl refl
cert_keeps (HotResign cold) d m =
    maps_alone d _ (record { accounts = m.accounts; pools = m.pools; dreps = m.dreps; hot = IsMap-with_value credential_total cold Resigned d.hot m.hot }) refl refl

either_keeps : (b : Bool) (c : Cert) (d : Ledger) → HasMaps d → KeepsRest d (cond b d (changed_by c d))
either_keeps true c d m = maps_alone d d m refl refl
either_keeps false c d m = cert_keeps c d m

certs_keep : (l : Ledger) (cs : List Cert) (d : Ledger) → HasMaps d → KeepsRest d (fold (draft_with l) d cs)
certs_keep l [] d m = maps_alone d d m refl refl
certs_keep l (c ∷ cs) d m =
    let first : KeepsRest d (draft_with l d c) = either_keeps (is_refused l d c) c d m in
    kept_twice d (draft_with l d c) (fold (draft_with l) (draft_with l d c) cs) first (certs_keep l cs (draft_with l d c) first.maps)

module _ (tx : Tx) where
  withdrawn_keeps : (d : Ledger) → HasMaps d → KeepsRest d (withdrawn tx d)
  withdrawn_keeps d m =
      maps_alone d _ (record { accounts = IsMap-changed_where credential_cmp (λ c r. is_withdrawn tx c) emptied d.accounts m.accounts; pools = m.pools; dreps = m.dreps; hot = m.hot }) refl refl

  voters_keep : (d : Ledger) → HasMaps d → KeepsRest d (voters_refreshed tx d)
  voters_keep d m =
      maps_alone d _ (record { accounts = m.accounts; pools = m.pools; dreps = IsMap-changed_where credential_cmp (λ c x. has_voted tx c) (having_acted d) d.dreps m.dreps; hot = m.hot }) refl refl

  dormant_keeps : (d : Ledger) → HasMaps d → KeepsRest d (dormant_added d)
  dormant_keeps d m =
      maps_alone d _ (record { accounts = m.accounts; pools = m.pools; dreps = IsMap-changed_where credential_cmp (λ c x. is_kept_active d.epoch d.dormant x) (extended d.dormant) d.dreps m.dreps; hot = m.hot }) refl refl

  refresh_keeps : (b : Bool) (d : Ledger) → HasMaps d → KeepsRest d (voters_refreshed tx (cond b d (dormant_added d)))
  refresh_keeps true d m = voters_keep d m
  refresh_keeps false d m =
      let first = dormant_keeps d m in kept_twice d (dormant_added d) (voters_refreshed tx (dormant_added d)) first (voters_keep (dormant_added d) first.maps)

  pub draft_keeps : (l : Ledger) (k : ℕ) → HasMaps l → KeepsRest l (draft_after l tx k)
  draft_keeps l k m =
      let d : Ledger = withdrawn tx l in
      let a : KeepsRest l d = withdrawn_keeps l m in
      let b : KeepsRest d (refreshed tx d) = refresh_keeps (is_empty tx.proposals) d a.maps in
      let c : KeepsRest (refreshed tx d) (draft_after l tx k) = certs_keep l (take k tx.certs) (refreshed tx d) b.maps in
      kept_twice l d (draft_after l tx k) a (kept_twice d (refreshed tx d) (draft_after l tx k) b c)
