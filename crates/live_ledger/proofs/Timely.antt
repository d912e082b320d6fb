-- What a change of DReps, and the refresh, make of the dormant bound.
use Rattle.std.proofs.Common.{◌≡◌, ℕ, ◌+◌, ◌^◌, ◌<◌, ◌≤◌, ◌⊎◌, inl, inr, List, [], Bool, true, false, cond, map, Option, Some, None, option_map, refl, ap, sym, subst, ◌∙◌, arith}
use Rattle.std.specs.Ordering.{eq_by_cmp}
use Rattle.maps.proofs.Lookups.{value_at-changed_where, value_at-with_value, value_at-without_key}
use Rattle.maps.specs.Maps.{IsMap, value_at, without_key}
use Rattle.gov_ids.specs.declared.Credential.{Credential}
use Rattle.gov_ids.specs.declared.Voter.TheVariants as voter
use Rattle.gov_ids.specs.Orders.{credential_cmp}
use Rattle.gov_ids.proofs.Exacts.{credential_exact}
use Rattle.gov_ids.proofs.Totals.{credential_total}
use Rattle.gov_actions.specs.declared.action.Proposal.{Proposal}
use Rattle.gov_model.specs.Proposals.{without_vote}
use Rattle.book_records.specs.declared.DrepState.{DrepState}
use Rattle.book_records.specs.Dormancy.{AllFit, extended, is_kept_active, with_dormant_added}
use Rattle.drep_book.proofs.NoneAdded.{none_added}
use Rattle.ledger_model.specs.Changes.{dormant_added}
use Rattle.ledger_model.specs.Ledger.{Ledger}
use Rattle.dormant_laws.proofs.Dormant.{all_from_found}
use Rattle.dormant_laws.specs.of_run_model.Laws.{IsWithinDormantBound}
use Rattle.draft_changes.specs.ChangedDreps.{awakened}
use Rattle.live_ledger.specs.Drafts.{IsTimely, having_drep}

-- the value at a key after a change passes if both do
one_of : {X : Type 0} (P : X → Type 0) (b : Bool) (put was : Option X) (x : X) → (put ≡ Some x → P x) → (was ≡ Some x → P x) → cond b put was ≡ Some x → P x
one_of P true put was x f g e = f e
one_of P false put was x f g e = g e

-- a DRep that comes
pub timely_put : (l : Ledger) (c : Credential) (s : DrepState) → IsWithinDormantBound l → IsTimely l s → IsWithinDormantBound (having_drep c (Some s) l)
timely_put l c s b t = record {
  awake = b.awake;
  at_most = b.at_most;
  expiries = λ q d e.
      one_of (IsTimely l) (eq_by_cmp credential_cmp c q) (Some s) (value_at credential_cmp l.dreps q) d (λ e. let is : s ≡ d = cc in subst (λ (x : DrepState). IsTimely l x) is t) (b.expiries q d)
      (sym (value_at-with_value credential_total c s l.dreps q) ∙ e);
}

-- one that is taken out
pub timely_without : (l : Ledger) (c : Credential) → IsWithinDormantBound l → IsMap credential_cmp l.dreps → IsWithinDormantBound (record l { dreps = without_key credential_cmp c l.dreps })
timely_without l c b m = record {
  awake = b.awake;
  at_most = b.at_most;
  expiries = λ q d e.
      one_of (IsTimely l) (eq_by_cmp credential_cmp c q) None (value_at credential_cmp l.dreps q) d (λ e. cc) (b.expiries q d)
      (sym (value_at-without_key credential_total c l.dreps q m) ∙ e);
}

-- and one that leaves
pub timely_left : (l : Ledger) (c : Credential) → IsWithinDormantBound l → IsMap credential_cmp l.dreps → IsWithinDormantBound (having_drep c None l)
timely_left l c b m = record {
  awake = elim b.awake as (λ _. (l.dormant ≡ 0) ⊎ (map (without_vote (voter.Drep c)) l.proposals ≡ [])) [
    | inl e ↦ inl e
    | inr e ↦ inr (ap (λ (ps : List Proposal). map (without_vote (voter.Drep c)) ps) e)
  ];
  at_most = b.at_most;
  expiries = (timely_without l c b m).expiries;
}

-- ---- the refresh

-- where no epoch is dormant the refresh changes nothing
pub nothing_added : (l : Ledger) → l.dormant ≡ 0 → dormant_added l ≡ l
nothing_added l e =
    let same : with_dormant_added l.epoch l.dormant l.dreps ≡ l.dreps = ap (λ n. with_dormant_added l.epoch n l.dreps) e ∙ none_added l.epoch l.dreps in
    λ i. record l { dreps = same i; dormant = sym e i }

added_at_most : (b : Bool) (n most : ℕ) (d : DrepState) → d.expiry + n ≤ most → (cond b (extended n d) d).expiry + 0 ≤ most
added_at_most true n most d h = omega (arith, h)
added_at_most false n most d h = omega (arith, h)

timely_at : (epoch n most : ℕ) (o : Option DrepState) (d : DrepState) → ((x : DrepState) → o ≡ Some x → x.expiry + n ≤ most) → option_map (awakened epoch n) o ≡ Some d → d.expiry + 0 ≤ most
timely_at epoch n most None d h e = cc
timely_at epoch n most (Some x) d h e =
    let is : awakened epoch n x ≡ d = cc in
    subst (λ (s : DrepState). s.expiry + 0 ≤ most) is (added_at_most (is_kept_active epoch n x) n most x (h x refl))

pub timely_added : (l : Ledger) → IsWithinDormantBound l → IsWithinDormantBound (dormant_added l)
timely_added l b = record {
  awake = inl refl;
  at_most = omega arith;
  expiries = λ q d e.
      timely_at l.epoch l.dormant (2 ^ 62 + 2 ^ 32 + l.epoch) (value_at credential_cmp l.dreps q) d (b.expiries q)
      (sym (value_at-changed_where credential_total credential_exact (λ c d. is_kept_active l.epoch l.dormant d) (extended l.dormant) l.dreps q) ∙ e);
}

-- ---- what fits

-- each expiry with the dormant epochs is a number of 64 bits
pub all_fit : (l : Ledger) → IsWithinDormantBound l → IsMap credential_cmp l.dreps → l.epoch ≤ 2 ^ 62 → AllFit l.dormant l.dreps
all_fit l b m early = all_from_found (λ (d : DrepState). d.expiry + l.dormant < 2 ^ 64) l.dreps m (λ q d e. omega (arith, b.expiries q d e, early))
