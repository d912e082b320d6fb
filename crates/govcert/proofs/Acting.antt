-- DReps that act, one vote after the other.
use Rattle.std.proofs.Common.{◌≡◌, ℕ, ◌+◌, ◌<◌, ◌≤◌, List, [], ◌∷◌, Option, Some, None, Bool, true, false, cond, ◌||◌, drop, length, get_or, refl, ap, sym, ◌∙◌, add-one, arith}
use Rattle.std.proofs.Math.ListN.{drop_of_length-le}
use Rattle.std.proofs.Math.Seq.{drop-cons}
use Rattle.std.specs.List.{list_any}
use Rattle.maps.specs.Maps.{IsMap, changed_where, value_at}
use Rattle.maps.proofs.Placed.{changed_at_absent}
use Rattle.gov_ids.proofs.Totals.{credential_total}
use Rattle.gov_ids.specs.Orders.{credential_cmp}
use Rattle.gov_ids.specs.declared.Credential.{Credential}
use Rattle.gov_ids.specs.declared.Voter.TheVariants as voter
use Rattle.gov_ids.specs.Same.{same_voter}
use Rattle.book_records.specs.declared.DrepState.{DrepState}
use Rattle.tx_records.specs.declared.cert.Cert.TheVariants.{DrepUpdate}
use Rattle.tx_records.specs.declared.tx.VoteRecord.{VoteRecord}
use Rattle.ledger_model.specs.Changes.{having_acted}
use Rattle.ledger_model.specs.Ledger.{Ledger}
use Rattle.live_ledger.proofs.Replacing.{with_value-changed_at}
use Rattle.live_ledger.specs.Drafts.{Drafted, drep_deposit_in, given_back, paid_by, with_drep}
use Rattle.live_ledger.specs.Moved.{IsCertified}
use Rattle.govcert.specs.Acted.{acted_all, acted_as}

module _ (l : Ledger) where
  -- they act at once, or first the one and then the others
  either : (a b : Bool) (d : DrepState) → cond (a || b) (having_acted l d) d ≡ cond b (having_acted l (cond a (having_acted l d) d)) (cond a (having_acted l d) d)
  either true true d = refl
  either true false d = refl
  either false true d = refl
  either false false d = refl

  -- those of these votes act
  abbrev acting : List VoteRecord → List (Credential × DrepState) → List (Credential × DrepState)
  acting vs es = changed_where (λ c d. list_any (λ (v : VoteRecord). same_voter v.voter (voter.Drep c)) vs) (having_acted l) es

  first_acts : (v : VoteRecord) (vs : List VoteRecord) (es : List (Credential × DrepState))
      → acting (v ∷ vs) es ≡ acting vs (changed_where (λ c d. same_voter v.voter (voter.Drep c)) (having_acted l) es)
  first_acts v vs [] = refl
  first_acts v vs (e ∷ es) =
      let entry = either (same_voter v.voter (voter.Drep e.0)) (list_any (λ (w : VoteRecord). same_voter w.voter (voter.Drep e.0)) vs) e.1 in
      λ i. (e.0, entry i) ∷ first_acts v vs es i

  none_acts : (es : List (Credential × DrepState)) → changed_where (λ c d. false) (having_acted l) es ≡ es
  none_acts [] = refl
  none_acts (e ∷ es) = ap (λ (xs : List (Credential × DrepState)). e ∷ xs) (none_acts es)

  abbrev with_dreps : List (Credential × DrepState) → Ledger
  with_dreps es = record l { dreps = es }

  -- one more vote
  pub next_acts : (vs : List VoteRecord) (i : ℕ) (v : VoteRecord) → i < length vs → acted_all (drop (i + 1) vs) (acted_as (get_or vs i v).voter l) ≡ acted_all (drop i vs) l
  next_acts vs i v h =
      let front : drop i vs ≡ get_or vs i v ∷ drop (i + 1) vs = drop-cons vs i v h ∙ ap (λ k. get_or vs i v ∷ drop k vs) (sym (add-one i)) in
      ap with_dreps (sym (first_acts (get_or vs i v) (drop (i + 1) vs) l.dreps)) ∙ ap (λ (xs : List VoteRecord). acted_all xs l) (sym front)

  -- no vote is left
  pub all_acted : (vs : List VoteRecord) (i : ℕ) → length vs ≤ i → acted_all (drop i vs) l ≡ l
  all_acted vs i h = ap (λ (xs : List VoteRecord). acted_all xs l) (drop_of_length-le vs h) ∙ ap with_dreps (none_acts l.dreps)

  -- a voter that is no DRep
  pub no_drep : l ≡ with_dreps (changed_where (λ c d. false) (having_acted l) l.dreps)
  no_drep = ap with_dreps (sym (none_acts l.dreps))

module _ (d : Drafted) (k : Credential) where
  -- a registered DRep acts
  pub acts : (s : DrepState) → IsMap credential_cmp d.ledger.dreps → value_at credential_cmp d.ledger.dreps k ≡ Some s
      → IsCertified (DrepUpdate k) d (with_drep k (Some (having_acted d.ledger s)) d)
  acts s m there = record {
    start = refl;
    ledger = ap (with_dreps d.ledger) (with_value-changed_at credential_total k (having_acted d.ledger) s d.ledger.dreps m there);
    moved = record {
      refunds = ap (λ (o : Option DrepState). d.refunds + given_back (drep_deposit_in o) (Some s.deposit)) there;
      deposits = ap (λ (o : Option DrepState). d.deposits + paid_by (drep_deposit_in o) (Some s.deposit)) there;
    };
    few = omega arith;
  }

  -- one that is not registered does not
  pub acts_not : value_at credential_cmp d.ledger.dreps k ≡ None → IsCertified (DrepUpdate k) d d
  acts_not none = record {
    start = refl;
    ledger = ap (with_dreps d.ledger) (sym (changed_at_absent credential_cmp k (having_acted d.ledger) d.ledger.dreps none));
    moved = record { refunds = omega arith; deposits = omega arith };
    few = omega arith;
  }
