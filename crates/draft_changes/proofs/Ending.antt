-- Where no registration changed and no DRep left, nothing ends.
use Rattle.std.proofs.Common.{◌≡◌, List, [], ◌∷◌, Option, map, refl, ap, sym, ◌∙◌, lit≤}
use Rattle.gov_actions.specs.declared.action.Proposal.{Proposal}
use Rattle.gov_ids.specs.declared.Credential.{Credential}
use Rattle.book_records.specs.declared.Registered.{Registered}
use Rattle.ledger_books.specs.of_proposal_store.Leaving.{without_votes_of}
use Rattle.ledger_books.proofs.proofs_of_proposal_store.Leavers.{leave_done}
use Rattle.stake_book.specs.Stakes.{without_dreps}
use Rattle.draft_changes.specs.Changed.{with_registrations}

pub no_delegation_ended : (accounts : List (Credential × Registered)) → without_dreps [] accounts ≡ accounts
no_delegation_ended [] = refl
no_delegation_ended (a ∷ accounts) = ap (λ (es : List (Credential × Registered)). a ∷ es) (no_delegation_ended accounts)

module _ (left : List Credential) (none_left : left ≡ []) where
  -- the registrations stay
  pub registrations_stay : (changes : List (Credential × Option Registered)) → changes ≡ [] → (accounts : List (Credential × Registered))
      → accounts ≡ with_registrations changes (without_dreps left accounts)
  registrations_stay changes none accounts = sym ((λ i. with_registrations (none i) (without_dreps (none_left i) accounts)) ∙ no_delegation_ended accounts)

  -- and so do the votes
  pub votes_stay : (ps : List Proposal) → ps ≡ map (without_votes_of left) ps
  votes_stay ps = sym (ap (λ (ks : List Credential). map (without_votes_of ks) ps) none_left ∙ leave_done [] 0 (lit≤ tt) ps)
