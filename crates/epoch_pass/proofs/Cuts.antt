-- The proposals that stay and those that leave.
use Rattle.std.proofs.Common.{◌≡◌, ℕ, ◌+◌, ◌<◌, ◌≤◌, ◌^◌, Bool, List, not, ◌&&◌, filter, map, sym, subst, arith}
use Rattle.maps.proofs.Credits.{sum-parted}
use Rattle.gov_actions.specs.declared.action.Proposal.{Proposal}
use Rattle.gov_actions.specs.declared.state.LastIds.{LastIds}
use Rattle.gov_ids.specs.declared.ActionId.{ActionId}
use Rattle.gov_ids.specs.declared.Credential.{Credential}
use Rattle.gov_model.specs.Kept.{is_kept, kept_of}
use Rattle.gov_model.specs.Laws.{HaveDistinctIds}
use Rattle.gov_model.specs.Proposals.{deposits_of, others_than, those_of}
use Rattle.gov_model.specs.Ratified.{ids_of, is_one_of}
use Rattle.ledger_model.proofs.SameSums.{sum_by-map}
use Rattle.epoch_balance.proofs.Removals.{kept-self}
use Rattle.gov_model.specs.Snapshot.{Snapshot}
use Rattle.ledger_books.specs.declared.Books.{Books}
use Rattle.ledger_books.specs.Parts.{HoldsSupply, ledger_of_books, world_of_books}
use Rattle.payments.specs.Amounts.{all_amounts}
use Rattle.run_model.specs.Boundary.{paid_out, proposal_refunds, removals_made, removed_proposals}
use Rattle.run_model.specs.World.{World}
use Rattle.stake_book.specs.Stakes.{HasRoom, accounts_of}
use Rattle.epoch_pass.specs.Removals.{refunds_of, removed_by}
use Rattle.epoch_pass.specs.Reported.{AreDecided, removed_in}

-- those whose ids are among those of the kept are the kept
pub kept_are_kept : (ps : List Proposal) (enacted expired : List ActionId) (last : LastIds) → HaveDistinctIds ps
    → those_of (ids_of (kept_of ps enacted expired last)) ps ≡ kept_of ps enacted expired last
kept_are_kept ps enacted expired last own =
    let is_left : Proposal → Bool = λ a. not (is_one_of enacted a) && not (is_one_of expired a) in
    kept-self is_left (is_kept (filter is_left ps) last) ps own

-- what some paid is at most what all paid
pub refunds_within : (ids : List ActionId) (ps : List Proposal) → all_amounts (refunds_of (others_than ids ps)) ≤ deposits_of ps
refunds_within ids ps =
    omega (
      arith,
      sum_by-map (λ (p : Credential × ℕ). p.1) (λ (p : Proposal). (p.account.cred, p.deposit)) (others_than ids ps),
      sum-parted (λ (p : Proposal). p.deposit) (is_one_of ids) ps,
    )

-- the supply has room for refunds of the deposits of some proposals
module _ (b : Books) (holds : HoldsSupply b) (ids : List ActionId) (refunds : List (Credential × ℕ)) (are : refunds ≡ refunds_of (others_than ids b.proposals)) where
  at_most : all_amounts refunds ≤ deposits_of b.proposals
  at_most = subst (λ (l : List (Credential × ℕ)). all_amounts l ≤ deposits_of b.proposals) (sym are) (refunds_within ids b.proposals)

  pub has_room : HasRoom (all_amounts refunds) b.stake
  has_room = omega (arith, at_most, holds.balanced, holds.within)

  pub treasury_fits : b.state.treasury + all_amounts refunds < 2 ^ 64
  treasury_fits = omega (arith, at_most, holds.balanced, holds.within)

-- what stays by these lists
abbrev pub kept_by : Books → List ActionId → List ActionId → List Proposal
kept_by b enacted over = kept_of b.proposals enacted over b.state.last

-- and what leaves
abbrev pub leaving_by : Books → List ActionId → List ActionId → List Proposal
leaving_by b enacted over = others_than (ids_of (kept_by b enacted over)) b.proposals

module _ (b : Books) (enacted over : List ActionId) (counted : ℕ) (f : Snapshot) (d : AreDecided f enacted over) where
  abbrev here : World
  here = world_of_books b counted f

  -- the ledger that is paid out is that of the removals of the World
  pub paid_out_is : paid_out (refunds_of (leaving_by b enacted over)) (record (ledger_of_books b) { proposals = kept_by b enacted over }) ≡ (removals_made here).ledger
  paid_out_is = λ i. paid_out (refunds_of (leaving_by b (d.ratified i) (d.expired i))) (record (ledger_of_books b) { proposals = kept_by b (d.ratified i) (d.expired i) })

  -- the deposits are those of its removed proposals
  pub refunds_are : refunds_of (leaving_by b enacted over) ≡ proposal_refunds here
  refunds_are = λ i. refunds_of (leaving_by b (d.ratified i) (d.expired i))

  -- and so is the report
  pub removed_is : map (removed_by (accounts_of b.stake) enacted over) (leaving_by b enacted over) ≡ map (removed_in here) (removed_proposals here)
  removed_is = λ i. map (removed_by (accounts_of b.stake) (d.ratified i) (d.expired i)) (leaving_by b (d.ratified i) (d.expired i))
