-- Steps of a boundary one after another.
use Rattle.std.proofs.Common.{◌≡◌, ℕ, List, Option, Some, None, refl, ap, ◌∙◌}
use Rattle.gov_ids.specs.declared.Credential.{Credential}
use Rattle.gov_model.specs.Snapshot.{Snapshot}
use Rattle.epoch_ends.specs.of_ledger_books.declared.Books.{Books}
use Rattle.epoch_ends.specs.of_ledger_books.Parts.{IsStep, world_of_books}
use Rattle.ledger_model.specs.Ledger.{Ledger}
use Rattle.tx_records.specs.declared.record.Rewards.{Rewards}
use Rattle.run_model.specs.Boundary.{after_pools, after_rewards, after_snapshots, donations_joined, dormancy_noted, enacted, marked, members_only, payments_due, removals_made, update_applied, withdrawals_paid}
use Rattle.run_model.specs.World.{on_ledger}
use Rattle.epoch_books.specs.Retirements.{after_reaping}
use Rattle.epoch_ends.specs.Steps.{next_epoch}
use Rattle.epoch_steps.specs.Halves.{after_all, after_paying}

-- 1 and 2
pub first_two : (b b1 b2 : Books) → IsStep after_rewards b b1 → IsStep marked b1 b2 → IsStep after_snapshots b b2
first_two b b1 b2 one two = λ counted f. two counted f ∙ ap marked (one counted f)

-- 1 to 3
pub first_three : (b b1 b2 b3 : Books) → IsStep after_rewards b b1 → IsStep marked b1 b2 → IsStep after_reaping b2 b3 → IsStep after_pools b b3
first_three b b1 b2 b3 one two three = λ counted f. three counted f ∙ ap after_reaping (first_two b b1 b2 one two counted f)

-- a pending update changes neither the epoch nor the dormant count
pub epoch_stays : (o : Option Rewards) (l : Ledger) → (update_applied o l).epoch ≡ l.epoch
epoch_stays None l = refl
epoch_stays (Some u) l = refl

pub dormant_stays : (o : Option Rewards) (l : Ledger) → (update_applied o l).dormant ≡ l.dormant
dormant_stays None l = refl
dormant_stays (Some u) l = refl

-- 4 and 5
pub paying : (f : Snapshot) (counted : ℕ) (b b4 b5 : Books) (due : List (Credential × ℕ))
    → world_of_books b4 counted f ≡ enacted (world_of_books b counted f) → IsStep (on_ledger (withdrawals_paid due)) b4 b5 → due ≡ payments_due (world_of_books b counted f)
    → world_of_books b5 counted f ≡ after_paying (world_of_books b counted f)
paying f counted b b4 b5 due four five is = five counted f ∙ (λ i. on_ledger (withdrawals_paid (is i)) (four i))

-- 6 to 8
pub cutting : (f : Snapshot) (counted : ℕ) (b b5 b6 b7 b8 : Books) → world_of_books b5 counted f ≡ after_paying (world_of_books b counted f)
    → world_of_books b6 counted f ≡ removals_made (world_of_books b5 counted f) → IsStep (on_ledger donations_joined) b6 b7 → IsStep (on_ledger members_only) b7 b8
    → world_of_books b8 counted f ≡ on_ledger members_only (on_ledger donations_joined (removals_made (after_paying (world_of_books b counted f))))
cutting f counted b b5 b6 b7 b8 paid six seven eight =
    eight counted f ∙ ap (on_ledger members_only) (seven counted f ∙ ap (on_ledger donations_joined) (six ∙ ap removals_made paid))

-- and to the next epoch
pub ending : (f : Snapshot) (counted : ℕ) (b b8 b9 b10 : Books) → world_of_books b8 counted f ≡ on_ledger members_only (on_ledger donations_joined (removals_made (after_paying (world_of_books b counted f))))
    → IsStep (on_ledger dormancy_noted) b8 b9 → IsStep (on_ledger next_epoch) b9 b10 → world_of_books b10 counted f ≡ after_all (world_of_books b counted f)
ending f counted b b8 b9 b10 cut nine ten = ten counted f ∙ ap (on_ledger next_epoch) (nine counted f ∙ ap (on_ledger dormancy_noted) cut)
