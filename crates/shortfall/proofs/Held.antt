-- What is frozen of a World and its count, by the parts that hold it.
use Rattle.std.proofs.Common.{◌≡◌, List, ap, sym, subst, ◌∙◌}
use Rattle.accounts.specs.Accounts.{Accounts}
use Rattle.book_records.specs.declared.Entry.{Entry}
use Rattle.drep_pulser.specs.Count.{Ended}
use Rattle.drep_pulser.specs.declared.Pulser.{Pulser}
use Rattle.drep_pulser.specs.declared.Pulser.TheVariants.{Counting, Counted}
use Rattle.drep_pulser.specs.Facts.{IsCountIn, IsCountedOf}
use Rattle.drep_pulser.specs.Pulsers.{GoesOnIn, IsPulserOf}
use Rattle.gov_ids.specs.declared.Credential.{Credential}
use Rattle.gov_ids.specs.Orders.{credential_cmp}
use Rattle.gov_model.specs.Snapshot.{Snapshot}
use Rattle.ledger_state.specs.of_ledger_books.declared.Books.{Books}
use Rattle.ledger_state.specs.of_ledger_books.Parts.{frozen_entries}
use Rattle.ledger_state.specs.Parts.{world_of_parts}
use Rattle.ledger_state.specs.Worlds.{IsHeldBy}
use Rattle.run_model.specs.World.{World}
use Rattle.snapshots.specs.declared.frozen.Frozen.{Frozen}
use Rattle.tally.specs.Counted.{AreOf}
use Rattle.view_map.specs.View.{frozen_of}

-- a count that goes on counts these entries
goes_on : (f : Snapshot) (es : List (Credential × Entry)) (p : Pulser) → f.entries ≡ es → IsPulserOf f p → GoesOnIn es p
goes_on f es (Counting c) same h = subst (λ (l : List (Credential × Entry)). IsCountIn l c) same h.counts
goes_on f es (Counted c) same h = tt

module _ (w : World) (b : Books) (f : Frozen) (p : Pulser) (parts : world_of_parts b f p ≡ w) (held : IsHeldBy w f p) where
  -- the frozen entries are those of the books
  entries : w.frozen.entries ≡ frozen_entries b
  entries = ap (λ (v : World). v.frozen.entries) (sym parts)

  pub going : (a : Accounts) → a ≡ b.stake.accounts → GoesOnIn (frozen_of credential_cmp a) p
  going a same =
      subst (λ (x : Accounts). GoesOnIn (frozen_of credential_cmp x) p) (sym same) (goes_on w.frozen (frozen_entries b) p entries held.counts)

  -- they are of the snapshot, once the count has ended over the entries of the accounts
  pub closed : (a : Accounts) → a ≡ b.stake.accounts → (c : Ended) → ((g : Snapshot) → g.entries ≡ frozen_of credential_cmp a → IsPulserOf g p → IsCountedOf g c) → AreOf w.frozen f c
  closed a same c ended = record {
    frozen = held.copied;
    counted = ended w.frozen (entries ∙ ap (λ (x : Accounts). frozen_of credential_cmp x) (sym same)) held.counts;
  }
