-- The lists of a state that lines show, from its live part and from what epochs add.
use Rattle.std.proofs.Common.{◌≡◌, ℕ, true, not, map, Option, Some, None, ap, sym, ◌∙◌, subst}
use Rattle.maps.specs.Words.{repeats}
use Rattle.gov_ids.specs.Orders.{action_id_cmp}
use Rattle.text_forms.specs.of_gov_model.Ratified.{ids_of}
use Rattle.text_forms.specs.of_ledger_model.Supply.{pots_of}
use Rattle.tx_records.specs.declared.report.Pots.{Pots}
use Rattle.text_forms.specs.Lines.{are_short_lines}
use Rattle.text_forms.specs.Snapshots.{action_words}
use Rattle.state_lists.specs.declared.lists.StateLists.{StateLists}
use Rattle.state_lists.specs.Worlds.{ledger_of_lists}
use Rattle.checkpoint_reader.specs.declared.read.Gathered.{Gathered}
use Rattle.checkpoint_reader.specs.Gathered.{has_gathered_form}
use Rattle.resumable_lists.specs.Shown.{IsShown}
use Rattle.shown_lists.specs.Only.{IsOnly}
use Rattle.shown_lists.proofs.Present.{only_none}
use Rattle.told_lists.specs.Parts.{AreEpochLists, EpochLists, IsLive, Live, epoch_shown, live_shown, state_of}
use Rattle.told_lists.specs.Told.{IsListed, told_by}
use Rattle.told_lists.proofs.Found.{kind_of, none_of, only_one, same_of, shows_of}
use Rattle.told_lists.proofs.Shown.{shown_by}

-- the live part of plain lists, and what epochs add
abbrev live_part : StateLists × ℕ → Live
live_part x = (record { line = x.1; counted = x.0.counted; clock = x.0.clock; state = x.0.state }, x.0.books)

abbrev epoch_part : StateLists × ℕ → EpochLists
epoch_part x = (x.0.pending, x.0.stakes, x.0.frozen)

-- both are of their kinds
live_kind : (pots : Pots) (x : StateLists × ℕ) → pots_of (ledger_of_lists x.0) ≡ pots → IsListed x.0 → IsLive pots (live_part x)
live_kind pots x is k = record {
  governed = record { clock = record { network = k.network; length = k.length }; version = k.version; governing = k.governing };
  books = record {
    held = record { outputs = record { assets = k.assets; held = λ i. (is i).outputs }; accounts = record { in_order = k.accounts; balances = λ i. (is i).rewards } };
    proposed = record { ids = k.ids; votes = k.votes };
    deposits = λ i. (is i).deposits;
  };
}

epoch_kind : (x : StateLists × ℕ) → IsListed x.0 → AreEpochLists x.0.clock.epoch x.0.books.proposals (epoch_part x)
epoch_kind x k = record {
  pending = k.pending;
  mark = k.mark;
  frozen = record { pool_accounts = k.pool_accounts; proposals = record { kept = k.frozen; votes = k.frozen_votes } };
}

module _ (g : Gathered) where
  abbrev Only : Option (StateLists × ℕ) → Type 0
  Only found = IsOnly (λ (x : StateLists × ℕ). IsListed x.0) told_by g found

  pub no_live : IsOnly (IsLive g.amounts.pots) (live_shown g.amounts.pots) ((g.governance, g.params, g.amounts.pots.treasury), (g.books, g.actions, g.amounts.used)) None → Only None
  no_live only =
      only_none (λ (x : StateLists × ℕ). IsListed x.0) told_by g
      (λ x k e. none_of only (live_part x) (live_kind g.amounts.pots x (λ i. (e i).amounts.pots) k) (λ i. (((e i).governance, (e i).params, (e i).amounts.pots.treasury), ((e i).books, (e i).actions, (e i).amounts.used))))

  module _ (v : Live) (of : IsOnly (IsLive g.amounts.pots) (live_shown g.amounts.pots) ((g.governance, g.params, g.amounts.pots.treasury), (g.books, g.actions, g.amounts.used)) (Some v)) where
    -- its proposals have ids of their own
    pub own_ids : not (repeats action_id_cmp (ids_of v.1.proposals)) ≡ true
    own_ids = (kind_of of).books.proposed.ids

    same_live : (x : StateLists × ℕ) → IsListed x.0 → told_by x ≡ g → v ≡ live_part x
    same_live x k e = same_of of (live_part x) (live_kind g.amounts.pots x (λ i. (e i).amounts.pots) k) (λ i. (((e i).governance, (e i).params, (e i).amounts.pots.treasury), ((e i).books, (e i).actions, (e i).amounts.used)))

    -- beside the same live part
    epoch_beside : (x : StateLists × ℕ) → IsListed x.0 → told_by x ≡ g → AreEpochLists v.0.clock.epoch v.1.proposals (epoch_part x)
    epoch_beside x k e = subst (λ (t : Live). AreEpochLists t.0.clock.epoch t.1.proposals (epoch_part x)) (sym (same_live x k e)) (epoch_kind x k)

    pub no_epoch : IsOnly (AreEpochLists v.0.clock.epoch v.1.proposals) epoch_shown ((g.amounts.pending, g.amounts.rewards), g.stakes, g.frozen) None → Only None
    no_epoch only =
        only_none (λ (x : StateLists × ℕ). IsListed x.0) told_by g
        (λ x k e. none_of only (epoch_part x) (epoch_beside x k e) (λ i. (((e i).amounts.pending, (e i).amounts.rewards), (e i).stakes, (e i).frozen)))

    module _ (a : EpochLists) (of_epoch : IsOnly (AreEpochLists v.0.clock.epoch v.1.proposals) epoch_shown ((g.amounts.pending, g.amounts.rewards), g.stakes, g.frozen) (Some a)) where
      abbrev whole : StateLists × ℕ
      whole = state_of g.amounts.pots v a

      live_is : IsLive g.amounts.pots v
      live_is = kind_of of

      epoch_is : AreEpochLists v.0.clock.epoch v.1.proposals a
      epoch_is = kind_of of_epoch

      live_shows : live_shown g.amounts.pots v ≡ ((g.governance, g.params, g.amounts.pots.treasury), (g.books, g.actions, g.amounts.used))
      live_shows = shows_of of

      epoch_shows : epoch_shown a ≡ ((g.amounts.pending, g.amounts.rewards), g.stakes, g.frozen)
      epoch_shows = shows_of of_epoch

      pots_are : pots_of (ledger_of_lists whole.0) ≡ g.amounts.pots
      pots_are = λ i. record {
        outputs = live_is.books.held.outputs.held i;
        deposits = live_is.books.deposits i;
        rewards = live_is.books.held.accounts.balances i;
        fees = g.amounts.pots.fees;
        donations = g.amounts.pots.donations;
        treasury = (live_shows i).0.2;
        reserves = g.amounts.pots.reserves;
      }

      listed : IsListed whole.0
      listed = record {
        network = live_is.governed.clock.network;
        length = live_is.governed.clock.length;
        version = live_is.governed.version;
        assets = live_is.books.held.outputs.assets;
        accounts = live_is.books.held.accounts.in_order;
        governing = live_is.governed.governing;
        mark = epoch_is.mark;
        pool_accounts = epoch_is.frozen.pool_accounts;
        ids = live_is.books.proposed.ids;
        frozen = epoch_is.frozen.proposals.kept;
        votes = live_is.books.proposed.votes;
        frozen_votes = epoch_is.frozen.proposals.votes;
        pending = epoch_is.pending;
        pots = pots_are;
      }

      says : told_by whole ≡ g
      says = λ i. record {
        governance = (live_shows i).0.0;
        params = (live_shows i).0.1;
        books = (live_shows i).1.0;
        stakes = (epoch_shows i).1;
        amounts = record { pending = (epoch_shows i).0.0; rewards = (epoch_shows i).0.1; pots = pots_are i; used = (live_shows i).1.2 };
        actions = (live_shows i).1.1;
        frozen = (epoch_shows i).2;
      }

      same_lists : (x : StateLists × ℕ) → IsListed x.0 → told_by x ≡ g → whole ≡ x
      same_lists x k e =
          let live : v ≡ live_part x = same_live x k e in
          let epoch : a ≡ epoch_part x = same_of of_epoch (epoch_part x) (epoch_beside x k e) (λ i. (((e i).amounts.pending, (e i).amounts.rewards), (e i).stakes, (e i).frozen)) in
          let pots : g.amounts.pots ≡ x.0.pots = (λ i. (sym e i).amounts.pots) ∙ k.pots in
          λ i. state_of (pots i) (live i) (epoch i)

      pub lists_only : Only (Some whole)
      lists_only = only_one (λ (x : StateLists × ℕ). IsListed x.0) told_by g whole listed says same_lists

      pub are_shown : has_gathered_form g ≡ true → are_short_lines (map action_words v.1.proposals) ≡ true → IsShown whole.0
      are_shown formed short = shown_by whole.0 whole.1 listed (ap has_gathered_form says ∙ formed) short
