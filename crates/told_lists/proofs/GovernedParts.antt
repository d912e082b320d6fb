-- The clock, the state and the cold keys that lines show, from their parts.
use Rattle.std.proofs.Common.{◌≡◌, ℕ, true, nat_le, Option, Some, None, sym}
use Rattle.pparams.specs.declared.Params.{Params}
use Rattle.tx_records.specs.declared.limits.TheConstants.{LEAST_MAJOR}
use Rattle.resume_checks.specs.declared.clock.Clock.{Clock}
use Rattle.checkpoint_lists.specs.declared.gathered.Governance.{Governance}
use Rattle.committee_rows.specs.Shown.{Governing, IsGoverning, governing_shown}
use Rattle.shown_lists.specs.Only.{IsOnly}
use Rattle.shown_lists.proofs.Present.{only_none}
use Rattle.told_lists.specs.Parts.{IsClock, IsGoverned, clock_shown, governed_shown}
use Rattle.told_lists.specs.Parts.{Governance as Parts}
use Rattle.told_lists.proofs.Found.{kind_of, none_of, only_one, same_of, shows_of}

module _ (g : Governance) (params : Params) (treasury : ℕ) where
  abbrev Only : Option Parts → Type 0
  Only found = IsOnly IsGoverned governed_shown (g, params, treasury) found

  -- what says the clock, and what says the committee and the cold keys
  abbrev clock_said : (ℕ × ℕ) × (ℕ × ℕ × ℕ)
  clock_said = ((g.head.1, g.head.2), (g.now.0, g.now.1, g.now.3))

  pub no_governing : IsOnly IsGoverning governing_shown (g.threshold, (g.members, g.hot)) None → Only None
  no_governing only = only_none IsGoverned governed_shown (g, params, treasury) (λ x k e. none_of only (x.0.state.committee, x.1) k.governing (λ i. ((e i).0.threshold, ((e i).0.members, (e i).0.hot))))

  module _ (clock : Clock) (governing : Governing) (of_clock : IsOnly IsClock clock_shown clock_said (Some clock)) (of_governing : IsOnly IsGoverning governing_shown (g.threshold, (g.members, g.hot)) (Some governing)) where
    abbrev made : Parts
    made = (
      record {
        line = g.head.0;
        counted = g.head.3;
        clock = clock;
        state = record {
          params = params;
          version = g.now.2;
          committee = governing.0;
          document = g.constitution.0;
          script = g.constitution.1;
          last = g.last;
          treasury = treasury;
        };
      },
      governing.1,
    )

    same_parts : (x : Parts) → IsGoverned x → governed_shown x ≡ (g, params, treasury) → made ≡ x
    same_parts x k e =
        let back : (g, params, treasury) ≡ governed_shown x = sym e in
        let clock_same : clock ≡ x.0.clock = same_of of_clock x.0.clock k.clock (λ i. (((e i).0.head.1, (e i).0.head.2), ((e i).0.now.0, (e i).0.now.1, (e i).0.now.3))) in
        let same : governing ≡ (x.0.state.committee, x.1) =
        same_of of_governing (x.0.state.committee, x.1) k.governing (λ i. ((e i).0.threshold, ((e i).0.members, (e i).0.hot))) in
        λ i. (
          record {
            line = (back i).0.head.0;
            counted = (back i).0.head.3;
            clock = clock_same i;
            state = record {
              params = (back i).1;
              version = (back i).0.now.2;
              committee = (same i).0;
              document = (back i).0.constitution.0;
              script = (back i).0.constitution.1;
              last = (back i).0.last;
              treasury = (back i).2;
            };
          },
          (same i).1,
        )

    pub governed_only : nat_le LEAST_MAJOR g.now.2.0 ≡ true → Only (Some made)
    governed_only version =
        only_one IsGoverned governed_shown (g, params, treasury) made (record { clock = kind_of of_clock; version = version; governing = kind_of of_governing })
        (λ i. (
          record {
            head = (g.head.0, (shows_of of_clock i).0.0, (shows_of of_clock i).0.1, g.head.3);
            now = ((shows_of of_clock i).1.0, (shows_of of_clock i).1.1, g.now.2, (shows_of of_clock i).1.2);
            constitution = g.constitution;
            threshold = (shows_of of_governing i).0;
            members = (shows_of of_governing i).1.0;
            hot = (shows_of of_governing i).1.1;
            last = g.last;
          },
          params,
          treasury,
        )) same_parts
