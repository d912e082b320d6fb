-- The committee and what cold keys authorized, by what lines show.
use Rattle.std.proofs.Common.{◌≡◌, ◌==◌, ℕ, true, false, length, List, [], ◌∷◌, Option, Some, None, map, refl, ap, sym, ◌∙◌, arith}
use Rattle.std.proofs.lemmas.Bool.{eqb-true, false≢true}
use Rattle.std.proofs.lemmas.Option.{none-some, same_Some}
use Rattle.coin_frac.specs.Fraction.{Fraction}
use Rattle.gov_ids.specs.declared.Credential.{Credential}
use Rattle.gov_ids.specs.Orders.{credential_cmp}
use Rattle.gov_actions.specs.declared.state.Committee.{Committee}
use Rattle.gov_actions.specs.declared.state.HotState.{HotState}
use Rattle.text_forms.specs.of_gov_model.Sides.{members_of}
use Rattle.checkpoint_lists.specs.Shown.{member_row}
use Rattle.shown_lists.specs.Only.{IsOnly}
use Rattle.shown_lists.specs.Shows.{MemberRow, hot_shown}
use Rattle.shown_lists.proofs.Present.{only_if, only_none}
use Rattle.text_forms.specs.Ids.{is_map}
use Rattle.text_forms.specs.of_text_model.StateLines.{hot_outside}
use Rattle.committee_rows.specs.Shown.{Governing, IsGoverning, governing_shown}

abbrev pub Entries : Type 0
Entries = List (Credential × HotState)

abbrev Members : Type 0
Members = List (Credential × ℕ)

-- what lines show of them
abbrev Rows : Type 0
Rows = Option Fraction × (List MemberRow × Entries)

-- ---- without a committee

-- without members, each entry is of another key
all_outside : (hot : Entries) → hot_outside None hot ≡ hot
all_outside [] = refl
all_outside (h ∷ hot) = ap (λ (t : Entries). h ∷ t) (all_outside hot)

-- a list of no length has no rows
pub no_rows : (rows : List MemberRow) → (length rows == 0) ≡ true → rows ≡ []
no_rows [] none = refl
no_rows (r ∷ rows) none = let e : length (r ∷ rows) ≡ 0 = eqb-true (length (r ∷ rows)) 0 none in absurd (omega (arith, e))

module _ (rows : List MemberRow) (others : Entries) where
  abbrev pub none_shown : Rows
  none_shown = (None, (rows, others))

  -- what shows no threshold is no committee
  no_committee : (g : Governing) → governing_shown g ≡ none_shown → (rows ≡ []) × (g ≡ (None, others))
  no_committee (None, hot) e = (
    sym (ap (λ (y : Rows). y.1.0) e),
    ap (λ (h : Entries). (None, h)) (sym (all_outside hot) ∙ ap (λ (y : Rows). y.1.1) e),
  )
  no_committee (Some c, hot) e = absurd (none-some c.threshold (sym (ap (λ (y : Rows). y.0) e)))

  pub without_some : rows ≡ [] → is_map credential_cmp others ≡ true → IsOnly IsGoverning governing_shown none_shown (Some (None, others))
  without_some empty ordered =
      only_if IsGoverning governing_shown none_shown (None, others) true
      (λ t. (record { members = refl; hot = ordered }, λ i. (None, (sym empty i, all_outside others i))))
      (λ x k e. (sym (no_committee x e).1, refl))

  pub without_none : (rows ≡ [] → is_map credential_cmp others ≡ true → ⊥) → IsOnly IsGoverning governing_shown none_shown None
  without_none never =
      only_none IsGoverning governing_shown none_shown
      (λ x k e. let no = no_committee x e in never no.0 (sym (ap (λ (g : Governing). is_map credential_cmp g.1) no.1) ∙ k.hot))

-- ---- with a committee

-- members of rows are those of the committee that they show
rows_members : (hot : Entries) (ms : Members) → map (λ (r : MemberRow). r.0) (map (member_row hot) ms) ≡ ms
rows_members hot [] = refl
rows_members hot (m ∷ ms) = ap (λ (t : Members). m ∷ t) (rows_members hot ms)

module _ (share : Fraction) (rows : List MemberRow) (others : Entries) where
  abbrev some_shown : Rows
  some_shown = (Some share, (rows, others))

  module _ (ms : Members) (of_rows : ms ≡ map (λ (r : MemberRow). r.0) rows) where
    abbrev committee : Committee
    committee = record { members = ms; threshold = share }

    -- what shows the threshold and the rows is a committee of their members
    the_committee : (g : Governing) → governing_shown g ≡ some_shown → g.0 ≡ Some committee
    the_committee (None, hot) e = absurd (none-some share (ap (λ (y : Rows). y.0) e))
    the_committee (Some c, hot) e =
        let members : c.members ≡ ms = sym (rows_members hot c.members) ∙ ap (λ (y : Rows). map (λ (r : MemberRow). r.0) y.1.0) e ∙ sym of_rows in
        let threshold : c.threshold ≡ share = same_Some c.threshold share (ap (λ (y : Rows). y.0) e) in
        λ i. Some (record { members = members i; threshold = threshold i })

    -- and its cold keys are shown as those of its members and others
    hot_is : (g : Governing) → governing_shown g ≡ some_shown → hot_shown ms g.1 ≡ (rows, others)
    hot_is g e =
        ap (λ (c : Option Committee). (governing_shown (c, g.1)).1) (sym (the_committee g e)) ∙ ap (λ (y : Rows). y.1) e

    pub unordered : is_map credential_cmp ms ≡ false → IsOnly IsGoverning governing_shown some_shown None
    unordered not =
        only_none IsGoverning governing_shown some_shown
        (λ x k e. false≢true (sym not ∙ ap (λ (c : Option Committee). is_map credential_cmp (members_of c)) (sym (the_committee x e)) ∙ k.members))

    abbrev pub Found : Option Entries → Type 0
    Found found = IsOnly (λ hot. is_map credential_cmp hot ≡ true) (hot_shown ms) (rows, others) found

    pub with_none : Found None → IsOnly IsGoverning governing_shown some_shown None
    with_none h = only_none IsGoverning governing_shown some_shown (λ x k e. none-some x.1 (h.all x.1 k.hot (hot_is x e)))

    pub with_some : is_map credential_cmp ms ≡ true → (hot : Entries) → Found (Some hot) → IsOnly IsGoverning governing_shown some_shown (Some (Some committee, hot))
    with_some ordered hot h =
        only_if IsGoverning governing_shown some_shown (Some committee, hot) true
        (λ t. (record { members = ordered; hot = h.kind hot refl }, ap (λ (y : List MemberRow × Entries). (Some share, y)) (h.some hot refl)))
        (λ x k e. (
          let same : hot ≡ x.1 = same_Some hot x.1 (h.all x.1 k.hot (hot_is x e)) in
              λ i. (sym (the_committee x e) i, same i),
          refl,
        ))
