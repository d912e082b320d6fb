-- The lines of a snapshot: those up to the proposals, then those.
use Rattle.std.proofs.Common.{◌≡◌, ◌++◌, Bool, true, false, ◌&&◌, List, [], ◌∷◌, Option, Some, None, Result, Ok, Err, IfOk, IfSome, codes, flat_map, refl, ap, sym, ◌∙◌, append_assoc, subst}
use Rattle.std.proofs.lemmas.Bool.{false≢true, and_from, and_parts, or_from, or_parts}
use Rattle.std.proofs.lemmas.Option.{none-some, same_Some}
use Rattle.std.specs.List.{list_all}
use Rattle.gov_model.specs.Snapshot.{Snapshot}
use Rattle.pparams.specs.declared.Params.{Params}
use Rattle.text_forms.specs.States.{are_params}
use Rattle.text_model.specs.ParamLines.{param_lines}
use Rattle.text_model.specs.Words.{Text}
use Rattle.line_giver.specs.Giving.{Giving, HasPassed, known_after, lines_of_giving}
use Rattle.line_parts.specs.Parts.{Comes, IsRead, both_have, lines_of, words_of_both}
use Rattle.line_parts.specs.Shapes.{Shape, begins_with, begins_with_one, is_next}
use Rattle.line_parts.proofs.Lefts.{left_after, lines_append, passed_words, some_none}
use Rattle.certificate_model.specs.Certificate.{snapshot_lines}
use Rattle.certificate_lists.specs.Items.{front_items}
use Rattle.certificate_lists.specs.Rows.{WholeRow, governed_rows, has_governed_form, has_snapshot_form, has_voter_form, is_whole_row, rows_shown, snapshot_rows, snapshot_stops, voter_rows, whole_rows}
use Rattle.certificate_lists.specs.Shapes.{each_shape, snapshot_shape}
use Rattle.certificate_lists.specs.declared.rows.GovernedRows.{GovernedRows}
use Rattle.certificate_lists.specs.declared.rows.SnapshotRows.{SnapshotRows}
use Rattle.certificate_lists.specs.declared.rows.VoterRows.{VoterRows}
use Rattle.certificate_lists.proofs.RowLaws.{and3, nest3}
use Rattle.certificate_lists.proofs.ShownRows.{shown_same}

-- ---- what is before the proposals

abbrev Front : Type 0
Front = GovernedRows × (Params × VoterRows)

abbrev pub front_form : Front → Bool
front_form = both_have has_governed_form (both_have are_params has_voter_form)

abbrev pub front_rows : Front → List (List Text)
front_rows = words_of_both governed_rows (words_of_both param_lines voter_rows)

-- with none of these the line after it may begin
abbrev front_stops : List Text
front_stops = codes "account " ∷ codes "mark " ∷ codes "pool " ∷ codes "drep " ∷ []

-- ---- what follows

-- the next line begins with none of several
none_of_both : (name : Text) (names : List Text) (more : List (Option Text)) → is_next (name ∷ names) more ≡ false → (is_next (name ∷ []) more ≡ false) × (is_next names more ≡ false)
none_of_both name names [] e = (refl, refl)
none_of_both name names (None ∷ more) e = (refl, refl)
none_of_both name names (Some line ∷ more) e =
    let both = or_parts (begins_with name line) (begins_with_one names line) e in
    (or_from (begins_with name line) false both.0 refl, both.1)

-- proposals, and then lines that begin with none of those before them
none_behind : (ps : List WholeRow) (more : List (Option Text)) → is_next snapshot_stops more ≡ false → is_next front_stops (lines_of (flat_map whole_rows ps) ++ more) ≡ false
none_behind [] more e = (none_of_both (codes "proposal ") front_stops more e).1
none_behind (p ∷ ps) more e = refl

-- ---- the lines of a snapshot

whole_form : (x : SnapshotRows) → has_snapshot_form x ≡ true → (front_form (front_items x) ≡ true) × (list_all is_whole_row x.proposals ≡ true)
whole_form x form =
    let both = and_parts (has_governed_form x.governed && are_params x.params && has_voter_form x.voters) (list_all is_whole_row x.proposals) form in
    (and3 (has_governed_form x.governed) (are_params x.params) (has_voter_form x.voters) ∙ both.0, both.1)

whole_lines : (x : SnapshotRows) → front_rows (front_items x) ++ flat_map whole_rows x.proposals ≡ snapshot_rows x
whole_lines x = ap (λ (t : List (List Text)). t ++ flat_map whole_rows x.proposals) (nest3 (governed_rows x.governed) (param_lines x.params) (voter_rows x.voters))

lines_left : (x : SnapshotRows) (more : List (Option Text)) → Some (lines_of (snapshot_rows x) ++ more) ≡ Some (lines_of (front_rows (front_items x)) ++ (lines_of (flat_map whole_rows x.proposals) ++ more))
lines_left x more =
    let front = front_rows (front_items x) in
    let behind = flat_map whole_rows x.proposals in
    ap (λ (t : List (List Text)). Some (lines_of t ++ more)) (sym (whole_lines x))
    ∙ ap (λ (t : List (Option Text)). Some (t ++ more)) (lines_append front behind)
    ∙ ap Some (append_assoc (lines_of front) (lines_of behind) more)

module _ (s : Shape) (stops : s.stops ≡ front_stops) where
  -- what is before the proposals comes
  front_comes : {left : Option (List (Option Text))} (x : SnapshotRows) (more : List (Option Text)) → Comes snapshot_shape has_snapshot_form snapshot_rows left x more
      → Comes s front_form front_rows left (front_items x) (lines_of (flat_map whole_rows x.proposals) ++ more)
  front_comes x more comes = record {
    form = (whole_form x comes.form).0;
    apart = subst (λ (t : List Text). is_next t (lines_of (flat_map whole_rows x.proposals) ++ more) ≡ false) (sym stops) (none_behind x.proposals more comes.apart);
    left = comes.left ∙ lines_left x more;
  }

  -- once that is passed, the proposals come
  proposals_come : {old new : Option (List (Option Text))} (x : SnapshotRows) (more : List (Option Text)) → old ≡ known_after (lines_of (front_rows (front_items x))) new → Comes snapshot_shape has_snapshot_form snapshot_rows old x more
      → Comes (each_shape (codes "proposal ")) (list_all is_whole_row) (flat_map whole_rows) new x.proposals more
  proposals_come {old} {new} x more was comes = record {
    form = (whole_form x comes.form).1;
    apart = (none_of_both (codes "proposal ") front_stops more comes.apart).0;
    left = left_after old new (lines_of (front_rows (front_items x))) (lines_of (flat_map whole_rows x.proposals) ++ more) was (comes.left ∙ lines_left x more);
  }

  module _ {Stream : Type 0} {p q : Stream → List (Option Text) → Type 0} {old new : Giving} where
    -- what is before the proposals was not read
    pub no_front : IsRead s front_form front_rows p q old new None → IsRead snapshot_shape has_snapshot_form snapshot_rows p q old new None
    no_front reads = record {
      form = λ x e. absurd (none-some x e);
      passed = λ x e. absurd (none-some x e);
      none = λ e firm. absurd (false≢true firm);
      some = λ may e. false≢true may;
      all = λ x more comes. absurd (none-some (front_items x) (reads.all (front_items x) (lines_of (flat_map whole_rows x.proposals) ++ more) (front_comes x more comes)));
    }

  module _ {Stream : Type 0} {p q : Stream → List (Option Text) → Type 0} {old mid : Giving} (i : Front) (first : IsRead s front_form front_rows p q old mid (Some i)) where
    -- it is what comes
    same_front : (x : SnapshotRows) (more : List (Option Text)) → Comes snapshot_shape has_snapshot_form snapshot_rows (lines_of_giving old) x more → i ≡ front_items x
    same_front x more comes = same_Some i (front_items x) (first.all (front_items x) (lines_of (flat_map whole_rows x.proposals) ++ more) (front_comes x more comes))

    -- so the proposals come next
    then_come : (x : SnapshotRows) (more : List (Option Text)) → Comes snapshot_shape has_snapshot_form snapshot_rows (lines_of_giving old) x more
        → Comes (each_shape (codes "proposal ")) (list_all is_whole_row) (flat_map whole_rows) (lines_of_giving mid) x.proposals more
    then_come x more comes = proposals_come x more (first.passed (front_items x) (ap Some (same_front x more comes))).left comes

  module _ {Stream : Type 0} {p q r : Stream → List (Option Text) → Type 0} {old mid new : Giving} (i : Front) (first : IsRead s front_form front_rows p q old mid (Some i)) where
    -- the proposals were not read
    pub no_proposals : IsRead (each_shape (codes "proposal ")) (list_all is_whole_row) (flat_map whole_rows) q r mid new None → IsRead snapshot_shape has_snapshot_form snapshot_rows p r old new None
    no_proposals second = record {
      form = λ x e. absurd (none-some x e);
      passed = λ x e. absurd (none-some x e);
      none = λ e firm. absurd (false≢true firm);
      some = λ may e. false≢true may;
      all = λ x more comes. absurd (none-some x.proposals (second.all x.proposals more (then_come i first x more comes)));
    }

    -- all were read
    pub snapshot_read : (x : SnapshotRows) (ps : List WholeRow) → front_items x ≡ i → x.proposals ≡ ps → IsRead (each_shape (codes "proposal ")) (list_all is_whole_row) (flat_map whole_rows) q r mid new (Some ps)
        → IsRead snapshot_shape has_snapshot_form snapshot_rows p r old new (Some x)
    snapshot_read x ps is are reads =
        let second : IsRead (each_shape (codes "proposal ")) (list_all is_whole_row) (flat_map whole_rows) q r mid new (Some x.proposals) = subst (λ (t : List WholeRow). IsRead (each_shape (codes "proposal ")) (list_all is_whole_row) (flat_map whole_rows) q r mid new (Some t)) (sym are) reads in
        let forms : has_snapshot_form x ≡ true = and_from _ (list_all is_whole_row x.proposals) (sym (and3 (has_governed_form x.governed) (are_params x.params) (has_voter_form x.voters)) ∙ ap front_form is ∙ first.form i refl) (second.form x.proposals refl) in
        let all : HasPassed p r old new (lines_of (snapshot_rows x)) =
        subst (λ t. HasPassed p r old new (lines_of t)) (whole_lines x) (passed_words (front_rows (front_items x)) (flat_map whole_rows x.proposals) (first.passed (front_items x) (ap Some (sym is))) (second.passed x.proposals refl)) in
        record {
          form = λ y e. subst (λ (t : SnapshotRows). has_snapshot_form t ≡ true) (same_Some x y e) forms;
          passed = λ y e. subst (λ (t : SnapshotRows). HasPassed p r old new (lines_of (snapshot_rows t))) (same_Some x y e) all;
          none = λ e firm. absurd (some_none x e);
          some = λ may e. some_none x e;
          all = λ y more comes.
              let front : front_items x ≡ front_items y = is ∙ same_front i first y more comes in
              let behind : x.proposals ≡ y.proposals = same_Some x.proposals y.proposals (second.all y.proposals more (then_come i first y more comes)) in
              λ k. Some (record { governed = (front k).0; params = (front k).1.0; voters = (front k).1.1; proposals = behind k });
        }

-- ---- what the reading of all lines says, clause by clause

module _ {E Stream : Type 0} (p q : Stream → List (Option Text) → Type 0) (old new : Giving) where
  pub forms_of : (r : Result (Option SnapshotRows) E) → IfOk r (IsRead snapshot_shape has_snapshot_form snapshot_rows p q old new) → IfOk r (λ g. IfSome g (λ x. has_snapshot_form x ≡ true))
  forms_of (Ok None) reads = tt
  forms_of (Ok (Some x)) reads = reads.form x refl
  forms_of (Err e) reads = tt

  pub all_passed : (r : Result (Option SnapshotRows) E) → IfOk r (IsRead snapshot_shape has_snapshot_form snapshot_rows p q old new) → IfOk r (λ g. IfSome g (λ x. HasPassed p q old new (lines_of (snapshot_rows x))))
  all_passed (Ok None) reads = tt
  all_passed (Ok (Some x)) reads = reads.passed x refl
  all_passed (Err e) reads = tt

  pub all_read : (r : Result (Option SnapshotRows) E) → IfOk r (IsRead snapshot_shape has_snapshot_form snapshot_rows p q old new)
      → IfOk r (λ g. (x : SnapshotRows) (more : List (Option Text)) → has_snapshot_form x ≡ true → is_next snapshot_stops more ≡ false → lines_of_giving old ≡ Some (lines_of (snapshot_rows x) ++ more) → g ≡ Some x)
  all_read (Ok g) reads = λ x more form apart left. reads.all x more (record { form = form; apart = apart; left = left })
  all_read (Err e) reads = tt

  pub snapshots_read : (r : Result (Option SnapshotRows) E) → IfOk r (IsRead snapshot_shape has_snapshot_form snapshot_rows p q old new)
      → IfOk r (λ g. (f : Snapshot) (more : List (Option Text)) → has_snapshot_form (rows_shown f) ≡ true → is_next snapshot_stops more ≡ false → lines_of_giving old ≡ Some (lines_of (snapshot_lines f) ++ more) → g ≡ Some (rows_shown f))
  snapshots_read (Ok g) reads = λ f more form apart left.
      reads.all (rows_shown f) more (record { form = form; apart = apart; left = left ∙ ap (λ (t : List (List Text)). Some (lines_of t ++ more)) (sym (shown_same f)) })
  snapshots_read (Err e) reads = tt
