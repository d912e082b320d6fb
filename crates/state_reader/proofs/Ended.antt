-- Lines that were read up to the first `end`.
use Rattle.std.proofs.Common.{◌≡◌, ℕ, ◌++◌, ◌||◌, Bool, true, false, cond, flat_map, List, [], ◌∷◌, Option, Some, None, IsSome, IfOk, Result, Ok, Err, inl, inr, map, option_map, refl, ap, sym, ◌∙◌, subst, append-nil, append_assoc}
use Rattle.std.proofs.lemmas.Bool.{false≢true}
use Rattle.text_forms.specs.Lines.{joined}
use Rattle.text_model.specs.ParamLines.{param_lines}
use Rattle.text_model.specs.Words.{Text}
use Rattle.line_giver.specs.Giving.{Giving, HasPassed, IsThrough, PassesSome, lines_of_giving}
use Rattle.line_giver.proofs.Passing.{known_none}
use Rattle.line_parts.specs.Parts.{lines_of}
use Rattle.ended_lines.specs.Ended.{IsEnded, has_end, is_end_line, up_to_end}
use Rattle.ended_lines.specs.UpTo.{HasPassedUpTo, IsUpTo, UpToOf, giving_up_to, is_over_by}
use Rattle.ended_lines.specs.declared.up_to_end.Stand.{Stand}
use Rattle.ended_lines.specs.declared.up_to_end.Stand.TheVariants.{Open, Over}
use Rattle.ended_lines.proofs.Passing.{front_empty}
use Rattle.ended_lines.proofs.UpTo.{front_left}
use Rattle.text_forms.specs.Snapshots.{expiry_words}
use Rattle.text_model.specs.StateLines.{account_words, hot_words}
use Rattle.checkpoint_model.specs.Checkpoint.{frozen}
use Rattle.book_kinds.specs.Books.{vote_line}
use Rattle.book_kinds.specs.Frozen.{pool_account_line, proposal_id_line}
use Rattle.action_kinds.specs.Lines.{action_line}
use Rattle.state_kinds.specs.States.{end_line, treasury_line}
use Rattle.checkpoint_lists.specs.declared.gathered.FrozenRows.{FrozenRows}
use Rattle.checkpoint_lists.specs.Rows.{amount_rows, book_rows, governance_rows, rows_of, stake_rows}
use Rattle.checkpoint_reader.specs.declared.read.Gathered.{Gathered}
use Rattle.checkpoint_reader.specs.Gathered.{gathered_rows}
use Rattle.state_reader.specs.Reads.{ReadsAll, ReadsText}

-- ---- the `end` of a checkpoint

or_true : (b : Bool) → (b || true) ≡ true
or_true true = refl
or_true false = refl

-- lines that end with `end` have it
end_behind : (lines : List (List Text)) → has_end (lines_of (lines ++ end_line ∷ [])) ≡ true
end_behind [] = refl
end_behind (l ∷ lines) = ap (λ (b : Bool). is_end_line (Some (joined l)) || b) (end_behind lines) ∙ or_true (is_end_line (Some (joined l)))

-- so do lines before them
ended_behind : (front lines : List (List Text)) → has_end (lines_of (front ++ (lines ++ end_line ∷ []))) ≡ true
ended_behind front lines = ap (λ (t : List (List Text)). has_end (lines_of t)) (sym (append_assoc front lines (end_line ∷ []))) ∙ end_behind (front ++ lines)

-- the frozen lines before it
abbrev rows_before : FrozenRows → List (List Text)
rows_before f =
    frozen (treasury_line f.treasury) ∷ []
    ++ map (λ e. frozen (account_words e)) f.entries
    ++ map (λ d. frozen (expiry_words d)) f.dreps
    ++ map (λ h. frozen (hot_words h)) f.hot
    ++ map (λ p. frozen (pool_account_line p)) f.pools
    ++ flat_map (rows_of (λ p. frozen (proposal_id_line p)) (λ v. frozen (vote_line v))) f.proposals

rows_end : (g : Gathered) → has_end (lines_of (gathered_rows g)) ≡ true
rows_end g = ended_behind (governance_rows g.governance ++ param_lines g.params ++ book_rows g.books ++ stake_rows g.stakes ++ amount_rows g.amounts ++ map action_line g.actions) (rows_before g.frozen)

-- ---- lines up to it

empty_behind : (a ls : List (Option Text)) → [] ≡ a ++ ls → ls ≡ []
empty_behind [] ls e = sym e
empty_behind (l ∷ a) ls e = absurd cc

behind_by : (b : Bool) (l : Option Text) (a ls us : List (Option Text)) → cond b (l ∷ []) (l ∷ us) ≡ l ∷ a ++ ls → (b || has_end a) ≡ true → (us ≡ a ++ ls → has_end a ≡ true → ls ≡ []) → ls ≡ []
behind_by true l a ls us front has later = (let none : [] ≡ a ++ ls = cc in empty_behind a ls none)
behind_by false l a ls us front has later = (let rest : us ≡ a ++ ls = cc in later rest has)

-- nothing is behind the `end` in lines up to it
nothing_behind : (a ls : List (Option Text)) → up_to_end (a ++ ls) ≡ a ++ ls → has_end a ≡ true → ls ≡ []
nothing_behind [] ls front has = absurd (false≢true has)
nothing_behind (l ∷ a) ls front has = behind_by (is_end_line l) l a ls (up_to_end (a ++ ls)) front has (nothing_behind a ls)

through_of_front : (o : Option (List (Option Text))) → IsThrough (option_map up_to_end o) → IsThrough o
through_of_front None is = tt
through_of_front (Some lines) is = front_empty lines is

some_front : (o : Option (List (Option Text))) → IsSome o → IsSome (option_map up_to_end o)
some_front None is = is
some_front (Some lines) is = refl

-- ---- the lines of the other giver

module _ {Stream : Type 0} (p q : Stream → List (Option Text) → Type 0) (over over' : Type 0) (g g' : Giving) (stand : Stand) (f f' name name' : ℕ) where
  abbrev Before : ℕ × UpToOf Stream → List (Option Text) → Type 0
  Before s before = (name ≡ s.0) × HasPassedUpTo p over Open g f s.1 before

  abbrev After : ℕ × UpToOf Stream → List (Option Text) → Type 0
  After s before = (name' ≡ s.0) × HasPassedUpTo q over' stand g' f' s.1 before

  module _ (lines : List (Option Text)) (passed : HasPassed Before After (giving_up_to Open g) (giving_up_to stand g') lines) where
    -- since they began, by the name of the loan
    begun : (name' ≡ name) × IsUpTo over' stand g f g' f' lines
    begun =
        passed.of_stream (name, inr (g, f)) []
        (refl, record { left = sym (known_none (lines_of_giving g)); front = refl; ended = refl; error = tt; limit = tt; steady = refl })

    since : IsUpTo over' stand g f g' f' lines
    since = begun.1

    -- the same lines were passed
    same_passed : HasPassed p q g g' lines
    same_passed = record {
      of_stream = λ s before at. (passed.of_stream (name, inl (s, before)) [] (refl, subst (λ (t : List (Option Text)). p s t) (sym (append-nil before)) at)).1;
      left = since.left;
    }

    -- they are a whole text, if all of them were passed
    same_ended : IsThrough (lines_of_giving (giving_up_to stand g')) → IsEnded lines (lines_of_giving g')
    same_ended through = record {
      front = since.front;
      through = λ none. through_of_front (lines_of_giving g') (subst (λ (t : Option (List (Option Text))). IsThrough t) (front_left stand g' (sym since.ended ∙ none)) through);
    }

  -- so a whole text was passed, and this was read of it
  text_read : (read : Option Gathered) → ReadsAll Before After (giving_up_to Open g) (giving_up_to stand g') read → ReadsText p q g g' read
  text_read read is =
      let at = since is.lines is.passed in
      record {
        lines = is.lines;
        text = record { passed = same_passed is.lines is.passed; ended = same_ended is.lines is.passed is.through };
        rows = λ x e.
            let more = is.more x e in
            let none = nothing_behind (lines_of (gathered_rows x)) more.0 (sym (ap up_to_end more.1) ∙ at.front ∙ more.1) (rows_end x) in
            more.1 ∙ ap (λ (t : List (Option Text)). lines_of (gathered_rows x) ++ t) none ∙ append-nil (lines_of (gathered_rows x));
        each = λ known. is.each (subst (λ (t : Option (List (Option Text))). IsSome t) (sym (front_left Open g refl)) (some_front (lines_of_giving g) known));
      }

  pub text_read_if : {E : Type 0} (r : Result (Option Gathered) E) → IfOk r (ReadsAll Before After (giving_up_to Open g) (giving_up_to stand g')) → IfOk r (ReadsText p q g g')
  text_read_if (Ok read) is = text_read read is
  text_read_if (Err e) is = tt

  -- in each case some lines were passed
  pub some_passed : PassesSome Before After (giving_up_to Open g) (giving_up_to stand g') → PassesSome p q g g'
  some_passed is = record { lines = is.lines; passed = same_passed is.lines is.passed }

  -- what holds of the giver holds of the one that the loan gives back
  pub given_back : {A : Type 0} (P : A → Type 0) (given now : A) → (name ≡ name' → given ≡ now) → PassesSome Before After (giving_up_to Open g) (giving_up_to stand g') → P now → P given
  given_back P given now same is holds = subst P (sym (same (sym (begun is.lines is.passed).0))) holds

  -- the other giver is over its limit
  pub over_passed : PassesSome Before After (giving_up_to Open g) (giving_up_to stand g') → stand ≡ Over → over'
  over_passed is e = subst (λ (t : Stand). is_over_by t over') e (since is.lines is.passed).limit
