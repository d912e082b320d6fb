-- The first of the rules that a record breaks, and of the problems of a genesis.
use Rattle.std.proofs.Common.{◌≡◌, List, [], ◌∷◌, Some, None, map, refl, ap, sym, ◌∙◌}
use Rattle.std.specs.Prelude.{true}
use Rattle.std.proofs.lemmas.Option.{none-some, same_Some}
use Rattle.ledger_model.specs.Broken.{tx_checks}
use Rattle.ledger_model.specs.Checks.{breaks}
use Rattle.ledger_model.proofs.CheckLaws.{first_is_head, head_of}
use Rattle.text_forms.specs.of_run_model.Step.{block_checks, refusal_of, reward_checks}
use Rattle.text_forms.specs.of_run_model.World.{World}
use Rattle.text_forms.specs.of_tx_records.declared.record.Record.{Record}
use Rattle.text_forms.specs.of_tx_records.declared.record.Record.TheVariants as records
use Rattle.text_forms.specs.of_tx_records.declared.rules.TheConstants.{GENESIS_AGAIN}
use Rattle.genesis_problems.specs.declared.problem.GenesisProblem.{GenesisProblem}
use Rattle.genesis_problems.specs.Laws.{FirstProblem, first_rule, rule_of}
use Rattle.genesis_problems.specs.Problems.{genesis_problems}
use Rattle.explain_model.specs.Broken.{broken_by}
use Rattle.explain_model.specs.Explained.{problem_words}
use Rattle.explain_model.specs.Laws.{FirstIsRefusal, NoLineWhereFounded, NoneWhereAccepted}

-- ---- of a record

first_broken_by : (w : World) (r : Record) → head_of (broken_by w r) ≡ refusal_of w r
first_broken_by w (records.Genesis g) = first_is_head (breaks GENESIS_AGAIN true ∷ [])
first_broken_by w (records.Block slot pulse) = first_is_head (block_checks w.ledger slot pulse)
first_broken_by w (records.Rewards u) = first_is_head (reward_checks w u)
first_broken_by w (records.Tx tx) = first_is_head (tx_checks w.ledger tx)
first_broken_by w (records.Print what) = refl

empty : {A : Type 0} (xs : List A) → head_of xs ≡ None → xs ≡ []
empty [] e = refl
empty (x ∷ xs) e = absurd (none-some x (sym e))

begins : {A : Type 0} (xs : List A) (x : A) → head_of xs ≡ Some x → (rest : List A) × (xs ≡ x ∷ rest)
begins [] x e = absurd (none-some x e)
begins {A} (y ∷ ys) x e = (ys, ap (λ (z : A). z ∷ ys) (same_Some y x e))

pub none_where_accepted : NoneWhereAccepted
none_where_accepted w r =
    (λ e. sym (first_broken_by w r) ∙ ap head_of e, λ e. empty (broken_by w r) (first_broken_by w r ∙ e))

pub first_is_refusal : FirstIsRefusal
first_is_refusal w r rule e = begins (broken_by w r) rule (first_broken_by w r ∙ e)

-- ---- of a genesis

no_rule : (ps : List GenesisProblem) → map problem_words ps ≡ [] → first_rule ps ≡ None
no_rule [] e = refl
no_rule (p ∷ ps) e = absurd (none-some (problem_words p) (sym (ap head_of e)))

no_line : (ps : List GenesisProblem) → first_rule ps ≡ None → map problem_words ps ≡ []
no_line [] e = refl
no_line (p ∷ ps) e = absurd (none-some (rule_of p) (sym e))

pub no_line_where_founded : FirstProblem → NoLineWhereFounded
no_line_where_founded first g =
    (λ e. sym (first g) ∙ no_rule (genesis_problems g) e, λ e. no_line (genesis_problems g) (first g ∙ e))
