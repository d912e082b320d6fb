-- What all broken rules have to do with the first one; src/laws.rt has a function for each law.
use Rattle.std.specs.Prelude.{◌≡◌, ◌↔◌, List, [], ◌∷◌, None, Some}
use Rattle.text_forms.specs.of_run_model.Genesis.{genesis_fault}
use Rattle.text_forms.specs.of_run_model.Step.{refusal_of}
use Rattle.text_forms.specs.of_run_model.World.{World}
use Rattle.text_forms.specs.of_tx_records.declared.genesis.Genesis.{Genesis}
use Rattle.text_forms.specs.of_tx_records.declared.record.Reading.TheVariants.{Read}
use Rattle.text_forms.specs.of_tx_records.declared.record.Record.{Record}
use Rattle.text_forms.specs.of_tx_records.declared.record.Record.TheVariants as records
use Rattle.text_forms.specs.of_tx_records.declared.reply.Rule.{Rule}
use Rattle.explain_model.specs.Broken.{broken_by}
use Rattle.explain_model.specs.Explained.{problem_lines}

-- a record breaks no rule if and only if it is not refused
abbrev pub NoneWhereAccepted : Type 0
NoneWhereAccepted = (w : World) (r : Record) → (broken_by w r ≡ []) ↔ (refusal_of w r ≡ None)

-- where a record is refused, the rule of the refusal is the first of all that it breaks
abbrev pub FirstIsRefusal : Type 0
FirstIsRefusal = (w : World) (r : Record) (rule : Rule) → refusal_of w r ≡ Some rule →
    (rest : List Rule) × (broken_by w r ≡ rule ∷ rest)

-- a genesis has no line of a problem if and only if it breaks no genesis rule
abbrev pub NoLineWhereFounded : Type 0
NoLineWhereFounded = (g : Genesis) → (problem_lines (Read (records.Genesis g)) ≡ []) ↔ (genesis_fault g ≡ None)
