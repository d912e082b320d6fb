-- The lines of what frozen proposals lack. (Own)
use Rattle.std.specs.Prelude.{ℕ, List, [], ◌∷◌, ◌++◌, Option, codes, decimal, flat_map, length, map, option_map}
use Rattle.coin_frac.specs.Fraction.{Fraction}
use Rattle.gov_ids.specs.declared.ActionId.{ActionId}
use Rattle.gov_ids.specs.declared.Credential.{Credential}
use Rattle.gov_ids.specs.Spelling.{action_id_text, credential_text}
use Rattle.gov_actions.specs.declared.action.Proposal.{Proposal}
use Rattle.gov_model.specs.Ratified.{order_of}
use Rattle.gov_model.specs.Snapshot.{Snapshot}
use Rattle.text_forms.specs.of_tx_records.declared.record.Reading.{Reading}
use Rattle.text_forms.specs.of_run_model.World.{World}
use Rattle.text_forms.specs.Lines.{text_of_bare}
use Rattle.text_forms.specs.Worlds.{world_of_readings}
use Rattle.text_forms.specs.of_text_model.Words.{Text, share_text}
use Rattle.shortfall_model.specs.declared.short.Short.{Short}
use Rattle.shortfall_model.specs.declared.short.Short.TheVariants as short
use Rattle.shortfall_model.specs.Silent.{short_of}

-- the count before any further vote, and the threshold
abbrev pub count_words : ℕ → ℕ → Fraction → List Text
count_words ayes total t = codes "yes" ∷ decimal ayes ∷ codes "of" ∷ decimal total ∷ codes "need" ∷ share_text t ∷ []

-- the count of Yes without the last one, if there is one
abbrev pub without_last_words : List (Credential × ℕ) → ℕ → List Text
without_last_words [] n = []
without_last_words (d ∷ ds) n = codes "short" ∷ decimal n ∷ []

-- a DRep that is to vote Yes
abbrev pub add_words : Credential × ℕ → List Text
add_words d = codes "add" ∷ credential_text d.0 ∷ decimal d.1 ∷ []

-- the lines of one proposal
abbrev pub short_lines : ActionId → Short → List (List Text)
short_lines id short.Never = (codes "shortfall" ∷ action_id_text id ∷ codes "never" ∷ []) ∷ []
short_lines id (short.None ayes total t) =
    (codes "shortfall" ∷ action_id_text id ∷ codes "none" ∷ count_words ayes total t) ∷ []
short_lines id (short.Least ds ayes total t n) =
    (codes "shortfall" ∷ action_id_text id ∷ codes "least" ∷ decimal (length ds) ∷ []
    ++ count_words ayes total t ++ without_last_words ds n)
    ∷ map add_words ds

-- the lines of all frozen proposals, in order of priority
abbrev pub shortfall_lines : Snapshot → List (List Text)
shortfall_lines f = flat_map (λ (a : Proposal). short_lines a.id (short_of f a)) (order_of f)

-- the text of a run that begins with a genesis that breaks no genesis rule
abbrev pub shortfall_of_readings : List (ℕ × Reading) → Option Text
shortfall_of_readings rs = option_map (λ (w : World). text_of_bare (shortfall_lines w.frozen)) (world_of_readings rs)
