-- Text that is gathered for a sink. (Own)
use Rattle.std.specs.Prelude.{◌≡◌, ◌⊎◌, ℕ, ◌+◌, ◌++◌, List, [], Option, if◌then◌else◌, length, nat_lt, take}
use Rattle.std.specs.Io.KnownBytes.{append_known}
use Rattle.line_runs.specs.declared.batch.TheConstants.{BATCH_LIMIT}

-- what a sink took, and what is gathered for it
pub record Gathered : Type 0 where
  pub taken : Option (List ℕ)
  pub batch : List ℕ

-- with one line more; if it does not fit, what was gathered before is handed over first
abbrev pub with_gathered : Gathered → List ℕ → Gathered
with_gathered g line =
    if nat_lt BATCH_LIMIT (length g.batch + length line) then record { taken = append_known g.taken g.batch; batch = line }
    else record { taken = g.taken; batch = g.batch ++ line }

-- the line was not gathered: nothing changed,
-- or a prefix of what was gathered was handed over and the rest dropped
abbrev pub IsGatheredPart : Gathered → List ℕ → Gathered → Type 0
IsGatheredPart g line g' = ((n : ℕ) × (g' ≡ record { taken = append_known g.taken (take n g.batch); batch = [] })) ⊎ (g' ≡ g)

-- the first list is a prefix of the second
abbrev pub IsFront : List ℕ → List ℕ → Type 0
IsFront front text = (rest : List ℕ) × (text ≡ front ++ rest)

-- all of a text was emitted: a part to the sink after what was gathered, the rest is gathered
pub record TellsAll (taken taken' : Option (List ℕ)) (batch batch' text : List ℕ) : Type 0 where
  pub handed : List ℕ
  pub took : taken' ≡ append_known taken handed
  pub all : handed ++ batch' ≡ batch ++ text

-- a prefix of the text was emitted
pub record TellsPart (taken taken' : Option (List ℕ)) (batch batch' text : List ℕ) : Type 0 where
  pub handed : List ℕ
  pub took : taken' ≡ append_known taken handed
  pub front : IsFront (handed ++ batch') (batch ++ text)
