-- A giver of the lines of another one up to and with the first `end`. (Own)
use Rattle.std.specs.Prelude.{◌≡◌, ℕ, ◌++◌, ◌⊎◌, Bool, true, false, not, List, [], ◌∷◌, Option, option_map, bytes_eq, codes, if◌then◌else◌, ⊤}
use Rattle.std.proofs.Common.{inl, inr}
use Rattle.byte_lines.specs.declared.lines.Line.{Line}
use Rattle.byte_lines.specs.declared.lines.Line.TheVariants.{Whole}
use Rattle.line_giver.specs.Giving.{Giving, known_after, lines_of_giving}
use Rattle.ended_lines.specs.Ended.{has_end, is_end_line, up_to_end}
use Rattle.ended_lines.specs.declared.up_to_end.Stand.{Stand}
use Rattle.ended_lines.specs.declared.up_to_end.Stand.TheVariants.{Open, AtEnd, Ended, Over, Failed}

-- the `end` was passed
abbrev pub is_ended : Stand → Bool
is_ended Ended = true
is_ended _ = false

-- where the lines are at a line that is seen
abbrev pub stand_at : Line → List ℕ → Stand
stand_at Whole text = if bytes_eq text (codes "end") then AtEnd else Open
stand_at _ text = Open

-- where they are once it is passed
abbrev pub stand_after : Stand → Stand
stand_after AtEnd = Ended
stand_after s = s

-- one line is seen, and it is the `end`
abbrev pub sees_end : List (Option (List ℕ)) → Bool
sees_end (line ∷ []) = is_end_line line
sees_end _ = false

-- one line is seen, and it is not the `end`
abbrev pub sees_other : List (Option (List ℕ)) → Bool
sees_other (line ∷ []) = not (is_end_line line)
sees_other _ = false

-- what is seen of what the other giver sees
abbrev pub seen_up_to : Stand → Giving → List (Option (List ℕ))
seen_up_to Open g = if sees_other g.seen then g.seen else []
seen_up_to AtEnd g = if sees_end g.seen then g.seen else []
seen_up_to _ g = []

-- the lines after it, up to and with the first `end`
abbrev pub after_up_to : Stand → Giving → Option (List (Option (List ℕ)))
after_up_to Open g = option_map up_to_end (if sees_other g.seen then g.after else lines_of_giving g)
after_up_to AtEnd g = if sees_end g.seen then option_map (λ ls. []) g.after else option_map up_to_end (lines_of_giving g)
after_up_to Ended g = option_map (λ ls. []) g.after
after_up_to _ g = option_map up_to_end (lines_of_giving g)

-- what is given of what the other giver has
abbrev pub giving_up_to : Stand → Giving → Giving
giving_up_to s g = record { text = g.text; seen = seen_up_to s g; after = after_up_to s g }

-- what an error leaves: no line is seen
abbrev pub is_left_by_error : Stand → Giving → Type 0
is_left_by_error Over g = g.seen ≡ []
is_left_by_error Failed g = g.seen ≡ []
is_left_by_error _ g = ⊤

-- the other giver is over its limit
abbrev pub is_over_by : Stand → Type 0 → Type 0
is_over_by Over over = over
is_over_by _ over = ⊤

-- unless there was an error, no read failed
abbrev pub is_steady : Stand → ℕ → ℕ → Type 0
is_steady Over f g = ⊤
is_steady Failed f g = ⊤
is_steady _ f g = g ≡ f

-- since the other giver had this, so many reads having failed, these lines were passed
pub record IsUpTo (over : Type 0) (stand : Stand) (start : Giving) (failed : ℕ) (now : Giving) (faults : ℕ) (before : List (Option (List ℕ))) : Type 0 where
  pub left : lines_of_giving start ≡ known_after before (lines_of_giving now)
  pub front : up_to_end before ≡ before
  pub ended : has_end before ≡ is_ended stand
  pub error : is_left_by_error stand now
  pub limit : is_over_by stand over
  pub steady : is_steady stand failed faults

-- what lines are passed of: a stream of the other giver, of which these were passed before,
-- or what it had, and how many reads had failed
abbrev pub UpToOf : Type 0 → Type 0
UpToOf Stream = (Stream × List (Option (List ℕ))) ⊎ (Giving × ℕ)

-- of the stream these lines were passed
abbrev pub HasPassedUpTo : {Stream : Type 0} → (Stream → List (Option (List ℕ)) → Type 0) → Type 0 → Stand → Giving → ℕ → UpToOf Stream → List (Option (List ℕ)) → Type 0
HasPassedUpTo passed over stand now faults (inl s) before = passed s.0 (s.1 ++ before)
HasPassedUpTo passed over stand now faults (inr s) before = IsUpTo over stand s.0 s.1 now faults before
