-- Lines that are passed one after another, and how many they are.
use Rattle.std.proofs.Common.{ℕ, ◌+◌, ◌^◌, ◌<◌, ◌≤◌, ◌++◌, List, [], Option, length, refl, arith}
use Rattle.std.proofs.lemmas.List.{length-append}
use Rattle.byte_lines.specs.declared.lines.Line.{Line}
use Rattle.byte_lines.specs.declared.lines.Line.TheVariants.{Whole, TooLong, End}
use Rattle.line_giver.specs.Giving.{Giving, HasPassed, Sees, seen_line}
use Rattle.line_giver.proofs.Passing.{passed_both, passed_nothing}
use Rattle.state_reader.specs.Reads.{PassesAll}

-- at most so many lines were passed
pub record PassesFew {Stream : Type 0} (before after : Stream → List (Option (List ℕ)) → Type 0) (old new : Giving) (most : ℕ) : Type 0 where
  pub lines : List (Option (List ℕ))
  pub passed : HasPassed before after old new lines
  pub few : length lines ≤ most

pub none_passed : {Stream : Type 0} {p : Stream → List (Option (List ℕ)) → Type 0} {old : Giving} → PassesFew p p old old 0
none_passed = record { lines = []; passed = passed_nothing; few = omega arith }

-- one answer is at most one line
seen_few : (line : Line) (text : List ℕ) → length (seen_line line text) ≤ 1
seen_few Whole text = omega arith
seen_few TooLong text = omega arith
seen_few End text = omega arith

module _ {Stream : Type 0} {p q r : Stream → List (Option (List ℕ)) → Type 0} {old mid new : Giving} where
  -- a look at the next line, and then its pass
  pub few_more : {s : Stream → List (Option (List ℕ)) → Type 0} {next : Giving} {most : ℕ} (line : Line) → PassesFew p q old mid most → HasPassed q r mid next [] → Sees next line → HasPassed r s next new next.seen → PassesFew p s old new (most + 1)
  few_more {next = next} {most = most} line was look sees pass =
      let one : length next.seen ≤ 1 = rw sees.seen (seen_few line next.text) in
      record {
        lines = was.lines ++ [] ++ next.seen;
        passed = passed_both (was.lines ++ []) next.seen (passed_both was.lines [] was.passed look) pass;
        few = omega (arith, was.few, one, length-append (was.lines ++ []) next.seen, length-append was.lines []);
      }

  -- at the end all lines were passed
  pub all_passed : {most : ℕ} → most < 2 ^ 64 → PassesFew p q old mid most → HasPassed q r mid new [] → Sees new End → PassesAll p r old new
  all_passed bound was look sees = record {
    lines = was.lines ++ [];
    passed = passed_both was.lines [] was.passed look;
    through = sees.through refl;
    few = omega (arith, was.few, bound, length-append was.lines []);
  }
