-- What a giver passed since the start.
use Rattle.std.proofs.Common.{◌≡◌, ℕ, List, Option, Some, None, subst, sym}
use Rattle.line_giver.specs.Giving.{Giving, PassesSome}
use Rattle.line_giver.proofs.Passing.{passes_both}
use Rattle.claim_checks.specs.Meeting.{IsSince, Loan}

module _ {G Stream : Type 0} (passed : G → Stream → List (Option (List ℕ)) → Type 0) (giving : G → Giving) where
  -- it passed some more lines
  pub since_more : (start : Option (Loan G)) (name : ℕ) (old new : G) → IsSince passed giving start (record { name = name; giver = old }) → PassesSome (passed old) (passed new) (giving old) (giving new)
      → IsSince passed giving start (record { name = name; giver = new })
  since_more None name old new since more = tt
  since_more (Some start) name old new since more = (since.0, passes_both since.1 more)

  -- by the start
  pub since_start : {start : Option (Loan G)} {old new : Loan G} → start ≡ Some old → IsSince passed giving start new → IsSince passed giving (Some old) new
  since_start {start} {old} {new} from since = subst (λ o. IsSince passed giving o new) from since

  -- its lender has it back
  pub passes_back : {old lent back : G} → PassesSome (passed old) (passed lent) (giving old) (giving lent) → back ≡ lent → PassesSome (passed old) (passed back) (giving old) (giving back)
  passes_back {old} {lent} {back} passes same = subst (λ g. PassesSome (passed old) (passed g) (giving old) (giving g)) (sym same) passes
