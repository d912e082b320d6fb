use Rattle.std.proofs.Common.{Some}
use Rattle.claim_checks.proofs.meet.meet_claims.Given as goal

abbrev pub ghosts-pass_claims : goal.ghosts-pass_claims
ghosts-pass_claims g a = record { start = Some (record { name = a.giver.ghost_name; giver = a.giver.now }) }
