use Rattle.claim_lengths.proofs.Claims.{claims_short}
use Rattle.claim_lengths.proofs.laws.claims_are_short.Goals as goal

pub returns : goal.returns
returns c = claims_short
