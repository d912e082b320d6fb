use Rattle.std.proofs.Common.{ap, ◌∙◌}
use Rattle.std.specs.Hash.{le_bytes}
use Rattle.std.specs.Hash.DefaultHasher as sip
use Rattle.hash_seed.proofs.HashSeed.new.Goals as goal

pub returns : goal.returns
returns c =
    let first_fed = c.write_u64.ensures ∙ ap (λ h. sip.write h (le_bytes 8 c.args.first)) c.new-initial.ensures in
    let both_fed = c.write_u64-2.ensures ∙ ap (λ h. sip.write h (le_bytes 8 c.args.second)) first_fed in
    λ i. record { initial = both_fed i }
