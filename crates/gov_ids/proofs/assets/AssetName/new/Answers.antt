use Rattle.gov_ids.proofs.assets.AssetName.new.Goals as goal
use Rattle.gov_ids.proofs.Padded.{over_zeros}

-- src/assets.rt:34:5
pub invariant_of-result : goal.invariant_of-result
invariant_of-result c = over_zeros c.copy_from_slice.new.self c.args.bytes.now c.copy_from_slice.ensures.after c.requires
