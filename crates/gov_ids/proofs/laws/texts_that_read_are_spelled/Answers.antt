use Rattle.gov_ids.proofs.Spelled.{account_spelled, action_id_spelled, address_spelled, credential_spelled, drep_spelled, hash_spelled, pool_spelled, ref_spelled, voter_spelled}
use Rattle.gov_ids.proofs.laws.texts_that_read_are_spelled.Goals as goal

pub returns : goal.returns
returns c = record {
  hash = hash_spelled;
  credential = credential_spelled;
  account = account_spelled;
  address = address_spelled;
  output = ref_spelled;
  action = action_id_spelled;
  pool = pool_spelled;
  drep = drep_spelled;
  voter = voter_spelled;
}
