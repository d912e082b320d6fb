use Rattle.gov_ids.proofs.Forms.{account_of-text, action_id_of-text, address_of-text, credential_of-text, pool_of-text, ref_of-text}
use Rattle.gov_ids.proofs.HexCase.{hash_of-hash_text}
use Rattle.gov_ids.proofs.Spelled.{drep_of-text, voter_of-text}
use Rattle.gov_ids.proofs.laws.printed_texts_read_back.Goals as goal

pub returns : goal.returns
returns c = record {
  hash = hash_of-hash_text;
  credential = credential_of-text;
  account = account_of-text;
  address = address_of-text;
  output = ref_of-text;
  action = action_id_of-text;
  pool = pool_of-text;
  drep = drep_of-text;
  voter = voter_of-text;
}
