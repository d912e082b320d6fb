use Rattle.gov_ids.proofs.HashLemmas.{hash_of_bad_hex, hash_of_ok}
use Rattle.gov_ids.proofs.hashes.hash28.Goals as goal

pub returns-clause-ok : goal.returns-clause-ok
returns-clause-ok c = rw (c.read_hash.ensures, c.as_bytes.ensures.value) (hash_of_ok 28 c.args.text.now)

pub returns-clause-bad_hex : goal.returns-clause-bad_hex
returns-clause-bad_hex c = rw (c.read_hash.ensures, c.as_bytes.ensures.value) (hash_of_bad_hex 28 c.args.text.now)
