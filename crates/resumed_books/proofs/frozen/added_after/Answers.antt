use Rattle.std.specs.Map.{keys_of}
use Rattle.gov_ids.specs.Orders.{credential_cmp}
use Rattle.resume_checks.proofs.Ordered.{rising_from_set}
use Rattle.resumed_books.proofs.frozen.added_after.Goals as goal

pub has_key-requires : goal.has_key-requires
has_key-requires c = rising_from_set credential_cmp (keys_of c.args.entries.now) c.requires
