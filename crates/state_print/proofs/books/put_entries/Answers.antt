use Rattle.gov_ids.specs.Orders.{credential_cmp}
use Rattle.text_model.specs.StateLines.{account_words}
use Rattle.state_print.proofs.Walks.{singles}
use Rattle.report.proofs.Handed.{put_as}
use Rattle.state_print.proofs.books.put_entries.Goals as goal

pub returns : goal.returns
returns g c = put_as (singles credential_cmp account_words c.args.stake.now.accounts.live) c.put_walk.ensures
