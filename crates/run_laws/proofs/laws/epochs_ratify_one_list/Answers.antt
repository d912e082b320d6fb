use Rattle.run_laws.proofs.Reach.{epochs_ratify_one_list}
use Rattle.run_laws.proofs.laws.epochs_ratify_one_list.Goals as goal

pub returns : goal.returns
returns c = epochs_ratify_one_list
