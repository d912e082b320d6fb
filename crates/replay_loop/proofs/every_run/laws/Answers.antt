use Rattle.replay_loop.proofs.LawsHold.{reached, refused, supply, within}
use Rattle.replay_loop.proofs.Certificates.{certificates_are_whole}
use Rattle.replay_loop.proofs.Lasts.{checkpoint_is_whole, outlook_is_whole, shortfall_is_whole}
use Rattle.replay_loop.proofs.Workers.{summaries_are_one, texts_are_one}
use Rattle.replay_loop.proofs.every_run.laws.Goals as goal

pub returns-clause-within : goal.returns-clause-within
returns-clause-within c = within c.lines_read_within_limits.ensures

pub returns-clause-reached : goal.returns-clause-reached
returns-clause-reached c = reached

pub returns-clause-supply : goal.returns-clause-supply
returns-clause-supply c = supply c.supply_stays.ensures

pub returns-clause-refused : goal.returns-clause-refused
returns-clause-refused c = refused

pub returns-clause-one_text : goal.returns-clause-one_text
returns-clause-one_text c = texts_are_one

pub returns-clause-one_summary : goal.returns-clause-one_summary
returns-clause-one_summary c = summaries_are_one

pub returns-clause-assets : goal.returns-clause-assets
returns-clause-assets c = c.assets_change_by_mint.ensures

pub returns-clause-whole_shortfall : goal.returns-clause-whole_shortfall
returns-clause-whole_shortfall c = shortfall_is_whole

pub returns-clause-whole_outlook : goal.returns-clause-whole_outlook
returns-clause-whole_outlook c = outlook_is_whole

pub returns-clause-whole_checkpoint : goal.returns-clause-whole_checkpoint
returns-clause-whole_checkpoint c = checkpoint_is_whole

pub returns-clause-whole_certificates : goal.returns-clause-whole_certificates
returns-clause-whole_certificates c = certificates_are_whole
