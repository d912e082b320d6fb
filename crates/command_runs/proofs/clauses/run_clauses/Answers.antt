use Rattle.command_runs.proofs.Following.{certifies_follow, checks_follow, complete_follows, explains_follow, faults_follow, follows_follow, loads_follow, replays_follow, resumes_follow, tells_follow, unread_follows, usage_follows}
use Rattle.replay_loop.proofs.Numbers.{numbers_tell}
use Rattle.command_runs.proofs.clauses.run_clauses.Goals as goal

pub returns-clause-usage : goal.returns-clause-usage
returns-clause-usage g c = usage_follows g.ports

pub returns-clause-unread : goal.returns-clause-unread
returns-clause-unread g c = unread_follows g.ports

pub returns-clause-replays : goal.returns-clause-replays
returns-clause-replays g c = replays_follow g.ports c.whole_lines.ensures.adds_up

pub returns-clause-loads : goal.returns-clause-loads
returns-clause-loads g c = loads_follow g.ports

pub returns-clause-tells : goal.returns-clause-tells
returns-clause-tells g c = tells_follow g.ports

pub returns-clause-explains : goal.returns-clause-explains
returns-clause-explains g c = explains_follow g.ports

pub returns-clause-follows : goal.returns-clause-follows
returns-clause-follows g c = follows_follow g.ports

pub returns-clause-certifies : goal.returns-clause-certifies
returns-clause-certifies g c = certifies_follow g.ports c.laws-4.ensures.whole_certificates c.certificates_are_right.ensures

pub returns-clause-resumes : goal.returns-clause-resumes
returns-clause-resumes g c = resumes_follow g.ports

pub returns-clause-checks : goal.returns-clause-checks
returns-clause-checks g c = checks_follow g.ports

pub returns-clause-faults : goal.returns-clause-faults
returns-clause-faults g c = faults_follow g.ports

pub returns-clause-complete : goal.returns-clause-complete
returns-clause-complete g c = complete_follows g.ports c.whole_lines.ensures.adds_up c.laws.ensures.complete c.laws-2.ensures.complete c.laws-3.ensures.complete

pub returns-clause-numbers : goal.returns-clause-numbers
returns-clause-numbers g c = numbers_tell
