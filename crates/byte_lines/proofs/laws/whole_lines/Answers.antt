use Rattle.byte_lines.proofs.LawLemmas.{gives_first, gives_first_of_all, nothing_beyond}
use Rattle.byte_lines.proofs.PieceLemmas.{lines_of-append, open_of-no_feed, pieces_of-feed, whole-open}
use Rattle.byte_lines.proofs.TakenLemmas.{calls_add_up, fresh_gives_all}
use Rattle.byte_lines.proofs.laws.whole_lines.Goals as goal

pub returns-clause-pieces : goal.returns-clause-pieces
returns-clause-pieces c = pieces_of-feed

pub returns-clause-cuts : goal.returns-clause-cuts
returns-clause-cuts c = λ bytes. (whole-open bytes, open_of-no_feed bytes)

pub returns-clause-adds_up : goal.returns-clause-adds_up
returns-clause-adds_up c = lines_of-append

pub returns-clause-first : goal.returns-clause-first
returns-clause-first c = gives_first

pub returns-clause-first_of_all : goal.returns-clause-first_of_all
returns-clause-first_of_all c = gives_first_of_all

pub returns-clause-nothing_beyond : goal.returns-clause-nothing_beyond
returns-clause-nothing_beyond c = nothing_beyond

pub returns-clause-fresh : goal.returns-clause-fresh
returns-clause-fresh c = fresh_gives_all

pub returns-clause-calls : goal.returns-clause-calls
returns-clause-calls c = calls_add_up
