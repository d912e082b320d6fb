use Rattle.std.proofs.Common.{false, ◌∙◌}
use Rattle.proposal_store.specs.Voted.{has_vote, noted_of}
use Rattle.proposal_store.proofs.VotesNoted.{undone_by}
use Rattle.proposal_store.proofs.store.note_beside.Goals as goal

pub returns-in_default-note-clause-no_note : goal.returns-in_default-note-clause-no_note
returns-in_default-note-clause-no_note c = λ q.
    let p = c.args.p.now in
    c.forget_votes.ensures.without q
    ∙ undone_by (has_vote q p) false p.id (noted_of c.args.voted.now q) (noted_of c.note_votes.new.voted q) (c.requires.fresh q) (c.in-Ok.ensures.ok q)
