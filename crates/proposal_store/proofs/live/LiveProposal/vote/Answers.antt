use Rattle.std.proofs.Common.{◌≡◌, true, false, Option, is_some, refl, ap, sym, ◌∙◌}
use Rattle.gov_actions.specs.declared.action.Proposal.{Proposal}
use Rattle.gov_actions.specs.declared.action.Vote.{Vote}
use Rattle.gov_ids.specs.declared.Credential.{Credential}
use Rattle.gov_ids.specs.Orders.{voter_cmp}
use Rattle.maps.specs.Maps.{has_key}
use Rattle.proposal_store.specs.Voted.{is_drep, is_noted, noted_of}
use Rattle.proposal_store.proofs.Noting.{Notes}
use Rattle.proposal_store.proofs.OneVote.{first_vote, no_vote, once_again, once_put, same_votes, voted_again}
use Rattle.proposal_store.proofs.VotesNoted.{left_out, put_in}
use Rattle.proposal_store.proofs.live.LiveProposal.vote.Goals as goal

pub returns-then-is_some-clause-notes : goal.returns-then-is_some-clause-notes
returns-then-is_some-clause-notes c =
    let p = c.args.self.now in
    let there : has_key voter_cmp p.votes c.args.v ≡ true = ap (λ (o : Option Vote). is_some o) (sym c.vote_of.ensures) ∙ sym c.is_some.ensures ∙ c.if-is_some.true in
    same_votes p c.args.voted.now c.requires.noted c.put_vote.new.self (voted_again c.put_vote.result p c.put_vote.new.self c.args.v c.args.vote c.put_vote.ensures.ok c.put_vote.ensures.err there)

pub returns-in_err-note_vote-clause-notes : goal.returns-in_err-note_vote-clause-notes
returns-in_err-note_vote-clause-notes c = λ q id.
    let p = c.args.self.now in
    ap (λ (notes : Notes). is_noted notes q id) c.in_err-note_vote.ensures.err ∙ same_votes p c.args.voted.now c.requires.noted p (λ _. refl) q id

pub forget_vote-requires : goal.forget_vote-requires
forget_vote-requires c =
    let p = c.args.self.now in
    let absent : has_key voter_cmp p.votes c.args.v ≡ false = ap (λ (o : Option Vote). is_some o) (sym c.vote_of.ensures) ∙ sym c.is_some.ensures ∙ c.if-is_some.false in
    let put : (q : Credential) → noted_of c.note_vote.new.self q ≡ put_in (is_drep c.args.v q) p.id (noted_of c.args.voted.now q) = λ q.
    c.in_ok-note_vote.ensures.ok q ∙ ap (λ (x : Proposal). put_in (is_drep c.args.v q) x.id (noted_of c.args.voted.now q)) c.self.view_is in
    once_put p c.args.voted.now c.requires.noted c.args.v absent c.note_vote.new.self put c.requires.once

pub returns-clause-apart : goal.returns-clause-apart
returns-clause-apart c =
    let p = c.args.self.now in
    let absent : has_key voter_cmp p.votes c.args.v ≡ false = ap (λ (o : Option Vote). is_some o) (sym c.vote_of.ensures) ∙ sym c.is_some.ensures ∙ c.if-is_some.false in
    let put : (q : Credential) → noted_of c.note_vote.new.self q ≡ put_in (is_drep c.args.v q) p.id (noted_of c.args.voted.now q) = λ q.
    c.in_ok-note_vote.ensures.ok q ∙ ap (λ (x : Proposal). put_in (is_drep c.args.v q) x.id (noted_of c.args.voted.now q)) c.self.view_is in
    once_put p c.args.voted.now c.requires.noted c.args.v absent c.note_vote.new.self put c.requires.once

pub returns-clause-notes : goal.returns-clause-notes
returns-clause-notes c =
    let p = c.args.self.now in
    let absent : has_key voter_cmp p.votes c.args.v ≡ false = ap (λ (o : Option Vote). is_some o) (sym c.vote_of.ensures) ∙ sym c.is_some.ensures ∙ c.if-is_some.false in
    let put : (q : Credential) → noted_of c.note_vote.new.self q ≡ put_in (is_drep c.args.v q) p.id (noted_of c.args.voted.now q) = λ q.
    c.in_ok-note_vote.ensures.ok q ∙ ap (λ (x : Proposal). put_in (is_drep c.args.v q) x.id (noted_of c.args.voted.now q)) c.self.view_is in
    first_vote p c.args.voted.now c.requires.noted c.args.v absent c.note_vote.new.self put c.args.vote c.put_vote-2.new.self c.in-Ok.ensures.ok

pub returns-in_default-clause-notes : goal.returns-in_default-clause-notes
returns-in_default-clause-notes c =
    let p = c.args.self.now in
    let absent : has_key voter_cmp p.votes c.args.v ≡ false = ap (λ (o : Option Vote). is_some o) (sym c.vote_of.ensures) ∙ sym c.is_some.ensures ∙ c.if-is_some.false in
    let put : (q : Credential) → noted_of c.note_vote.new.self q ≡ put_in (is_drep c.args.v q) p.id (noted_of c.args.voted.now q) = λ q.
    c.in_ok-note_vote.ensures.ok q ∙ ap (λ (x : Proposal). put_in (is_drep c.args.v q) x.id (noted_of c.args.voted.now q)) c.self.view_is in
    let new = c.put_vote-2.new.self in
    let left : (q : Credential) → noted_of c.forget_vote.new.self q ≡ left_out (is_drep c.args.v q) p.id (noted_of c.note_vote.new.self q) = λ q.
    c.forget_vote.ensures q ∙ ap (λ (x : Proposal). left_out (is_drep c.args.v q) x.id (noted_of c.note_vote.new.self q)) (c.self-2.view_is ∙ c.in_default.ensures.err) in
    no_vote p c.args.voted.now c.requires.noted c.args.v absent c.note_vote.new.self put c.forget_vote.new.self left new c.in_default.ensures.err

pub returns-in_default-clause-apart : goal.returns-in_default-clause-apart
returns-in_default-clause-apart c =
    let p = c.args.self.now in
    let absent : has_key voter_cmp p.votes c.args.v ≡ false = ap (λ (o : Option Vote). is_some o) (sym c.vote_of.ensures) ∙ sym c.is_some.ensures ∙ c.if-is_some.false in
    let put : (q : Credential) → noted_of c.note_vote.new.self q ≡ put_in (is_drep c.args.v q) p.id (noted_of c.args.voted.now q) = λ q.
    c.in_ok-note_vote.ensures.ok q ∙ ap (λ (x : Proposal). put_in (is_drep c.args.v q) x.id (noted_of c.args.voted.now q)) c.self.view_is in
    let left : (q : Credential) → noted_of c.forget_vote.new.self q ≡ left_out (is_drep c.args.v q) p.id (noted_of c.note_vote.new.self q) = λ q.
    c.forget_vote.ensures q ∙ ap (λ (x : Proposal). left_out (is_drep c.args.v q) x.id (noted_of c.note_vote.new.self q)) (c.self-2.view_is ∙ c.in_default.ensures.err) in
    once_again p c.args.voted.now c.requires.noted c.args.v absent c.note_vote.new.self put c.forget_vote.new.self left c.requires.once
