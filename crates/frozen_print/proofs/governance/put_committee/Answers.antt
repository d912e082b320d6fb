use Rattle.std.proofs.Common.{[], ◌∷◌, map}
use Rattle.gov_model.specs.Sides.{members_of}
use Rattle.text_model.specs.StateLines.{committee_words, hot_outside, hot_words, member_among}
use Rattle.report.proofs.Puts.{put_first, put_second, put_third}
use Rattle.frozen_print.proofs.governance.put_committee.Goals as goal

pub returns-in_err-put_one : goal.returns-in_err-put_one
returns-in_err-put_one g c =
    put_first (committee_words c.args.committee.now ∷ [])
    (map (member_among c.args.hot.now) (members_of c.args.committee.now))
    (map hot_words (hot_outside c.args.committee.now c.args.hot.now))
    c.in_err-put_one.ensures c.from_residual.ensures.1

pub returns-in_err-put_members : goal.returns-in_err-put_members
returns-in_err-put_members g c =
    put_second (committee_words c.args.committee.now ∷ [])
    (map (member_among c.args.hot.now) (members_of c.args.committee.now))
    (map hot_words (hot_outside c.args.committee.now c.args.hot.now))
    c.in_ok-put_one.ensures c.in_err-put_members.ensures c.from_residual-in_err-put_members.ensures.1

pub returns : goal.returns
returns g c =
    put_third (committee_words c.args.committee.now ∷ [])
    (map (member_among c.args.hot.now) (members_of c.args.committee.now))
    (map hot_words (hot_outside c.args.committee.now c.args.hot.now))
    c.in_ok-put_one.ensures c.in_ok-put_members.ensures c.put_other_keys.ensures
