use Rattle.std.proofs.Common.{◌≡◌, false, sym, ◌∙◌, rules}
use Rattle.stake_book.proofs.Ended.{delegates_named, names_one}
use Rattle.undo_before.proofs.names.votes_by.Goals as goal

pub returns-in-Some-Abstain : goal.returns-in-Some-Abstain
returns-in-Some-Abstain c = let none : false ≡ names_one c.args.dreps.now.keys c.args.r.now.drep = search rules in none ∙ sym (delegates_named c.args.dreps.now.keys c.args.r.now)

pub returns-in-Some-Abstain-2 : goal.returns-in-Some-Abstain-2
returns-in-Some-Abstain-2 c = let none : false ≡ names_one c.args.dreps.now.keys c.args.r.now.drep = search rules in none ∙ sym (delegates_named c.args.dreps.now.keys c.args.r.now)
