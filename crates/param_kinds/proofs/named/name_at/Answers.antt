use Rattle.param_kinds.proofs.named.name_at.Goals as goal

pub returns : goal.returns
returns c = c.word.ensures
