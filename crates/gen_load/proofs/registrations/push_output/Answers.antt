use Rattle.gen_load.proofs.registrations.push_output.Goals as goal

pub returns-clause-text : goal.returns-clause-text
returns-clause-text c = c.push_parts.ensures.text
