use Rattle.gen_load.proofs.registrations.begin_cert.Goals as goal

pub returns-clause-text : goal.returns-clause-text
returns-clause-text c = c.push_parts.ensures.text
