use Rattle.checkpoint_reader.proofs.ParamReads.{params_result}
use Rattle.checkpoint_reader.proofs.params.ParamsPartPart.read_part.Goals as goal

pub returns-clause-reads : goal.returns-clause-reads
returns-clause-reads g c fits = params_result _ _ _ _ c.read_params.result c.read_params.ensures.reads
