-- The parts that were read are those of the parameters.
use Rattle.param_kinds.proofs.ParamParts.{no_params, some_params}
use Rattle.param_kinds.proofs.params.read_params.Goals as goal

pub returns-in-Some-clause-reads : goal.returns-in-Some-clause-reads
returns-in-Some-clause-reads g c =
    let reads = rw c.in-Some.is at c.in_ok-all.ensures.reads in
    some_params c.in-Some.all c.params_of.result c.params_of.ensures reads

pub returns-in-None-clause-reads : goal.returns-in-None-clause-reads
returns-in-None-clause-reads g c =
    let reads = rw c.in-None.is at c.in_ok-all.ensures.reads in
    no_params reads
