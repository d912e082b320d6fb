use Rattle.pass_replay.proofs.checked.check.Goals as goal

pub returns : goal.returns
returns c = record {
  proposals = c.requires.distinct;
  voters = c.requires.voters;
  members = c.requires.members;
  dreps = c.in_ok-check_dreps.ensures;
  pools = c.in_ok-check_pools.ensures;
}
