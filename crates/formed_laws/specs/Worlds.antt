-- Which Worlds have the form of the formats and hand it on. (Own)
use Rattle.std.specs.Prelude.{Bool, true, ◌&&◌, List, nat_le}
use Rattle.std.specs.List.{list_all}
use Rattle.gov_actions.specs.declared.action.Action.{Action}
use Rattle.gov_actions.specs.declared.action.Action.TheVariants.{HardForkInitiation}
use Rattle.gov_actions.specs.declared.action.Proposal.{Proposal}
use Rattle.tx_records.specs.declared.limits.TheConstants.{LEAST_MAJOR}
use Rattle.run_model.specs.World.{World}
use Rattle.checkpoint_model.specs.Resumable.{has_form}

-- a hard fork is to a version of the Conway era or a later one
abbrev pub is_conway_fork : Action → Bool
is_conway_fork (HardForkInitiation previous version) = nat_le LEAST_MAJOR version.0
is_conway_fork _ = true

-- so is each that is proposed
abbrev pub are_conway_forks : List Proposal → Bool
are_conway_forks ps = list_all (λ (p : Proposal). is_conway_fork p.action) ps

-- a World has the form, and no live or frozen proposal would take the form from it
abbrev pub keeps_form : World → Bool
keeps_form w = has_form w && are_conway_forks w.ledger.proposals && are_conway_forks w.frozen.proposals
