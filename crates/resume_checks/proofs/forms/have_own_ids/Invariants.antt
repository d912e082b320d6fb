use Rattle.std.proofs.Common.{◌≡◌, drop}
use Rattle.gov_ids.specs.Orders.{action_id_cmp}
use Rattle.gov_model.specs.Ratified.{ids_of}
use Rattle.maps.proofs.Fresh.{seen_or_repeats}
use Rattle.maps.specs.Words.{repeats}
use Rattle.resume_checks.proofs.forms.have_own_ids.Given as goal

-- all repeat if and only if one of the rest was seen, or the rest repeats
abbrev pub invariant-loop-proposal : goal.invariant-loop-proposal
invariant-loop-proposal l = seen_or_repeats action_id_cmp l.ids.keys (ids_of (drop l.proposal-index l.proposals)) ≡ repeats action_id_cmp (ids_of l.proposals)
