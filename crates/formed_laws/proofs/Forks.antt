-- An allowed proposal of a hard fork is to a version of the Conway era or a later one.
use Rattle.std.proofs.Common.{◌≡◌, ℕ, ◌+◌, ◌≤◌, ◌==◌, List, [], ◌∷◌, Bool, true, false, ◌&&◌, ◌||◌, cond, inl, inr, Option, Some, None, find, nat_le, option_and_then, refl, arith}
use Rattle.std.specs.List.{AllByRecursion}
use Rattle.std.proofs.lemmas.Bool.{and_parts, eqb-true, false≢true, le-leb, leb-true, not-false, or_cases}
use Rattle.maps.specs.Words.{holds, none_or, some_and}
use Rattle.gov_ids.specs.declared.ActionId.{ActionId}
use Rattle.gov_ids.specs.Same.{same_action}
use Rattle.gov_actions.specs.declared.action.Action.{Action}
use Rattle.gov_actions.specs.declared.action.Action.TheVariants.{NoConfidence, UpdateCommittee, NewConstitution, HardForkInitiation, ParameterChange, TreasuryWithdrawals, Info}
use Rattle.gov_actions.specs.declared.action.Proposal.{Proposal}
use Rattle.gov_actions.specs.declared.action.Purpose.TheVariants as purpose
use Rattle.gov_actions.specs.declared.state.LastIds.{LastIds}
use Rattle.gov_actions.specs.Kinds.{purpose_of, same_purpose}
use Rattle.gov_model.specs.Lineage.{follows_version, is_last_enacted, is_live_of, is_next_version, may_follow, previous_version, version_of}
use Rattle.gov_model.specs.Proposals.{proposal_of}
use Rattle.tx_records.specs.declared.limits.TheConstants.{LEAST_MAJOR}
use Rattle.tx_records.specs.declared.tx.ProposalRecord.{ProposalRecord}
use Rattle.ledger_model.specs.Checks.{per_place_from}
use Rattle.ledger_model.specs.Ledger.{Ledger}
use Rattle.ledger_model.specs.ProposalRules.{action_checks, proposal_checks}
use Rattle.ledger_model.proofs.Unbroken.{IsUnbroken, unbroken-append, unbroken-cons, unbroken-per_place}
use Rattle.formed_laws.specs.Worlds.{is_conway_fork}

-- the next version is no earlier
next_conway : (old new : ℕ × ℕ) → is_next_version old new ≡ true → nat_le LEAST_MAJOR old.0 ≡ true → nat_le LEAST_MAJOR new.0 ≡ true
next_conway old new h k =
    let at_least : LEAST_MAJOR ≤ old.0 = leb-true LEAST_MAJOR old.0 k in
    elim (or_cases (new.0 == old.0 + 1 && new.1 == 0) (new.0 == old.0 && new.1 == old.1 + 1) h) [
      | inl a ↦ le-leb LEAST_MAJOR new.0 (omega (arith, at_least, eqb-true new.0 (old.0 + 1) (and_parts _ _ a).0))
      | inr a ↦ le-leb LEAST_MAJOR new.0 (omega (arith, at_least, eqb-true new.0 old.0 (and_parts _ _ a).0))
    ]

module _ (new : ℕ × ℕ) where
  abbrev IsNext : Option (ℕ × ℕ) → Type 0
  IsNext o = none_or (λ old. is_next_version old new) o ≡ true

  abbrev IsLater : Type 0
  IsLater = nat_le LEAST_MAJOR new.0 ≡ true

  of_action : (a : Action) → is_conway_fork a ≡ true → holds same_purpose (purpose_of a) purpose.HardFork ≡ true → IsNext (version_of a) → IsLater
  of_action (NoConfidence previous) f h k = absurd (false≢true h)
  of_action (UpdateCommittee previous remove add threshold) f h k = absurd (false≢true h)
  of_action (NewConstitution previous document script) f h k = absurd (false≢true h)
  of_action (HardForkInitiation previous version) f h k = next_conway version new k f
  of_action (ParameterChange previous update policy) f h k = absurd (false≢true h)
  of_action (TreasuryWithdrawals targets policy) f h k = absurd (false≢true h)
  of_action Info f h k = absurd (false≢true h)

  abbrev is_fork : Proposal → Bool
  is_fork p = holds same_purpose (purpose_of p.action) purpose.HardFork

  abbrev version_at : Proposal → Option (ℕ × ℕ)
  version_at p = version_of p.action

  of_found : (t : Proposal → Bool) (ps : List Proposal) → AllByRecursion (λ (p : Proposal). is_conway_fork p.action ≡ true) ps → some_and is_fork (find t ps) ≡ true → IsNext (option_and_then version_at (find t ps)) → IsLater
  of_found t [] f h k = absurd (false≢true h)
  of_found t (p ∷ ps) f h k =
      elim (t p) as (λ b. some_and is_fork (cond b (Some p) (find t ps)) ≡ true → IsNext (option_and_then version_at (cond b (Some p) (find t ps))) → IsLater) [
        | true ↦ λ h k. of_action p.action f.0 h k
        | false ↦ λ h k. of_found t ps f.1 h k
      ] h k

  of_live : (ps : List Proposal) (o : Option ActionId) → AllByRecursion (λ (p : Proposal). is_conway_fork p.action ≡ true) ps → some_and (is_live_of ps purpose.HardFork) o ≡ true
      → IsNext (option_and_then version_at (option_and_then (λ id. proposal_of id ps) o)) → IsLater
  of_live ps None f h k = absurd (false≢true h)
  of_live ps (Some id) f h k = of_found (λ (p : Proposal). same_action p.id id) ps f h k

  of_parent : (b : Bool) (ps : List Proposal) (current : ℕ × ℕ) (o : Option ActionId) → AllByRecursion (λ (p : Proposal). is_conway_fork p.action ≡ true) ps → nat_le LEAST_MAJOR current.0 ≡ true
      → (b || some_and (is_live_of ps purpose.HardFork) o) ≡ true → IsNext (previous_version b ps current o) → IsLater
  of_parent true ps current o f c h k = next_conway current new k c
  of_parent false ps current o f c h k = of_live ps o f h k

fork_of : (ps : List Proposal) (last : LastIds) (current : ℕ × ℕ) (a : Action) → AllByRecursion (λ (p : Proposal). is_conway_fork p.action ≡ true) ps → nat_le LEAST_MAJOR current.0 ≡ true
    → may_follow ps last a ≡ true → follows_version ps last current a ≡ true → is_conway_fork a ≡ true
fork_of ps last current (NoConfidence previous) f c h k = refl
fork_of ps last current (UpdateCommittee previous remove add threshold) f c h k = refl
fork_of ps last current (NewConstitution previous document script) f c h k = refl
fork_of ps last current (HardForkInitiation previous version) f c h k = of_parent version (is_last_enacted last purpose.HardFork previous) ps current previous f c h k
fork_of ps last current (ParameterChange previous update policy) f c h k = refl
fork_of ps last current (TreasuryWithdrawals targets policy) f c h k = refl
fork_of ps last current Info f c h k = refl

-- the proposals of a transaction whose rules hold
pub forks_of : (l d : Ledger) (n : ℕ) (ps : List ProposalRecord) → AllByRecursion (λ (p : Proposal). is_conway_fork p.action ≡ true) l.proposals → nat_le LEAST_MAJOR l.state.version.0 ≡ true
    → IsUnbroken (per_place_from (proposal_checks l d) n ps) → AllByRecursion (λ (p : ProposalRecord). is_conway_fork p.action ≡ true) ps
forks_of l d n [] f c h = tt
forks_of l d n (p ∷ ps) f c h =
    let parts = unbroken-per_place (proposal_checks l d) n p ps h in
    let a = unbroken-cons _ _ parts.0 in
    let b = unbroken-cons _ _ a.1 in
    let g = unbroken-cons _ _ b.1 in
    let e = unbroken-append (action_checks l d p.action) _ g.1 in
    let follow = unbroken-cons _ _ e.1 in
    let version = unbroken-cons _ _ follow.1 in
    (fork_of l.proposals l.state.last l.state.version p.action f c (not-false _ follow.0) (not-false _ version.0), forks_of l d (n + 1) ps f c parts.1)
