-- The laws over certificates, each proved where a public call cites it. (Own)
use Rattle.std.specs.Prelude.{◌≡◌, ℕ, not, Bool, List, filter, sum_by, true}
use Rattle.gov_ids.specs.declared.ActionId.{ActionId}
use Rattle.gov_actions.specs.declared.action.Proposal.{Proposal}
use Rattle.gov_actions.specs.declared.action.Vote.{Vote}
use Rattle.gov_actions.specs.declared.tally.Role.TheVariants as role
use Rattle.gov_actions.specs.Voting.{is_abstain, is_yes}
use Rattle.gov_model.specs.Ratified.{IsRatified, ratified_of}
use Rattle.gov_model.specs.Sides.{vote_count}
use Rattle.gov_model.specs.Snapshot.{Snapshot}
use Rattle.text_model.specs.of_run_model.Runs.{IsReached}
use Rattle.text_model.specs.of_run_model.World.{World}
use Rattle.text_forms.specs.Lines.{are_short_lines, joined_lines}
use Rattle.text_forms.specs.Snapshots.{is_snapshot}
use Rattle.certificate_model.specs.Certificate.{certificate_lines}
use Rattle.certificate_model.specs.Checked.{Answers}
use Rattle.certificate_model.specs.Fits.{Fits}
use Rattle.certificate_model.specs.Parts.{Part, committee_parts, drep_parts, pool_parts, weighty}

-- the weights of parts on Yes
abbrev pub yes_of : List Part → ℕ
yes_of ps = sum_by (λ (p : Part). p.weight) (filter (λ (p : Part). is_yes p.side) ps)

-- the weights of parts that are not on Abstain
abbrev pub total_of : List Part → ℕ
total_of ps = sum_by (λ (p : Part). p.weight) (filter (λ (p : Part). not (is_abstain p.side)) ps)

-- the printed parts of each role add up to the role's counts: yes and total
abbrev pub PartsAreTheCounts : Type 0
PartsAreTheCounts = (f : Snapshot) (a : Proposal) →
    ((yes_of (weighty (committee_parts f a)), total_of (weighty (committee_parts f a))) ≡ vote_count role.Committee f a)
    × ((yes_of (weighty (drep_parts f a)), total_of (weighty (drep_parts f a))) ≡ vote_count role.Drep f a)
    × ((yes_of (weighty (pool_parts f a)), total_of (weighty (pool_parts f a))) ≡ vote_count role.Pool f a)

-- the verdicts of a snapshot that fits are those of the one list that its pass ratifies
abbrev pub VerdictsAreOfOneList : Type 0
VerdictsAreOfOneList = (f : Snapshot) → Fits f →
    IsRatified f (ratified_of f) × ((others : List ActionId) → IsRatified f others → others ≡ ratified_of f)

-- a checker answers yes to the certificate of the frozen parts of every World that records reach,
-- if these have the form of the formats and no line is too long
abbrev pub ReachedIsCertified : Type 0
ReachedIsCertified = (w : World) → IsReached w → is_snapshot w.frozen ≡ true → are_short_lines (certificate_lines w.frozen) ≡ true →
    (answer : Bool) → Answers (joined_lines (certificate_lines w.frozen)) answer → answer ≡ true
