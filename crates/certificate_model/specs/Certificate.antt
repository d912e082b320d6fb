-- The text of a certificate: the frozen parts, the stakes of DReps,
-- and for each proposal the parts of its counts and its verdict. (Own)
use Rattle.std.specs.Prelude.{ℕ, List, [], ◌∷◌, ◌++◌, codes, decimal, flat_map, map, zip}
use Rattle.gov_ids.specs.declared.PoolId.{PoolId}
use Rattle.gov_ids.specs.Spelling.{action_id_text, pool_text}
use Rattle.gov_actions.specs.declared.action.Proposal.{Proposal}
use Rattle.gov_actions.specs.declared.tally.Tally.{Tally}
use Rattle.gov_model.specs.Ratified.{order_of, ratified_of, tallies_of}
use Rattle.gov_model.specs.Snapshot.{Snapshot}
use Rattle.text_model.specs.of_run_model.Report.{stakes_of}
use Rattle.text_forms.specs.Lines.{text_of_bare}
use Rattle.text_forms.specs.Snapshots.{action_words, expiry_words, pool_account_words}
use Rattle.text_model.specs.ActionWords.{kind_text, verdict_text}
use Rattle.text_model.specs.EpochLines.{role_texts, role_words, stake_words}
use Rattle.text_model.specs.ParamLines.{param_lines}
use Rattle.text_model.specs.StateLines.{account_words, committee_lines, proposal_lines, words_of_constitution, words_of_enacted}
use Rattle.text_model.specs.Words.{Text, version_text}
use Rattle.certificate_model.specs.Parts.{part_words, parts_of}

-- ---- the snapshot

-- the epoch that ends, with the version and the treasury at its beginning
abbrev pub certificate_words : Snapshot → List Text
certificate_words f =
    codes "certificate" ∷ codes "epoch" ∷ decimal f.epoch ∷ codes "version" ∷ version_text f.start.version ∷
    codes "treasury" ∷ decimal f.start.treasury ∷
    []

-- the stake of a pool of mark
abbrev pub mark_words : PoolId × ℕ → List Text
mark_words m = codes "mark" ∷ pool_text m.0 ∷ decimal m.1 ∷ []

-- a proposal with its votes and its action
abbrev pub whole_proposal_lines : Proposal → List (List Text)
whole_proposal_lines p = proposal_lines p ++ action_words p ∷ []

-- the snapshot, part after part
abbrev pub snapshot_lines : Snapshot → List (List Text)
snapshot_lines f =
    certificate_words f ∷ words_of_constitution f.start.document f.start.script ∷ []
    ++ committee_lines f.start.committee f.hot
    ++ words_of_enacted f.start.last ∷ []
    ++ param_lines f.start.params
    ++ map expiry_words f.dreps
    ++ map (pool_account_words f) f.mark
    ++ map mark_words f.mark
    ++ map account_words f.entries
    ++ flat_map whole_proposal_lines f.proposals

-- ---- the results

-- the counts, the needs and the verdict of a proposal
abbrev pub verdict_words : Tally → List Text
verdict_words t =
    codes "verdict" ∷ action_id_text t.id ∷ kind_text t.kind ∷ []
    ++ flat_map (λ x. role_words (x.0, x.1.0, x.1.1)) (zip role_texts (zip t.counts t.needs))
    ++ verdict_text t.verdict ∷ []

-- the parts of the counts of a proposal, and its verdict
abbrev pub claim_of_proposal : Snapshot → Proposal × Tally → List (List Text)
claim_of_proposal f (a, t) = map (part_words a) (parts_of f a) ++ verdict_words t ∷ []

-- the stakes of DReps, and the proposals in order of priority
abbrev pub claim_lines : Snapshot → List (List Text)
claim_lines f =
    map stake_words (stakes_of f)
    ++ flat_map (claim_of_proposal f) (zip (order_of f) (tallies_of f (ratified_of f)))
    ++ (codes "end" ∷ []) ∷ []

-- ---- all of it

-- the lines of the certificate of a snapshot
abbrev pub certificate_lines : Snapshot → List (List Text)
certificate_lines f = snapshot_lines f ++ claim_lines f

-- its text
abbrev pub certificate_text : Snapshot → Text
certificate_text f = text_of_bare (certificate_lines f)
