-- The lines of a certificate have no line feeds.
use Rattle.std.proofs.Common.{ℕ, List, [], ◌∷◌, ◌++◌, Option, Some, None, true, false, codes, cond, decimal, filter, filter_map, flat_map, map, nat_le, nat_lt, option_map, unwrap_or, zip, refl}
use Rattle.std.specs.List.{AllByRecursion, cons_option}
use Rattle.gov_ids.specs.declared.Credential.{Credential}
use Rattle.gov_ids.specs.declared.Drep.{Drep}
use Rattle.gov_ids.specs.declared.Drep.TheVariants as drep
use Rattle.gov_ids.specs.declared.PoolId.{PoolId}
use Rattle.gov_ids.specs.declared.Voter.TheVariants as voter
use Rattle.certificate_model.specs.Certificate.{certificate_lines, certificate_words, claim_lines, claim_of_proposal, mark_words, snapshot_lines, verdict_words, whole_proposal_lines}
use Rattle.certificate_model.specs.Parts.{Part, committee_parts, drep_part, drep_parts, member_part, part_words, parts_of, pool_part, pool_parts, weighty}
use Rattle.text_forms.specs.Snapshots.{action_words, expiry_words, pool_account_words}
use Rattle.text_forms.specs.of_gov_model.Ratified.{order_of, ratified_of, tallies_of}
use Rattle.text_forms.specs.of_gov_model.Sides.{active_dreps, hot_key_of, members_of, no_confidence_side, vote_of}
use Rattle.text_forms.specs.of_gov_model.Snapshot.{Snapshot}
use Rattle.text_forms.specs.of_run_model.Report.{stakes_of}
use Rattle.text_forms.specs.of_text_model.ActionWords.{kind_text, need_text, verdict_text}
use Rattle.text_forms.specs.of_text_model.EpochLines.{role_texts, role_words, stake_words}
use Rattle.text_forms.specs.of_text_model.StateLines.{account_words, words_of_constitution, words_of_enacted}
use Rattle.text_forms.specs.of_text_model.Words.{Text, fraction_text}
use Rattle.text_forms.specs.of_text_model.of_gov_actions.declared.action.ActionKind.{ActionKind}
use Rattle.text_forms.specs.of_text_model.of_gov_actions.declared.action.ActionKind.TheVariants as kind
use Rattle.text_forms.specs.of_text_model.of_gov_actions.declared.action.Proposal.{Proposal}
use Rattle.text_forms.specs.of_text_model.of_gov_actions.declared.action.Vote.TheVariants.{No, Abstain}
use Rattle.text_forms.specs.of_text_model.of_gov_actions.declared.tally.Need.{Need}
use Rattle.text_forms.specs.of_text_model.of_gov_actions.declared.tally.Need.TheVariants as need
use Rattle.text_forms.specs.of_text_model.of_gov_actions.declared.tally.Tally.{Tally}
use Rattle.text_forms.specs.of_text_model.of_gov_actions.declared.tally.Verdict.{Verdict}
use Rattle.text_forms.specs.of_text_model.of_gov_actions.declared.tally.Verdict.TheVariants as verdict
use Rattle.checkpoint_text_laws.specs.Laws.{CertificateHasNoFeed, CertificateIsCut}
use Rattle.checkpoint_text_laws.proofs.Checkpoint.{action_line, expiry_line, pool_line}
use Rattle.checkpoint_text_laws.proofs.Cut.{text_is_cut}
use Rattle.checkpoint_text_laws.proofs.Free.{AllFree, Each, IsFree, Lines, ◌⊕◌, all_both, both, dec, lines_flat, lines_map, no_feeds, one, row}
use Rattle.checkpoint_text_laws.proofs.Ids.{action_id, cred, drep_word, pool, share, version}
use Rattle.checkpoint_text_laws.proofs.Rows.{account_line, committee_are, constitution_line, enacted_line, params_are, proposal_are, vote_word}

-- ---- the snapshot

head_line : (f : Snapshot) → AllFree (certificate_words f)
head_line f = (refl, (refl, (dec f.epoch, (refl, (version f.start.version, (refl, (dec f.start.treasury, tt)))))))

mark_line : (m : PoolId × ℕ) → AllFree (mark_words m)
mark_line m = (refl, (pool m.0, (dec m.1, tt)))

whole_are : (p : Proposal) → Lines (whole_proposal_lines p)
whole_are p = proposal_are p ⊕ row (action_words p) (action_line p)

snapshot_are : (f : Snapshot) → Lines (snapshot_lines f)
snapshot_are f =
    row (certificate_words f) (head_line f)
    ⊕ row (words_of_constitution f.start.document f.start.script) (constitution_line f.start.document f.start.script)
    ⊕ committee_are f.start.committee f.hot
    ⊕ row (words_of_enacted f.start.last) (enacted_line f.start.last)
    ⊕ params_are f.start.params
    ⊕ lines_map expiry_words expiry_line f.dreps
    ⊕ lines_map (pool_account_words f) (pool_line f) f.mark
    ⊕ lines_map mark_words mark_line f.mark
    ⊕ lines_map account_words account_line f.entries
    ⊕ lines_flat whole_proposal_lines whole_are f.proposals

-- ---- words of the results

kind_word : (k : ActionKind) → IsFree (kind_text k)
kind_word kind.NoConfidence = refl
kind_word kind.UpdateCommittee = refl
kind_word kind.NewConstitution = refl
kind_word kind.HardForkInitiation = refl
kind_word kind.ParameterChange = refl
kind_word kind.TreasuryWithdrawals = refl
kind_word kind.Info = refl

need_word : (n : Need) → IsFree (need_text n)
need_word need.Nothing = refl
need_word need.Never = refl
need_word (need.Share s) = share s

verdict_word : (v : Verdict) → IsFree (verdict_text v)
verdict_word verdict.Ratified = refl
verdict_word verdict.Expired = refl
verdict_word verdict.Waiting = refl

count_word : (count : ℕ × ℕ) → IsFree (fraction_text count.0 count.1)
count_word count = both (decimal count.0 ++ codes "/") (decimal count.1) (both (decimal count.0) (codes "/") (dec count.0) refl) (dec count.1)

-- ---- parts

-- the role and the name of a part have no line feeds
abbrev IsPlain : Part → Type 0
IsPlain p = IsFree p.role × IsFree p.name

abbrev ArePlain : List Part → Type 0
ArePlain ps = Each IsPlain ps

weighty_all : (ps : List Part) → AllByRecursion IsPlain ps → AllByRecursion IsPlain (weighty ps)
weighty_all [] h = tt
weighty_all (p ∷ ps) h = elim (nat_lt 0 p.weight) as (λ b. AllByRecursion IsPlain (cond b (p ∷ weighty ps) (weighty ps))) [
  | true ↦ (h.0, weighty_all ps h.1)
  | false ↦ weighty_all ps h.1
]

weighty_plain : {ps : List Part} → ArePlain ps → ArePlain (weighty ps)
weighty_plain {ps} h = record { all = weighty_all ps h.all }

each_plain : {A : Type 0} (f : A → Part) → ((x : A) → IsPlain (f x)) → (xs : List A) → ArePlain (map f xs)
each_plain f each [] = record { all = tt }
each_plain f each (x ∷ xs) = record { all = (each x, (each_plain f each xs).all) }

member_plain : (a : Proposal) (o : Option Credential) (cold : Credential) (rest : List Part) → ArePlain rest → ArePlain (cons_option (option_map (member_part a cold) o) rest)
member_plain a None cold rest h = h
member_plain a (Some key) cold rest h = record { all = ((refl, cred cold), h.all) }

members_plain : (f : Snapshot) (a : Proposal) (ms : List (Credential × ℕ)) → ArePlain (filter_map (λ (m : Credential × ℕ). option_map (member_part a m.0) (hot_key_of f m.0)) ms)
members_plain f a [] = record { all = tt }
members_plain f a (m ∷ ms) = member_plain a (hot_key_of f m.0) m.0 _ (members_plain f a ms)

committee_plain : (f : Snapshot) (a : Proposal) → ArePlain (committee_parts f a)
committee_plain f a = members_plain f a (filter (λ (m : Credential × ℕ). nat_le f.epoch m.1) (members_of f.start.committee))

dreps_plain : (f : Snapshot) (a : Proposal) → ArePlain (drep_parts f a)
dreps_plain f a =
    each_plain (λ (c : Credential). drep_part f (drep.Registered c) (unwrap_or (vote_of a (voter.Drep c)) No)) (λ c. (refl, cred c)) (active_dreps f)
    ⊕ (one IsPlain (drep_part f drep.Abstain Abstain) (refl, refl) ⊕ one IsPlain (drep_part f drep.NoConfidence (no_confidence_side a.action)) (refl, refl))

pools_plain : (f : Snapshot) (a : Proposal) → ArePlain (pool_parts f a)
pools_plain f a = each_plain (λ (m : PoolId × ℕ). pool_part f a m.0) (λ m. (refl, pool m.0)) f.mark

parts_plain : (f : Snapshot) (a : Proposal) → ArePlain (parts_of f a)
parts_plain f a = weighty_plain (committee_plain f a) ⊕ weighty_plain (dreps_plain f a) ⊕ weighty_plain (pools_plain f a)

parts_are : (a : Proposal) (ps : List Part) → AllByRecursion IsPlain ps → Lines (map (part_words a) ps)
parts_are a [] h = record { all = tt }
parts_are a (p ∷ ps) h = row (part_words a p) (refl, (action_id a.id, (h.0.0, (h.0.1, (dec p.weight, (vote_word p.side, tt)))))) ⊕ parts_are a ps h.1

-- ---- verdicts

roles_are : (names : List Text) (told : List ((ℕ × ℕ) × Need)) → AllFree names → AllFree (flat_map (λ (x : Text × ((ℕ × ℕ) × Need)). role_words (x.0, x.1.0, x.1.1)) (zip names told))
roles_are [] told h = tt
roles_are (name ∷ names) [] h = tt
roles_are (name ∷ names) (t ∷ told) h = (h.0, (count_word t.0, (refl, (need_word t.1, roles_are names told h.1))))

verdict_line : (t : Tally) → AllFree (verdict_words t)
verdict_line t = (
  refl,
  (
    action_id t.id,
    (
      kind_word t.kind,
      all_both IsFree _ (verdict_text t.verdict ∷ []) (roles_are role_texts (zip t.counts t.needs) (refl, (refl, (refl, tt)))) (verdict_word t.verdict, tt),
    ),
  ),
)

-- ---- all of it

stake_line : (s : Drep × ℕ) → AllFree (stake_words s)
stake_line s = (refl, (drep_word s.0, (dec s.1, tt)))

claim_are : (f : Snapshot) (x : Proposal × Tally) → Lines (claim_of_proposal f x)
claim_are f (a, t) = parts_are a (parts_of f a) (parts_plain f a).all ⊕ row (verdict_words t) (verdict_line t)

claims_are : (f : Snapshot) → Lines (claim_lines f)
claims_are f =
    lines_map stake_words stake_line (stakes_of f)
    ⊕ lines_flat (claim_of_proposal f) (claim_are f) (zip (order_of f) (tallies_of f (ratified_of f)))
    ⊕ row (codes "end" ∷ []) (refl, tt)

certificate_are : (f : Snapshot) → Lines (certificate_lines f)
certificate_are f = snapshot_are f ⊕ claims_are f

pub has_no_feed : CertificateHasNoFeed
has_no_feed f = no_feeds (certificate_lines f) (certificate_are f).all

pub certificate_is_cut : CertificateIsCut
certificate_is_cut f more h = text_is_cut (certificate_lines f) more (has_no_feed f) h
