-- No line of the results of a certificate is too long: a number has at most 64 digits as it is printed.
use Rattle.std.proofs.Common.{◌≡◌, ℕ, suc, zero, ◌+◌, ◌/◌, ◌%◌, ◌==◌, ◌≤◌, List, [], ◌∷◌, ◌++◌, Bool, true, false, cond, Option, Some, None, codes, decimal, filter, filter_map, flat_map, length, length-append, map, option_map, zip, nat_le, nat_lt, unwrap_or, arith}
use Rattle.std.specs.Fmt.{digit_glyph, digits, digits_onto}
use Rattle.std.specs.List.{AllByRecursion, cons_option, list_all}
use Rattle.maps.specs.Words.{fronts_from, none_or, with_fronts}
use Rattle.gov_ids.specs.declared.ActionId.{ActionId}
use Rattle.gov_ids.specs.declared.Credential.{Credential}
use Rattle.gov_ids.specs.declared.Drep.{Drep}
use Rattle.gov_ids.specs.declared.Drep.TheVariants as drep
use Rattle.gov_ids.specs.declared.PoolId.{PoolId}
use Rattle.gov_ids.specs.Spelling.{drep_text, pool_text}
use Rattle.gov_actions.specs.declared.action.ActionKind.{ActionKind}
use Rattle.gov_actions.specs.declared.action.ActionKind.TheVariants as kind
use Rattle.gov_actions.specs.declared.action.Proposal.{Proposal}
use Rattle.gov_actions.specs.declared.action.Vote.{Vote}
use Rattle.gov_actions.specs.declared.action.Vote.TheVariants.{Yes, No, Abstain}
use Rattle.gov_actions.specs.declared.state.Committee.{Committee}
use Rattle.gov_actions.specs.declared.tally.Need.{Need}
use Rattle.gov_actions.specs.declared.tally.Need.TheVariants as need
use Rattle.gov_actions.specs.declared.tally.Tally.{Tally}
use Rattle.gov_actions.specs.declared.tally.Verdict.{Verdict}
use Rattle.gov_actions.specs.declared.tally.Verdict.TheVariants as verdict
use Rattle.gov_actions.specs.Kinds.{priority_of}
use Rattle.gov_actions.specs.declared.state.EnactState.{EnactState}
use Rattle.gov_actions.specs.declared.tally.Role.TheVariants as role
use Rattle.gov_ids.specs.declared.Voter.TheVariants as voter
use Rattle.gov_model.specs.Enacted.{enacted_after}
use Rattle.gov_model.specs.Need.{need_of}
use Rattle.gov_model.specs.Ratified.{is_one_of, order_of, ratified_of, tallies_of, tally_of}
use Rattle.gov_model.specs.Sides.{active_dreps, hot_key_of, members_of, no_confidence_side, vote_count, vote_of}
use Rattle.gov_model.specs.Snapshot.{Snapshot}
use Rattle.gov_model.specs.Stake.{drep_stake}
use Rattle.run_model.specs.Report.{stakes_of}
use Rattle.dormant_laws.proofs.Lists.{all_append, all_made, all_passing, left_of, right_of}
use Rattle.text_forms.specs.Actions.{is_member, is_proposal}
use Rattle.text_forms.specs.Books as books
use Rattle.text_forms.specs.Ids.{is_action_id, is_credential}
use Rattle.text_forms.specs.States.{is_committee, is_state}
use Rattle.text_model.specs.ActionWords.{kind_text, need_text, verdict_text, vote_text}
use Rattle.text_model.specs.EpochLines.{stake_words}
use Rattle.text_model.specs.Words.{fraction_text}
use Rattle.certificate_model.specs.Certificate.{claim_lines, claim_of_proposal, verdict_words}
use Rattle.certificate_model.specs.Parts.{Part, committee_parts, drep_part, drep_parts, member_part, part_words, parts_of, pool_part, pool_parts, weighty}
use Rattle.further_laws.proofs.Widths.{AreLines, IsLine, IsWord, action_id, cred, pool, short_lines}
use Rattle.claim_lengths.specs.Laws.{ClaimsAreShort}

-- ---- numbers

digits_few : (k base : ℕ) (upper : Bool) (n : ℕ) (acc : List ℕ) → length (digits_onto k base upper n acc) ≤ k + length acc
digits_few zero base upper n acc = omega arith
digits_few (suc k) base upper n acc =
    let later : length (digits_onto k base upper (n / base) (digit_glyph upper (n % base) ∷ acc)) ≤ k + length (digit_glyph upper (n % base) ∷ acc) =
    digits_few k base upper (n / base) (digit_glyph upper (n % base) ∷ acc) in
    elim (n / base == 0) as (λ b. length (cond b (digit_glyph upper (n % base) ∷ acc) (digits_onto k base upper (n / base) (digit_glyph upper (n % base) ∷ acc))) ≤ suc k + length acc) [
      | true ↦ omega arith
      | false ↦ omega (arith, later)
    ]

decimal_few : (n : ℕ) → length (decimal n) ≤ 64
unfolding digits
decimal_few n = omega (arith, digits_few 64 10 false n [])

number_word : (n : ℕ) → IsWord (decimal n)
number_word n = omega (arith, decimal_few n)

fraction_word : (a b : ℕ) → IsWord (fraction_text a b)
fraction_word a b = omega (arith, length-append (decimal a ++ codes "/") (decimal b), length-append (decimal a) (codes "/"), decimal_few a, decimal_few b)

-- ---- other words

need_word : (n : Need) → IsWord (need_text n)
need_word need.Nothing = omega arith
need_word need.Never = omega arith
need_word (need.Share s) = fraction_word s.num s.den

vote_word : (v : Vote) → IsWord (vote_text v)
vote_word Yes = omega arith
vote_word No = omega arith
vote_word Abstain = omega arith

verdict_word : (v : Verdict) → IsWord (verdict_text v)
verdict_word verdict.Ratified = omega arith
verdict_word verdict.Expired = omega arith
verdict_word verdict.Waiting = omega arith

kind_word : (k : ActionKind) → IsWord (kind_text k)
kind_word kind.NoConfidence = omega arith
kind_word kind.UpdateCommittee = omega arith
kind_word kind.NewConstitution = omega arith
kind_word kind.HardForkInitiation = omega arith
kind_word kind.ParameterChange = omega arith
kind_word kind.TreasuryWithdrawals = omega arith
kind_word kind.Info = omega arith

-- ---- lists

-- what holds of each item, of each key of the items that pass
all_keys : {K V : Type 0} (P : K → Type 0) (p : K × V → Bool) (es : List (K × V)) → AllByRecursion (λ (e : K × V). P e.0) es → AllByRecursion P (map (λ (e : K × V). e.0) (filter p es))
all_keys P p es h = all_made (λ e. P e.0) P (λ e. e.0) (λ e k. k) (filter p es) (all_passing (λ e. P e.0) p es h)

all_true : {A : Type 0} (p : A → Bool) (P : A → Type 0) → ((x : A) → p x ≡ true → P x) → (xs : List A) → list_all p xs ≡ true → AllByRecursion P xs
all_true p P f [] h = tt
all_true p P f (x ∷ xs) h = (f x (left_of (p x) (list_all p xs) h), all_true p P f xs (right_of (p x) (list_all p xs) h))

-- ---- stakes

stake_line : (s : Drep × ℕ) → IsWord (drep_text s.0) → IsLine (stake_words s)
stake_line s h = ((omega arith, (h, (number_word s.1, tt))), omega arith)

stake_lines : (f : Snapshot) → AllByRecursion (λ (d : Credential × ℕ). is_credential d.0 ≡ true) f.dreps → AreLines (map stake_words (stakes_of f))
stake_lines f h =
    let ds : List Drep = map (λ (e : Credential × ℕ). drep.Registered e.0) f.dreps ++ drep.Abstain ∷ drep.NoConfidence ∷ [] in
    let names : AllByRecursion (λ (d : Drep). IsWord (drep_text d)) ds =
    all_append (λ (d : Drep). IsWord (drep_text d)) (map (λ (e : Credential × ℕ). drep.Registered e.0) f.dreps) (drep.Abstain ∷ drep.NoConfidence ∷ [])
    (all_made (λ (e : Credential × ℕ). is_credential e.0 ≡ true) (λ (d : Drep). IsWord (drep_text d)) (λ e. drep.Registered e.0) (λ e k. cred e.0 k) f.dreps h)
    (omega arith, (omega arith, tt)) in
    all_made (λ (s : Drep × ℕ). IsWord (drep_text s.0)) IsLine stake_words stake_line (stakes_of f)
    (all_passing (λ (s : Drep × ℕ). IsWord (drep_text s.0)) (λ s. nat_lt 0 s.1) (map (λ (d : Drep). (d, drep_stake f d)) ds)
    (all_made (λ (d : Drep). IsWord (drep_text d)) (λ (s : Drep × ℕ). IsWord (drep_text s.0)) (λ d. (d, drep_stake f d)) (λ d k. k) ds names))

-- ---- parts

-- the words of a part
abbrev IsFine : Part → Type 0
IsFine p = IsWord p.role × IsWord p.name

part_line : (a : Proposal) → is_action_id a.id ≡ true → (p : Part) → IsFine p → IsLine (part_words a p)
part_line a h p k = ((omega arith, (action_id a.id h, (k.0, (k.1, (number_word p.weight, (vote_word p.side, tt)))))), omega arith)

member_fine : (f : Snapshot) (a : Proposal) (o : Option Credential) (cold : Credential) (rest : List Part) → is_credential cold ≡ true → AllByRecursion IsFine rest
    → AllByRecursion IsFine (cons_option (option_map (member_part a cold) o) rest)
member_fine f a None cold rest h k = k
member_fine f a (Some key) cold rest h k = ((omega arith, cred cold h), k)

members_fine : (f : Snapshot) (a : Proposal) (ms : List (Credential × ℕ)) → AllByRecursion (λ (m : Credential × ℕ). is_credential m.0 ≡ true) ms
    → AllByRecursion IsFine (filter_map (λ (m : Credential × ℕ). option_map (member_part a m.0) (hot_key_of f m.0)) ms)
members_fine f a [] h = tt
members_fine f a (m ∷ ms) h = member_fine f a (hot_key_of f m.0) m.0 _ h.0 (members_fine f a ms h.1)

parts_fine : (f : Snapshot) (a : Proposal) → AllByRecursion (λ (m : Credential × ℕ). is_credential m.0 ≡ true) (members_of f.start.committee)
    → AllByRecursion (λ (d : Credential × ℕ). is_credential d.0 ≡ true) f.dreps → AllByRecursion (λ (m : PoolId × ℕ). IsWord (pool_text m.0)) f.mark
    → AllByRecursion IsFine (parts_of f a)
parts_fine f a members dreps mark =
    let named : AllByRecursion (λ (c : Credential). is_credential c ≡ true) (active_dreps f) = all_keys (λ (c : Credential). is_credential c ≡ true) (λ d. nat_le f.epoch d.1) f.dreps dreps in
    let seats : AllByRecursion IsFine (committee_parts f a) =
    members_fine f a (filter (λ (m : Credential × ℕ). nat_le f.epoch m.1) (members_of f.start.committee))
    (all_passing (λ (m : Credential × ℕ). is_credential m.0 ≡ true) (λ m. nat_le f.epoch m.1) (members_of f.start.committee) members) in
    let voters : AllByRecursion IsFine (drep_parts f a) =
    all_append IsFine (map (λ (c : Credential). drep_part f (drep.Registered c) (unwrap_or (vote_of a (voter.Drep c)) No)) (active_dreps f)) (drep_part f drep.Abstain Abstain ∷ drep_part f drep.NoConfidence (no_confidence_side a.action) ∷ [])
    (all_made (λ (c : Credential). is_credential c ≡ true) IsFine (λ c. drep_part f (drep.Registered c) (unwrap_or (vote_of a (voter.Drep c)) No)) (λ c k. (omega arith, cred c k)) (active_dreps f) named)
    ((omega arith, omega arith), ((omega arith, omega arith), tt)) in
    let pools : AllByRecursion IsFine (pool_parts f a) =
    all_made (λ (m : PoolId × ℕ). IsWord (pool_text m.0)) IsFine (λ m. pool_part f a m.0) (λ m k. (omega arith, k)) f.mark mark in
    all_append IsFine (weighty (committee_parts f a) ++ weighty (drep_parts f a)) (weighty (pool_parts f a))
    (all_append IsFine (weighty (committee_parts f a)) (weighty (drep_parts f a))
    (all_passing IsFine (λ p. nat_lt 0 p.weight) (committee_parts f a) seats)
    (all_passing IsFine (λ p. nat_lt 0 p.weight) (drep_parts f a) voters))
    (all_passing IsFine (λ p. nat_lt 0 p.weight) (pool_parts f a) pools)

-- ---- verdicts

verdict_line : (f : Snapshot) (ids : List ActionId) (x : List Proposal × Proposal) → is_action_id x.1.id ≡ true → IsLine (verdict_words (tally_of f ids x))
verdict_line f ids x h =
    let t : Tally = tally_of f ids x in
    let committee : ℕ × ℕ = vote_count role.Committee f x.1 in
    let dreps : ℕ × ℕ = vote_count role.Drep f x.1 in
    let pools : ℕ × ℕ = vote_count role.Pool f x.1 in
    let now : EnactState = enacted_after f (filter (is_one_of ids) x.0) in (
      (
        omega arith,
        (
          action_id x.1.id h,
          (
            kind_word t.kind,
            (
              omega arith,
              (
                fraction_word committee.0 committee.1,
                (
                  omega arith,
                  (
                    need_word (need_of role.Committee f now x.1.action),
                    (
                      omega arith,
                      (
                        fraction_word dreps.0 dreps.1,
                        (
                          omega arith,
                          (
                            need_word (need_of role.Drep f now x.1.action),
                            (
                              omega arith,
                              (
                                fraction_word pools.0 pools.1,
                                (
                                  omega arith,
                                  (
                                    need_word (need_of role.Pool f now x.1.action),
                                    (verdict_word t.verdict, tt),
                                  ),
                                ),
                              ),
                            ),
                          ),
                        ),
                      ),
                    ),
                  ),
                ),
              ),
            ),
          ),
        ),
      ),
      omega arith,
    )

fronts_hold : {A : Type 0} (P : A → Type 0) (front xs : List A) → AllByRecursion P xs → AllByRecursion (λ (x : List A × A). P x.1) (fronts_from front xs)
fronts_hold P front [] h = tt
fronts_hold P front (x ∷ xs) h = (h.0, fronts_hold P (front ++ x ∷ []) xs h.1)

-- ---- all results

claims_of : (f : Snapshot) → ((a : Proposal) → AllByRecursion IsFine (parts_of f a)) → (ps : List Proposal) (ts : List Tally)
    → AllByRecursion (λ (a : Proposal). is_action_id a.id ≡ true) ps → AllByRecursion (λ (t : Tally). IsLine (verdict_words t)) ts
    → AreLines (flat_map (claim_of_proposal f) (zip ps ts))
claims_of f fine [] ts h k = tt
claims_of f fine (a ∷ ps) [] h k = tt
claims_of f fine (a ∷ ps) (t ∷ ts) h k =
    all_append IsLine (claim_of_proposal f (a, t)) (flat_map (claim_of_proposal f) (zip ps ts))
    (all_append IsLine (map (part_words a) (parts_of f a)) (verdict_words t ∷ []) (all_made IsFine IsLine (part_words a) (part_line a h.0) (parts_of f a) (fine a)) (k.0, tt))
    (claims_of f fine ps ts h.1 k.1)

in_priority : (P : Proposal → Type 0) (ns : List ℕ) (ps : List Proposal) → AllByRecursion P ps → AllByRecursion P (flat_map (λ (n : ℕ). filter (λ (p : Proposal). priority_of p.action == n) ps) ns)
in_priority P [] ps h = tt
in_priority P (n ∷ ns) ps h = all_append P (filter (λ (p : Proposal). priority_of p.action == n) ps) _ (all_passing P (λ (p : Proposal). priority_of p.action == n) ps h) (in_priority P ns ps h)

end_line : IsLine (codes "end" ∷ [])
end_line = ((omega arith, tt), omega arith)

members_formed : (o : Option Committee) → none_or is_committee o ≡ true → AllByRecursion (λ (m : Credential × ℕ). is_credential m.0 ≡ true) (members_of o)
members_formed None h = tt
members_formed (Some c) h = all_true is_member (λ m. is_credential m.0 ≡ true) (λ m k. left_of _ _ k) c.members (right_of _ _ (left_of _ _ h))

pub claims_short : ClaimsAreShort
claims_short f h =
    let state : is_state f.start ≡ true = right_of _ _ h in
    let proposals = left_of _ _ h in
    let hots = left_of _ _ proposals in
    let accounts = left_of _ _ (left_of _ _ hots) in
    let stakes = left_of _ _ accounts in
    let formed : list_all is_proposal f.proposals ≡ true = left_of _ _ (right_of _ _ proposals) in
    let named : AllByRecursion (λ (p : Proposal). is_action_id p.id ≡ true) f.proposals =
    all_true is_proposal (λ p. is_action_id p.id ≡ true) (λ p k. left_of _ _ (left_of _ _ (left_of _ _ (left_of _ _ (left_of _ _ (left_of _ _ k)))))) f.proposals formed in
    let ordered : AllByRecursion (λ (p : Proposal). is_action_id p.id ≡ true) (order_of f) = in_priority (λ p. is_action_id p.id ≡ true) (0 ∷ 1 ∷ 2 ∷ 3 ∷ 4 ∷ 5 ∷ 6 ∷ []) f.proposals named in
    let dreps : AllByRecursion (λ (d : Credential × ℕ). is_credential d.0 ≡ true) f.dreps =
    all_true books.is_frozen_drep (λ d. is_credential d.0 ≡ true) (λ d k. left_of _ _ k) f.dreps (right_of _ _ (left_of _ _ stakes)) in
    let mark : AllByRecursion (λ (m : PoolId × ℕ). IsWord (pool_text m.0)) f.mark =
    all_true books.is_stake (λ m. IsWord (pool_text m.0)) (λ m k. pool m.0 (left_of _ _ k)) f.mark (right_of _ _ (right_of _ _ stakes)) in
    let members : AllByRecursion (λ (m : Credential × ℕ). is_credential m.0 ≡ true) (members_of f.start.committee) =
    members_formed f.start.committee (right_of _ _ (left_of _ _ (left_of _ _ (left_of _ _ (left_of _ _ state))))) in
    let told : AllByRecursion (λ (t : Tally). IsLine (verdict_words t)) (tallies_of f (ratified_of f)) =
    all_made (λ (x : List Proposal × Proposal). is_action_id x.1.id ≡ true) (λ (t : Tally). IsLine (verdict_words t)) (tally_of f (ratified_of f)) (verdict_line f (ratified_of f)) (with_fronts (order_of f))
    (fronts_hold (λ (p : Proposal). is_action_id p.id ≡ true) [] (order_of f) ordered) in
    short_lines (claim_lines f)
    (all_append IsLine (map stake_words (stakes_of f) ++ flat_map (claim_of_proposal f) (zip (order_of f) (tallies_of f (ratified_of f)))) ((codes "end" ∷ []) ∷ [])
    (all_append IsLine (map stake_words (stakes_of f)) (flat_map (claim_of_proposal f) (zip (order_of f) (tallies_of f (ratified_of f)))) (stake_lines f dreps)
    (claims_of f (λ a. parts_fine f a members dreps mark) (order_of f) (tallies_of f (ratified_of f)) ordered told))
    (end_line, tt))
