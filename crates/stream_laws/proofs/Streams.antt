-- What holds of every World that a stream of bytes leaves.
use Rattle.std.proofs.Common.{List, None, Option, Some, [], ap, arith, codes, decimal, length, map, nat_le, refl, subst, sym, true, ℕ, ◌++◌, ◌+◌, ◌/◌, ◌<◌, ◌^◌, ◌∙◌, ◌∷◌, ◌≡◌, ◌≤◌}
use Rattle.std.proofs.Math.Nat.{div-le_self}
use Rattle.std.proofs.lemmas.Option.{none-some, same_Some}
use Rattle.std.specs.List.{enumerate_from, list_all}
use Rattle.std.proofs.lemmas.Bool.{and_from, eqb-true, le-leb, leb-true, lt-ltb, ltb-true}
use Rattle.std.proofs.lemmas.Fmt.{length-decimal-le}
use Rattle.std.proofs.lemmas.List.{length-append}
use Rattle.gov_ids.specs.declared.ActionId.{ActionId}
use Rattle.gov_ids.specs.declared.PoolId.{PoolId}
use Rattle.gov_ids.specs.declared.TxId.{TxId}
use Rattle.gov_ids.specs.Spelling.{action_id_text, hash_text}
use Rattle.gov_actions.specs.declared.action.Proposal.{Proposal}
use Rattle.tx_records.specs.declared.tx.ProposalRecord.{ProposalRecord}
use Rattle.text_forms.specs.Actions.{is_proposal}
use Rattle.text_forms.specs.ActionText.{action_text}
use Rattle.text_forms.specs.Ids.{is_action_id}
use Rattle.text_forms.specs.Lines.{are_short_lines, joined}
use Rattle.text_forms.specs.Snapshots.{action_words, is_snapshot}
use Rattle.checkpoint_model.specs.Laws.{all_proposed}
use Rattle.checkpoint_model.specs.Resumable.{has_book_form, has_form}
use Rattle.action_lengths.specs.Laws.{are_within, is_within}
use Rattle.claim_lengths.proofs.proofs_of_further_laws.Proposed.{reached_were_proposed}
use Rattle.claim_lengths.proofs.proofs_of_further_laws.Widths.{hash_few}
use Rattle.dormant_laws.proofs.Lists.{left_of, right_of}
use Rattle.coin_frac.specs.declared.TheConstants.{SUPPLY_LIMIT}
use Rattle.tx_records.specs.declared.genesis.Genesis.{Genesis}
use Rattle.tx_records.specs.declared.genesis.GenesisRule.{GenesisRule}
use Rattle.tx_records.specs.declared.limits.TheConstants.{LINE_LIMIT, LIST_LIMIT}
use Rattle.tx_records.specs.declared.record.Reading.{Reading}
use Rattle.tx_records.specs.declared.record.Reading.TheVariants.{Read, Malformed, TooLong}
use Rattle.tx_records.specs.declared.record.Record.{Record}
use Rattle.tx_records.specs.declared.record.Record.TheVariants as records
use Rattle.tx_records.specs.GenesisLimits as genesis_limits
use Rattle.tx_records.specs.RecordLimits.{is_within_limits}
use Rattle.gov_model.specs.Proposals.{deposits_of}
use Rattle.gov_model.specs.Snapshot.{entry_count}
use Rattle.maps.specs.Maps.{sum_values}
use Rattle.run_model.specs.Genesis.{genesis_fault, world_of_genesis}
use Rattle.run_model.specs.Runs.{IsReached, world_after_all}
use Rattle.run_model.specs.SoundWorld.{IsSoundWorld, held_by}
use Rattle.run_model.specs.World.{World}
use Rattle.claim_lengths.proofs.proofs_of_run_laws.Sound.{genesis_begins_sound, records_keep_sound}
use Rattle.text_forms.specs.Worlds.{world_after_readings, world_by, world_of_readings}
use Rattle.byte_lines.specs.Pieces.{pieces_of}
use Rattle.record_stream.specs.Records.{records_of}
use Rattle.formed_lines.specs.of_formed_laws.Records.{is_formed, is_formed_genesis}
use Rattle.formed_lines.proofs.proofs_of_formed_laws.Counts.{entries_are_few}
use Rattle.formed_lines.proofs.proofs_of_formed_laws.Reached.{reached_has_form}
use Rattle.claim_lengths.proofs.proofs_of_further_laws.Kept.{reached_is_resumable}
use Rattle.claim_lengths.proofs.proofs_of_further_laws.Reached.{reached_is_timed}
use Rattle.claim_lengths.proofs.Claims.{claims_short}
use Rattle.stream_laws.specs.Laws.{BytesAreCertified, BytesAreResumable, BytesCountFits, BytesGiveForm}
use Rattle.certificate_model.specs.Certificate.{claim_lines, snapshot_lines}
use Rattle.certificate_model.specs.Fits.{Fits}
use Rattle.stream_laws.proofs.FrozenLines.{frozen_within, join, snapshot_short}
use Rattle.stream_laws.proofs.Pieces.{filled, filled_within}
use Rattle.stream_laws.proofs.Readings.{AreGood, few_lines, formed_good, good_lines, held_good, read_records, registrations_few, runs, within_good}

-- a World that good records reach, of so many
record IsOf (n : ℕ) (w : World) : Type 0 where
  reached : IsReached w
  genesis : is_formed_genesis reached.genesis ≡ true
  records : list_all is_formed reached.records ≡ true
  few : length reached.records ≤ n
  held : list_all (are_within LINE_LIMIT) reached.records ≡ true

of_genesis : (o : Option GenesisRule) (g : Genesis) (rs : List (ℕ × Reading)) (w : World) (n : ℕ) → genesis_fault g ≡ o → genesis_limits.is_within_limits g ≡ true → is_formed_genesis g ≡ true
    → AreGood (read_records rs) → length (read_records rs) ≤ n → world_by o g rs ≡ Some w → IsOf n w
of_genesis (Some rule) g rs w n o h f k few e = absurd (none-some w e)
of_genesis None g rs w n o h f k few e = record {
  reached = record {
    genesis = g;
    records = read_records rs;
    within = h;
    all_within = within_good (read_records rs) k;
    no_fault = o;
    reached = sym (runs (world_of_genesis g) rs) ∙ same_Some (world_after_readings (world_of_genesis g) rs) w e;
  };
  genesis = f;
  records = formed_good (read_records rs) k;
  few = few;
  held = held_good (read_records rs) k;
}

of_readings : (rs : List (ℕ × Reading)) (w : World) (n : ℕ) → AreGood (read_records rs) → length (read_records rs) ≤ n → world_of_readings rs ≡ Some w → IsOf n w
of_readings [] w n k few e = absurd (none-some w e)
of_readings ((i, Read (records.Genesis g)) ∷ rs) w n k few e =
    of_genesis (genesis_fault g) g rs w n refl k.0.within k.0.formed k.1 (omega (arith, few)) e
of_readings ((i, Read (records.Block slot pulse)) ∷ rs) w n k few e = absurd (none-some w e)
of_readings ((i, Read (records.Rewards u)) ∷ rs) w n k few e = absurd (none-some w e)
of_readings ((i, Read (records.Tx tx)) ∷ rs) w n k few e = absurd (none-some w e)
of_readings ((i, Read (records.Print what)) ∷ rs) w n k few e = absurd (none-some w e)
of_readings ((i, Malformed field place) ∷ rs) w n k few e = absurd (none-some w e)
of_readings ((i, TooLong) ∷ rs) w n k few e = absurd (none-some w e)

of_bytes : (bytes : List ℕ) (w : World) → world_of_readings (records_of bytes) ≡ Some w → IsOf (filled (pieces_of bytes)) w
of_bytes bytes w e = of_readings (records_of bytes) w (filled (pieces_of bytes)) (good_lines 1 (pieces_of bytes)) (few_lines 1 (pieces_of bytes)) e

pub bytes_give_form : BytesGiveForm
bytes_give_form bytes w e =
    let o : IsOf (filled (pieces_of bytes)) w = of_bytes bytes w e in
    reached_has_form w o.reached o.genesis o.records

sound_all : (rs : List Record) (w : World) → IsSoundWorld w → list_all is_within_limits rs ≡ true → IsSoundWorld (world_after_all w rs)
sound_all [] w s h = s
sound_all (r ∷ rs) w s h = sound_all rs _ (records_keep_sound w r s (left_of (is_within_limits r) (list_all is_within_limits rs) h)) (right_of (is_within_limits r) (list_all is_within_limits rs) h)

sound : (w : World) → IsReached w → IsSoundWorld w
sound w h = subst (λ (v : World). IsSoundWorld v) h.reached (sound_all h.records (world_of_genesis h.genesis) (genesis_begins_sound h.genesis h.within h.no_fault) h.all_within)

accounts_few : (g : Genesis) → genesis_limits.is_within_limits g ≡ true → length g.accounts ≤ LIST_LIMIT
accounts_few g h =
    let third = left_of _ _ (left_of _ _ (left_of _ _ h)) in
    let sixth = left_of _ _ (left_of _ _ (left_of _ _ third)) in
    leb-true (length g.accounts) LIST_LIMIT (right_of _ _ (left_of _ _ (left_of _ _ sixth)))

supply_within : (g : Genesis) → genesis_limits.is_within_limits g ≡ true → genesis_fault g ≡ None → g.supply ≤ SUPPLY_LIMIT
supply_within g h e = (genesis_begins_sound g h e).ledger.within

pub bytes_count_fits : BytesCountFits
bytes_count_fits bytes w short e =
    let o : IsOf (filled (pieces_of bytes)) w = of_bytes bytes w e in
    let h : IsReached w = o.reached in
    let counted : w.counted ≤ entry_count w.frozen = (sound w h).counted in
    lt-ltb w.counted (2 ^ 64)
    (
    omega (
      arith,
      counted,
      entries_are_few w h,
      accounts_few h.genesis h.within,
      registrations_few h.records h.all_within,
      supply_within h.genesis h.within h.no_fault,
      o.few,
      filled_within bytes,
      short,
    )
    )

-- ---- lines of actions

-- what a record proposes passes
proposed_pass : (id : TxId) (i : ℕ) (ps : List ProposalRecord) → list_all (λ (p : ProposalRecord). is_within LINE_LIMIT p.action) ps ≡ true
    → list_all (λ (p : ℕ × ProposalRecord). is_within LINE_LIMIT p.1.action) (enumerate_from i ps) ≡ true
proposed_pass id i [] h = refl
proposed_pass id i (p ∷ ps) h =
    and_from (is_within LINE_LIMIT p.action) (list_all (λ (q : ℕ × ProposalRecord). is_within LINE_LIMIT q.1.action) (enumerate_from (i + 1) ps)) (left_of (is_within LINE_LIMIT p.action) (list_all (λ (q : ProposalRecord). is_within LINE_LIMIT q.action) ps) h)
    (proposed_pass id (i + 1) ps (right_of (is_within LINE_LIMIT p.action) (list_all (λ (q : ProposalRecord). is_within LINE_LIMIT q.action) ps) h))

record_passes : (r : Record) → are_within LINE_LIMIT r ≡ true → all_proposed (λ id a. is_within LINE_LIMIT a) r ≡ true
record_passes (records.Genesis g) h = refl
record_passes (records.Block slot pulse) h = refl
record_passes (records.Rewards u) h = refl
record_passes (records.Tx tx) h = proposed_pass tx.id 0 tx.proposals h
record_passes (records.Print what) h = refl

all_pass : (rs : List Record) → list_all (are_within LINE_LIMIT) rs ≡ true → list_all (all_proposed (λ id a. is_within LINE_LIMIT a)) rs ≡ true
all_pass [] h = refl
all_pass (r ∷ rs) h =
    and_from (all_proposed (λ id a. is_within LINE_LIMIT a) r) (list_all (all_proposed (λ id a. is_within LINE_LIMIT a)) rs) (record_passes r (left_of (are_within LINE_LIMIT r) (list_all (are_within LINE_LIMIT) rs) h))
    (all_pass rs (right_of (are_within LINE_LIMIT r) (list_all (are_within LINE_LIMIT) rs) h))

id_few : (a : ActionId) → is_action_id a ≡ true → length (action_id_text a) ≤ 70
id_few a h =
    let index : a.index < 2 ^ 16 = ltb-true a.index (2 ^ 16) (right_of _ _ h) in
    let wide : a.index < 10 ^ 5 = omega (arith, index) in
    let small : a.index < 2 ^ 64 = omega (arith, index) in
    let digits : length (decimal a.index) ≤ 5 = length-decimal-le 5 a.index (omega arith) wide small in
    let hash : length (hash_text a.tx.0) ≤ 64 = hash_few 32 a.tx.0 (omega arith) (left_of _ _ h) in
    omega (
      arith,
      length-append (hash_text a.tx.0 ++ codes "#") (decimal a.index),
      length-append (hash_text a.tx.0) (codes "#"),
      digits,
      hash,
    )

three_length : (a b c : List ℕ) → length (joined (a ∷ b ∷ c ∷ [])) ≡ length a + length b + length c + 2
three_length a b c =
    omega (
      arith,
      length-append a (((32 ∷ []) ++ b) ++ ((32 ∷ []) ++ c) ++ []),
      length-append a (((32 ∷ []) ++ b) ++ (((32 ∷ []) ++ c) ++ [])),
      length-append ((32 ∷ []) ++ b) (((32 ∷ []) ++ c) ++ []),
      length-append ((32 ∷ []) ++ c) [],
      length-append (32 ∷ []) b,
      length-append (32 ∷ []) c,
    )

action_line : (p : Proposal) → is_proposal p ≡ true → is_within LINE_LIMIT p.action ≡ true → nat_le (length (joined (action_words p))) LINE_LIMIT ≡ true
action_line p h k =
    let id : is_action_id p.id ≡ true = left_of _ _ (left_of _ _ (left_of _ _ (left_of _ _ (left_of _ _ (left_of _ _ h))))) in
    let short : length (action_text p.action) + 80 ≤ LINE_LIMIT = leb-true (length (action_text p.action) + 80) LINE_LIMIT k in
    le-leb (length (joined (action_words p))) LINE_LIMIT (omega (arith, three_length (codes "action") (action_id_text p.id) (action_text p.action), id_few p.id id, short))

action_lines : (ps : List Proposal) → list_all is_proposal ps ≡ true → list_all (λ (p : Proposal). is_within LINE_LIMIT p.action) ps ≡ true → are_short_lines (map action_words ps) ≡ true
action_lines [] h k = refl
action_lines (p ∷ ps) h k =
    and_from (nat_le (length (joined (action_words p))) LINE_LIMIT) (are_short_lines (map action_words ps))
    (action_line p (left_of (is_proposal p) (list_all is_proposal ps) h) (left_of (is_within LINE_LIMIT p.action) (list_all (λ (q : Proposal). is_within LINE_LIMIT q.action) ps) k))
    (action_lines ps (right_of (is_proposal p) (list_all is_proposal ps) h) (right_of (is_within LINE_LIMIT p.action) (list_all (λ (q : Proposal). is_within LINE_LIMIT q.action) ps) k))

-- the live proposals are within the limit of lines
live_within : (w : World) (n : ℕ) → IsOf n w → list_all (λ (p : Proposal). is_within LINE_LIMIT p.action) w.ledger.proposals ≡ true
live_within w n o = reached_were_proposed (λ id a. is_within LINE_LIMIT a) w o.reached (all_pass o.reached.records o.held)

live_lines : (w : World) (n : ℕ) → IsOf n w → has_form w ≡ true → are_short_lines (map action_words w.ledger.proposals) ≡ true
live_lines w n o h =
    let books : has_book_form w.ledger ≡ true = right_of _ _ (left_of _ _ (left_of _ _ (left_of _ _ (left_of _ _ (left_of _ _ (left_of _ _ h)))))) in
    action_lines w.ledger.proposals (left_of _ _ (right_of _ _ books)) (live_within w n o)

pub bytes_are_resumable : BytesAreResumable
bytes_are_resumable bytes w short e =
    let o : IsOf (filled (pieces_of bytes)) w = of_bytes bytes w e in
    let form : has_form w ≡ true = bytes_give_form bytes w e in
    reached_is_resumable w o.reached form (bytes_count_fits bytes w short e) (live_lines w (filled (pieces_of bytes)) o form)

-- ---- certificates

-- what is frozen of such a World fits
frozen_fits : (w : World) (n : ℕ) → IsOf n w → Fits w.frozen
frozen_fits w n o =
    let s : IsSoundWorld w = sound w o.reached in
    let form : is_snapshot w.frozen ≡ true = right_of _ _ (reached_has_form w o.reached o.genesis o.records) in
    let proposals : list_all is_proposal w.frozen.proposals ≡ true = left_of _ _ (right_of _ _ (left_of _ _ form)) in
    let actions : are_short_lines (map action_words w.frozen.proposals) ≡ true = action_lines w.frozen.proposals proposals (frozen_within w s (live_within w n o)) in
    let clock : w.ledger.epoch ≡ w.ledger.slot / w.ledger.epoch_length = eqb-true w.ledger.epoch (w.ledger.slot / w.ledger.epoch_length) (reached_is_timed w o.reached) in
    let early : w.frozen.epoch < 2 ^ 62 = omega (arith, s.stands.epoch, clock, div-le_self w.ledger.slot w.ledger.epoch_length, s.ledger.slot) in
    let soon : w.frozen.epoch < 2 ^ 64 = omega (arith, early) in
    let held : sum_values held_by w.frozen.entries + deposits_of w.frozen.proposals ≤ SUPPLY_LIMIT = omega (arith, s.frozen.held, s.ledger.within) in
    let mark : sum_values (λ n. n) w.mark ≤ SUPPLY_LIMIT = omega (arith, s.mark.sum, s.ledger.within) in
    record {
      form = form;
      epoch = lt-ltb w.frozen.epoch (2 ^ 62) early;
      held = le-leb (sum_values held_by w.frozen.entries + deposits_of w.frozen.proposals) SUPPLY_LIMIT held;
      mark = ap (λ (m : List (PoolId × ℕ)). nat_le (sum_values (λ n. n) m) SUPPLY_LIMIT) s.marked ∙ le-leb (sum_values (λ n. n) w.mark) SUPPLY_LIMIT mark;
      short = join (snapshot_lines w.frozen) (claim_lines w.frozen) (snapshot_short w.frozen form soon actions) (claims_short w.frozen form);
    }

-- what is frozen of the World that good readings leave fits
pub readings_fit : (rs : List (ℕ × Reading)) (w : World) → AreGood (read_records rs) → world_of_readings rs ≡ Some w → Fits w.frozen
readings_fit rs w k e =
    let n : ℕ = length (read_records rs) in
    frozen_fits w n (of_readings rs w n k (omega arith) e)

pub bytes_are_certified : BytesAreCertified
bytes_are_certified bytes w e answer says =
    says.1 (record { snapshot = w.frozen; fits = readings_fit (records_of bytes) w (good_lines 1 (pieces_of bytes)) e; text = refl })
