-- A line is longer than the text of each action that it proposes.
use Rattle.std.proofs.Common.{◌≡◌, ℕ, ◌+◌, ◌≤◌, ◌==◌, Bool, true, false, cond, List, [], ◌∷◌, ◌++◌, Some, None, Result, Ok, Err, bytes_eq, codes, length, refl, ap, arith}
use Rattle.std.specs.List.{list_all}
use Rattle.std.specs.Result.{result_ok}
use Rattle.std.proofs.lemmas.Bool.{and_from, and_parts, eqb-true, le-leb}
use Rattle.std.proofs.lemmas.Option.{none-some}
use Rattle.std.proofs.lemmas.Slice.Eq.{bytes_eq-Decides}
use Rattle.serde_json.specs.Data.{Data, Items, array, boolean, item, no_items, null, number, object, string}
use Rattle.serde_json.specs.Read.{read}
use Rattle.gov_ids.specs.Spelling.{hash_of, or_bad_hex}
use Rattle.tx_records.specs.declared.field.FieldName.{FieldName}
use Rattle.tx_records.specs.declared.field.FieldName.TheVariants as fields
use Rattle.tx_records.specs.declared.limits.TheConstants.{TX_LIST_LIMIT}
use Rattle.tx_records.specs.declared.record.Record.{Record}
use Rattle.tx_records.specs.declared.tx.ProposalRecord.{ProposalRecord}
use Rattle.json_fields.specs.declared.fault.FieldFault.{FieldFault}
use Rattle.json_fields.specs.declared.fault.FieldFault.TheVariants.{Missing, NoMemory, OutOfRange, WrongKind}
use Rattle.json_fields.specs.declared.lists.ListFault.{ListFault}
use Rattle.json_fields.specs.Entries.{needed_in}
use Rattle.json_fields.specs.Kinds.{account_in, field_in, hash32_in, or_none, text_in, tx_id_in, u64_in}
use Rattle.json_fields.specs.Lists.{entries_after, entry_at, fault_at, is_full, list_in}
use Rattle.action_read.specs.Actions.{action_in}
use Rattle.hex.specs.Hex.{decode_of}
use Rattle.gov_ids.specs.declared.IdFault.TheVariants.{BadLength}
use Rattle.std.specs.Str.{is_utf8}
use Rattle.text_forms.specs.ActionText.{action_text}
use Rattle.json_lengths.specs.Sizes.{data_size, items_size}
use Rattle.json_lengths.proofs.Values.{texts_hold_their_values}
use Rattle.record_read.specs.Certs.{cert_in}
use Rattle.record_read.specs.Entries.{output_in, proposal_in, vote_record_in}
use Rattle.record_read.specs.Fields.{listed, named, needed, needed_list, optional_list, optional_list_by}
use Rattle.record_read.specs.LineFaults.{BadJson}
use Rattle.record_read.specs.Lines.{json_of, record_of_line}
use Rattle.record_read.specs.Records.{acts_in, block_in, form_in, genesis_in, payment_in, print_in, record_by, record_of_kind, rewards_in, terms_in, transfers_in, tx_in, what_in}
use Rattle.record_read.specs.Entries.{slot_in}
use Rattle.json_fields.specs.Kinds.{ref_in, u32_in}
use Rattle.tx_records.specs.declared.limits.TheConstants.{OUTPUT_LIMIT}
use Rattle.record_read.proofs.Gives.{Gives, given, if_some, next, skip}
use Rattle.action_lengths.specs.Laws.{LinesHoldTheirActions, are_within, is_within}
use Rattle.action_lengths.proofs.Acting.{action_fits}
use Rattle.action_lengths.proofs.Fitting.{field_size, text_size, weaken}
use Rattle.action_lengths.proofs.Members.{size_at, within_object}
use Rattle.action_lengths.proofs.Texts.{closed_least}

-- ---- a proposal

abbrev ProposalFits : ℕ → ProposalRecord → Type 0
ProposalFits n p = length (action_text p.action) ≤ n

proposal_fits : (d : Data) → Gives (ProposalFits (data_size d)) (proposal_in d)
unfolding proposal_in
proposal_fits d =
    skip (needed_in (codes "deposit") u64_in d) (λ deposit. skip (needed_in (codes "return") account_in d) (λ account.
    next (at_field d) (λ action h.
    given (omega (arith, h, within_object (codes "action" ∷ []) d refl (omega (arith, h)))))))
  where
    at_field : (d : Data) → Gives (λ a. length (action_text a) + 4 ≤ size_at (codes "action") d) (needed_in (codes "action") action_in d)
    at_field d = next (field_size (codes "action") d) (λ e u. weaken (action_fits e) (λ a v. omega (arith, u, v)))

-- ---- the list of proposals

-- each is within a bound
abbrev Each : ℕ → List ProposalRecord → Type 0
Each n ps = list_all (λ (p : ProposalRecord). is_within n p.action) ps ≡ true

one_more : (n : ℕ) (ps : List ProposalRecord) (p : ProposalRecord) → Each n ps → is_within n p.action ≡ true → Each n (ps ++ p ∷ [])
one_more n [] p h k = and_from (is_within n p.action) true k refl
one_more n (q ∷ ps) p h k =
    let parts = and_parts (is_within n q.action) (list_all (λ (r : ProposalRecord). is_within n r.action) ps) h in
    and_from (is_within n q.action) (list_all (λ (r : ProposalRecord). is_within n r.action) (ps ++ p ∷ [])) parts.0 (one_more n ps p parts.1 k)

in_place : {A : Type 0} {P : A → Type 0} (i : ℕ) (out : A → Bool) (r : Result A FieldFault) → Gives P r → Gives P (entry_at i out r)
in_place i out (Err e) g = record { holds = tt }
in_place {A} {P} i out (Ok x) g = elim (out x) as (λ b. Gives P (cond b (Err (fault_at i OutOfRange)) (Ok x))) [
  | true ↦ record { holds = tt }
  | false ↦ given g.holds
]

after_each : (n : ℕ) (out : List ProposalRecord → ProposalRecord → Bool) (before : List ProposalRecord) (ds : Items) → items_size ds + 80 ≤ n → Each n before → Gives (Each n) (entries_after proposal_in out before ds)
after_each n out before no_items h k = given k
after_each n out before (item d ds) h k =
    next (in_place (length before) (out before) (proposal_in d) (proposal_fits d))
    (λ p u. after_each n out (before ++ p ∷ []) ds (omega (arith, h)) (one_more n before p k (le-leb (length (action_text p.action) + 80) n (omega (arith, u, h)))))

list_each : (n : ℕ) (limit : ℕ) (d : Data) → data_size d + 80 ≤ n → Gives (Each n) (list_in limit proposal_in d)
list_each n limit null h = record { holds = tt }
list_each n limit (boolean b) h = record { holds = tt }
list_each n limit (number x) h = record { holds = tt }
list_each n limit (string s) h = record { holds = tt }
list_each n limit (array ds) h = after_each n (λ before x. is_full limit before) [] ds (omega (arith, h, closed_least (items_size ds))) refl
list_each n limit (object ms) h = record { holds = tt }

by_place : (name : FieldName) (n : ℕ) (r : Result (List ProposalRecord) ListFault) → Gives (Each n) r → Gives (Each n) (listed name r)
by_place name n (Ok xs) g = record { holds = g.holds }
by_place name n (Err e) g = record { holds = tt }

proposals_each : (n : ℕ) (d : Data) → size_at (codes "proposals") d + 67 ≤ n → Gives (Each n) (optional_list fields.Proposals TX_LIST_LIMIT proposal_in d)
proposals_each n d h = by_place fields.Proposals n _ (of_field (field_in (codes "proposals") d) (field_size (codes "proposals") d))
  where
    of_field : (r : Result Data FieldFault) → Gives (λ e. 9 + 4 + data_size e ≤ size_at (codes "proposals") d) r → Gives (Each n) (optional_list_by (list_in TX_LIST_LIMIT proposal_in) (or_none r))
    of_field (Ok e) g = list_each n TX_LIST_LIMIT e (let u = g.holds in omega (arith, u, h))
    of_field (Err Missing) g = given refl
    of_field (Err WrongKind) g = record { holds = tt }
    of_field (Err OutOfRange) g = record { holds = tt }
    of_field (Err NoMemory) g = record { holds = tt }

-- ---- a transaction

-- the id takes 72 bytes
hash_long : (s h : List ℕ) → result_ok (hash_of 32 s) ≡ Some h → length s ≡ 64
hash_long s h e = go (length s == 64) refl e
  where
    go : (b : Bool) → (length s == 64) ≡ b → result_ok (cond b (or_bad_hex (decode_of s)) (Err BadLength)) ≡ Some h → length s ≡ 64
    go true q f = eqb-true (length s) 64 q
    go false q f = absurd (none-some h f)

id_long : (d : Data) → Gives (λ t. data_size d ≡ 66) (tx_id_in d)
id_long d = next (of_hash d) (λ h e. given e)
  where
    of_hash : (d : Data) → Gives (λ h. data_size d ≡ 66) (hash32_in d)
    of_hash d = next (text_size d) (λ s e. if_some OutOfRange (result_ok (hash_of 32 s)) (λ h f. omega (arith, e, hash_long s h f)))

by_named : {A : Type 0} {P : A → Type 0} (name : FieldName) (r : Result A FieldFault) → Gives P r → Gives P (named name r)
by_named name (Ok x) g = record { holds = g.holds }
by_named name (Err e) g = record { holds = tt }

id_size : (d : Data) → Gives (λ t. 72 ≤ size_at (codes "id") d) (needed fields.Id tx_id_in d)
id_size d = by_named fields.Id _ (next (field_size (codes "id") d) (λ e u. weaken (id_long e) (λ t v. omega (arith, u, v))))

abbrev Giving : {A E : Type 0} → Result A E → (A → Type 0) → Type 0
Giving r P = Gives P r

acts_each : (n : ℕ) (d : Data) → size_at (codes "proposals") d + 67 ≤ n → Giving (acts_in d) (λ a. Each n a.proposals)
unfolding acts_in
acts_each n d h =
    skip (optional_list fields.Certs TX_LIST_LIMIT cert_in d) (λ certs.
    next (proposals_each n d h) (λ proposals p.
    skip (optional_list fields.Votes TX_LIST_LIMIT vote_record_in d) (λ votes. given p)))

payment_size : (d : Data) → Giving (payment_in d) (λ p. 72 ≤ size_at (codes "id") d)
unfolding payment_in
payment_size d =
    next (id_size d) (λ id i.
    skip (needed_list fields.Inputs TX_LIST_LIMIT ref_in d) (λ inputs. skip (needed_list fields.Outputs OUTPUT_LIMIT output_in d) (λ outputs. skip (needed fields.Fee u64_in d) (λ fee. given i))))

tx_each : (d : Data) (n : ℕ) → data_size d ≤ n → 12 ≤ size_at (codes "kind") d → Giving (tx_in d) (λ tx. Each n tx.proposals)
unfolding tx_in
tx_each d n h k =
    next (payment_size d) (λ payment i.
    skip (form_in d) (λ form. skip (terms_in d) (λ terms. skip (transfers_in d) (λ transfers.
    next (acts_each n d (omega (arith, h, k, i, within_object (codes "kind" ∷ codes "id" ∷ codes "proposals" ∷ []) d refl (omega (arith, k))))) (λ acts a. given a)))))

-- ---- a record

abbrev RecordFits : ℕ → Record → Type 0
RecordFits n r = are_within n r ≡ true

by_word : {A E : Type 0} {P : A → Type 0} (name word : List ℕ) {r s : Result A E} → (name ≡ word → Gives P r) → Gives P s → Gives P (cond (bytes_eq name word) r s)
by_word {A} {E} {P} name word {r} {s} g h = go (bytes_eq name word) refl
  where
    go : (b : Bool) → bytes_eq name word ≡ b → Gives P (cond b r s)
    go true e = g ((bytes_eq-Decides name word).0 e)
    go false e = h

of_kind : (kind : List ℕ) (d : Data) (n : ℕ) → data_size d ≤ n → length kind + 10 ≤ size_at (codes "kind") d → Gives (RecordFits n) (record_of_kind kind d)
unfolding block_in print_in
of_kind kind d n h k =
    by_word kind (codes "genesis") (λ e. skip (genesis_in d) (λ g. given refl))
    (by_word kind (codes "block") (λ e. skip (needed fields.Slot slot_in d) (λ slot. skip (needed fields.Pulse u32_in d) (λ pulse. given refl)))
    (by_word kind (codes "rewards") (λ e. skip (rewards_in d) (λ u. given refl))
    (by_word kind (codes "tx") (λ e. next (tx_each d n h (omega (arith, k, ap (λ (x : List ℕ). length x) e))) (λ tx t. given t))
    (by_word kind (codes "print") (λ e. skip (needed fields.What what_in d) (λ what. given refl)) (record { holds = tt })))))

kind_size : (d : Data) → Gives (λ s. length s + 10 ≤ size_at (codes "kind") d) (needed_in (codes "kind") text_in d)
kind_size d = next (field_size (codes "kind") d) (λ e u. weaken (text_size e) (λ s v. omega (arith, u, v)))

of_record : (d : Data) (n : ℕ) → data_size d ≤ n → (r : Result (List ℕ) FieldFault) → Gives (λ s. length s + 10 ≤ size_at (codes "kind") d) r → Gives (RecordFits n) (record_by r d)
of_record d n h (Ok kind) g = of_kind kind d n h g.holds
of_record d n h (Err fault) g = record { holds = tt }

json_within : (line : List ℕ) (d : Data) → json_of line ≡ Some d → data_size d ≤ length line
json_within line d e = go (is_utf8 line) e
  where
    go : (b : Bool) → cond b (read line) None ≡ Some d → data_size d ≤ length line
    go true e = texts_hold_their_values line d e
    go false e = absurd (none-some d e)

pub lines_hold_their_actions : LinesHoldTheirActions
lines_hold_their_actions line =
    let g : Gives (RecordFits (length line)) (record_of_line line) =
    next (if_some BadJson (json_of line) (λ d e. json_within line d e)) (λ d h. of_record d (length line) h (needed_in (codes "kind") text_in d) (kind_size d)) in
    g.holds
