-- The lines of a checkpoint have no line feeds, and none becomes too long.
use Rattle.std.proofs.Common.{◌≡◌, ℕ, ◌*◌, ◌≤◌, nat_le, List, [], ◌∷◌, ◌++◌, codes, decimal, flat_map, length, map, true, refl, arith}
use Rattle.std.specs.List.{AllByRecursion}
use Rattle.std.proofs.lemmas.Bool.{and_from, and_parts, le-leb}
use Rattle.std.proofs.lemmas.List.{length-append}
use Rattle.gov_ids.specs.declared.Credential.{Credential}
use Rattle.gov_ids.specs.declared.PoolId.{PoolId}
use Rattle.gov_ids.specs.declared.TxId.{TxId}
use Rattle.gov_ids.specs.Spelling.{account_text}
use Rattle.checkpoint_model.specs.Checkpoint.{checkpoint_lines, checkpoint_words, frozen, frozen_lines, frozen_proposal_lines, used_words}
use Rattle.text_forms.specs.Lines.{are_short_lines, joined}
use Rattle.text_forms.specs.Snapshots.{action_words, expiry_words, pool_account_words}
use Rattle.text_forms.specs.of_gov_model.Snapshot.{Snapshot}
use Rattle.text_forms.specs.of_run_model.World.{World}
use Rattle.text_forms.specs.of_text_model.StateLines.{account_words, hot_words, state_lines, vote_words}
use Rattle.text_forms.specs.of_text_model.Words.{Text}
use Rattle.text_forms.specs.of_text_model.of_gov_actions.declared.action.Proposal.{Proposal}
use Rattle.text_forms.specs.of_tx_records.declared.limits.TheConstants.{LINE_LIMIT}
use Rattle.checkpoint_text_laws.specs.Laws.{CheckpointIsCut, LinesHaveNoFeed, LinesStayShort}
use Rattle.checkpoint_text_laws.proofs.Actions.{action}
use Rattle.checkpoint_text_laws.proofs.Cut.{text_is_cut}
use Rattle.checkpoint_text_laws.proofs.Free.{AllFree, Lines, ◌⊕◌, dec, dec_few, hash, lines_flat, lines_map, no_feeds, optional, row}
use Rattle.checkpoint_text_laws.proofs.Ids.{account, action_id, cred, pool}
use Rattle.checkpoint_text_laws.proofs.Rows.{account_line, hot_line, state_are, vote_line}

-- ---- no line feeds

head_line : (w : World) (line : ℕ) → AllFree (checkpoint_words w line)
head_line w line = (refl, (refl, (refl, (dec line, (refl, (dec w.ledger.network, (refl, (dec w.ledger.epoch_length, (refl, (dec w.counted, tt))))))))))

used_line : (t : TxId) → AllFree (used_words t)
used_line t = (refl, (hash t.0, tt))

pub action_line : (p : Proposal) → AllFree (action_words p)
action_line p = (refl, (action_id p.id, (action p.action, tt)))

pub expiry_line : (d : Credential × ℕ) → AllFree (expiry_words d)
expiry_line d = (refl, (cred d.0, (refl, (dec d.1, tt))))

pub pool_line : (f : Snapshot) (m : PoolId × ℕ) → AllFree (pool_account_words f m)
pool_line f m = (refl, (pool m.0, (refl, (optional account_text account _, tt))))

proposal_are : (p : Proposal) → Lines (frozen_proposal_lines p)
proposal_are p = row (codes "proposal" ∷ _ ∷ []) (refl, (action_id p.id, tt)) ⊕ lines_map (vote_words p) (vote_line p) p.votes

-- one word more
each_frozen : (lines : List (List Text)) → AllByRecursion AllFree lines → AllByRecursion AllFree (map frozen lines)
each_frozen [] h = tt
each_frozen (ws ∷ lines) h = ((refl, h.0), each_frozen lines h.1)

frozen_too : {lines : List (List Text)} → Lines lines → Lines (map frozen lines)
frozen_too {lines} h = record { all = each_frozen lines h.all }

frozen_are : (f : Snapshot) → Lines (frozen_lines f)
frozen_are f =
    frozen_too (
    row (codes "treasury" ∷ decimal f.start.treasury ∷ []) (refl, (dec f.start.treasury, tt))
    ⊕ lines_map account_words account_line f.entries
    ⊕ lines_map expiry_words expiry_line f.dreps
    ⊕ lines_map hot_words hot_line f.hot
    ⊕ lines_map (pool_account_words f) (pool_line f) f.mark
    ⊕ lines_flat frozen_proposal_lines proposal_are f.proposals
    )

checkpoint_are : (w : World) (line : ℕ) → Lines (checkpoint_lines w line)
checkpoint_are w line =
    row (checkpoint_words w line) (head_line w line)
    ⊕ state_are w
    ⊕ lines_map used_words used_line w.ledger.used
    ⊕ lines_map action_words action_line w.ledger.proposals
    ⊕ frozen_are w.frozen
    ⊕ row (codes "end" ∷ []) (refl, tt)

pub have_no_feed : LinesHaveNoFeed
have_no_feed w line = no_feeds (checkpoint_lines w line) (checkpoint_are w line).all

-- ---- the lengths

-- words of at most 64 bytes
abbrev AreShort : List Text → Type 0
AreShort ws = AllByRecursion (λ w. length w ≤ 64) ws

rest_length : (ws : List Text) → AreShort ws → length (flat_map (λ (w : Text). (32 ∷ []) ++ w) ws) ≤ length ws * 65
rest_length [] h = omega arith
rest_length (w ∷ ws) h = omega (arith, length-append (32 ∷ w) (flat_map (λ (x : Text). (32 ∷ []) ++ x) ws), h.0, rest_length ws h.1)

joined_length : (ws : List Text) → AreShort ws → length (joined ws) ≤ length ws * 65
joined_length [] h = omega arith
joined_length (w ∷ ws) h = omega (arith, length-append w (flat_map (λ (x : Text). (32 ∷ []) ++ x) ws), h.0, rest_length ws h.1)

head_words : (w : World) (line : ℕ) → AreShort (checkpoint_words w line)
head_words w line =
    (omega arith, (omega arith, (omega arith, (dec_few line, (omega arith, (dec_few w.ledger.network, (omega arith, (dec_few w.ledger.epoch_length, (omega arith, (dec_few w.counted, tt))))))))))

short_line : (ws : List Text) → AreShort ws → length ws ≤ 10 → nat_le (length (joined ws)) LINE_LIMIT ≡ true
short_line ws h few =
    let small : length (joined ws) ≤ 16777216 = omega (arith, joined_length ws h, few) in
    le-leb (length (joined ws)) 16777216 small

-- another first line
other_first : (ws vs : List Text) (lines : List (List Text)) → nat_le (length (joined vs)) LINE_LIMIT ≡ true → are_short_lines (ws ∷ lines) ≡ true → are_short_lines (vs ∷ lines) ≡ true
other_first ws vs lines few h =
    and_from (nat_le (length (joined vs)) LINE_LIMIT) (are_short_lines lines) few (and_parts (nat_le (length (joined ws)) LINE_LIMIT) (are_short_lines lines) h).1

pub stay_short : LinesStayShort
stay_short w line h =
    other_first (checkpoint_words w 0) (checkpoint_words w line)
    (state_lines w ++ map used_words w.ledger.used ++ map action_words w.ledger.proposals ++ frozen_lines w.frozen ++ (codes "end" ∷ []) ∷ [])
    (short_line (checkpoint_words w line) (head_words w line) (omega arith)) h

pub is_cut : CheckpointIsCut
is_cut w line more h = text_is_cut (checkpoint_lines w line) more (have_no_feed w line) (stay_short w line h)
