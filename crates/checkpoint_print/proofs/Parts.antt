-- The parts of a checkpoint, one after another.
use Rattle.std.proofs.Common.{append_assoc, ◌≡◌, ℕ, List, [], ◌∷◌, ◌++◌, flat_map, map, refl, ap, sym, ◌∙◌}
use Rattle.book_records.specs.declared.Entry.{Entry}
use Rattle.checkpoint_model.specs.Checkpoint.{checkpoint_words, frozen_proposal_lines}
use Rattle.gov_ids.specs.declared.Credential.{Credential}
use Rattle.gov_ids.specs.declared.PoolId.{PoolId}
use Rattle.gov_model.specs.Snapshot.{Snapshot}
use Rattle.run_model.specs.World.{World}
use Rattle.snapshots.specs.declared.frozen.Frozen.{Frozen}
use Rattle.snapshots.specs.Frozen.{frozen_copy_of, frozen_pool}
use Rattle.text_forms.specs.Snapshots.{expiry_words, pool_account_words}
use Rattle.text_model.specs.StateLines.{account_words, hot_words}
use Rattle.text_model.specs.Words.{Text}
use Rattle.checkpoint_print.specs.Frozen.{frozen_parts}
use Rattle.checkpoint_print.specs.LineWords.{first_words, pool_words, treasury_words}

-- the first line
pub first_is : (w : World) (line network length counted : ℕ) → network ≡ w.ledger.network → length ≡ w.ledger.epoch_length → counted ≡ w.counted
    → first_words line network length counted ≡ checkpoint_words w line
first_is w line network length counted n l k =
    ap (λ (x : ℕ). first_words line x length counted) n
    ∙ ap (λ (x : ℕ). first_words line w.ledger.network x counted) l
    ∙ ap (λ (x : ℕ). first_words line w.ledger.network w.ledger.epoch_length x) k

-- the frozen treasury, entries and DReps
abbrev pub stake_parts : Frozen → List (Credential × Entry) → List (List Text)
stake_parts f entries = treasury_words f.start.treasury ∷ map account_words entries ++ map expiry_words f.dreps

-- the frozen cold keys, the pools of mark and the frozen proposals
abbrev pub voter_parts : Frozen → List (List Text)
voter_parts f = map hot_words f.hot ++ map pool_words f.pools ++ flat_map frozen_proposal_lines f.proposals

pools : (s : Snapshot) (mark : List (PoolId × ℕ)) → map pool_words (map (λ m. frozen_pool s m.0) mark) ≡ map (pool_account_words s) mark
pools s [] = refl
pools s (m ∷ mark) = ap (λ (l : List (List Text)). pool_account_words s m ∷ l) (pools s mark)

of_copy : (s : Snapshot) → stake_parts (frozen_copy_of s) s.entries ++ voter_parts (frozen_copy_of s) ≡ frozen_parts s
of_copy s =
    let stakes : List (List Text) = stake_parts (frozen_copy_of s) s.entries in
    let proposals : List (List Text) = flat_map frozen_proposal_lines s.proposals in
    let copies : List (List Text) = map pool_words (frozen_copy_of s).pools in
    sym (append_assoc stakes (map hot_words s.hot ++ copies) proposals)
    ∙ ap (λ (l : List (List Text)). l ++ proposals) (sym (append_assoc stakes (map hot_words s.hot) copies))
    ∙ ap (λ (l : List (List Text)). stakes ++ map hot_words s.hot ++ l ++ proposals) (pools s s.mark)

-- all that is frozen
pub frozen_are : (s : Snapshot) (f : Frozen) (entries : List (Credential × Entry)) → f ≡ frozen_copy_of s → entries ≡ s.entries → frozen_parts s ≡ stake_parts f entries ++ voter_parts f
frozen_are s f entries copy same =
    sym (ap (λ (g : Frozen). stake_parts g entries ++ voter_parts g) copy
    ∙ ap (λ (es : List (Credential × Entry)). stake_parts (frozen_copy_of s) es ++ voter_parts (frozen_copy_of s)) same
    ∙ of_copy s)
