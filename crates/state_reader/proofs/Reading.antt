-- What was read of all lines of a giver.
use Rattle.std.proofs.Common.{◌≡◌, ℕ, ◌≤◌, ◌<◌, ◌^◌, ◌++◌, Bool, true, false, List, [], ◌∷◌, Option, Some, None, IfSome, IsSome, codes, decimal, drop, flat_map, is_some, length, map, refl, ap, sym, ◌∙◌, subst, append-nil, arith}
use Rattle.std.proofs.lemmas.Bool.{false≢true, leb-true, ltb-false}
use Rattle.std.proofs.lemmas.List.{length-append, length-map}
use Rattle.std.proofs.lemmas.Option.{none-some, same_Some}
use Rattle.gov_model.specs.Snapshot.{Snapshot, entry_count}
use Rattle.run_model.specs.World.{World}
use Rattle.text_forms.specs.Lines.{joined, joined_lines}
use Rattle.text_forms.specs.Snapshots.{action_words, expiry_words, pool_account_words}
use Rattle.text_model.specs.StateLines.{account_words, hot_words, state_lines}
use Rattle.text_model.specs.Words.{Text}
use Rattle.tx_records.specs.Limits.{is_u64}
use Rattle.checkpoint_model.specs.Checkpoint.{checkpoint_lines, checkpoint_words, frozen, frozen_lines, frozen_proposal_lines, used_words}
use Rattle.checkpoint_model.specs.Resumable.{IsResumable}
use Rattle.line_giver.specs.Giving.{Giving, HasPassed, IsThrough, PassesSome, known_after, lines_of_giving}
use Rattle.line_giver.proofs.Passing.{known_none, passed_both}
use Rattle.line_parts.specs.Parts.{lines_of}
use Rattle.checkpoint_reader.specs.declared.read.Gathered.{Gathered}
use Rattle.checkpoint_reader.specs.Gathered.{gathered_rows, gathered_shown, has_gathered_form}
use Rattle.state_reader.specs.Reads.{BeginsWith, IsHead, IsOfEach, PassesAll, ReadsAll}
use Rattle.state_reader.proofs.Forms.{head_formed, shown_formed}

-- ---- known lines

-- lines that are all passed are those that were known
known_all : (known left : Option (List (Option Text))) (lines : List (Option Text)) → known ≡ known_after lines left → IsThrough left → IsSome known → known ≡ Some lines
known_all known None lines is through some = absurd (false≢true (sym (ap is_some is) ∙ some))
known_all known (Some ls) lines is through some = is ∙ ap (λ (t : List (Option Text)). Some (lines ++ t)) through ∙ ap Some (append-nil lines)

-- the first line of the checkpoint of a World comes
begins : (known : Option (List (Option Text))) (w : World) (line : ℕ) → known ≡ Some (lines_of (checkpoint_lines w line)) → BeginsWith known (line, w.ledger.network, w.ledger.epoch_length, w.counted)
begins known w line is = (drop 1 (lines_of (checkpoint_lines w line)), is)

-- ---- how many lines a checkpoint has

within_six : {A : Type 0} (a b c d e f : List A) → length b ≤ length (a ++ b ++ c ++ d ++ e ++ f)
within_six a b c d e f = omega (arith, length-append (a ++ b ++ c ++ d ++ e) f, length-append (a ++ b ++ c ++ d) e, length-append (a ++ b ++ c) d, length-append (a ++ b) c, length-append a b)

within_three : {A : Type 0} (a b c : List A) → length b ≤ length (a ++ b ++ c)
within_three a b c = omega (arith, length-append (a ++ b) c, length-append a b)

entries_within : (f : Snapshot) → length f.entries ≤ length (frozen_lines f)
entries_within f =
    let few = within_six ((codes "treasury" ∷ decimal f.start.treasury ∷ []) ∷ []) (map account_words f.entries) (map expiry_words f.dreps) (map hot_words f.hot) (map (pool_account_words f) f.mark) (flat_map frozen_proposal_lines f.proposals) in
    omega (arith, few, length-map f.entries account_words, length-map ((codes "treasury" ∷ decimal f.start.treasury ∷ []) ∷ [] ++ map account_words f.entries ++ map expiry_words f.dreps ++ map hot_words f.hot ++ map (pool_account_words f) f.mark ++ flat_map frozen_proposal_lines f.proposals) frozen)

frozen_within : (w : World) (line : ℕ) → length (frozen_lines w.frozen) ≤ length (checkpoint_lines w line)
frozen_within w line = within_three (checkpoint_words w line ∷ [] ++ state_lines w ++ map used_words w.ledger.used ++ map action_words w.ledger.proposals) (frozen_lines w.frozen) ((codes "end" ∷ []) ∷ [])

-- at least as many as frozen entries
many_lines : (w : World) (line : ℕ) → length w.frozen.entries ≤ length (lines_of (checkpoint_lines w line))
many_lines w line = omega (arith, entries_within w.frozen, frozen_within w line, length-map (checkpoint_lines w line) joined, length-map (joined_lines (checkpoint_lines w line)) (λ (t : Text). Some t))

-- ---- no first line came

no_world_by : (b : Bool) (known : Option (List (Option Text))) (lines : List (Option Text)) → known ≡ Some lines → IsHead known false → length lines < 2 ^ 64
    → (w : World) (line : ℕ) → is_u64 w.counted ≡ b → IsResumable w → line ≤ 2 ^ 48 → lines ≡ lines_of (checkpoint_lines w line) → ⊥
no_world_by true known lines is head few w line counted sound within same =
    false≢true (head.all (line, w.ledger.network, w.ledger.epoch_length, w.counted) (head_formed w line sound counted within) (begins known w line (is ∙ ap Some same)))
no_world_by false known lines is head few w line counted sound within same =
    let wide : 2 ^ 64 ≤ w.counted = ltb-false w.counted (2 ^ 64) counted in
    let most : w.counted ≤ length w.frozen.entries = leb-true w.counted (entry_count w.frozen) sound.counted in
    let all : length lines ≡ length (lines_of (checkpoint_lines w line)) = ap (λ (t : List (Option Text)). length t) same in
    omega (arith, wide, most, many_lines w line, all, few)

-- so the lines are of no World
no_world : (known : Option (List (Option Text))) (lines : List (Option Text)) → known ≡ Some lines → IsHead known false → length lines < 2 ^ 64
    → (w : World) (line : ℕ) → IsResumable w → line ≤ 2 ^ 48 → lines ≡ lines_of (checkpoint_lines w line) → ⊥
no_world known lines is head few w line = no_world_by (is_u64 w.counted) known lines is head few w line refl

-- ---- it came

-- known lines of the checkpoint of a World are read as what it shows
abbrev pub IsReadOfWorlds : Option (List (Option Text)) → Option Gathered → Type 0
IsReadOfWorlds known read =
    (w : World) (line : ℕ) (more : List (Option Text)) → has_gathered_form (gathered_shown w line) ≡ true → known ≡ Some (lines_of (checkpoint_lines w line) ++ more) → read ≡ Some (gathered_shown w line)

of_each : (known : Option (List (Option Text))) (lines : List (Option Text)) (read : Option Gathered) → (IsSome known → known ≡ Some lines) → IsHead known true → IsReadOfWorlds known read → IsOfEach known lines read
of_each known lines read all head worlds some w line sound within same =
    let is : known ≡ Some (lines_of (checkpoint_lines w line)) = all some ∙ ap Some same in
    let counted = head.counted refl (line, w.ledger.network, w.ledger.epoch_length, w.counted) (begins known w line is) in
    worlds w line [] (shown_formed w line sound counted within) (is ∙ ap Some (sym (append-nil (lines_of (checkpoint_lines w line)))))

module _ {Stream : Type 0} {p q s : Stream → List (Option Text) → Type 0} {old mid new : Giving} where
  -- without the first line nothing was read
  pub none_read : HasPassed p q old mid [] → IsHead (lines_of_giving mid) false → PassesAll q s mid new → ReadsAll p s old new None
  none_read look head all = record {
    lines = all.lines;
    passed = passed_both [] all.lines look all.passed;
    through = all.through;
    more = λ g e. absurd (none-some g e);
    each = λ known w line sound within same.
        let some = subst (λ (t : Option (List (Option Text))). IsSome t) (look.left ∙ known_none (lines_of_giving mid)) known in
        let is = known_all (lines_of_giving mid) (lines_of_giving new) all.lines all.passed.left all.through some in
        absurd (no_world (lines_of_giving mid) all.lines is head all.few w line sound within same);
  }

module _ {Stream : Type 0} {p q r s : Stream → List (Option Text) → Type 0} {old mid next new : Giving} where
  -- lines were passed, and then all others
  reads : (read : Option Gathered) (lines : List (Option Text)) → HasPassed p q old mid [] → IsHead (lines_of_giving mid) true → HasPassed q r mid next lines → IsReadOfWorlds (lines_of_giving mid) read → (all : PassesAll r s next new)
      → ((g : Gathered) → read ≡ Some g → lines ≡ lines_of (gathered_rows g)) → ReadsAll p s old new read
  reads read lines look head passed worlds all rows =
      let whole = passed_both lines all.lines passed all.passed in
      let same = look.left ∙ known_none (lines_of_giving mid) in
      let each = of_each (lines_of_giving mid) (lines ++ all.lines) read (known_all (lines_of_giving mid) (lines_of_giving new) (lines ++ all.lines) whole.left all.through) head worlds in
      record {
        lines = lines ++ all.lines;
        passed = passed_both [] (lines ++ all.lines) look whole;
        through = all.through;
        more = λ g e. (all.lines, ap (λ (t : List (Option Text)). t ++ all.lines) (rows g e));
        each = subst (λ (t : Option (List (Option Text))). IsOfEach t (lines ++ all.lines) read) (sym same) each;
      }

  -- with it the lines were read
  pub all_read : (read : Option Gathered) → HasPassed p q old mid [] → IsHead (lines_of_giving mid) true → IfSome read (λ x. HasPassed q r mid next (lines_of (gathered_rows x))) → PassesSome q r mid next → IsReadOfWorlds (lines_of_giving mid) read → PassesAll r s next new
      → ReadsAll p s old new read
  all_read None look head rows some worlds all = reads None some.lines look head some.passed worlds all (λ g e. absurd (none-some g e))
  all_read (Some x) look head rows some worlds all =
      reads (Some x) (lines_of (gathered_rows x)) look head rows worlds all (λ g e. ap (λ (t : Gathered). lines_of (gathered_rows t)) (same_Some x g e))
