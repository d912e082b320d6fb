-- What a line shows of its record: that it changed nothing, and how much is counted.
use Rattle.std.proofs.Common.{◌≡◌, ℕ, List, [], ◌∷◌, ◌++◌, Bool, true, false, Option, Some, None, codes, refl, ap, sym, ◌∙◌}
use Rattle.std.proofs.lemmas.List.Sums.{fold-append}
use Rattle.tx_records.specs.declared.record.Reading.TheVariants.{Read, Malformed, TooLong}
use Rattle.tx_records.specs.declared.record.Record.{Record}
use Rattle.tx_records.specs.declared.record.Record.TheVariants as records
use Rattle.tx_records.specs.declared.reply.Reply.TheVariants.{Refused}
use Rattle.tx_records.specs.declared.reply.Rule.{Rule}
use Rattle.tx_records.specs.declared.tx.Scripts.{Scripts}
use Rattle.tx_records.specs.declared.tx.Scripts.TheVariants as scripts
use Rattle.tx_records.specs.declared.tx.Tx.{Tx}
use Rattle.gov_model.specs.Snapshot.{entry_count}
use Rattle.ledger_model.specs.Transaction.{accepted_as}
use Rattle.run_model.specs.Genesis.{world_of_genesis}
use Rattle.run_model.specs.Runs.{counted_of, world_after_all}
use Rattle.run_model.specs.Step.{enters_next, refusal_of, step, step_by, world_after_accepted}
use Rattle.run_model.specs.World.{World}
use Rattle.run_laws.proofs.Counted.{counted_is_the_pulses}
use Rattle.text_model.specs.Replies.{block_words, reply_words, words_of_block}
use Rattle.text_model.specs.Runs.{crossing_lines, lines_by}
use Rattle.text_model.specs.Words.{Text}
use Rattle.text_laws.proofs.Alike.{told}
use Rattle.text_laws.specs.Laws.{CountedIsShown, RefusalsChangeNothing}

-- ---- refusals

-- the first word of the first line
abbrev first_word : List (List Text) → Text
first_word ((word ∷ words) ∷ lines) = word
first_word _ = []

-- no line of an accepted record begins as a refusal does
not_accepted : (more : List Text) (rule : Rule) → (codes "accepted" ∷ more) ∷ [] ≡ reply_words (Refused rule) ∷ [] → ⊥
not_accepted more rule e = let words : codes "accepted" ≡ codes "refused" = ap (λ (ls : List (List Text)). first_word ls) e in cc

accepted_block : (b : Bool) (w v : World) (rule : Rule) → crossing_lines b w ++ block_words v ∷ [] ≡ reply_words (Refused rule) ∷ [] → ⊥
accepted_block true w v rule e = let words : codes "epoch" ≡ codes "refused" = ap (λ (ls : List (List Text)). first_word ls) e in cc
accepted_block false w v rule e = let words : codes "block" ≡ codes "refused" = ap (λ (ls : List (List Text)). first_word ls) e in cc

accepted_tx : (s : Scripts) (tx : Tx) (w v : World) (rule : Rule) → lines_by (accepted_as s) (records.Tx tx) w v ≡ reply_words (Refused rule) ∷ [] → ⊥
accepted_tx scripts.Absent tx w v rule e = not_accepted [] rule e
accepted_tx scripts.Passed tx w v rule e = not_accepted [] rule e
accepted_tx scripts.Failed tx w v rule e = not_accepted (codes "failed-scripts" ∷ []) rule e

refused_stays : (o : Option Rule) (w : World) (r : Record) (rule : Rule) → told o w r ≡ reply_words (Refused rule) ∷ [] → (step_by o w r).0 ≡ w
refused_stays (Some other) w r rule e = refl
refused_stays None w (records.Genesis g) rule e = refl
refused_stays None w (records.Block slot pulse) rule e = absurd (accepted_block (enters_next w.ledger slot) w (world_after_accepted w (records.Block slot pulse)) rule e)
refused_stays None w (records.Rewards u) rule e = absurd (not_accepted [] rule e)
refused_stays None w (records.Tx tx) rule e = absurd (accepted_tx tx.scripts tx w (world_after_accepted w (records.Tx tx)) rule e)
refused_stays None w (records.Print what) rule e = refl

pub refusals_change_nothing : RefusalsChangeNothing
refusals_change_nothing w (Read r) rule e = refused_stays (refusal_of w r) w r rule e
refusals_change_nothing w (Malformed field place) rule e = refl
refusals_change_nothing w TooLong rule e = refl

-- ---- what was counted

-- the lines of an accepted block, with what its World has counted
block_told : (w : World) (slot pulse counted : ℕ) (o : Option Rule) → o ≡ None →
    let v : World = (step_by o w (records.Block slot pulse)).0 in
    v.counted ≡ counted →
    told o w (records.Block slot pulse) ≡ crossing_lines (enters_next w.ledger slot) w ++ words_of_block slot v.ledger.epoch counted (entry_count v.frozen) ∷ []
block_told w slot pulse counted (Some rule) none e = cc
block_told w slot pulse counted None none e =
    let v : World = world_after_accepted w (records.Block slot pulse) in
    ap (λ (n : ℕ). crossing_lines (enters_next w.ledger slot) w ++ words_of_block slot v.ledger.epoch n (entry_count v.frozen) ∷ []) e

pub counted_is_shown : CountedIsShown
counted_is_shown g within no_fault rs slot pulse all accepted =
    let start : World = world_of_genesis g in
    let w : World = world_after_all start rs in
    let b : Record = records.Block slot pulse in
    let after : world_after_all start (rs ++ b ∷ []) ≡ (step w b).0 = fold-append (λ (v : World) (r : Record). (step v r).0) start rs (b ∷ []) in
    block_told w slot pulse (counted_of start (rs ++ b ∷ [])) (refusal_of w b) accepted
    (ap (λ (v : World). v.counted) (sym after) ∙ counted_is_the_pulses g within no_fault (rs ++ b ∷ []) all)
