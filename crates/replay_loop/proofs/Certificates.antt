-- A run that tells certificates wrote those of all boundaries.
use Rattle.std.proofs.Common.{◌≡◌, ℕ, List, [], ◌∷◌, ◌++◌, Option, Some, None, Result, Ok, Err, refl, sym, ap, subst, ◌∙◌, append_assoc}
use Rattle.std.specs.Prelude.{fold, if◌then◌else◌, length, option_map}
use Rattle.std.proofs.lemmas.List.{append-nil}
use Rattle.byte_lines.specs.Pieces.{lines_of}
use Rattle.certificate_model.specs.Certificate.{certificate_text}
use Rattle.certificate_model.specs.Checked.{certificate_by, certificate_of_reading, certificates_by, certificates_from, certificates_of_readings}
use Rattle.ledger_model.specs.Broken.{first_broken}
use Rattle.ledger_model.specs.Checks.{first_among}
use Rattle.line_runs.specs.Plays.{Played, after_turn, ended, with_record}
use Rattle.line_runs.specs.Runs.{IsRunOf, played_over}
use Rattle.record_stream.specs.Records.{records_of}
use Rattle.run_model.specs.Genesis.{genesis_fault, world_of_genesis}
use Rattle.run_model.specs.Step.{block_checks, enters_next, reward_checks}
use Rattle.run_model.specs.World.{World}
use Rattle.text_forms.specs.Worlds.{world_after_readings}
use Rattle.text_model.specs.Runs.{world_after_reading}
use Rattle.text_model.specs.Words.{Text}
use Rattle.tx_records.specs.declared.genesis.Genesis.{Genesis}
use Rattle.tx_records.specs.declared.genesis.GenesisRule.{GenesisRule}
use Rattle.tx_records.specs.declared.limits.TheConstants.{LINE_LIMIT}
use Rattle.tx_records.specs.declared.record.Reading.{Reading}
use Rattle.tx_records.specs.declared.record.Reading.TheVariants as readings
use Rattle.tx_records.specs.declared.record.Record.TheVariants as kinds
use Rattle.tx_records.specs.declared.record.Rewards.{Rewards}
use Rattle.tx_records.specs.declared.reply.Rule.{Rule}
use Rattle.tx_records.specs.declared.tx.Tx.{Tx}
use Rattle.replay_loop.specs.Certificates.{DoneCertifyIsWhole, block_in, certificate_before, certificates_told, ends_by}
use Rattle.replay_loop.specs.Plays.{Stood, genesis_answered, play_of, run_of, turn_by}
use Rattle.replay_loop.specs.Runs.{start_fault}
use Rattle.replay_loop.specs.Statuses.{ReplayFault}
use Rattle.replay_loop.specs.declared.status.GenesisCause.{GenesisCause}
use Rattle.replay_loop.specs.declared.status.GenesisCause.TheVariants as causes
use Rattle.replay_loop.proofs.Lasts.{ended_ok}
use Rattle.replay_loop.proofs.Played.{begun, done_begun}

-- ---- ahead of a block

-- by the first rule that is broken
of_block : (found : Option Rule) (w : World) (slot pulse : ℕ) → certificate_by found w (kinds.Block slot pulse) ≡ if ends_by found (enters_next w.ledger slot) then certificate_text w.frozen else []
of_block None w slot pulse = refl
of_block (Some rule) w slot pulse = refl

of_tx : (found : Option Rule) (w : World) (tx : Tx) → certificate_by found w (kinds.Tx tx) ≡ []
of_tx None w tx = refl
of_tx (Some rule) w tx = refl

of_rewards : (found : Option Rule) (w : World) (u : Rewards) → certificate_by found w (kinds.Rewards u) ≡ []
of_rewards None w u = refl
of_rewards (Some rule) w u = refl

pub ahead_is : (w : World) (r : Reading) → certificate_before w (block_in r) ≡ certificate_of_reading w r
ahead_is w (readings.Read (kinds.Block slot pulse)) = sym (of_block (first_among (block_checks w.ledger slot pulse)) w slot pulse)
ahead_is w (readings.Read (kinds.Tx tx)) = sym (of_tx (first_broken w.ledger tx) w tx)
ahead_is w (readings.Read (kinds.Rewards u)) = sym (of_rewards (first_among (reward_checks w u)) w u)
ahead_is w (readings.Read (kinds.Genesis g)) = refl
ahead_is w (readings.Read (kinds.Print what)) = refl
ahead_is w (readings.Malformed field place) = refl
ahead_is w readings.TooLong = refl

-- ---- a whole run

-- the records leave a World, with the certificates as the text
record LeavesText (all : Option Text) (x : Played (Stood (Unit {0})) GenesisCause) : Type 0 where
  pub last : World
  pub text : Text
  pub is : all ≡ Some text
  pub plays : x ≡ record { text = text; stand = Ok (record { state = Some last; kept = tt }) }

-- further records add their certificates
goes_on : (text : Text) (w : World) (rs : List (ℕ × Reading))
    → fold (with_record (play_of certificates_told)) (record { text = text; stand = Ok (record { state = Some w; kept = tt }) }) rs
    ≡ record { text = text ++ certificates_from w rs; stand = Ok (record { state = Some (world_after_readings w rs); kept = tt }) }
goes_on text w [] = ap (λ (t : Text). record { text = t; stand = Ok (record { state = Some w; kept = tt }) }) (sym (append-nil text))
goes_on text w ((n, r) ∷ rs) =
    goes_on (text ++ (certificate_of_reading w r ++ [])) (world_after_reading w r) rs
    ∙ ap (λ (t : Text). record { text = (text ++ t) ++ certificates_from (world_after_reading w r) rs; stand = Ok (record { state = Some (world_after_readings (world_after_reading w r) rs); kept = tt }) })
    (append-nil (certificate_of_reading w r))
    ∙ ap (λ (t : Text). record { text = t; stand = Ok (record { state = Some (world_after_readings (world_after_reading w r) rs); kept = tt }) })
    (append_assoc text (certificate_of_reading w r) (certificates_from (world_after_reading w r) rs))

by_rule : (found : Option GenesisRule) (n : ℕ) (g : Genesis) (rs : List (ℕ × Reading)) → option_map causes.Broken found ≡ None
    → LeavesText (certificates_by found g rs) (fold (with_record (play_of certificates_told)) (after_turn [] (turn_by certificates_told tt n [] (genesis_answered found g))) rs)
by_rule None n g rs good = record {
  last = world_after_readings (world_of_genesis g) rs;
  text = certificates_from (world_of_genesis g) rs;
  is = refl;
  plays = goes_on [] (world_of_genesis g) rs;
}
by_rule (Some rule) n g rs good = cc

leaves : (rs : List (ℕ × Reading)) → start_fault rs ≡ None → LeavesText (certificates_of_readings rs) (played_over (run_of certificates_told tt) rs)
leaves [] good = cc
leaves ((n, readings.Read (kinds.Genesis g)) ∷ rs) good = by_rule (genesis_fault g) n g rs good
leaves ((n, readings.TooLong) ∷ rs) good = cc
leaves ((n, readings.Malformed field place) ∷ rs) good = cc
leaves ((n, readings.Read (kinds.Block slot pulse)) ∷ rs) good = cc
leaves ((n, readings.Read (kinds.Rewards u)) ∷ rs) good = cc
leaves ((n, readings.Read (kinds.Tx tx)) ∷ rs) good = cc
leaves ((n, readings.Read (kinds.Print what)) ∷ rs) good = cc

-- a run of these records that is done told all
all_told : (rs : List (ℕ × Reading)) (n : ℕ) (text : List ℕ) → ended (play_of certificates_told) n (played_over (run_of certificates_told tt) rs) ≡ record { text = text; stand = Ok tt }
    → certificates_of_readings rs ≡ Some text
all_told rs n text done =
    let b = done_begun certificates_told tt (start_fault rs) n (played_over (run_of certificates_told tt) rs) text (begun certificates_told tt rs) done in
    let l = leaves rs b.start in
    l.is
    ∙ ap Some
    (sym (append-nil l.text)
    ∙ ap (λ (x : Played (Unit {0}) GenesisCause). x.text) (sym (ap (λ (x : Played (Stood (Unit {0})) GenesisCause). ended (play_of certificates_told) n x) l.plays) ∙ done))

pub certificates_are_whole : DoneCertifyIsWhole
certificates_are_whole bytes left had has h =
    let run = subst (λ (r : Result (Unit {0}) ReplayFault). IsRunOf (run_of certificates_told tt) bytes left had has r) (ended_ok h.ended h.is) h.run in record {
      read = run.told ∙ ap Some run.ending.read;
      text = run.written;
      is =
          ap (λ (xs : List ℕ). certificates_of_readings (records_of xs)) (run.cut ∙ ap (λ (xs : List ℕ). run.came ++ xs) run.ending.read ∙ append-nil run.came)
          ∙ all_told (records_of run.came) (length (lines_of LINE_LIMIT run.came)) run.written run.ending.text;
      wrote = run.wrote;
    }
