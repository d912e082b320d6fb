-- What `explain` writes of a run is all that is wrong with it.
use Rattle.std.proofs.Common.{◌≡◌, ◌≢◌, ◌∙◌, ◌<◌, ◌+◌, ℕ, List, [], ◌∷◌, ◌++◌, Option, Some, None, Result, Ok, Err, ap, append_assoc, arith, inl, inr, length, refl, sym}
use Rattle.std.specs.Prelude.{fold}
use Rattle.std.specs.Io.KnownBytes.{append_known}
use Rattle.std.proofs.lemmas.List.{append-nil, length-append}
use Rattle.byte_lines.specs.Laws.{LinesAddUp}
use Rattle.byte_lines.specs.Pieces.{lines_of, whole_of}
use Rattle.explain_print.specs.of_explain_model.of_record_notes.Laws.{NotesAreOfRecords, readings_of}
use Rattle.explain_print.specs.of_explain_model.of_record_notes.Lines.{Noted, notes_of}
use Rattle.explain_print.specs.of_explain_model.of_record_notes.of_record_stream.Records.{records_of}
use Rattle.explain_print.specs.of_explain_model.Explained.{explained_behind, explained_from, explained_lines, explained_of_readings, first_lines}
use Rattle.line_runs.specs.Plays.{Played, ended, with_record}
use Rattle.line_runs.specs.Runs.{IsStopped, played_over}
use Rattle.line_runs.specs.declared.fault.RunFault.TheVariants as faults
use Rattle.run_model.specs.Genesis.{genesis_fault}
use Rattle.run_model.specs.World.{World}
use Rattle.text_forms.specs.Worlds.{world_after_readings, world_by, world_of_readings}
use Rattle.text_model.specs.Runs.{text_of_lines, world_after_reading}
use Rattle.tx_records.specs.declared.genesis.Genesis.{Genesis}
use Rattle.tx_records.specs.declared.genesis.GenesisRule.{GenesisRule}
use Rattle.tx_records.specs.declared.limits.TheConstants.{LINE_LIMIT, STREAM_LIMIT}
use Rattle.tx_records.specs.declared.record.Reading.{Reading}
use Rattle.tx_records.specs.declared.record.Reading.TheVariants as readings
use Rattle.tx_records.specs.declared.record.Record.TheVariants as kinds
use Rattle.replay_loop.specs.Plays.{first_answered, genesis_answered}
use Rattle.replay_loop.specs.Runs.{reading_fault, start_fault}
use Rattle.replay_loop.specs.declared.outcome.Outcome.{Outcome}
use Rattle.replay_loop.specs.declared.status.GenesisCause.{GenesisCause}
use Rattle.replay_loop.specs.declared.status.GenesisCause.TheVariants as causes
use Rattle.replay_loop.proofs.Played.{FirstBy, read_first}
use Rattle.replay_loop.proofs.Texts.{all_came, start_of_whole}
use Rattle.explain_loop.specs.Laws.{DoneExplainIsWhole, ExplainIsComplete, TextIsExplained}
use Rattle.explain_loop.specs.Plays.{Failed, Over, Standing, Unbegun, begun, explain_play, explain_run}

abbrev pub Comes : Type 0
Comes = Played Standing GenesisCause

-- and with its end
abbrev pub Ended : Type 0
Ended = Played (Unit {0}) GenesisCause

-- ---- what the command comes to

-- after further readings
goes_on : (text : List ℕ) (w : World) (rs : List (ℕ × Noted))
    → fold (with_record explain_play) (record { text = text; stand = Ok (Over w) }) rs ≡ record { text = text ++ explained_from w rs; stand = Ok (Over (world_after_readings w (readings_of rs))) }
goes_on text w [] = ap (λ (t : List ℕ). record { text = t; stand = Ok (Over w) }) (sym (append-nil text))
goes_on text w ((n, r) ∷ rs) =
    let told : List ℕ = text_of_lines n (explained_lines w r) in
    let v : World = world_after_reading w r.reading in
    goes_on (text ++ told) v rs
    ∙ ap (λ (t : List ℕ). record { text = t; stand = Ok (Over (world_after_readings v (readings_of rs))) }) (append_assoc text told (explained_from v rs))

-- one that has stopped
stays : (text : List ℕ) (cause : GenesisCause) (rs : List (ℕ × Noted)) → fold (with_record explain_play) (record { text = text; stand = Err cause }) rs ≡ record { text = text; stand = Err cause }
stays text cause [] = refl
stays text cause (r ∷ rs) = stays text cause rs

-- behind the first reading, by the answer to it
abbrev after_first : List ℕ → Result (World × Outcome) GenesisCause → List (ℕ × Noted) → Comes
after_first text a rs = fold (with_record explain_play) (record { text = text; stand = Ok (begun a) }) rs

-- ---- its text

abbrev pub world_in : Result (World × Outcome) GenesisCause → Option World
world_in (Ok p) = Some p.0
world_in (Err cause) = None

text_first : (text : List ℕ) (a : Result (World × Outcome) GenesisCause) (rs : List (ℕ × Noted)) → (after_first text a rs).text ≡ text ++ explained_behind (world_in a) rs
text_first text (Ok (w, out)) rs = ap (λ (x : Comes). x.text) (goes_on text w rs)
text_first text (Err cause) [] = sym (append-nil text)
text_first text (Err cause) (r ∷ rs) = ap (λ (x : Comes). x.text) (stays text cause rs) ∙ sym (append-nil text)

genesis_world : (found : Option GenesisRule) (g : Genesis) → world_by found g [] ≡ world_in (genesis_answered found g)
genesis_world None g = refl
genesis_world (Some rule) g = refl

pub first_world : (n : ℕ) (r : Reading) → world_of_readings ((n, r) ∷ []) ≡ world_in (first_answered r)
first_world n (readings.Read (kinds.Genesis g)) = genesis_world (genesis_fault g) g
first_world n (readings.Read (kinds.Block slot pulse)) = refl
first_world n (readings.Read (kinds.Rewards u)) = refl
first_world n (readings.Read (kinds.Tx tx)) = refl
first_world n (readings.Read (kinds.Print what)) = refl
first_world n (readings.Malformed field place) = refl
first_world n readings.TooLong = refl

pub text_is_explained : TextIsExplained
text_is_explained [] = refl
text_is_explained ((n, r) ∷ rs) =
    let told : List ℕ = text_of_lines n (first_lines r) in
    text_first told (first_answered r.reading) rs ∙ ap (λ (o : Option World). told ++ explained_behind o rs) (sym (first_world n r.reading))

-- ---- a run to its end

-- nothing is told at the end
no_end : (m : ℕ) (text : List ℕ) (stand : Result Standing GenesisCause) → (ended explain_play m (record { text = text; stand = stand })).text ≡ text
no_end m text (Err cause) = refl
no_end m text (Ok Unbegun) = refl
no_end m text (Ok (Over w)) = append-nil text
no_end m text (Ok (Failed cause)) = refl

pub ended_text : (m : ℕ) (rs : List (ℕ × Noted)) (text : List ℕ) (stand : Result (Unit {0}) GenesisCause) → ended explain_play m (played_over explain_run rs) ≡ record { text = text; stand = stand }
    → text ≡ explained_of_readings rs
ended_text m rs text stand ends =
    sym (ap (λ (x : Ended). x.text) ends)
    ∙ no_end m (played_over explain_run rs).text (played_over explain_run rs).stand
    ∙ text_is_explained rs

pub done_is_whole : DoneExplainIsWhole
done_is_whole bytes left had has run = record {
  read = run.told ∙ ap Some run.ending.read;
  wrote =
      let all : bytes ≡ run.came = run.cut ∙ ap (λ (xs : List ℕ). run.came ++ xs) run.ending.read ∙ append-nil run.came in
      let text : run.written ≡ explained_of_readings (notes_of run.came) = ended_text (length (lines_of LINE_LIMIT run.came)) (notes_of run.came) run.written (Ok tt) run.ending.text in
      run.wrote ∙ ap (λ (t : List ℕ). append_known had t) (text ∙ ap (λ (xs : List ℕ). explained_of_readings (notes_of xs)) (sym all));
}

-- ---- a run that stops

ok_not_err : {A B : Type 0} (a : A) (b : B) → ◌≡◌ {A = Result A B} (Ok a) (Err b) → ⊥
ok_not_err a b e = cc

err_same : {A B : Type 0} (a b : B) → ◌≡◌ {A = Result A B} (Err a) (Err b) → a ≡ b
err_same a b e = cc

-- why it stops is why its first reading is no genesis to begin with
abbrev pub IsStart : Option GenesisCause → GenesisCause → Type 0
IsStart fault cause = (fault ≡ Some cause) × (cause ≢ causes.Missing)

start_same : (c cause : GenesisCause) (fault : Option GenesisCause) → FirstBy (Err c) fault → c ≡ cause → IsStart fault cause
start_same c cause fault first same = (first.0 ∙ ap (λ (x : GenesisCause). Some x) same, λ e. first.1 (same ∙ e))

-- at a reading
stop_first : (told : List ℕ) (a : Result (World × Outcome) GenesisCause) (fault : Option GenesisCause) (rs : List (ℕ × Noted)) (text : List ℕ) (cause : GenesisCause)
    → FirstBy a fault → after_first told a rs ≡ record { text = text; stand = Err cause } → IsStart fault cause
stop_first told (Ok (w, out)) fault rs text cause first stopped =
    absurd (ok_not_err (Over (world_after_readings w (readings_of rs))) cause (ap (λ (x : Comes). x.stand) (sym (goes_on told w rs) ∙ stopped)))
stop_first told (Err c) fault [] text cause first stopped = absurd (ok_not_err (Failed c) cause (ap (λ (x : Comes). x.stand) stopped))
stop_first told (Err c) fault (r ∷ rs) text cause first stopped =
    start_same c cause fault first (err_same {A = Standing} c cause (ap (λ (x : Comes). x.stand) (sym (stays told c rs) ∙ stopped)))

pub stop_start : (rs : List (ℕ × Noted)) (text : List ℕ) (cause : GenesisCause) → played_over explain_run rs ≡ record { text = text; stand = Err cause } → IsStart (start_fault (readings_of rs)) cause
stop_start [] text cause stopped = absurd (ok_not_err Unbegun cause (ap (λ (x : Comes). x.stand) stopped))
stop_start ((n, r) ∷ rs) text cause stopped = stop_first (text_of_lines n (first_lines r)) (first_answered r.reading) (reading_fault r.reading) rs text cause (read_first r.reading) stopped

-- at the end
end_first : (m : ℕ) (told : List ℕ) (a : Result (World × Outcome) GenesisCause) (fault : Option GenesisCause) (rs : List (ℕ × Noted)) (text : List ℕ) (cause : GenesisCause)
    → FirstBy a fault → ended explain_play m (after_first told a rs) ≡ record { text = text; stand = Err cause } → fault ≡ Some cause
end_first m told (Ok (w, out)) fault rs text cause first stopped =
    absurd (ok_not_err tt cause (ap (λ (x : Ended). x.stand) (sym (ap (λ (x : Comes). ended explain_play m x) (goes_on told w rs)) ∙ stopped)))
end_first m told (Err c) fault [] text cause first stopped =
    first.0 ∙ ap (λ (x : GenesisCause). Some x) (err_same {A = Unit {0}} c cause (ap (λ (x : Ended). x.stand) stopped))
end_first m told (Err c) fault (r ∷ rs) text cause first stopped =
    first.0
    ∙ ap (λ (x : GenesisCause). Some x) (err_same {A = Unit {0}} c cause (ap (λ (x : Ended). x.stand) (sym (ap (λ (x : Comes). ended explain_play m x) (stays told c rs)) ∙ stopped)))

end_start : (m : ℕ) (rs : List (ℕ × Noted)) (text : List ℕ) (cause : GenesisCause) → ended explain_play m (played_over explain_run rs) ≡ record { text = text; stand = Err cause }
    → start_fault (readings_of rs) ≡ Some cause
end_start m [] text cause stopped =
    ap (λ (x : GenesisCause). Some x) (err_same {A = Unit {0}} causes.Missing cause (ap (λ (x : Ended). x.stand) stopped))
end_start m ((n, r) ∷ rs) text cause stopped = end_first m (text_of_lines n (first_lines r)) (first_answered r.reading) (reading_fault r.reading) rs text cause (read_first r.reading) stopped

module _ (law : LinesAddUp) (same : NotesAreOfRecords) (bytes : List ℕ) where
  pub bad_start : (came rest written : List ℕ) (cause : GenesisCause) → bytes ≡ came ++ rest → IsStopped explain_run cause came rest written → start_fault (records_of bytes) ≡ Some cause
  bad_start came rest written cause cut (inl stopped) =
      let s = stop_start (notes_of (whole_of came)) written cause stopped in
      let at : start_fault (records_of (whole_of came)) ≡ Some cause = ap (λ (rs : List (ℕ × Reading)). start_fault rs) (sym (same (whole_of came))) ∙ s.0 in
      start_of_whole law bytes came rest cut (Some cause) (λ e. s.1 (let missing : Some cause ≡ Some causes.Missing = e in cc)) at
  bad_start came rest written cause cut (inr (none, stopped)) =
      ap (λ (xs : List ℕ). start_fault (records_of xs)) (all_came law bytes came rest cut none)
      ∙ ap (λ (rs : List (ℕ × Reading)). start_fault rs) (sym (same came))
      ∙ end_start (length (lines_of LINE_LIMIT came)) (notes_of came) written cause stopped

pub complete : LinesAddUp → NotesAreOfRecords → ExplainIsComplete
complete law same bytes left had has (Ok done) good short run read write = inl refl
complete law same bytes left had has (Err (faults.Stop cause)) good short run read write =
    let both : None ≡ Some cause = sym good ∙ bad_start law same bytes run.came run.rest run.written cause run.cut run.ending in cc
complete law same bytes left had has (Err faults.ReadFault) good short run read write = absurd (read refl)
complete law same bytes left had has (Err faults.WriteFault) good short run read write = absurd (write refl)
complete law same bytes left had has (Err faults.NoMemory) good short run read write = inr refl
complete law same bytes left had has (Err faults.TooMuch) good short run read write =
    let over : STREAM_LIMIT < length run.came = run.too_much.0 refl in
    let all : length bytes ≡ length run.came + length run.rest = ap length run.cut ∙ length-append run.came run.rest in
    absurd (omega (arith, over, all, short))
