-- What `follow` writes of a run is the text of its stream.
use Rattle.std.proofs.Common.{◌≡◌, ◌∙◌, ◌<◌, ◌+◌, ℕ, List, [], ◌∷◌, ◌++◌, Option, Some, None, Result, Ok, Err, ap, append_assoc, arith, inl, inr, length, refl, sym}
use Rattle.std.specs.Prelude.{fold, unwrap_or}
use Rattle.std.proofs.lemmas.List.{append-nil, length-append}
use Rattle.byte_lines.specs.Laws.{LinesAddUp}
use Rattle.byte_lines.specs.Pieces.{lines_of, open_of, whole_of}
use Rattle.line_runs.specs.Plays.{Played, after_turn, ended, records_from, with_record}
use Rattle.line_runs.specs.Runs.{IsStopped, played_over}
use Rattle.line_runs.specs.declared.fault.RunFault.TheVariants as faults
use Rattle.line_runs.proofs.Fronts.{records_both}
use Rattle.text_model.specs.Runs.{text_of_lines}
use Rattle.text_model.specs.Words.{Text}
use Rattle.run_model.specs.Genesis.{genesis_fault, world_of_genesis}
use Rattle.tx_records.specs.declared.genesis.Genesis.{Genesis}
use Rattle.tx_records.specs.declared.genesis.GenesisRule.{GenesisRule}
use Rattle.tx_records.specs.declared.limits.TheConstants.{LINE_LIMIT, STREAM_LIMIT}
use Rattle.tx_records.specs.declared.record.Record.TheVariants as kinds
use Rattle.replay_loop.specs.declared.status.GenesisCause.{GenesisCause}
use Rattle.replay_loop.specs.declared.status.GenesisCause.TheVariants as causes
use Rattle.follow_records.specs.declared.record.FollowReading.{FollowReading}
use Rattle.follow_records.specs.declared.record.FollowReading.TheVariants as readings
use Rattle.follow_records.specs.declared.record.FollowRecord.TheVariants.{Plain, Rollback}
use Rattle.follow_model.specs.Chain.{no_records}
use Rattle.follow_model.specs.FollowLines.{follow_of_readings, follow_reading_lines, follow_text_by, follow_text_from}
use Rattle.follow_loop.specs.Laws.{DoneFollowIsWhole, FollowIsComplete, TextIsFollowed, chain_after_readings}
use Rattle.follow_loop.specs.Plays.{Position, after_reading, begun, first_turn, follow_play, follow_run, genesis_by, genesis_read, genesis_text}
use Rattle.follow_loop.specs.Readings.{follow_reading_of_line, follow_readings_of}

-- ---- the text of a followed stream, by the genesis that was read first

abbrev text_after : ℕ → Result Genesis GenesisCause → List (ℕ × FollowReading) → Option Text
text_after n (Ok g) rs = Some (genesis_text n g ++ follow_text_from (world_of_genesis g) no_records rs)
text_after n (Err cause) rs = None

by_rule : (found : Option GenesisRule) (n : ℕ) (g : Genesis) (rs : List (ℕ × FollowReading)) → follow_text_by n g found rs ≡ text_after n (genesis_by found g) rs
by_rule (Some rule) n g rs = refl
by_rule None n g rs = refl

text_is : (n : ℕ) (r : FollowReading) (rs : List (ℕ × FollowReading)) → follow_of_readings ((n, r) ∷ rs) ≡ text_after n (genesis_read r) rs
text_is n (readings.Read (Plain (kinds.Genesis g))) rs = by_rule (genesis_fault g) n g rs
text_is n (readings.Read (Plain (kinds.Block slot pulse))) rs = refl
text_is n (readings.Read (Plain (kinds.Rewards u))) rs = refl
text_is n (readings.Read (Plain (kinds.Tx tx))) rs = refl
text_is n (readings.Read (Plain (kinds.Print what))) rs = refl
text_is n (readings.Read (Rollback slot)) rs = refl
text_is n (readings.Malformed field place) rs = refl
text_is n readings.TooLong rs = refl

-- ---- what the command comes to

abbrev Comes : Type 0
Comes = Played (Option Position) GenesisCause

-- after further readings
goes_on : (text : List ℕ) (p : Position) (rs : List (ℕ × FollowReading))
    → fold (with_record follow_play) (record { text = text; stand = Ok (Some p) }) rs
    ≡ record { text = text ++ follow_text_from p.start p.chain rs; stand = Ok (Some (record p { chain = chain_after_readings p.start p.chain rs })) }
goes_on text p [] = ap (λ (t : List ℕ). record { text = t; stand = Ok (Some p) }) (sym (append-nil text))
goes_on text p ((n, r) ∷ rs) =
    let told : List ℕ = text_of_lines n (follow_reading_lines p.start p.chain r) in
    let q : Position = after_reading p r in
    goes_on (text ++ told) q rs
    ∙ ap (λ (t : List ℕ). record { text = t; stand = Ok (Some (record q { chain = chain_after_readings q.start q.chain rs })) })
    (append_assoc text told (follow_text_from q.start q.chain rs))

-- one that has stopped
stays : (cause : GenesisCause) (rs : List (ℕ × FollowReading)) → fold (with_record follow_play) (record { text = []; stand = Err cause }) rs ≡ record { text = []; stand = Err cause }
stays cause [] = refl
stays cause (r ∷ rs) = stays cause rs

-- after all, by the genesis that was read first
abbrev after_first : ℕ → Result Genesis GenesisCause → List (ℕ × FollowReading) → Comes
after_first n a rs = fold (with_record follow_play) (after_turn [] (first_turn n a)) rs

begins : (n : ℕ) (g : Genesis) (rs : List (ℕ × FollowReading))
    → after_first n (Ok g) rs
    ≡ record { text = genesis_text n g ++ follow_text_from (world_of_genesis g) no_records rs; stand = Ok (Some (record { start = world_of_genesis g; chain = chain_after_readings (world_of_genesis g) no_records rs })) }
begins n g rs = goes_on (genesis_text n g) (begun g) rs

-- ---- its text

text_first : (n : ℕ) (a : Result Genesis GenesisCause) (rs : List (ℕ × FollowReading)) → (after_first n a rs).text ≡ unwrap_or (text_after n a rs) []
text_first n (Ok g) rs = ap (λ (x : Comes). x.text) (begins n g rs)
text_first n (Err cause) rs = ap (λ (x : Comes). x.text) (stays cause rs)

pub text_is_followed : TextIsFollowed
text_is_followed [] = refl
text_is_followed ((n, r) ∷ rs) = text_first n (genesis_read r) rs ∙ ap (λ (o : Option Text). unwrap_or o []) (sym (text_is n r rs))

-- ---- a run that is done

done_first : (m n : ℕ) (a : Result Genesis GenesisCause) (rs : List (ℕ × FollowReading)) (text : List ℕ) → ended follow_play m (after_first n a rs) ≡ record { text = text; stand = Ok tt }
    → text_after n a rs ≡ Some text
done_first m n (Ok g) rs text done =
    let told : List ℕ = genesis_text n g ++ follow_text_from (world_of_genesis g) no_records rs in
    ap Some (sym (append-nil told) ∙ ap (λ (x : Played (Unit {0}) GenesisCause). x.text) (sym (ap (λ (x : Comes). ended follow_play m x) (begins n g rs)) ∙ done))
done_first m n (Err cause) rs text done =
    let never : Err cause ≡ Ok tt = ap (λ (x : Played (Unit {0}) GenesisCause). x.stand) (sym (ap (λ (x : Comes). ended follow_play m x) (stays cause rs)) ∙ done) in cc

done_text : (m : ℕ) (rs : List (ℕ × FollowReading)) (text : List ℕ) → ended follow_play m (played_over follow_run rs) ≡ record { text = text; stand = Ok tt } → follow_of_readings rs ≡ Some text
done_text m [] text done =
    let never : Err causes.Missing ≡ Ok tt = ap (λ (x : Played (Unit {0}) GenesisCause). x.stand) done in cc
done_text m ((n, r) ∷ rs) text done = text_is n r rs ∙ done_first m n (genesis_read r) rs text done

pub done_is_whole : DoneFollowIsWhole
done_is_whole bytes left had has run = record {
  read = run.told ∙ ap Some run.ending.read;
  text = run.written;
  is =
      ap (λ (xs : List ℕ). follow_of_readings (follow_readings_of xs)) (run.cut ∙ ap (λ (xs : List ℕ). run.came ++ xs) run.ending.read ∙ append-nil run.came)
      ∙ done_text (length (lines_of LINE_LIMIT run.came)) (follow_readings_of run.came) run.written run.ending.text;
  wrote = run.wrote;
}

-- ---- a run that stops

stop_first : (n : ℕ) (a : Result Genesis GenesisCause) (rs more : List (ℕ × FollowReading)) (text : List ℕ) (cause : GenesisCause)
    → after_first n a rs ≡ record { text = text; stand = Err cause } → text_after n a more ≡ None
stop_first n (Ok g) rs more text cause stopped =
    let at : Option Position = Some (record { start = world_of_genesis g; chain = chain_after_readings (world_of_genesis g) no_records rs }) in
    let never : Ok at ≡ Err cause = ap (λ (x : Comes). x.stand) (sym (begins n g rs) ∙ stopped) in cc
stop_first n (Err other) rs more text cause stopped = refl

-- at a record: nothing that begins so has a text
stop_text : (rs more : List (ℕ × FollowReading)) (text : List ℕ) (cause : GenesisCause) → played_over follow_run rs ≡ record { text = text; stand = Err cause } → follow_of_readings (rs ++ more) ≡ None
stop_text [] more text cause stopped =
    let at : Option Position = None in
    let never : Ok at ≡ Err cause = ap (λ (x : Comes). x.stand) stopped in cc
stop_text ((n, r) ∷ rs) more text cause stopped = text_is n r (rs ++ more) ∙ stop_first n (genesis_read r) rs (rs ++ more) text cause stopped

end_first : (m n : ℕ) (a : Result Genesis GenesisCause) (rs : List (ℕ × FollowReading)) (text : List ℕ) (cause : GenesisCause)
    → ended follow_play m (after_first n a rs) ≡ record { text = text; stand = Err cause } → text_after n a rs ≡ None
end_first m n (Ok g) rs text cause stopped =
    let never : Ok tt ≡ Err cause = ap (λ (x : Played (Unit {0}) GenesisCause). x.stand) (sym (ap (λ (x : Comes). ended follow_play m x) (begins n g rs)) ∙ stopped) in cc
end_first m n (Err other) rs text cause stopped = refl

-- at the end
end_text : (m : ℕ) (rs : List (ℕ × FollowReading)) (text : List ℕ) (cause : GenesisCause) → ended follow_play m (played_over follow_run rs) ≡ record { text = text; stand = Err cause } → follow_of_readings rs ≡ None
end_text m [] text cause stopped = refl
end_text m ((n, r) ∷ rs) text cause stopped = text_is n r rs ∙ end_first m n (genesis_read r) rs text cause stopped

module _ (law : LinesAddUp) (bytes : List ℕ) where
  no_text : (came rest written : List ℕ) (cause : GenesisCause) → bytes ≡ came ++ rest → IsStopped follow_run cause came rest written → follow_of_readings (follow_readings_of bytes) ≡ None
  no_text came rest written cause cut (inl stopped) =
      let later : List (Option (List ℕ)) = lines_of LINE_LIMIT (open_of came ++ rest) in
      let more = records_from follow_reading_of_line (1 + length (lines_of LINE_LIMIT (whole_of came))) later in
      let all : follow_readings_of (came ++ rest) ≡ follow_readings_of (whole_of came) ++ more =
      ap (λ (ls : List (Option (List ℕ))). records_from follow_reading_of_line 1 ls) (law LINE_LIMIT came rest)
      ∙ records_both follow_reading_of_line 1 (lines_of LINE_LIMIT (whole_of came)) later in
      ap (λ (xs : List ℕ). follow_of_readings (follow_readings_of xs)) cut
      ∙ ap (λ (rs : List (ℕ × FollowReading)). follow_of_readings rs) all
      ∙ stop_text (follow_readings_of (whole_of came)) more written cause stopped
  no_text came rest written cause cut (inr (none, stopped)) =
      ap (λ (xs : List ℕ). follow_of_readings (follow_readings_of xs)) (cut ∙ ap (λ (xs : List ℕ). came ++ xs) none ∙ append-nil came)
      ∙ end_text (length (lines_of LINE_LIMIT came)) (follow_readings_of came) written cause stopped

pub complete : LinesAddUp → FollowIsComplete
complete law bytes text left had has (Ok done) good short run read write = inl refl
complete law bytes text left had has (Err (faults.Stop cause)) good short run read write =
    let both : Some text ≡ None = sym good ∙ no_text law bytes run.came run.rest run.written cause run.cut run.ending in cc
complete law bytes text left had has (Err faults.ReadFault) good short run read write = absurd (read refl)
complete law bytes text left had has (Err faults.WriteFault) good short run read write = absurd (write refl)
complete law bytes text left had has (Err faults.NoMemory) good short run read write = inr refl
complete law bytes text left had has (Err faults.TooMuch) good short run read write =
    let over : STREAM_LIMIT < length run.came = run.too_much.0 refl in
    let all : length bytes ≡ length run.came + length run.rest = ap length run.cut ∙ length-append run.came run.rest in
    absurd (omega (arith, over, all, short))
