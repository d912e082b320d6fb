-- What a command over records comes to, by how the records begin.
use Rattle.std.proofs.Common.{◌≡◌, ◌≢◌, ℕ, List, [], ◌∷◌, ◌++◌, Option, Some, None, Result, Ok, Err, refl, sym, ap, subst, ◌∙◌}
use Rattle.std.specs.Prelude.{IsOk, false, fold, option_map, true}
use Rattle.replay_loop.specs.Endings.{IsMissingOnly}
use Rattle.line_runs.specs.Plays.{Played, after_turn, ended, with_record}
use Rattle.line_runs.specs.Runs.{played_over}
use Rattle.run_model.specs.Genesis.{genesis_fault}
use Rattle.run_model.specs.World.{World}
use Rattle.text_model.specs.Runs.{world_after_reading}
use Rattle.tx_records.specs.declared.genesis.Genesis.{Genesis}
use Rattle.tx_records.specs.declared.genesis.GenesisRule.{GenesisRule}
use Rattle.tx_records.specs.declared.record.Reading.{Reading}
use Rattle.tx_records.specs.declared.record.Reading.TheVariants as readings
use Rattle.tx_records.specs.declared.record.Record.TheVariants as kinds
use Rattle.replay_loop.specs.declared.outcome.Outcome.{Outcome}
use Rattle.replay_loop.specs.declared.status.GenesisCause.{GenesisCause}
use Rattle.replay_loop.specs.declared.status.GenesisCause.TheVariants as causes
use Rattle.replay_loop.specs.Outcomes.{outcome_of}
use Rattle.replay_loop.specs.Plays.{Stood, Telling, first_answered, genesis_answered, play_of, run_of, turn_by}
use Rattle.replay_loop.specs.Runs.{reading_fault, start_fault}

ok_not_err : {A B : Type 0} (a : A) (b : B) → ◌≡◌ {A = Result A B} (Ok a) (Err b) → ⊥
ok_not_err a b e = cc

-- ---- what was read first

abbrev pub FirstBy : Result (World × Outcome) GenesisCause → Option GenesisCause → Type 0
FirstBy (Ok p) fault = fault ≡ None
FirstBy (Err cause) fault = (fault ≡ Some cause) × (cause ≢ causes.Missing)

genesis_first : (found : Option GenesisRule) (g : Genesis) → FirstBy (genesis_answered found g) (option_map causes.Broken found)
genesis_first None g = refl
genesis_first (Some rule) g = (refl, λ e. cc)

pub read_first : (r : Reading) → FirstBy (first_answered r) (reading_fault r)
read_first readings.TooLong = (refl, λ e. cc)
read_first (readings.Malformed field place) = (refl, λ e. cc)
read_first (readings.Read (kinds.Genesis g)) = genesis_first (genesis_fault g) g
read_first (readings.Read (kinds.Block slot pulse)) = (refl, λ e. cc)
read_first (readings.Read (kinds.Rewards u)) = (refl, λ e. cc)
read_first (readings.Read (kinds.Tx tx)) = (refl, λ e. cc)
read_first (readings.Read (kinds.Print what)) = (refl, λ e. cc)

only_none : (a : Result (World × Outcome) GenesisCause) (fault : Option GenesisCause) → FirstBy a fault → IsMissingOnly fault → fault ≡ None
only_none (Ok p) fault first only = first
only_none (Err cause) fault first only = absurd (never cause first.1 (subst (λ (f : Option GenesisCause). IsMissingOnly f) first.0 only)) where
  never : (c : GenesisCause) → c ≢ causes.Missing → IsMissingOnly (Some c) → ⊥
  never causes.Missing other is = other refl
  never causes.TooLong other is = is
  never (causes.Malformed field place) other is = is
  never causes.NoGenesis other is = is
  never (causes.Broken rule) other is = is

-- where something came, the start is good or bad
pub started : (before : List (ℕ × Reading)) (last : ℕ × Reading) → IsMissingOnly (start_fault (before ++ last ∷ [])) → start_fault (before ++ last ∷ []) ≡ None
started [] (n, r) only = only_none (first_answered r) (reading_fault r) (read_first r) only
started ((n, r) ∷ before) last only = only_none (first_answered r) (reading_fault r) (read_first r) only

module _ {Kept : Type 0} (t : Telling Kept) (k : Kept) where
  -- where the command is, by why the records are none to begin with
  abbrev pub BegunBy : Option GenesisCause → Played (Stood Kept) GenesisCause → Type 0
  BegunBy None x = (w : World) × (kept : Kept) × (x.stand ≡ Ok (record { state = Some w; kept = kept }))
  BegunBy (Some causes.Missing) x = x ≡ record { text = []; stand = Ok (record { state = None; kept = k }) }
  BegunBy (Some causes.TooLong) x = x ≡ record { text = []; stand = Err causes.TooLong }
  BegunBy (Some (causes.Malformed field place)) x = x ≡ record { text = []; stand = Err (causes.Malformed field place) }
  BegunBy (Some causes.NoGenesis) x = x ≡ record { text = []; stand = Err causes.NoGenesis }
  BegunBy (Some (causes.Broken rule)) x = x ≡ record { text = []; stand = Err (causes.Broken rule) }

  stopped_by : (cause : GenesisCause) (x : Played (Stood Kept) GenesisCause) → cause ≢ causes.Missing → x ≡ record { text = []; stand = Err cause } → BegunBy (Some cause) x
  stopped_by causes.Missing x other is = absurd (other refl)
  stopped_by causes.TooLong x other is = is
  stopped_by (causes.Malformed field place) x other is = is
  stopped_by causes.NoGenesis x other is = is
  stopped_by (causes.Broken rule) x other is = is

  onward : (text : List ℕ) (w : World) (kept : Kept) (rs : List (ℕ × Reading))
      → BegunBy None (fold (with_record (play_of t)) (record { text = text; stand = Ok (record { state = Some w; kept = kept }) }) rs)
  onward text w kept [] = (w, kept, refl)
  onward text w kept ((n, r) ∷ rs) =
      onward (text ++ (t.aheads kept w r ++ t.tells kept n (world_after_reading w r) (outcome_of w r))) (world_after_reading w r) (t.keeps kept n (world_after_reading w r) (outcome_of w r)) rs

  stays : (cause : GenesisCause) (rs : List (ℕ × Reading)) → fold (with_record (play_of t)) (record { text = []; stand = Err cause }) rs ≡ record { text = []; stand = Err cause }
  stays cause [] = refl
  stays cause (r ∷ rs) = stays cause rs

  begun_by : (n : ℕ) (rs : List (ℕ × Reading)) (a : Result (World × Outcome) GenesisCause) (fault : Option GenesisCause) → FirstBy a fault
      → BegunBy fault (fold (with_record (play_of t)) (after_turn [] (turn_by t k n [] a)) rs)
  begun_by n rs (Ok (w, o)) fault first =
      subst (λ (f : Option GenesisCause). BegunBy f (fold (with_record (play_of t)) (after_turn [] (turn_by t k n [] (Ok (w, o)))) rs)) (sym first) (onward (t.tells k n w o) w (t.keeps k n w o) rs)
  begun_by n rs (Err cause) fault first =
      subst (λ (f : Option GenesisCause). BegunBy f (fold (with_record (play_of t)) (after_turn [] (turn_by t k n [] (Err cause))) rs)) (sym first.0)
      (stopped_by cause (fold (with_record (play_of t)) (after_turn [] (turn_by t k n [] (Err cause))) rs) first.1 (stays cause rs))

  pub begun : (rs : List (ℕ × Reading)) → BegunBy (start_fault rs) (played_over (run_of t k) rs)
  begun [] = refl
  begun ((n, r) ∷ rs) = begun_by n rs (first_answered r) (reading_fault r) (read_first r)

  stop_same : (c : GenesisCause) (x : Played (Stood Kept) GenesisCause) (text : List ℕ) (cause : GenesisCause) → c ≢ causes.Missing → x ≡ record { text = []; stand = Err c } → x ≡ record { text = text; stand = Err cause }
      → (Some c ≡ Some cause) × (cause ≢ causes.Missing) × (text ≡ [])
  stop_same c x text cause other b stopped =
      let same : c ≡ cause = let e : Err c ≡ Err cause = ap (λ (y : Played (Stood Kept) GenesisCause). y.stand) (sym b ∙ stopped) in cc in (
        ap Some same,
        λ e. other (same ∙ e),
        ap (λ (y : Played (Stood Kept) GenesisCause). y.text) (sym stopped ∙ b),
      )

  end_same : (c : GenesisCause) (text : List ℕ) (cause : GenesisCause) → ◌≡◌ {A = Played (Unit {0}) GenesisCause} (record { text = []; stand = Err c }) (record { text = text; stand = Err cause }) → (Some c ≡ Some cause) × (text ≡ [])
  end_same c text cause same =
      let causes_are : c ≡ cause = let e : Err c ≡ Err cause = ap (λ (y : Played (Unit {0}) GenesisCause). y.stand) same in cc in
      (ap Some causes_are, sym (ap (λ (y : Played (Unit {0}) GenesisCause). y.text) same))

  not_going : (c : GenesisCause) (x : Played (Stood Kept) GenesisCause) → x ≡ record { text = []; stand = Err c } → IsOk x.stand → ⊥
  not_going c x b goes =
      let e : false ≡ true = subst (λ (y : Played (Stood Kept) GenesisCause). IsOk y.stand) b goes in cc

  -- ---- what an ending says of the start

  pub record HasBegun (fault : Option GenesisCause) (n : ℕ) (x : Played (Stood Kept) GenesisCause) (text : List ℕ) : Type 0 where
    pub start : fault ≡ None
    pub last : World
    pub kept : Kept
    pub stand : x.stand ≡ Ok (record { state = Some last; kept = kept })
    pub all : text ≡ x.text ++ t.closes kept last n

  pub done_begun : (fault : Option GenesisCause) (n : ℕ) (x : Played (Stood Kept) GenesisCause) (text : List ℕ) → BegunBy fault x → ended (play_of t) n x ≡ record { text = text; stand = Ok tt } → HasBegun fault n x text
  done_begun None n x text b done = record {
    start = refl;
    last = b.0;
    kept = b.1;
    stand = b.2;
    all = sym (ap (λ (y : Played (Unit {0}) GenesisCause). y.text) done) ∙ ap (λ (s : Result (Stood Kept) GenesisCause). (ended (play_of t) n (record { text = x.text; stand = s })).text) b.2;
  }
  done_begun (Some causes.Missing) n x text b done =
      let e : Err causes.Missing ≡ Ok tt = ap (λ (y : Played (Unit {0}) GenesisCause). y.stand) (sym (ap (λ (y : Played (Stood Kept) GenesisCause). ended (play_of t) n y) b) ∙ done) in cc
  done_begun (Some causes.TooLong) n x text b done =
      let e : Err causes.TooLong ≡ Ok tt = ap (λ (y : Played (Unit {0}) GenesisCause). y.stand) (sym (ap (λ (y : Played (Stood Kept) GenesisCause). ended (play_of t) n y) b) ∙ done) in cc
  done_begun (Some (causes.Malformed field place)) n x text b done =
      let e : Err (causes.Malformed field place) ≡ Ok tt = ap (λ (y : Played (Unit {0}) GenesisCause). y.stand) (sym (ap (λ (y : Played (Stood Kept) GenesisCause). ended (play_of t) n y) b) ∙ done) in cc
  done_begun (Some causes.NoGenesis) n x text b done =
      let e : Err causes.NoGenesis ≡ Ok tt = ap (λ (y : Played (Unit {0}) GenesisCause). y.stand) (sym (ap (λ (y : Played (Stood Kept) GenesisCause). ended (play_of t) n y) b) ∙ done) in cc
  done_begun (Some (causes.Broken rule)) n x text b done =
      let e : Err (causes.Broken rule) ≡ Ok tt = ap (λ (y : Played (Unit {0}) GenesisCause). y.stand) (sym (ap (λ (y : Played (Stood Kept) GenesisCause). ended (play_of t) n y) b) ∙ done) in cc

  -- what stops a command
  pub stop_begun : (fault : Option GenesisCause) (x : Played (Stood Kept) GenesisCause) (text : List ℕ) (cause : GenesisCause) → BegunBy fault x → x ≡ record { text = text; stand = Err cause }
      → (fault ≡ Some cause) × (cause ≢ causes.Missing) × (text ≡ [])
  stop_begun None x text cause b stopped = absurd (ok_not_err _ cause (sym b.2 ∙ ap (λ (y : Played (Stood Kept) GenesisCause). y.stand) stopped))
  stop_begun (Some causes.Missing) x text cause b stopped = absurd (ok_not_err _ cause (ap (λ (y : Played (Stood Kept) GenesisCause). y.stand) (sym b ∙ stopped)))
  stop_begun (Some causes.TooLong) x text cause b stopped = stop_same causes.TooLong x text cause (λ e. cc) b stopped
  stop_begun (Some (causes.Malformed field place)) x text cause b stopped = stop_same (causes.Malformed field place) x text cause (λ e. cc) b stopped
  stop_begun (Some causes.NoGenesis) x text cause b stopped = stop_same causes.NoGenesis x text cause (λ e. cc) b stopped
  stop_begun (Some (causes.Broken rule)) x text cause b stopped = stop_same (causes.Broken rule) x text cause (λ e. cc) b stopped

  -- or stops it at the end
  pub end_begun : (fault : Option GenesisCause) (n : ℕ) (x : Played (Stood Kept) GenesisCause) (text : List ℕ) (cause : GenesisCause) → BegunBy fault x → ended (play_of t) n x ≡ record { text = text; stand = Err cause }
      → (fault ≡ Some cause) × (text ≡ [])
  end_begun None n x text cause b stopped =
      absurd (ok_not_err tt cause
      (sym (ap (λ (s : Result (Stood Kept) GenesisCause). (ended (play_of t) n (record { text = x.text; stand = s })).stand) b.2) ∙ ap (λ (y : Played (Unit {0}) GenesisCause). y.stand) stopped))
  end_begun (Some causes.Missing) n x text cause b stopped =
      end_same causes.Missing text cause (sym (ap (λ (y : Played (Stood Kept) GenesisCause). ended (play_of t) n y) b) ∙ stopped)
  end_begun (Some causes.TooLong) n x text cause b stopped =
      end_same causes.TooLong text cause (sym (ap (λ (y : Played (Stood Kept) GenesisCause). ended (play_of t) n y) b) ∙ stopped)
  end_begun (Some (causes.Malformed field place)) n x text cause b stopped =
      end_same (causes.Malformed field place) text cause (sym (ap (λ (y : Played (Stood Kept) GenesisCause). ended (play_of t) n y) b) ∙ stopped)
  end_begun (Some causes.NoGenesis) n x text cause b stopped =
      end_same causes.NoGenesis text cause (sym (ap (λ (y : Played (Stood Kept) GenesisCause). ended (play_of t) n y) b) ∙ stopped)
  end_begun (Some (causes.Broken rule)) n x text cause b stopped =
      end_same (causes.Broken rule) text cause (sym (ap (λ (y : Played (Stood Kept) GenesisCause). ended (play_of t) n y) b) ∙ stopped)

  -- nothing stops one that goes on, but that nothing came yet
  pub going_begun : (fault : Option GenesisCause) (x : Played (Stood Kept) GenesisCause) → BegunBy fault x → IsOk x.stand → IsMissingOnly fault
  going_begun None x b goes = tt
  going_begun (Some causes.Missing) x b goes = tt
  going_begun (Some causes.TooLong) x b goes = not_going causes.TooLong x b goes
  going_begun (Some (causes.Malformed field place)) x b goes = not_going (causes.Malformed field place) x b goes
  going_begun (Some causes.NoGenesis) x b goes = not_going causes.NoGenesis x b goes
  going_begun (Some (causes.Broken rule)) x b goes = not_going (causes.Broken rule) x b goes
