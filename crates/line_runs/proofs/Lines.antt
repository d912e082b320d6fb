-- From one line to the next, and how a run ends.
use Rattle.std.proofs.Common.{◌≡◌, ℕ, ◌+◌, ◌<◌, ◌≤◌, Bool, true, false, List, [], ◌∷◌, ◌++◌, Option, Some, None, Result, Ok, Err, length, take, refl, sym, ap, subst, ◌∙◌, append_assoc, arith, inl, inr}
use Rattle.std.specs.Prelude.{IsOk, option_map}
use Rattle.std.specs.List.{cons_option}
use Rattle.std.specs.Io.KnownBytes.{append_known}
use Rattle.std.proofs.lemmas.List.{append-nil, length-append}
use Rattle.byte_lines.specs.Answers.{Advances, IsAnswer, line_given}
use Rattle.byte_lines.specs.Laws.{GivesFirst, NothingBeyond}
use Rattle.byte_lines.specs.Pieces.{has_feed}
use Rattle.byte_lines.specs.Progress.{HasRead}
use Rattle.byte_lines.specs.Reader.{Reader}
use Rattle.byte_lines.specs.declared.lines.Line.{Line}
use Rattle.byte_lines.specs.declared.lines.LineFault.{LineFault}
use Rattle.line_runs.specs.Batches.{Gathered, IsFront, TellsAll, TellsPart}
use Rattle.line_runs.specs.Loop.{AreReadTo, IsClear, Leaves, Stands}
use Rattle.line_runs.specs.Plays.{Goes, Played, Stops, Turn, after_turn, records_from}
use Rattle.line_runs.specs.Runs.{IsCutShort, IsPart, ReadTo, Run, StandFirst, played_over}
use Rattle.line_runs.specs.Turns.{IsPassed, IsTurnOf, IsTurned}
use Rattle.line_runs.specs.declared.fault.RunFault.{RunFault}
use Rattle.line_runs.specs.declared.fault.RunFault.TheVariants as faults
use Rattle.line_runs.proofs.Steps as steps
use Rattle.line_runs.proofs.Steps.{none_less, not_over, too_long}
use Rattle.line_runs.proofs.Cuts.{find, part_of, read_more, stand_before, stopped_by, text_of}
use Rattle.line_runs.proofs.Endings.{begins, read_to, read_to_told}
use Rattle.line_runs.proofs.Fronts.{front_behind, front_more, front_self, front_take, one_more, records_both, text_grows, took_both}

-- a front of a batch and a text behind what was handed over before
pub told_front : (handed batch text handed' batch' w : List ℕ) → IsFront (handed' ++ batch') (batch ++ text) → IsFront w batch' → IsFront ((handed ++ handed') ++ w) ((handed ++ batch) ++ text)
told_front handed batch text handed' batch' w front less =
    subst (λ (t : List ℕ). IsFront t ((handed ++ batch) ++ text)) (sym (append_assoc handed handed' w))
    (subst (λ (t : List ℕ). IsFront (handed ++ (handed' ++ w)) t) (sym (append_assoc handed batch text))
    (front_behind handed (handed' ++ w) (batch ++ text) (front_more (handed' ++ w) (handed' ++ batch') (batch ++ text) (front_behind handed' w batch' less) front)))

-- what a line says is one record, or none
abbrev said : {Said : Type 0} → ℕ → Option Said → List (ℕ × Said)
said {Said} n o = cons_option (option_map (λ (x : Said). (n, x)) o) []

module _ {Said Stand Cause : Type 0} (run : Run Said Stand Cause) (first_law : GivesFirst) where
  module _ (bytes : List ℕ) (given : List (Option (List ℕ))) (r : Reader) (left had : Option (List ℕ)) (g : Gathered) (s : Stand) (stands : Stands run bytes given r left had g s) where
    abbrev came : List ℕ
    came = stands.read.came

    abbrev rest : List ℕ
    rest = stands.read.rest

    abbrev upto : List (ℕ × Said)
    upto = stands.old ++ stands.new

    text_is : text_of run came rest upto ≡ stands.handed ++ g.batch
    text_is = steps.text_is run first_law bytes given r left had g s stands

    going : IsOk (played_over run upto).stand
    going = steps.going run first_law bytes given r left had g s stands

    whole_front : IsFront (stands.handed ++ g.batch) (text_of run came rest upto)
    whole_front = steps.whole_front run first_law bytes given r left had g s stands

    -- ---- a call for the next line

    module _ (beyond : NothingBeyond) (new : Reader) (left' : Option (List ℕ)) (clear : IsClear (has_feed r.ahead) stands.new g.batch)
        (stays : has_feed r.ahead ≡ true → left' ≡ left) where
      -- what came is still so
      still : (c d : List ℕ) → bytes ≡ c ++ d → left' ≡ Some d → AreReadTo run c d stands.old stands.new
      still c d cut told = elim (has_feed r.ahead) as (λ (b : Bool). IsClear b stands.new g.batch → (b ≡ true → left' ≡ left) → AreReadTo run c d stands.old stands.new) [
        | true ↦ λ way same. stands.reads c d cut (sym (same refl) ∙ told)
        | false ↦ λ none same. subst (λ (rs : List (ℕ × Said)). AreReadTo run c d stands.old rs) (sym none.0) tt
      ] clear stays

      -- a line came
      module _ (line : Option (List ℕ)) (result : Result Line LineFault) (gives : line_given result new ≡ line ∷ []) (good : IsOk result) (within : new.taken ≤ new.stream_max)
          (read : (xs : List (Option (List ℕ))) → HasRead bytes r left xs → HasRead bytes new left' (xs ++ line_given result new))
          (advances : Advances r new result) (answer : IsAnswer r new result) where
        abbrev more' : List (Option (List ℕ))
        more' = stands.more ++ line ∷ []

        read' : HasRead bytes new left' (given ++ more')
        read' =
            subst (λ (xs : List (Option (List ℕ))). HasRead bytes new left' xs) (append_assoc given stands.more (line ∷ []))
            (subst (λ (xs : List (Option (List ℕ))). HasRead bytes new left' ((given ++ stands.more) ++ xs)) gives (read (given ++ stands.more) stands.read))

        number_is : (run.passed + 1) + length stands.more ≡ new.number
        number_is =
            let n : new.number ≡ r.number + length (line_given result new) = advances.number in
            let one : length (line_given result new) ≡ 1 = ap length gives in
            let old : r.number ≡ length (given ++ stands.more) = stands.read.numbered in
            let both : length (given ++ stands.more) ≡ length given + length stands.more = length-append given stands.more in
            omega (arith, n, one, old, both, stands.passed)

        records_are : records_from run.play.says (run.passed + 1) more' ≡ upto ++ records_from run.play.says new.number (line ∷ [])
        records_are =
            records_both run.play.says (run.passed + 1) stands.more (line ∷ [])
            ∙ ap (λ n. records_from run.play.says (run.passed + 1) stands.more ++ records_from run.play.says n (line ∷ [])) number_is
            ∙ ap (λ (rs : List (ℕ × Said)). rs ++ records_from run.play.says new.number (line ∷ [])) stands.are

        line_max' : new.line_max ≡ run.line_max
        line_max' = advances.line_max ∙ stands.line_max

        stream_max' : new.stream_max ≡ run.stream_max
        stream_max' = advances.stream_max ∙ stands.stream_max

        -- it says nothing
        pub passes : (g' : Gathered) → run.play.says line ≡ None → g' ≡ g → Stands run bytes given new left' had g' s
        passes g' says same = record {
          more = more';
          read = read';
          passed = stands.passed;
          line_max = line_max';
          stream_max = stream_max';
          within = within;
          handed = stands.handed;
          took = ap (λ (x : Gathered). x.taken) same ∙ stands.took;
          old = stands.old;
          new = stands.new;
          are = records_are ∙ ap (λ (o : Option Said). upto ++ said new.number o) says ∙ append-nil upto;
          goes = stands.goes ∙ ap (λ (x : Gathered). record { text = stands.handed ++ x.batch; stand = Ok s }) (sym same);
          before = stands.before;
          reads = still;
        }

        -- or this
        module _ (x : Said) (says : run.play.says line ≡ Some x) where
          all_are : records_from run.play.says (run.passed + 1) more' ≡ upto ++ (new.number, x) ∷ []
          all_are = records_are ∙ ap (λ (o : Option Said). upto ++ said new.number o) says

          to : ReadTo run read'.came read'.rest (upto ++ (new.number, x) ∷ [])
          to = subst (λ (rs : List (ℕ × Said)). ReadTo run read'.came read'.rest rs) all_are
              (read_to run bytes given more' new left' read' stands.passed line_max' stream_max' beyond (answer.begun good) (answer.ahead good) within)

          pub goes_on : (s' : Stand) (text : List ℕ) (g' : Gathered) → run.play.turn s new.number x ≡ Goes s' text → TellsAll g.taken g'.taken g.batch g'.batch text
              → Stands run bytes given new left' had g' s'
          goes_on s' text g' turn tells = record {
            more = more';
            read = read';
            passed = stands.passed;
            line_max = line_max';
            stream_max = stream_max';
            within = within;
            handed = stands.handed ++ tells.handed;
            took = tells.took ∙ ap (λ (t : Option (List ℕ)). append_known t tells.handed) stands.took ∙ took_both had stands.handed tells.handed;
            old = stands.old;
            new = stands.new ++ (new.number, x) ∷ [];
            are = all_are ∙ append_assoc stands.old stands.new ((new.number, x) ∷ []);
            goes =
                ap (λ (rs : List (ℕ × Said)). played_over run rs) (sym (append_assoc stands.old stands.new ((new.number, x) ∷ [])))
                ∙ one_more run.play run.first s (stands.handed ++ g.batch) upto (new.number, x) stands.goes
                ∙ ap (λ (t : Turn Stand Cause). after_turn (stands.handed ++ g.batch) t) turn
                ∙ ap (λ (t : List ℕ). record { text = t; stand = Ok s' }) (append_assoc stands.handed g.batch text ∙ ap (λ (t : List ℕ). stands.handed ++ t) (sym tells.all) ∙ sym (append_assoc stands.handed tells.handed g'.batch));
            before = front_more (text_of run came rest stands.old) stands.handed (stands.handed ++ tells.handed) stands.before (tells.handed, refl);
            reads = λ c d cut told.
                read_more run c d stands.old stands.new (new.number, x) (still c d cut told)
                (subst (λ (rs : List (ℕ × Said)). ReadTo run c d rs) all_are
                (read_to_told run bytes given more' new left' read' stands.passed line_max' stream_max'
                (subst (λ (rs : List (ℕ × Said)). ReadTo run read'.came read'.rest rs) (sym all_are) to) c d cut told));
          }

          -- ---- the turn did not end well

          abbrev came' : List ℕ
          came' = read'.came

          abbrev rest' : List ℕ
          rest' = read'.rest

          abbrev upto' : List (ℕ × Said)
          upto' = upto ++ (new.number, x) ∷ []

          first' : StandFirst run came' rest' upto'
          first' = subst (λ (rs : List (ℕ × Said)). StandFirst run came' rest' rs) all_are
              (begins run bytes given more' new left' read' stands.passed line_max' stream_max' first_law within)

          before' : StandFirst run came' rest' upto
          before' = stand_before run came' rest' upto ((new.number, x) ∷ []) first'

          reads' : AreReadTo run came' rest' stands.old stands.new
          reads' = still came' rest' read'.cut read'.told

          short' : length came' ≤ run.stream_max
          short' = omega (arith, within, read'.taken, stream_max')

          grows : IsFront (text_of run came rest upto) (text_of run came rest upto')
          grows = text_grows run.play run.first upto ((new.number, x) ∷ [])

          -- what was gathered before
          part_before : (written : List ℕ) → IsFront written (stands.handed ++ g.batch) → IsPart run came' rest' written
          part_before written front =
              part_of run came' rest' upto' written first'
              (front_more written (text_of run came rest upto) (text_of run came rest upto') (front_more written (stands.handed ++ g.batch) (text_of run came rest upto) front whole_front) grows)

          cut_before : (n : ℕ) → n < length g.batch → IsCutShort run came' rest' (stands.handed ++ take n g.batch)
          cut_before n less =
              let written = stands.handed ++ take n g.batch in
              let front : IsFront written (stands.handed ++ g.batch) = front_behind stands.handed (take n g.batch) g.batch (front_take n g.batch) in
              let after : IsFront (text_of run came rest stands.old) written =
              front_more (text_of run came rest stands.old) stands.handed written stands.before (take n g.batch, refl) in
              let all : IsFront (text_of run came rest upto) (stands.handed ++ g.batch) =
              subst (λ (t : List ℕ). IsFront t (stands.handed ++ g.batch)) (sym text_is) (front_self (stands.handed ++ g.batch)) in
              record {
                part = part_before written front;
                place = elim (find run came' rest' stands.old stands.new written (stands.handed ++ g.batch) before' reads' after front all going) [
                  | inl place ↦ inl place
                  | inr over ↦ absurd (too_long (text_of run came rest upto) stands.handed g.batch n text_is less over)
                ];
              }

          next_is : (t : Turn Stand Cause) → run.play.turn s new.number x ≡ t → played_over run upto' ≡ after_turn (stands.handed ++ g.batch) t
          next_is t turn =
              one_more run.play run.first s (stands.handed ++ g.batch) upto (new.number, x) stands.goes
              ∙ ap (λ (u : Turn Stand Cause). after_turn (stands.handed ++ g.batch) u) turn

          -- it stops the command
          stops_here : (cause : Cause) → run.play.turn s new.number x ≡ Stops cause → Leaves run bytes left' had g (Err (faults.Stop cause))
          stops_here cause turn = record {
            came = came';
            rest = rest';
            cut = read'.cut;
            told = read'.told;
            handed = stands.handed;
            took = stands.took;
            ending = record { all = stopped_by run came' rest' upto' (stands.handed ++ g.batch) cause first' (next_is (Stops cause) turn); lost = cut_before };
            too_much = not_over (Err (faults.Stop cause)) (length came') run.stream_max (λ e. cc) short';
          }

          -- memory ran out before anything was told
          lacks_memory : Leaves run bytes left' had g (Err faults.NoMemory)
          lacks_memory = record {
            came = came';
            rest = rest';
            cut = read'.cut;
            told = read'.told;
            handed = stands.handed;
            took = stands.took;
            ending = record { all = part_before (stands.handed ++ g.batch) (front_self (stands.handed ++ g.batch)); lost = cut_before };
            too_much = not_over (Err faults.NoMemory) (length came') run.stream_max (λ e. cc) short';
          }

          -- or a part of its text was told
          module _ (s' : Stand) (text : List ℕ) (turn : run.play.turn s new.number x ≡ Goes s' text) (g' : Gathered) (tells : TellsPart g.taken g'.taken g.batch g'.batch text) where
            abbrev handed' : List ℕ
            handed' = stands.handed ++ tells.handed

            this_text : text_of run came rest upto' ≡ (stands.handed ++ g.batch) ++ text
            this_text = ap (λ (y : Played Stand Cause). y.text) (next_is (Goes s' text) turn)

            told_to : (w : List ℕ) → IsFront w g'.batch → IsFront (handed' ++ w) (text_of run came rest upto')
            told_to w less = subst (λ (t : List ℕ). IsFront (handed' ++ w) t) (sym this_text) (told_front stands.handed g.batch text tells.handed g'.batch w tells.front less)

            took' : g'.taken ≡ append_known had handed'
            took' = tells.took ∙ ap (λ (t : Option (List ℕ)). append_known t tells.handed) stands.took ∙ took_both had stands.handed tells.handed

            cut_here : (w : List ℕ) → IsFront w g'.batch → IsCutShort run came' rest' (handed' ++ w)
            cut_here w less = record {
              part = part_of run came' rest' upto' (handed' ++ w) first' (told_to w less);
              place = elim (find run came' rest' stands.old stands.new (handed' ++ w) (text_of run came rest upto') before' reads'
                  (front_more (text_of run came rest stands.old) stands.handed (handed' ++ w) stands.before (tells.handed ++ w, append_assoc stands.handed tells.handed w)) (told_to w less) grows going) [
                    | inl place ↦ inl place
                    | inr over ↦ inl (record {
                      before = upto;
                      line = (new.number, x);
                      come = first';
                      read = to;
                      after = over;
                      upto = told_to w less;
                      goes = subst (λ (y : Played Stand Cause). IsOk y.stand) (sym (next_is (Goes s' text) turn)) refl;
                    })
                  ];
            }

            is_cut : Leaves run bytes left' had g' (Err faults.WriteFault)
            is_cut = record {
              came = came';
              rest = rest';
              cut = read'.cut;
              told = read'.told;
              handed = handed';
              took = took';
              ending = subst (λ (t : List ℕ). IsCutShort run came' rest' t) (append-nil handed') (cut_here [] (g'.batch, refl));
              too_much = not_over (Err faults.WriteFault) (length came') run.stream_max (λ e. cc) short';
            }

            is_left : Leaves run bytes left' had g' (Err faults.NoMemory)
            is_left = record {
              came = came';
              rest = rest';
              cut = read'.cut;
              told = read'.told;
              handed = handed';
              took = took';
              ending = record {
                all = part_of run came' rest' upto' (handed' ++ g'.batch) first' (told_to g'.batch (front_self g'.batch));
                lost = λ n less. cut_here (take n g'.batch) (front_take n g'.batch);
              };
              too_much = not_over (Err faults.NoMemory) (length came') run.stream_max (λ e. cc) short';
            }

          same_gathered : (result : Result (Unit {0}) (RunFault Cause)) (g' : Gathered) → g' ≡ g → Leaves run bytes left' had g result → Leaves run bytes left' had g' result
          same_gathered result g' same leaves = subst (λ (y : Gathered). Leaves run bytes left' had y result) (sym same) leaves

          -- a turn that ends with a fault
          leaves_turn : (t : Turn Stand Cause) → run.play.turn s new.number x ≡ t → (holds : Stand → Type 0) (g' : Gathered) (fault : RunFault Cause)
              → IsTurned holds t g g' (Err fault) → Leaves run bytes left' had g' (Err fault)
          leaves_turn (Goes s' text) turn holds g' (faults.Stop cause) is = absurd is
          leaves_turn (Goes s' text) turn holds g' faults.ReadFault is = absurd is
          leaves_turn (Goes s' text) turn holds g' faults.WriteFault is = is_cut s' text turn g' is
          leaves_turn (Goes s' text) turn holds g' faults.NoMemory is = is_left s' text turn g' is
          leaves_turn (Goes s' text) turn holds g' faults.TooMuch is = absurd is
          leaves_turn (Stops cause) turn holds g' (faults.Stop other) is =
              same_gathered (Err (faults.Stop other)) g' is.1 (stops_here other (turn ∙ ap (λ (c : Cause). Stops c) (sym is.0)))
          leaves_turn (Stops cause) turn holds g' faults.ReadFault is = absurd is
          leaves_turn (Stops cause) turn holds g' faults.WriteFault is = absurd is
          leaves_turn (Stops cause) turn holds g' faults.NoMemory is = same_gathered (Err faults.NoMemory) g' is lacks_memory
          leaves_turn (Stops cause) turn holds g' faults.TooMuch is = absurd is

          -- one that ends well
          goes_turn : (t : Turn Stand Cause) → run.play.turn s new.number x ≡ t → (holds : Stand → Type 0) (g' : Gathered) → IsTurned holds t g g' (Ok tt)
              → (s' : Stand) × holds s' × Stands run bytes given new left' had g' s'
          goes_turn (Goes s' text) turn holds g' is = (s', is.0, goes_on s' text g' turn is.1)
          goes_turn (Stops cause) turn holds g' is = absurd is

        -- memory ran out at a line that says nothing
        leaves_passed : (g' : Gathered) (fault : RunFault Cause) → run.play.says line ≡ None → (stays' : Type 0) → IsPassed stays' g g' (Err fault) → Leaves run bytes left' had g' (Err fault)
        leaves_passed g' (faults.Stop cause) says stays' is = absurd is
        leaves_passed g' faults.ReadFault says stays' is = absurd is
        leaves_passed g' faults.WriteFault says stays' is = absurd is
        leaves_passed g' faults.NoMemory says stays' is = steps.without_memory run first_law bytes given new left' had g' s (passes g' says is)
        leaves_passed g' faults.TooMuch says stays' is = absurd is

        -- ---- what a line leaves, by what it says

        pub leaves_line : (o : Option Said) → run.play.says line ≡ o → (holds : Stand → Type 0) (g' : Gathered) (fault : RunFault Cause) → IsTurnOf run.play holds s new.number o g g' (Err fault)
            → Leaves run bytes left' had g' (Err fault)
        leaves_line None says holds g' fault is = leaves_passed g' fault says (holds s) is
        leaves_line (Some x) says holds g' fault is = leaves_turn x says (run.play.turn s new.number x) refl holds g' fault is

        pub goes_line : (o : Option Said) → run.play.says line ≡ o → (holds : Stand → Type 0) (g' : Gathered) → IsTurnOf run.play holds s new.number o g g' (Ok tt)
            → (s' : Stand) × holds s' × Stands run bytes given new left' had g' s'
        goes_line None says holds g' is = (s, is.0, passes g' says is.1)
        goes_line (Some x) says holds g' is = goes_turn x says (run.play.turn s new.number x) refl holds g' is
