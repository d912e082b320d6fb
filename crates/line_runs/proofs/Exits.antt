-- How a run ends where there is no further line.
use Rattle.std.proofs.Common.{◌≡◌, ◌≢◌, ℕ, ◌<◌, ◌≤◌, Bool, true, false, List, [], ◌++◌, Option, Some, Result, Ok, Err, length, take, refl, sym, ap, subst, ◌∙◌, append_assoc, arith, inl, inr}
use Rattle.std.specs.Prelude.{IsOk}
use Rattle.std.specs.Io.KnownBytes.{append_known}
use Rattle.std.proofs.lemmas.List.{append-nil}
use Rattle.byte_lines.specs.Answers.{Advances, IsAnswer, Passes, line_given}
use Rattle.byte_lines.specs.Laws.{BreakGivesWhole, EndGivesAll, GivesFirst}
use Rattle.byte_lines.specs.Pieces.{has_feed, lines_of}
use Rattle.byte_lines.specs.Progress.{HasRead}
use Rattle.byte_lines.specs.Reader.{Reader}
use Rattle.byte_lines.specs.declared.lines.Line.{Line}
use Rattle.byte_lines.specs.declared.lines.Line.TheVariants.{End}
use Rattle.byte_lines.specs.declared.lines.LineFault.{LineFault}
use Rattle.byte_lines.specs.declared.lines.LineFault.TheVariants as line_faults
use Rattle.line_runs.specs.Batches.{Gathered, IsFront}
use Rattle.line_runs.specs.Loop.{AreReadTo, IsClear, Leaves, Stands}
use Rattle.line_runs.specs.Plays.{Goes, Played, Stops, Turn, after_turn, ended}
use Rattle.line_runs.specs.Runs.{IsCutShort, IsPart, Run, ended_in, StandFirst, played_in, played_over}
use Rattle.line_runs.specs.Turns.{IsTurned, fault_of_line}
use Rattle.line_runs.specs.declared.fault.RunFault.{RunFault}
use Rattle.line_runs.specs.declared.fault.RunFault.TheVariants as faults
use Rattle.line_runs.proofs.Steps as steps
use Rattle.line_runs.proofs.Steps.{none_less, not_over, too_long}
use Rattle.line_runs.proofs.Lines.{told_front}
use Rattle.line_runs.proofs.Cuts.{find, text_of}
use Rattle.line_runs.proofs.Endings.{IsAll, all_read, whole, whole_came}
use Rattle.line_runs.proofs.Fronts.{end_grows, front_behind, front_more, front_self, front_take, took_both}

-- above no more than what is not below
not_above : (m n : ℕ) → (n < m → ⊥) → m ≤ n
not_above m n h = omega arith

module _ {Said Stand Cause : Type 0} (run : Run Said Stand Cause) (first_law : GivesFirst) where
  module _ (bytes : List ℕ) (given : List (Option (List ℕ))) (r : Reader) (left had : Option (List ℕ)) (g : Gathered) (s : Stand) (stands : Stands run bytes given r left had g s)
      (new : Reader) (left' : Option (List ℕ)) (clear : IsClear (has_feed r.ahead) stands.new g.batch) (stays : has_feed r.ahead ≡ true → left' ≡ left)
      (result : Result Line LineFault) (gives : line_given result new ≡ [])
      (read : (xs : List (Option (List ℕ))) → HasRead bytes r left xs → HasRead bytes new left' (xs ++ line_given result new)) (advances : Advances r new result) (answer : IsAnswer r new result) where
    read' : HasRead bytes new left' (given ++ stands.more)
    read' =
        subst (λ (xs : List (Option (List ℕ))). HasRead bytes new left' xs) (append-nil (given ++ stands.more))
        (subst (λ (xs : List (Option (List ℕ))). HasRead bytes new left' ((given ++ stands.more) ++ xs)) gives (read (given ++ stands.more) stands.read))

    still : (c d : List ℕ) → bytes ≡ c ++ d → left' ≡ Some d → AreReadTo run c d stands.old stands.new
    still c d cut told = elim (has_feed r.ahead) as (λ (b : Bool). IsClear b stands.new g.batch → (b ≡ true → left' ≡ left) → AreReadTo run c d stands.old stands.new) [
      | true ↦ λ way same. stands.reads c d cut (sym (same refl) ∙ told)
      | false ↦ λ none same. subst (λ (rs : List (ℕ × Said)). AreReadTo run c d stands.old rs) (sym none.0) tt
    ] clear stays

    within_by : result ≢ Err line_faults.TooMuch → new.taken ≤ new.stream_max
    within_by other = not_above new.taken new.stream_max (λ over. other (answer.too_much.1 over))

    -- the state is as it was
    unmoved : new.taken ≤ new.stream_max → Stands run bytes given new left' had g s
    unmoved within = record {
      more = stands.more;
      read = read';
      passed = stands.passed;
      line_max = advances.line_max ∙ stands.line_max;
      stream_max = advances.stream_max ∙ stands.stream_max;
      within = within;
      handed = stands.handed;
      took = stands.took;
      old = stands.old;
      new = stands.new;
      are = stands.are;
      goes = stands.goes;
      before = stands.before;
      reads = still;
    }

    abbrev played_text : List ℕ
    played_text = stands.handed ++ g.batch

    -- ---- a fault of the source

    module _ (whole_law : BreakGivesWhole) where
      at_read_fault : result ≡ Err line_faults.ReadFault → Leaves run bytes left' had g (Err faults.ReadFault)
      unfolding unmoved
      at_read_fault is =
          let within : new.taken ≤ new.stream_max = within_by (λ other. let both : Err line_faults.ReadFault ≡ Err line_faults.TooMuch = sym is ∙ other in cc) in
          let state = unmoved within in record {
            came = read'.came;
            rest = read'.rest;
            cut = read'.cut;
            told = read'.told;
            handed = stands.handed;
            took = stands.took;
            ending = record {
              all = record {
                stand = s;
                text =
                    ap (λ (rs : List (ℕ × Said)). played_over run rs)
                    (whole_came run bytes given stands.more new left' read' stands.passed (advances.line_max ∙ stands.line_max) (advances.stream_max ∙ stands.stream_max) whole_law
                    (answer.unfinished (rw is refl)) (answer.looked (inl is)) within
                    ∙ stands.are)
                    ∙ stands.goes;
              };
              lost = steps.cut_short run first_law bytes given new left' had g s state;
            };
            too_much = not_over (Err faults.ReadFault) (length read'.came) run.stream_max (λ e. cc) (omega (arith, within, read'.taken, advances.stream_max, stands.stream_max));
          }

      at_no_memory : result ≡ Err line_faults.NoMemory → Leaves run bytes left' had g (Err faults.NoMemory)
      at_no_memory is =
          steps.without_memory run first_law bytes given new left' had g s
          (unmoved (within_by (λ other. let both : Err line_faults.NoMemory ≡ Err line_faults.TooMuch = sym is ∙ other in cc)))

      -- then the source was asked, and nothing waits
      at_too_much : result ≡ Err line_faults.TooMuch → g.batch ≡ [] → Leaves run bytes left' had g (Err faults.TooMuch)
      at_too_much is none = record {
        came = read'.came;
        rest = read'.rest;
        cut = read'.cut;
        told = read'.told;
        handed = stands.handed;
        took = stands.took;
        ending = (
          none,
          record {
            stand = s;
            text =
                ap (λ (rs : List (ℕ × Said)). played_over run rs)
                (whole run bytes given stands.more new left' read' stands.passed (advances.line_max ∙ stands.line_max) (advances.stream_max ∙ stands.stream_max) whole_law
                (answer.unfinished (rw is refl)) (answer.looked (inr is))
                ∙ stands.are)
                ∙ stands.goes;
          },
        );
        too_much = (
          λ e. let over : new.stream_max < new.taken = answer.too_much.0 is in omega (arith, over, read'.taken, advances.stream_max, stands.stream_max),
          λ e. refl,
        );
      }

    -- ---- the end

    module _ (all_law : EndGivesAll) (is_end : result ≡ Ok End) where
      within' : new.taken ≤ new.stream_max
      within' = within_by (λ other. let both : Ok End ≡ Err line_faults.TooMuch = sym is_end ∙ other in cc)

      here : IsAll run bytes given stands.more new left' read' stands.passed (advances.line_max ∙ stands.line_max) (advances.stream_max ∙ stands.stream_max)
      here = all_read run bytes given stands.more new left' read' stands.passed (advances.line_max ∙ stands.line_max) (advances.stream_max ∙ stands.stream_max) all_law (answer.end is_end) within'

      abbrev came' : List ℕ
      came' = read'.came

      abbrev rest' : List ℕ
      rest' = read'.rest

      abbrev upto : List (ℕ × Said)
      upto = stands.old ++ stands.new

      short : length came' ≤ run.stream_max
      short = omega (arith, within', read'.taken, advances.stream_max, stands.stream_max)

      played_is : played_in run came' ≡ record { text = played_text; stand = Ok s }
      played_is = ap (λ (rs : List (ℕ × Said)). played_over run rs) (here.all ∙ stands.are) ∙ stands.goes

      ended_is : (t : Turn (Unit {0}) Cause) → run.play.last s new.number ≡ t → ended_in run came' ≡ after_turn played_text t
      ended_is t turn =
          ap (λ (n : ℕ). ended run.play n (played_in run came')) here.many
          ∙ ap (λ (x : Played Stand Cause). ended run.play new.number x) played_is
          ∙ ap (λ (u : Turn (Unit {0}) Cause). after_turn played_text u) turn

      first_text : IsFront (text_of run came' rest' upto) played_text
      first_text = subst (λ (t : List ℕ). IsFront t played_text) (sym (steps.text_is run first_law bytes given r left had g s stands)) (front_self played_text)

      -- what was gathered before the end
      part_before : (written : List ℕ) → IsFront written played_text → IsPart run came' rest' written
      part_before written front = inr (
        here.none,
        front_more written (played_in run came').text (ended_in run came').text (subst (λ (x : Played Stand Cause). IsFront written x.text) (sym played_is) front)
            (end_grows run.play (length (lines_of run.line_max came')) (played_in run came')),
      )

      first' : StandFirst run came' rest' upto
      first' = inr (here.none, [], here.all ∙ stands.are ∙ sym (append-nil upto))

      reads' : AreReadTo run came' rest' stands.old stands.new
      reads' = still came' rest' read'.cut read'.told

      cut_before : (n : ℕ) → n < length g.batch → IsCutShort run came' rest' (stands.handed ++ take n g.batch)
      cut_before n less =
          let written = stands.handed ++ take n g.batch in
          let front : IsFront written played_text = front_behind stands.handed (take n g.batch) g.batch (front_take n g.batch) in
          record {
            part = part_before written front;
            place = elim (find run came' rest' stands.old stands.new written played_text first' reads'
                (front_more (text_of run came' rest' stands.old) stands.handed written stands.before (take n g.batch, refl)) front first_text (steps.going run first_law bytes given r left had g s stands)) [
                  | inl place ↦ inl place
                  | inr over ↦ absurd (too_long (text_of run came' rest' upto) stands.handed g.batch n (steps.text_is run first_law bytes given r left had g s stands) less over)
                ];
          }

      stops_here : (cause : Cause) → run.play.last s new.number ≡ Stops cause → Leaves run bytes left' had g (Err (faults.Stop cause))
      stops_here cause turn = record {
        came = came';
        rest = rest';
        cut = read'.cut;
        told = read'.told;
        handed = stands.handed;
        took = stands.took;
        ending = record { all = inr (here.none, ended_is (Stops cause) turn); lost = cut_before };
        too_much = not_over (Err (faults.Stop cause)) (length came') run.stream_max (λ e. cc) short;
      }

      lacks_memory : Leaves run bytes left' had g (Err faults.NoMemory)
      lacks_memory = record {
        came = came';
        rest = rest';
        cut = read'.cut;
        told = read'.told;
        handed = stands.handed;
        took = stands.took;
        ending = record { all = part_before played_text (front_self played_text); lost = cut_before };
        too_much = not_over (Err faults.NoMemory) (length came') run.stream_max (λ e. cc) short;
      }

      -- the text at the end was told, or a part of it
      module _ (text : List ℕ) (turn : run.play.last s new.number ≡ Goes tt text) (g' : Gathered) (told : List ℕ) (took : g'.taken ≡ append_known g.taken told) (front : IsFront (told ++ g'.batch) (g.batch ++ text)) where
        abbrev handed' : List ℕ
        handed' = stands.handed ++ told

        all_text : (ended_in run came').text ≡ played_text ++ text
        all_text = ap (λ (y : Played (Unit {0}) Cause). y.text) (ended_is (Goes tt text) turn)

        told_to : (w : List ℕ) → IsFront w g'.batch → IsFront (handed' ++ w) (ended_in run came').text
        told_to w less = subst (λ (t : List ℕ). IsFront (handed' ++ w) t) (sym all_text) (told_front stands.handed g.batch text told g'.batch w front less)

        took' : g'.taken ≡ append_known had handed'
        took' = took ∙ ap (λ (t : Option (List ℕ)). append_known t told) stands.took ∙ took_both had stands.handed told

        cut_here : (w : List ℕ) → IsFront w g'.batch → IsCutShort run came' rest' (handed' ++ w)
        cut_here w less = record {
          part = inr (here.none, told_to w less);
          place = elim (find run came' rest' stands.old stands.new (handed' ++ w) (ended_in run came').text first' reads'
              (front_more (text_of run came' rest' stands.old) stands.handed (handed' ++ w) stands.before (told ++ w, append_assoc stands.handed told w)) (told_to w less)
              (front_more (text_of run came' rest' upto) played_text (ended_in run came').text first_text (text, all_text)) (steps.going run first_law bytes given r left had g s stands)) [
                | inl place ↦ inl place
                | inr over ↦ inr (record {
                  read = here.none;
                  after = subst (λ (rs : List (ℕ × Said)). IsFront (text_of run came' rest' rs) (handed' ++ w)) (sym (here.all ∙ stands.are)) over;
                  upto = told_to w less;
                  goes = subst (λ (y : Played (Unit {0}) Cause). IsOk y.stand) (sym (ended_is (Goes tt text) turn)) refl;
                })
              ];
        }

        is_cut : Leaves run bytes left' had g' (Err faults.WriteFault)
        is_cut = record {
          came = came';
          rest = rest';
          cut = read'.cut;
          told = read'.told;
          handed = handed';
          took = took';
          ending = subst (λ (t : List ℕ). IsCutShort run came' rest' t) (append-nil handed') (cut_here [] (g'.batch, refl));
          too_much = not_over (Err faults.WriteFault) (length came') run.stream_max (λ e. cc) short;
        }

        is_left : Leaves run bytes left' had g' (Err faults.NoMemory)
        is_left = record {
          came = came';
          rest = rest';
          cut = read'.cut;
          told = read'.told;
          handed = handed';
          took = took';
          ending = record {
            all = inr (here.none, told_to g'.batch (front_self g'.batch));
            lost = λ n less. cut_here (take n g'.batch) (front_take n g'.batch);
          };
          too_much = not_over (Err faults.NoMemory) (length came') run.stream_max (λ e. cc) short;
        }

        is_done : told ++ g'.batch ≡ g.batch ++ text → Leaves run bytes left' had g' (Ok tt)
        is_done all = record {
          came = came';
          rest = rest';
          cut = read'.cut;
          told = read'.told;
          handed = handed';
          took = took';
          ending = record {
            all = record {
              read = here.none;
              text = ended_is (Goes tt text) turn
                  ∙ ap (λ (t : List ℕ). record { text = t; stand = Ok tt }) (append_assoc stands.handed g.batch text ∙ ap (λ (t : List ℕ). stands.handed ++ t) (sym all) ∙ sym (append_assoc stands.handed told g'.batch));
            };
            lost = λ n less. cut_here (take n g'.batch) (front_take n g'.batch);
          };
          too_much = not_over (Ok tt) (length came') run.stream_max (λ e. cc) short;
        }

      same_gathered : (end : Result (Unit {0}) (RunFault Cause)) (g' : Gathered) → g' ≡ g → Leaves run bytes left' had g end → Leaves run bytes left' had g' end
      same_gathered end g' same leaves = subst (λ (y : Gathered). Leaves run bytes left' had y end) (sym same) leaves

      leaves_by : (t : Turn (Unit {0}) Cause) → run.play.last s new.number ≡ t → (holds : Unit {0} → Type 0) (g' : Gathered) (end : Result (Unit {0}) (RunFault Cause))
          → IsTurned holds t g g' end → Leaves run bytes left' had g' end
      leaves_by (Goes done text) turn holds g' (Ok d) is = is_done text turn g' is.1.handed is.1.took ([], sym is.1.all ∙ sym (append-nil (is.1.handed ++ g'.batch))) is.1.all
      leaves_by (Goes done text) turn holds g' (Err (faults.Stop cause)) is = absurd is
      leaves_by (Goes done text) turn holds g' (Err faults.ReadFault) is = absurd is
      leaves_by (Goes done text) turn holds g' (Err faults.WriteFault) is = is_cut text turn g' is.handed is.took is.front
      leaves_by (Goes done text) turn holds g' (Err faults.NoMemory) is = is_left text turn g' is.handed is.took is.front
      leaves_by (Goes done text) turn holds g' (Err faults.TooMuch) is = absurd is
      leaves_by (Stops cause) turn holds g' (Ok d) is = absurd is
      leaves_by (Stops cause) turn holds g' (Err (faults.Stop other)) is =
          same_gathered (Err (faults.Stop other)) g' is.1 (stops_here other (turn ∙ ap (λ (c : Cause). Stops c) (sym is.0)))
      leaves_by (Stops cause) turn holds g' (Err faults.ReadFault) is = absurd is
      leaves_by (Stops cause) turn holds g' (Err faults.WriteFault) is = absurd is
      leaves_by (Stops cause) turn holds g' (Err faults.NoMemory) is = same_gathered (Err faults.NoMemory) g' is lacks_memory
      leaves_by (Stops cause) turn holds g' (Err faults.TooMuch) is = absurd is

      pub leaves_end : (holds : Unit {0} → Type 0) (g' : Gathered) (end : Result (Unit {0}) (RunFault Cause)) → IsTurned holds (run.play.last s new.number) g g' end → Leaves run bytes left' had g' end
      leaves_end holds g' end is = leaves_by (run.play.last s new.number) refl holds g' end is

  -- a call for the next line ended with a fault
  module _ (whole_law : BreakGivesWhole) (bytes : List ℕ) (given : List (Option (List ℕ))) (r : Reader) (left had : Option (List ℕ)) (g : Gathered) (s : Stand) (stands : Stands run bytes given r left had g s)
      (new : Reader) (left' : Option (List ℕ)) (clear : IsClear (has_feed r.ahead) stands.new g.batch) (stays : has_feed r.ahead ≡ true → left' ≡ left) where
    nothing_waits : has_feed r.ahead ≡ false → g.batch ≡ []
    nothing_waits none = let now = subst (λ (b : Bool). IsClear b stands.new g.batch) none clear in now.1

    pub leaves_fault : (fault : LineFault)
        → ((xs : List (Option (List ℕ))) → HasRead bytes r left xs → HasRead bytes new left' (xs ++ line_given (Err fault) new))
        → Advances r new (Err fault) → IsAnswer r new (Err fault) → (has_feed r.ahead ≡ true → Passes r new (Err fault))
        → Leaves run bytes left' had g (Err (fault_of_line fault))
    leaves_fault line_faults.ReadFault read advances answer passes =
        at_read_fault bytes given r left had g s stands new left' clear stays (Err line_faults.ReadFault) refl read advances answer whole_law refl
    leaves_fault line_faults.NoMemory read advances answer passes =
        at_no_memory bytes given r left had g s stands new left' clear stays (Err line_faults.NoMemory) refl read advances answer whole_law refl
    leaves_fault line_faults.TooMuch read advances answer passes =
        at_too_much bytes given r left had g s stands new left' clear stays (Err line_faults.TooMuch) refl read advances answer whole_law refl (
        let looked : new.ahead ≡ [] = answer.looked (inr refl) in
        elim (has_feed r.ahead) as (λ (b : Bool). has_feed r.ahead ≡ b → g.batch ≡ []) [
          | true ↦ λ feed.
              let none : r.ahead ≡ [] = sym (passes feed).0 ∙ looked in
              let both : false ≡ true = sym (ap (λ (xs : List ℕ). has_feed xs) none) ∙ feed in cc
          | false ↦ λ none. nothing_waits none
        ] refl)
