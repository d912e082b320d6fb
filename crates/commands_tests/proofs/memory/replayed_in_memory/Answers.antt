use Rattle.std.proofs.Common.{◌≡◌, ◌⊎◌, ℕ, true, false, List, [], ◌++◌, Option, Some, None, ap, arith, refl, inl, inr, subst, sym, ◌∙◌}
use Rattle.byte_lines.specs.Faults.{Rose}
use Rattle.byte_lines.specs.InMemory.{Given}
use Rattle.load_options.specs.Table.{command_of}
use Rattle.replay_loop.specs.declared.status.Status.{Status}
use Rattle.replay_loop.specs.declared.status.Status.TheVariants as statuses
use Rattle.command_runs.specs.Tasks.{IsReplayCommand, is_done, reads}
use Rattle.replay_loop.specs.Endings.{IsReplayed}
use Rattle.replay_loop.specs.Runs.{text_of_run}
use Rattle.command_runs.proofs.Following.{complete_follows, faults_follow, replays_follow, task_of_replay, usage_follows}
use Rattle.commands_tests.proofs.memory.replayed_in_memory.Goals as goal

-- what a sink that was empty holds at the end is the text of the run
text_at_end : (status : Status) (bytes had has : List ℕ) (left : Option (List ℕ)) → had ≡ [] → IsReplayed status bytes left (Some had) (Some has)
    → status ≡ statuses.Done → text_of_run bytes ≡ Some has
text_at_end status bytes had has left empty replayed is =
    let done : IsReplayed statuses.Done bytes left (Some had) (Some has) = subst (λ (s : Status). IsReplayed s bytes left (Some had) (Some has)) is replayed in
    done.ending.text ∙ sym (done.wrote ∙ ap (λ (l : List ℕ). Some (l ++ done.written)) empty)

-- a count that is always 0 never rose
never_rose : Rose 0 0 → ⊥
never_rose (inl less) = absurd (omega (arith, less))
never_rose (inr most) = let is : 0 ≡ 18446744073709551615 = most in absurd (omega (arith, is))

pub returns-clause-no_usage : goal.returns-clause-no_usage
returns-clause-no_usage g c = λ is.
    let named : IsReplayCommand c.as_slice.result.now = rw c.as_slice.ensures.value c.in_ok-words.ensures in
    let none = (usage_follows _ c.run-status.result c.as_slice.result.now _ _ c.run-status.ensures.runs).0 is in
    let both : true ≡ false = sym (ap is_done (task_of_replay (command_of c.as_slice.result.now) named)) ∙ none in cc

pub returns-clause-no_read_fault : goal.returns-clause-no_read_fault
returns-clause-no_read_fault g c = λ is. never_rose ((faults_follow _ c.run-status.result c.as_slice.result.now _ _ c.run-status.ensures.runs).0.rose is)

pub returns-clause-no_write_fault : goal.returns-clause-no_write_fault
returns-clause-no_write_fault g c = λ is. never_rose ((faults_follow _ c.run-status.result c.as_slice.result.now _ _ c.run-status.ensures.runs).1.rose is)

pub returns-clause-done : goal.returns-clause-done
returns-clause-done g c =
    let named : IsReplayCommand c.as_slice.result.now = rw c.as_slice.ensures.value c.in_ok-words.ensures in
    text_at_end c.run-status.result c.args.bytes.now c.new-sink.result c.run-status.new.sink _ c.new-sink.ensures
    (replays_follow _ c.whole_lines.ensures.adds_up c.run-status.result c.as_slice.result.now _ _ c.run-status.ensures.runs c.args.bytes.now named
    (ap (λ (given : Given). Some given.left) c.new-source.ensures))

pub returns-clause-complete : goal.returns-clause-complete
returns-clause-complete g c = λ start short.
    let named : IsReplayCommand c.as_slice.result.now = rw c.as_slice.ensures.value c.in_ok-words.ensures in
    complete_follows _ c.whole_lines.ensures.adds_up c.laws.ensures.complete c.laws-2.ensures.complete c.laws-3.ensures.complete c.run-status.result c.as_slice.result.now _ _ c.run-status.ensures.runs
    (inl (
      ap reads (task_of_replay (command_of c.as_slice.result.now) named),
      record {
        bytes = c.args.bytes.now;
        told = ap (λ (given : Given). Some given.left) c.new-source.ensures;
        start = start;
        short = short;
        unfailing = never_rose;
      },
    ))
    never_rose
