use Rattle.std.proofs.Common.{ap, sym, ◌∙◌}
use Rattle.drep_pulser.specs.declared.Pulser.TheVariants.{Counting}
use Rattle.live_ledger.specs.of_stake_book.Stakes.{Stakes}
use Rattle.ledger_state.proofs.Worlds.{begun_again, begun_entries, begun_same, begun_sound, held_along}
use Rattle.ledger_state.proofs.state.LedgerState.begin_epoch.Goals as goal

pub begun_parts-requires : goal.begun_parts-requires
begun_parts-requires c = record {
  some = c.requires.some;
  few = c.requires.few;
  frozen = c.freeze.ensures.frozen ∙ ap (λ (s : Stakes). s.accounts.live) (sym c.freeze.ensures.fields);
  sound = begun_sound c.args.b c.freeze.new.self c.freeze.ensures.fields c.requires.sound;
}

pub begun_with-requires : goal.begun_with-requires
begun_with-requires c =
    let e = c.freeze.ensures in
    let parts = c.in-Ok.ensures in
    let p = Counting c.in-Ok.counting in
    held_along _ _ c.in-Ok.frozen p
    (sym (begun_again (record c.args.b { stake = c.freeze.new.self }) c.in-Ok.frozen p (begun_entries c.args.b c.freeze.new.self e.kept e.fields e.frozen) parts.copy parts.accounts parts.none_visited))
    (record { sound = begun_sound c.args.b c.freeze.new.self e.fields c.requires.sound; copied = parts.copy; counts = parts.counts })

pub returns-in_ok-state-in-Ok : goal.returns-in_ok-state-in-Ok
returns-in_ok-state-in-Ok c =
    let e = c.freeze.ensures in
    let parts = c.in-Ok.ensures in
    c.in_ok-state-in-Ok.ensures
    ∙ begun_again (record c.args.b { stake = c.freeze.new.self }) c.in-Ok.frozen (Counting c.in-Ok.counting) (begun_entries c.args.b c.freeze.new.self e.kept e.fields e.frozen) parts.copy parts.accounts parts.none_visited
    ∙ begun_same c.args.b c.freeze.new.self e.fields
