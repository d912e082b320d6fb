use Rattle.std.proofs.Common.{sym, ◌∙◌}
use Rattle.state_lists.specs.Worlds.{world_of_lists}
use Rattle.resumable_lists.proofs.Sounds.{books_formed, ledger_decides}
use Rattle.resumable_lists.proofs.sound.is_resumable.Goals as goal

pub is_sound_ledger-requires-clause-form : goal.is_sound_ledger-requires-clause-form
is_sound_ledger-requires-clause-form c = books_formed (world_of_lists c.args.state.now) (sym c.in_ok-formed.ensures ∙ c.if-not-formed.false)

pub returns : goal.returns
returns c = λ law. ledger_decides law c.args.state.now c.requires (sym c.in_ok-formed.ensures ∙ c.if-not-formed.false) (sym c.is_sound_epoch-covered.ensures ∙ c.if-not-covered.false) c.is_sound_ledger.result c.is_sound_ledger.ensures
