use Rattle.std.proofs.Common.{List, ap, map, refl}
use Rattle.explain_print.specs.of_explain_model.Explained.{broken_lines, said_words}
use Rattle.explain_print.specs.of_explain_model.of_record_notes.Seen.{note_seen}
use Rattle.explain_print.specs.of_explain_model.of_record_notes.declared.note.Note.{Note}
use Rattle.report.proofs.Puts.{put_first_as, put_second_as}
use Rattle.explain_loop.proofs.told.put_explained.Goals as goal

pub returns-in_err-put_rules_of : goal.returns-in_err-put_rules_of
returns-in_err-put_rules_of g c =
    put_first_as _ (broken_lines (g.R.RunState.world c.args.state.now) c.args.noted.now.reading) (map said_words (map note_seen c.args.noted.now.notes.items))
    refl c.in_err-put_rules_of.ensures c.from_residual.ensures.1

pub returns : goal.returns
returns g c =
    put_second_as _ (broken_lines (g.R.RunState.world c.args.state.now) c.args.noted.now.reading) _ (map said_words (map note_seen c.args.noted.now.notes.items))
    refl (ap (λ (ns : List Note). map said_words (map note_seen ns)) c.as_slice.ensures.value) c.in_ok-put_rules_of.ensures c.put_notes.ensures
