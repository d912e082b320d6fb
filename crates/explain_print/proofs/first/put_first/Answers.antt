use Rattle.std.proofs.Common.{List, ap, map, refl}
use Rattle.explain_model.specs.Explained.{problem_lines, said_words}
use Rattle.explain_model.specs.of_record_notes.Seen.{note_seen}
use Rattle.explain_model.specs.of_record_notes.declared.note.Note.{Note}
use Rattle.report.proofs.Puts.{put_first_as, put_second_as}
use Rattle.explain_print.proofs.first.put_first.Goals as goal

pub returns-in_err-put_reading : goal.returns-in_err-put_reading
returns-in_err-put_reading g c =
    put_first_as _ (problem_lines c.args.noted.now.reading) (map said_words (map note_seen c.args.noted.now.notes.items))
    refl c.in_err-put_reading.ensures c.from_residual.ensures.1

pub returns : goal.returns
returns g c =
    put_second_as _ (problem_lines c.args.noted.now.reading) _ (map said_words (map note_seen c.args.noted.now.notes.items))
    refl (ap (λ (ns : List Note). map said_words (map note_seen ns)) c.as_slice.ensures.value) c.in_ok-put_reading.ensures c.put_notes.ensures
