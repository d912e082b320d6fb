use Rattle.resume_loop.specs.Reading.{first_text}
use Rattle.resume_loop.proofs.head.read_head.Given as goal

abbrev pub ghost-read_text : goal.ghost-read_text
ghost-read_text g a =
    first_text a.ended.now.lines.ghost_name a.ended.now.source.ghost_name (g.S.Source.left a.ended.now.source.now) (g.S.Source.faults a.ended.now.source.now)
