-- The state that was found, or that there is none.
use Rattle.std.proofs.Common.{Option, subst}
use Rattle.checkpoint_reader.specs.declared.read.Gathered.{Gathered}
use Rattle.state_reader.specs.Reads.{ReadsText}
use Rattle.state_reader.proofs.Checkpoints.{checkpoint_is_read, found_is_sound, none_is_read}
use Rattle.state_reader.proofs.read.read_sound.Goals as goal

pub returns-in-Some-clause-sound : goal.returns-in-Some-clause-sound
returns-in-Some-clause-sound g c = found_is_sound c.in-Some.gathered c.in_ok-sound_of-in-Some.field-0 c.in_ok-sound_of-in-Some.ensures

pub returns-in-Some-clause-reads : goal.returns-in-Some-clause-reads
returns-in-Some-clause-reads g c =
    let G = g.G.LineGiver in
    let old = c.args.giver.now in
    let new = c.read_text.new.giver in
    let reads = subst (λ (o : Option Gathered). ReadsText {Stream = G.Stream} (G.passed old) (G.passed new) (G.giving old) (G.giving new) o) c.in-Some.is c.in_ok-gathered.ensures.reads in
    checkpoint_is_read c.shown_are_of_worlds.ensures c.in-Some.gathered reads c.in_ok-sound_of-in-Some.field-0 c.in_ok-sound_of-in-Some.ensures

pub returns-clause-reads : goal.returns-clause-reads
returns-clause-reads g c =
    let G = g.G.LineGiver in
    let old = c.args.giver.now in
    let new = c.read_text.new.giver in
    none_is_read (subst (λ (o : Option Gathered). ReadsText {Stream = G.Stream} (G.passed old) (G.passed new) (G.giving old) (G.giving new) o) c.in-None.is c.in_ok-gathered.ensures.reads)
