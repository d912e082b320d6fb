-- The lines of the giver, as those of the lines up to the first `end`.
use Rattle.std.proofs.Common.{◌≡◌, Err, IfOk, rules}
use Rattle.byte_lines.specs.Faults.{CountsFaults}
use Rattle.byte_lines.specs.declared.lines.LineFault.TheVariants.{ReadFault}
use Rattle.line_giver.specs.Giving.{PassesSome}
use Rattle.state_reader.specs.Reads.{ReadsText}
use Rattle.state_reader.proofs.Ended.{given_back, over_passed, some_passed, text_read_if}
use Rattle.state_reader.proofs.text.read_text.Goals as goal

pub returns-clause-reads : goal.returns-clause-reads
returns-clause-reads g c =
    let G = g.G.LineGiver in
    let old = c.args.giver.now in
    let new = c.read_all-read.new.giver in
    given_back (G.passed old) (G.passed new.giver.now) (G.IsOver old) (G.IsOver new.giver.now) (G.giving old) (G.giving new.giver.now) new.stand (G.faults old) (G.faults new.giver.now) _ new.giver.ghost_name (λ (v : g.row.G.Denot). IfOk c.read_all-read.result (ReadsText {Stream = G.Stream} (G.passed old) (G.passed v) (G.giving old) (G.giving v))) _ new.giver.now (search rules) c.read_all-read.ensures.passes
    (text_read_if (G.passed old) (G.passed new.giver.now) (G.IsOver old) (G.IsOver new.giver.now) (G.giving old) (G.giving new.giver.now) new.stand (G.faults old) (G.faults new.giver.now) _ new.giver.ghost_name c.read_all-read.result c.read_all-read.ensures.reads)

pub returns-clause-passes : goal.returns-clause-passes
returns-clause-passes g c =
    let G = g.G.LineGiver in
    let old = c.args.giver.now in
    let new = c.read_all-read.new.giver in
    given_back (G.passed old) (G.passed new.giver.now) (G.IsOver old) (G.IsOver new.giver.now) (G.giving old) (G.giving new.giver.now) new.stand (G.faults old) (G.faults new.giver.now) _ new.giver.ghost_name (λ (v : g.row.G.Denot). PassesSome {Stream = G.Stream} (G.passed old) (G.passed v) (G.giving old) (G.giving v)) _ new.giver.now (search rules) c.read_all-read.ensures.passes
    (some_passed (G.passed old) (G.passed new.giver.now) (G.IsOver old) (G.IsOver new.giver.now) (G.giving old) (G.giving new.giver.now) new.stand (G.faults old) (G.faults new.giver.now) _ new.giver.ghost_name c.read_all-read.ensures.passes)

pub returns-clause-over : goal.returns-clause-over
returns-clause-over g c = λ e.
    let G = g.G.LineGiver in
    let old = c.args.giver.now in
    let new = c.read_all-read.new.giver in
    given_back (G.passed old) (G.passed new.giver.now) (G.IsOver old) (G.IsOver new.giver.now) (G.giving old) (G.giving new.giver.now) new.stand (G.faults old) (G.faults new.giver.now) _ new.giver.ghost_name (λ (v : g.row.G.Denot). G.IsOver v) _ new.giver.now (search rules) c.read_all-read.ensures.passes
    (over_passed (G.passed old) (G.passed new.giver.now) (G.IsOver old) (G.IsOver new.giver.now) (G.giving old) (G.giving new.giver.now) new.stand (G.faults old) (G.faults new.giver.now) _ new.giver.ghost_name c.read_all-read.ensures.passes (c.read_all-read.ensures.over e))

pub returns-clause-counts : goal.returns-clause-counts
returns-clause-counts g c =
    let G = g.G.LineGiver in
    let old = c.args.giver.now in
    let new = c.read_all-read.new.giver in
    given_back (G.passed old) (G.passed new.giver.now) (G.IsOver old) (G.IsOver new.giver.now) (G.giving old) (G.giving new.giver.now) new.stand (G.faults old) (G.faults new.giver.now) _ new.giver.ghost_name (λ (v : g.row.G.Denot). CountsFaults (c.read_all-read.result ≡ Err ReadFault) (G.faults old) (G.faults v)) _ new.giver.now (search rules) c.read_all-read.ensures.passes
    (c.read_all-read.ensures.counts)
