use Rattle.std.proofs.Common.{sym, ◌∙◌}
use Rattle.gov_ids.proofs.Repeats.{seen_none, seen_stop, seen_step}
use Rattle.gov_ids.proofs.names.repeats_a_name.Goals as goal

pub loop-entry-init : goal.loop-entry-init
loop-entry-init g c = seen_none g.met.T.Name.Name.is_order g.T.Named.name c.new-names.result.keys c.args.entries.now c.new-names.ensures.empty

pub returns-then-not-branch : goal.returns-then-not-branch
returns-then-not-branch g c =
    sym (seen_stop g.met.T.Name.Name.is_order g.T.Named.name c.loop-entry.names.keys c.args.entries.now c.loop-entry.entry-index c.entry-item.result
    c.loop-entry-test.true c.entry-item.is c.name.ensures c.in_ok-insert.ensures.added c.if-not-branch.true)
    ∙ c.loop-entry.invariant

pub loop-entry-preserved : goal.loop-entry-preserved
loop-entry-preserved g c =
    seen_step g.met.T.Name.Name.is_order g.T.Named.name c.loop-entry.names.keys c.args.entries.now c.loop-entry.entry-index c.entry-item.result
    c.loop-entry-test.true c.entry-item.is c.name.ensures c.in_ok-insert.ensures.added g.met.T.Name.Ord.total c.if-not-branch.false c.insert.new.self.keys c.in_ok-insert.ensures.keys
    ∙ c.loop-entry.invariant
