use Rattle.std.proofs.Common.{◌≡◌, ◌<◌, true, length, ◌∙◌, arith}
use Rattle.std.proofs.lemmas.Grind.{common_steps}
use Rattle.json_fields.proofs.Names.{AreNames-push, is_new-by, known_or_full-seen, known_or_full-past, known_or_full-fits}
use Rattle.json_fields.specs.Lists.{is_known_or_full}
use Rattle.json_fields.proofs.distinct.read_named_entries.Goals as goal
use Rattle.json_fields.proofs.distinct.read_named_entries.Goals.{then-not-is_new-via-then-not-is_new, then-not-is_new-via-else-not-is_new+then-place-limit}

pub returns-then-not-is_new : goal.returns-then-not-is_new
returns-then-not-is_new g c =
    let added = is_new-by g.met.K.Entry.Name.Name.is_order c.loop-item.names.keys c.name.ensures c.in_ok-is_new.ensures.added in
    let out : is_known_or_full g.K.Entry.Name.Name.order g.K.Entry.Named.name c.args.limit c.loop-item.entries c.in_ok-entry.entry ≡ true =
    elim c.then-not-is_new.branch [
      | then-not-is_new-via-then-not-is_new w ↦ known_or_full-seen c.loop-item.invariant.names c.args.limit c.in_ok-entry.entry (added ∙ w.if-not-is_new.true)
      | then-not-is_new-via-else-not-is_new+then-place-limit w ↦ known_or_full-past c.loop-item.invariant.names c.args.limit c.in_ok-entry.entry (omega arith)
    ] in
    grind (arith, common_steps, out)

pub loop-item-preserved : goal.loop-item-preserved
loop-item-preserved g c =
    let added = is_new-by g.met.K.Entry.Name.Name.is_order c.loop-item.names.keys c.name.ensures c.in_ok-is_new.ensures.added in
    let within : length c.loop-item.entries < c.args.limit = omega arith in
    let fits = known_or_full-fits c.loop-item.invariant.names c.args.limit c.in_ok-entry.entry (added ∙ c.if-not-is_new.false) within in
    record {
      place = grind (arith, common_steps);
      within = omega arith;
      names = AreNames-push g.met.K.Entry.Name.Name.is_order g.met.K.Entry.Name.Ord.total {ks = c.insert.new.self.keys} {xs = c.push.new.self} c.in_ok-entry.entry c.loop-item.invariant.names
          c.name.ensures c.in_ok-is_new.ensures.keys c.in_ok-push.ensures.ok;
      rest = grind (arith, common_steps, fits);
    }
