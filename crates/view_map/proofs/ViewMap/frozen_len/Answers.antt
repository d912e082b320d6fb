use Rattle.std.proofs.Common.{subst}
use Rattle.maps.specs.Maps.{IsMap}
use Rattle.view_map.specs.Marks.{Marks}
use Rattle.view_map.specs.View.{View}
use Rattle.view_map.proofs.Kept.{in_order}
use Rattle.view_map.proofs.ViewMap.frozen_len.Goals as goal

pub returns-clause-in_order : goal.returns-clause-in_order
returns-clause-in_order g c =
    let m : Marks g.row.K.Denot g.row.V.Denot = record { live = c.self.inside.live.entries; kept = c.self.inside.kept.entries; mark = c.self.inside.mark; frozen_len = c.self.inside.frozen_len } in
    subst (λ (v : View g.row.K.Denot g.row.V.Denot). IsMap g.K.Ord.cmp v.frozen) c.self.view_is (in_order g.met.K.Ord.total m c.self.invariant).frozen
