use Rattle.std.proofs.Common.{◌≡◌, length, map, ap, sym, ◌∙◌, arith}
use Rattle.std.proofs.lemmas.List.{length-map, same_lists}
use Rattle.snapshots.specs.declared.frozen.Frozen.{Frozen}
use Rattle.tally.specs.Cells.{cell_of}
use Rattle.par_count.proofs.Parts.{at_part}
use Rattle.par_count.proofs.tallies.tally_all.Goals as goal

pub returns : goal.returns
returns g c = record {
  cells = λ s is.
      let ps = c.args.f.now.proposals in
      let own : map (cell_of s) ps ≡ map (cell_of s) s.proposals = ap (λ (f : Frozen). map (cell_of s) f.proposals) is.frozen in
      let kept = c.for_each_chunk_mut.auto.s in
      same_lists c.for_each_chunk_mut.new.s (map (cell_of s) ps) (kept ∙ c.requires.each ∙ sym (length-map ps (cell_of s)))
      (λ k d h.
      let at = (c.for_each_chunk_mut.ensures.by_index k d (omega (arith, kept, h))).1 in
      at_part (cell_of s) ps c.for_each_chunk_mut.new.s at.after_call.now at.start (length at.argument.now) at.offset k d (at.call s is) at.new_element at.start_plus_offset at.offset_in_chunk)
      ∙ own;
}
