use Rattle.std.proofs.Common.{◌≡◌, ◌<◌, ℕ, List, ◌++◌, drop, take, length, ap, sym, subst, arith}
use Rattle.std.proofs.lemmas.List.{length-take}
use Rattle.gov_ids.specs.declared.Credential.{Credential}
use Rattle.gov_ids.specs.Orders.{credential_cmp}
use Rattle.book_records.specs.declared.Entry.{Entry}
use Rattle.view_map.specs.View.{frozen_of}
use Rattle.drep_pulser.specs.Count.{Count}
use Rattle.drep_pulser.specs.Facts.{IsCountIn, IsCountOf}
use Rattle.drep_pulser.specs.Parts.{IsSharedIn}
use Rattle.par_count.proofs.Ranges.{left_behind}
use Rattle.par_count.proofs.finish.finish_shared.Goals as goal

pub close-requires-clause-shared : goal.close-requires-clause-shared
close-requires-clause-shared g c =
    let es = frozen_of credential_cmp c.args.book.now in
    let cut = ap (λ (l : List (List ℕ)). length l) c.truncate.ensures.items in
    let same = ap (λ (l : List (List ℕ)). length l) c.deref_mut.ensures.value in
    let some : 0 < c.truncate.new.self.len = omega (arith, length-take {A = List ℕ}, cut, same, c.deref_mut.ensures.len, c.split-walk.ensures.each, c.split-walk.ensures.some, c.requires.some) in (
      es,
      left_behind es c.split-walk.result.0 c.add_shares.new.parts c.deref_mut.result.now (drop (length c.add_shares.new.parts) c.truncate.new.self.items) c.truncate.new.self.len
          (subst (λ (k : Count). IsCountIn es k) (sym c.split-walk.ensures.walk) c.requires.counts) c.add_shares.ensures.each c.deref_mut.ensures.len some c.add_shares.ensures.shares,
    )

pub returns-clause-counts : goal.returns-clause-counts
returns-clause-counts g c = λ f is counts.
    let es = frozen_of credential_cmp c.args.book.now in
    let walk = c.split-walk.result.0 in
    let parts : List (List ℕ) = take c.truncate.new.self.len (c.add_shares.new.parts ++ drop (length c.add_shares.new.parts) c.truncate.new.self.items) in
    let cut = ap (λ (l : List (List ℕ)). length l) c.truncate.ensures.items in
    let same = ap (λ (l : List (List ℕ)). length l) c.deref_mut.ensures.value in
    let some : 0 < c.truncate.new.self.len = omega (arith, length-take {A = List ℕ}, cut, same, c.deref_mut.ensures.len, c.split-walk.ensures.each, c.split-walk.ensures.some, c.requires.some) in
    let shared : IsSharedIn es walk parts =
    left_behind es walk c.add_shares.new.parts c.deref_mut.result.now (drop (length c.add_shares.new.parts) c.truncate.new.self.items) c.truncate.new.self.len
    (subst (λ (k : Count). IsCountIn es k) (sym c.split-walk.ensures.walk) c.requires.counts) c.add_shares.ensures.each c.deref_mut.ensures.len some c.add_shares.ensures.shares in
    c.close.ensures.counts f (subst (λ (k : Count). IsCountOf f k) (sym c.split-walk.ensures.walk) counts) (subst (λ (l : List (Credential × Entry)). IsSharedIn l walk parts) (sym is) shared)
