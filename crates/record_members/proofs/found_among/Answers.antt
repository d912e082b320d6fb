use Rattle.std.proofs.Common.{◌≡◌, ℕ, ◌<◌, ◌+◌, List, [], ◌∷◌, ◌++◌, length, Some, take, refl, sym, ap, subst, ◌∙◌, arith, rules, take_all}
use Rattle.std.proofs.lemmas.List.{take_more}
use Rattle.std.proofs.lemmas.Option.{slice_get_read}
use Rattle.json_tree.proofs.Views.{Entry}
use Rattle.record_members.specs.Members.{names, place_of, FindsAmong}
use Rattle.record_members.proofs.Walks.{place_in-within, passed_all, placed_all}
use Rattle.record_members.proofs.found_among.Goals as goal
use Rattle.record_members.proofs.found_among.Goals.{in-Some, in_default}

pub loop-at-preserved : goal.loop-at-preserved
loop-at-preserved c =
    let xs : List Entry = c.args.members.now in
    let i : ℕ = c.loop-at.at in
    let e : Entry = c.index-members-at.result in
    let found = c.loop-at.found in
    let many : length found ≡ 20 = c.loop-at.invariant.places in
    let front : take (i + 1) xs ≡ take i xs ++ e ∷ [] = take_more xs i e (omega arith) ∙ ap (λ (y : Entry). take i xs ++ y ∷ []) (sym c.index-members-at.is) in
    elim c.match-place_of.branch [
      | in-Some w ↦
          let q : ℕ = w.in-Some.place in
          let there : place_of e.0.now ≡ Some q = sym c.place_of.ensures ∙ w.in-Some.is in
          let low : q < 0 + length names = (place_in-within names 0 q e.0.now there).1 in
          record {
            places = search rules;
            finds = placed_all xs found _ (take i xs) _ e q i w.found-is front there (omega (arith, low, many)) (slice_get_read xs (length xs) i e refl (omega arith) c.index-members-at.is) c.loop-at.invariant.finds;
          }
      | in_default w ↦ record {
        places = search rules;
        finds = passed_all xs found _ (take i xs) _ e w.found-is front (sym c.place_of.ensures ∙ w.in_default.is) c.loop-at.invariant.finds;
      }
    ]

pub returns : goal.returns
returns c =
    subst (λ (es : List Entry). FindsAmong c.args.members.now es c.loop-at.found) (take_all c.loop-at.at c.args.members.now (omega arith)) c.loop-at.invariant.finds
