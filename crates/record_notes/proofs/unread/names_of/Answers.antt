use Rattle.std.proofs.Common.{◌≡◌, ◌∷◌, ◌++◌, ◌+◌, [], ℕ, suc, arith, Bor, List, ap, map, sym, take, take-suc, ◌∙◌}
use Rattle.std.specs.BTreeSet.{insert_key}
use Rattle.std.specs.Cmp.Lexicographic.{slice_cmp}
use Rattle.std.specs.Ordering.{nat_cmp}
use Rattle.json_tree.specs.View.{members_view, view}
use Rattle.json_tree.specs.declared.value.Value.{Value}
use Rattle.json_tree.proofs.Views.{members_view-push}
use Rattle.record_notes.specs.Seen.{names_in}
use Rattle.record_notes.proofs.Names.{names_in-put, seen-insert}
use Rattle.record_notes.proofs.unread.names_of.Goals as goal

pub loop-field-preserved : goal.loop-field-preserved
loop-field-preserved c =
    let field = c.field-item.result in
    let before = members_view (take c.loop-field.field-index c.args.fields.now) in
    let next : suc c.loop-field.field-index ≡ c.loop-field.field-index + 1 = omega arith in
    let one_more = take-suc c.args.fields.now c.loop-field.field-index field c.loop-field-test.true in
    ap (map (λ (n : Bor (List ℕ)). n.now)) c.in_ok-insert.ensures.keys
    ∙ seen-insert field.0 c.loop-field.names.keys
    ∙ ap (λ (ns : List (List ℕ)). insert_key (slice_cmp nat_cmp) ns field.0.now) c.loop-field.invariant
    ∙ sym (names_in-put field.0.now (view field.1) before)
    ∙ ap names_in (sym (members_view-push (take c.loop-field.field-index c.args.fields.now) field))
    ∙ ap (λ (fs : List (Bor (List ℕ) × Value)). names_in (members_view fs)) (ap (λ (f : Bor (List ℕ) × Value). take c.loop-field.field-index c.args.fields.now ++ f ∷ []) c.field-item.is ∙ sym one_more ∙ ap (λ (n : ℕ). take n c.args.fields.now) next)
