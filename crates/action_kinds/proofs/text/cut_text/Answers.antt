use Rattle.std.proofs.Common.{◌≡◌, List, ℕ, Bor, Option, Some, true, false, bytes_eq, codes, option_map, ap, sym, ◌∙◌, rules}
use Rattle.text_model.specs.Words.{Text}
use Rattle.book_kinds.specs.Pools.{halves}
use Rattle.action_kinds.proofs.PartLaws.{parts_none, parts_other, parts_some}
use Rattle.action_kinds.proofs.text.cut_text.Goals as goal

abbrev nows : Option (Bor (List ℕ) × Bor (List ℕ)) → Option (Text × Text)
nows o = option_map (λ (p : Bor (List ℕ) × Bor (List ℕ)). (p.0.now, p.1.now)) o

pub returns-in_default : goal.returns-in_default
returns-in_default c = sym (parts_none c.args.text.now c.utf8.text (sym c.cut_at_space.ensures ∙ ap nows c.in_default.is))

pub returns-then-eq : goal.returns-then-eq
returns-then-eq c =
    let cut : halves 32 c.args.text.now ≡ Some (c.in-Some.first.now, c.in-Some.rest.now) = sym c.cut_at_space.ensures ∙ ap nows c.in-Some.is in
    let same : bytes_eq c.in-Some.first.now (codes "action") ≡ true = search rules in
    c.cut_at_space-then-eq.ensures ∙ sym (parts_some c.args.text.now c.in-Some.first.now c.in-Some.rest.now c.utf8.text cut same)

pub returns-else-eq : goal.returns-else-eq
returns-else-eq c =
    let cut : halves 32 c.args.text.now ≡ Some (c.in-Some.first.now, c.in-Some.rest.now) = sym c.cut_at_space.ensures ∙ ap nows c.in-Some.is in
    let other : bytes_eq c.in-Some.first.now (codes "action") ≡ false = search rules in
    sym (parts_other c.args.text.now c.in-Some.first.now c.in-Some.rest.now c.utf8.text cut other)
