-- The lists that were told, and whether they are sound.
use Rattle.std.proofs.Common.{ℕ, Option, sym, ◌∙◌, subst, true≢false}
use Rattle.shown_lists.specs.Only.{IsOnly}
use Rattle.state_lists.specs.declared.lists.StateLists.{StateLists}
use Rattle.told_lists.specs.Told.{IsListed, told_by}
use Rattle.state_reader.proofs.Sounds.{none_sound, none_told, some_sound}
use Rattle.state_reader.proofs.sound.sound_of.Goals as goal

pub returns-in_default : goal.returns-in_default
returns-in_default c =
    let g = c.args.gathered in
    none_told g (subst (λ (o : Option (StateLists × ℕ)). IsOnly (λ (x : StateLists × ℕ). IsListed x.0) told_by g o) c.in_default.is c.in_ok-state.ensures.told)

pub returns-then-branch : goal.returns-then-branch
returns-then-branch c =
    let g = c.args.gathered in
    let told = subst (λ (o : Option (StateLists × ℕ)). IsOnly (λ (x : StateLists × ℕ). IsListed x.0) told_by g o) c.in-Some.is c.in_ok-state.ensures.told in
    some_sound g (c.in-Some.state, c.in-Some.line) told (c.in_ok-is_sound.ensures.0 c.if-branch.true)

pub returns-else-branch : goal.returns-else-branch
returns-else-branch c =
    let g = c.args.gathered in
    let told = subst (λ (o : Option (StateLists × ℕ)). IsOnly (λ (x : StateLists × ℕ). IsListed x.0) told_by g o) c.in-Some.is c.in_ok-state.ensures.told in
    none_sound g (c.in-Some.state, c.in-Some.line) told (λ is. true≢false (sym (c.in_ok-is_sound.ensures.1 is) ∙ c.if-branch.false))
