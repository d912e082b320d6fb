-- A word before the next space, or the last one.
use Rattle.std.proofs.Common.{◌≡◌, ◌<◌, ◌++◌, true, ap, sym, ◌∙◌, map, take, length, lit<, arith, rules, length-set}
use Rattle.std.proofs.lemmas.List.{length-map, length-take-le}
use Rattle.std.proofs.lemmas.Str.Pattern.{split_parts}
use Rattle.std.proofs.lemmas.Str.{is_utf8-from_IsUtf8}
use Rattle.std.specs.Option.{option_and_then}
use Rattle.std.specs.Str.{is_utf8}
use Rattle.line_kinds.specs.Cuts.{cut}
use Rattle.line_kinds.proofs.Spaces.{last_word, more_words, next_word, too_many}
use Rattle.line_kinds.proofs.cut.read_text.Goals as goal

-- src/cut.rt:24:17
pub returns-in-None : goal.returns-in-None
returns-in-None g c =
    let none = split_parts 32 c.loop-place.rest.now c.split_once.result c.split_once.ensures.cases (lit< tt) in
    let full : length c.loop-place.words ≡ 20 = c.loop-place.invariant.1 in
    let few : c.loop-place.place < 20 = c.loop-place-test.true in
    let less : c.loop-place.place < length c.loop-place.words = omega (arith, full, few) in
    let count : length (map (λ w. w.now) (take c.loop-place.place c.loop-place.words)) < 20 = omega (arith, few, full, length-map (take c.loop-place.place c.loop-place.words) (λ w. w.now), length-take-le c.loop-place.place c.loop-place.words (omega (arith, less))) in
    let text : is_utf8 c.args.text.now ≡ true = is_utf8-from_IsUtf8 _ c.utf8.text in
    let free = rw c.in-None.is at none in
    c.read.ensures
    ∙ ap g.K.LineKind.reading (more_words c.loop-place.words c.loop-place.place c.loop-place.rest less)
    ∙ sym (ap (option_and_then g.K.LineKind.reading) (last_word c.args.text.now c.loop-place.rest.now _ text count c.loop-place.invariant.2 free))

-- src/cut.rt:16:5
pub loop-place-preserved : goal.loop-place-preserved
loop-place-preserved g c =
    let parts = split_parts 32 c.loop-place.rest.now c.split_once.result c.split_once.ensures.cases (lit< tt) in
    let full : length c.loop-place.words ≡ 20 = c.loop-place.invariant.1 in
    let few : c.loop-place.place < 20 = c.loop-place-test.true in
    let less : c.loop-place.place < length c.loop-place.words = omega (arith, full, few) in
    let both = rw c.in-Some.is at parts in (
      search rules,
      length-set c.loop-place.words c.loop-place.place c.in-Some.word ∙ full,
      ap (λ x. x ++ cut c.in-Some.others.now) (more_words c.loop-place.words c.loop-place.place c.in-Some.word less)
          ∙ next_word c.args.text.now c.loop-place.rest.now c.in-Some.word.now c.in-Some.others.now _ c.loop-place.invariant.2 both.0 both.1,
    )

-- src/cut.rt:11:1
pub returns : goal.returns
returns g c =
    let full : length c.loop-place.words ≡ 20 = c.loop-place.invariant.1 in
    let end : c.loop-place.place ≡ 20 = omega (arith, c.loop-place-test.false, c.loop-place.auto.place-end) in
    let count : length (map (λ w. w.now) (take c.loop-place.place c.loop-place.words)) ≡ 20 = omega (arith, end, full, length-map (take c.loop-place.place c.loop-place.words) (λ w. w.now), length-take-le c.loop-place.place c.loop-place.words (omega (arith, full, end))) in
    sym (ap (option_and_then g.K.LineKind.reading) (too_many c.args.text.now c.loop-place.rest.now _ count c.loop-place.invariant.2))
