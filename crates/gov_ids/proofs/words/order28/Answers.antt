use Rattle.std.proofs.Common.{◌∙◌, refl, arith}
use Rattle.gov_ids.proofs.WordOrder.{decided, last, next}
use Rattle.gov_ids.proofs.words.order28.Goals as goal

pub returns-then-x-y : goal.returns-then-x-y
returns-then-x-y c =
    c.cmp.ensures ∙ decided c.args.a.now c.args.b.now c.fits-a c.fits-b 8 0 (omega arith) (omega arith) refl _ _ c.word-x.ensures c.word-y.ensures c.if-x-y.true

pub returns-then-x-y-2 : goal.returns-then-x-y-2
returns-then-x-y-2 c =
    let one = next c.args.a.now c.args.b.now c.fits-a c.fits-b 8 0 (omega arith) (omega arith) refl _ _ c.word-x.ensures c.word-y.ensures c.if-x-y.false in
    c.cmp-then-x-y-2.ensures ∙ decided c.args.a.now c.args.b.now c.fits-a c.fits-b 8 8 (omega arith) (omega arith) one _ _ c.word-x-2.ensures c.word-y-2.ensures c.if-x-y-2.true

pub returns-then-x-y-3 : goal.returns-then-x-y-3
returns-then-x-y-3 c =
    let one = next c.args.a.now c.args.b.now c.fits-a c.fits-b 8 0 (omega arith) (omega arith) refl _ _ c.word-x.ensures c.word-y.ensures c.if-x-y.false in
    let two = next c.args.a.now c.args.b.now c.fits-a c.fits-b 8 8 (omega arith) (omega arith) one _ _ c.word-x-2.ensures c.word-y-2.ensures c.if-x-y-2.false in
    c.cmp-then-x-y-3.ensures ∙ decided c.args.a.now c.args.b.now c.fits-a c.fits-b 8 16 (omega arith) (omega arith) two _ _ c.word-x-3.ensures c.word-y-3.ensures c.if-x-y-3.true

pub returns : goal.returns
returns c =
    let one = next c.args.a.now c.args.b.now c.fits-a c.fits-b 8 0 (omega arith) (omega arith) refl _ _ c.word-x.ensures c.word-y.ensures c.if-x-y.false in
    let two = next c.args.a.now c.args.b.now c.fits-a c.fits-b 8 8 (omega arith) (omega arith) one _ _ c.word-x-2.ensures c.word-y-2.ensures c.if-x-y-2.false in
    let three = next c.args.a.now c.args.b.now c.fits-a c.fits-b 8 16 (omega arith) (omega arith) two _ _ c.word-x-3.ensures c.word-y-3.ensures c.if-x-y-3.false in
    c.cmp-2.ensures ∙ last c.args.a.now c.args.b.now c.fits-a c.fits-b 4 24 (omega arith) (omega arith) three _ _ c.half_word.ensures c.half_word-2.ensures (omega arith) (omega arith)
