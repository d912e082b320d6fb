use Rattle.std.proofs.Common.{arith, length, ◌≡◌}
use Rattle.std.proofs.lemmas.Grind.{common_steps}
use Rattle.json_fields.proofs.Items.{is_six, is_seven}
use Rattle.json_fields.proofs.readers.read_six_or_seven.Goals as goal

pub returns-in-len6 : goal.returns-in-len6
returns-in-len6 c =
    let six : length c.in_ok-read_items.field-0.now ≡ 6 = omega arith in
    let found = is_six c.in_ok-read_items.field-0.now c.a-item.result c.b-item.result c.c-item.result c.d-item.result c.e-item.result c.f-item.result six in
    grind (arith, common_steps, found)

pub returns-in-len7 : goal.returns-in-len7
returns-in-len7 c =
    let seven : length c.in_ok-read_items.field-0.now ≡ 7 = omega arith in
    let found =
    is_seven c.in_ok-read_items.field-0.now c.a-item-then-this-lt8.result c.b-item-then-this-lt8.result c.c-item-then-this-lt8.result
    c.d-item-then-this-lt8.result c.e-item-then-this-lt8.result c.f-item-then-this-lt8.result c.g-item.result seven
    in
    grind (arith, common_steps, found)
