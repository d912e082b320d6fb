use Rattle.std.proofs.Common.{◌≡◌, Bor, ℕ, List, ◌∷◌, true, false, option_map, ap, sym, subst, ◌∙◌}
use Rattle.gov_ids.specs.declared.Credential.{Credential}
use Rattle.gov_ids.specs.Orders.{credential_cmp}
use Rattle.book_records.specs.declared.Entry.{Entry}
use Rattle.view_map.specs.View.{frozen_of}
use Rattle.drep_pulser.specs.Count.{Count}
use Rattle.drep_pulser.specs.Parts.{entries_between, entries_left, is_beyond}
use Rattle.drep_pulser.proofs.Adding.{IsOnTheWay, arrives, goes_on, sets_out, stops, sum_has_room, up_to, walked, weight_has_room}
use Rattle.drep_pulser.proofs.walk.Walk.add.Goals as goal

pub loop-c-init : goal.loop-c-init
loop-c-init c =
    let until = option_map (λ (k : Bor Credential). k.now) c.args.until in
    let es = frozen_of credential_cmp c.args.book.now in
    let from = option_map (λ (k : Bor Credential). k.now) c.as_ref.result in
    let k : Count = c.args.self.now in
    subst (λ (p : List (Credential × Entry) × List ℕ). IsOnTheWay k.sums k.deposits until es p.0 p.0 p.1)
    (λ i. (sym c.frozen_past-entries.ensures i, sym c.requires.empty i))
    (sets_out k.sums k.deposits from until es c.requires.counts.countable.in_order)

pub returns-then-is_beyond-clause-sums : goal.returns-then-is_beyond-clause-sums
returns-then-is_beyond-clause-sums c =
    let after = option_map (λ (k : Bor Credential). k.now) c.args.after in
    let until = option_map (λ (k : Bor Credential). k.now) c.args.until in
    let es = frozen_of credential_cmp c.args.book.now in
    let k : Count = c.args.self.now in
    let all = c.frozen_past-entries.result in
    let e : Credential × Entry = (c.in-Some.c.now, c.in-Some.entry.now) in
    let on = subst (λ (left : List (Credential × Entry)). IsOnTheWay k.sums k.deposits until es all left c.loop-c.part) c.in-Some.ensures c.loop-c.invariant in
    let beyond : is_beyond until e.0 ≡ true = sym c.is_beyond.ensures ∙ c.if-is_beyond.true in
    let range = walked c.self.inside.cursor after until c.later-from.result k c.as_ref.result es all (ap (λ (k : Count). k.cursor) c.self.view_is) c.as_ref.ensures.value c.frozen_past-entries.ensures c.later-from.ensures in
    arrives k.sums k.deposits until es all (e ∷ c.next_entry.new.self) (entries_between after until (entries_left k es)) c.loop-c.part on (stops k.sums k.deposits until es all e c.next_entry.new.self c.loop-c.part on beyond) range

pub weigh-requires-clause-weight : goal.weigh-requires-clause-weight
weigh-requires-clause-weight c =
    let until = option_map (λ (k : Bor Credential). k.now) c.args.until in
    let es = frozen_of credential_cmp c.args.book.now in
    let k : Count = c.args.self.now in
    let all = c.frozen_past-entries.result in
    let e : Credential × Entry = (c.in-Some.c.now, c.in-Some.entry.now) in
    let on = subst (λ (left : List (Credential × Entry)). IsOnTheWay k.sums k.deposits until es all left c.loop-c.part) c.in-Some.ensures c.loop-c.invariant in
    let near : is_beyond until e.0 ≡ false = sym c.is_beyond.ensures ∙ c.if-is_beyond.false in
    weight_has_room k.sums k.deposits until es all e c.next_entry.new.self c.loop-c.part on near c.requires.counts.countable

pub weigh-requires-clause-fits : goal.weigh-requires-clause-fits
weigh-requires-clause-fits c =
    let until = option_map (λ (k : Bor Credential). k.now) c.args.until in
    let es = frozen_of credential_cmp c.args.book.now in
    let k : Count = c.args.self.now in
    let all = c.frozen_past-entries.result in
    let e : Credential × Entry = (c.in-Some.c.now, c.in-Some.entry.now) in
    let on = subst (λ (left : List (Credential × Entry)). IsOnTheWay k.sums k.deposits until es all left c.loop-c.part) c.in-Some.ensures c.loop-c.invariant in
    let near : is_beyond until e.0 ≡ false = sym c.is_beyond.ensures ∙ c.if-is_beyond.false in
    sum_has_room k.sums k.deposits until es all e c.next_entry.new.self c.loop-c.part on near c.requires.counts.countable

pub loop-c-preserved : goal.loop-c-preserved
loop-c-preserved c =
    let until = option_map (λ (k : Bor Credential). k.now) c.args.until in
    let es = frozen_of credential_cmp c.args.book.now in
    let k : Count = c.args.self.now in
    let all = c.frozen_past-entries.result in
    let e : Credential × Entry = (c.in-Some.c.now, c.in-Some.entry.now) in
    let on = subst (λ (left : List (Credential × Entry)). IsOnTheWay k.sums k.deposits until es all left c.loop-c.part) c.in-Some.ensures c.loop-c.invariant in
    let near : is_beyond until e.0 ≡ false = sym c.is_beyond.ensures ∙ c.if-is_beyond.false in
    goes_on k.sums k.deposits until es all e c.next_entry.new.self c.loop-c.part on near c.weigh.new.part c.weigh.ensures.length c.weigh.ensures.sums

pub returns-clause-sums : goal.returns-clause-sums
returns-clause-sums c =
    let after = option_map (λ (k : Bor Credential). k.now) c.args.after in
    let until = option_map (λ (k : Bor Credential). k.now) c.args.until in
    let es = frozen_of credential_cmp c.args.book.now in
    let k : Count = c.args.self.now in
    let all = c.frozen_past-entries.result in
    let range = walked c.self.inside.cursor after until c.later-from.result k c.as_ref.result es all (ap (λ (k : Count). k.cursor) c.self.view_is) c.as_ref.ensures.value c.frozen_past-entries.ensures c.later-from.ensures in
    arrives k.sums k.deposits until es all c.loop-c.entries (entries_between after until (entries_left k es)) c.loop-c.part c.loop-c.invariant
    (ap (λ (left : List (Credential × Entry)). up_to until left) c.in_default.ensures.0) range
