use Rattle.std.proofs.Common.{◌≤◌, ◌+◌, List, Option, ap, subst, ◌∙◌, arith}
use Rattle.std.proofs.lemmas.Result.{on_ok_weaker}
use Rattle.gov_ids.proofs.Totals.{outref_total}
use Rattle.gov_ids.specs.declared.Credential.{Credential}
use Rattle.gov_ids.specs.Orders.{outref_cmp}
use Rattle.book_records.specs.declared.Output.{Output}
use Rattle.book_records.specs.declared.Registered.{Registered}
use Rattle.book_records.specs.Outputs.{lovelace_in}
use Rattle.coin_frac.specs.declared.TheConstants.{SUPPLY_LIMIT}
use Rattle.maps.specs.Maps.{value_at}
use Rattle.maps.specs.Replaced.{with_option}
use Rattle.stake_book.specs.Stakes.{Stakes, accounts_of, balances_in}
use Rattle.undo_back.proofs.PutBack.{gone_here}
use Rattle.undo_back.proofs.Rooms.{output_fits, output_put}
use Rattle.undo_back.proofs.stake.put_output.Goals as goal

pub add-requires-clause-absent : goal.add-requires-clause-absent
add-requires-clause-absent c =
    ap (λ (s : Stakes). value_at outref_cmp s.outputs.outputs c.args.r) c.in_ok-spend.ensures.ok ∙ gone_here outref_total c.args.r c.args.stake.now.outputs.outputs c.requires.in_order

pub add-requires-clause-room : goal.add-requires-clause-room
add-requires-clause-room c =
    let es = c.args.stake.now.outputs.outputs in
    let n = balances_in (accounts_of c.args.stake.now) in
    let room = subst (λ (to : Option Output). lovelace_in (with_option outref_cmp c.args.r to es) + n ≤ SUPPLY_LIMIT) c.in-Some.is c.requires.room in
    omega (
      arith,
      output_fits n c.args.r c.in-Some.output es c.requires.in_order room,
      ap (λ (s : Stakes). lovelace_in s.outputs.outputs) c.in_ok-spend.ensures.ok,
      ap (λ (accounts : List (Credential × Registered)). balances_in accounts) c.in_ok-spend.ensures.registered,
    )

pub returns-in-Some-clause-outputs : goal.returns-in-Some-clause-outputs
returns-in-Some-clause-outputs c =
    on_ok_weaker c.add.result
    (λ put. output_put c.args.r c.args.to c.in-Some.output c.args.stake.now.outputs c.spend.new.self.outputs c.add.new.self.outputs c.requires.in_order c.in-Some.is
    (ap (λ (s : Stakes). s.outputs) c.in_ok-spend.ensures.ok) (ap (λ (s : Stakes). s.outputs) put))
    c.add.ensures.ok
