use Rattle.std.proofs.Common.{◌≡◌, ◌+◌, ◌≤◌, List, None, ap, subst, sym, ◌∙◌}
use Rattle.gov_ids.specs.declared.OutRef.{OutRef}
use Rattle.gov_ids.specs.Orders.{outref_cmp}
use Rattle.book_records.specs.declared.Output.{Output}
use Rattle.coin_frac.specs.declared.TheConstants.{SUPPLY_LIMIT}
use Rattle.maps.specs.Maps.{value_at, without_key}
use Rattle.utxo_set.specs.Utxos.{Utxos}
use Rattle.accounts.specs.Accounts.{Accounts}
use Rattle.stake_book.specs.Stakes.{Stakes, AreKept, HasRoom, registrations, accounts_of, stake_at, added}
use Rattle.stake_book.specs.Sums.{weight_in}
use Rattle.stake_book.proofs.Kept.{registrations_kept}
use Rattle.stake_book.proofs.Moves.{add_keeps, add_raises, untouched}
use Rattle.stake_book.proofs.Weights.{weight_within}
use Rattle.stake_book.proofs.StakeBook.add.Goals as goal

pub raise_stake-requires : goal.raise_stake-requires
raise_stake-requires c =
    let s : Stakes = record { outputs = c.self.inside.outputs; accounts = c.self.inside.accounts } in
    let absent : value_at outref_cmp s.outputs.outputs c.args.r ≡ None = ap (λ (s : Stakes). value_at outref_cmp s.outputs.outputs c.args.r) c.self.view_is ∙ c.requires.absent in
    let room : HasRoom c.args.o.lovelace s = subst (λ (s : Stakes). HasRoom c.args.o.lovelace s) (sym c.self.view_is) c.requires.room in
    record {
      room = subst (λ (a : Accounts). weight_in a.live ≤ SUPPLY_LIMIT) (sym (add_raises s c.args.r c.args.o c.self.invariant absent)) (weight_within _ (add_keeps s c.args.r c.args.o c.self.invariant room absent));
    }

pub returns-clause-ok : goal.returns-clause-ok
returns-clause-ok c =
    let s : Stakes = record { outputs = c.self.inside.outputs; accounts = c.self.inside.accounts } in
    let absent : value_at outref_cmp s.outputs.outputs c.args.r ≡ None = ap (λ (s : Stakes). value_at outref_cmp s.outputs.outputs c.args.r) c.self.view_is ∙ c.requires.absent in
    let raised = c.in_default.ensures.ok ∙ add_raises s c.args.r c.args.o c.self.invariant absent in
    (λ i. record { outputs = c.in_ok-put.ensures.ok i; accounts = raised i }) ∙ ap (λ (s : Stakes). added c.args.r c.args.o s) c.self.view_is

pub returns-clause-registered : goal.returns-clause-registered
returns-clause-registered c =
    let a : Accounts = c.self.inside.accounts in
    ap (λ (a : Accounts). registrations a.live) c.in_default.ensures.ok
    ∙ registrations_kept c.args.o.address.stake (λ q. stake_at a.live q + c.args.o.lovelace) a c.self.invariant.live
    ∙ ap (λ (s : Stakes). accounts_of s) c.self.view_is

pub invariant_of-self-in_default : goal.invariant_of-self-in_default
invariant_of-self-in_default c =
    let s : Stakes = record { outputs = c.self.inside.outputs; accounts = c.self.inside.accounts } in
    let absent : value_at outref_cmp s.outputs.outputs c.args.r ≡ None = ap (λ (s : Stakes). value_at outref_cmp s.outputs.outputs c.args.r) c.self.view_is ∙ c.requires.absent in
    let room : HasRoom c.args.o.lovelace s = subst (λ (s : Stakes). HasRoom c.args.o.lovelace s) (sym c.self.view_is) c.requires.room in
    let raised = c.in_default.ensures.ok ∙ add_raises s c.args.r c.args.o c.self.invariant absent in
    subst (λ (s : Stakes). AreKept s) (λ i. record { outputs = sym c.in_ok-put.ensures.ok i; accounts = sym raised i }) (add_keeps s c.args.r c.args.o c.self.invariant room absent)

pub returns-in-Err-clause-err : goal.returns-in-Err-clause-err
returns-in-Err-clause-err c =
    let s : Stakes = record { outputs = c.self.inside.outputs; accounts = c.self.inside.accounts } in
    let absent : value_at outref_cmp s.outputs.outputs c.args.r ≡ None = ap (λ (s : Stakes). value_at outref_cmp s.outputs.outputs c.args.r) c.self.view_is ∙ c.requires.absent in
    let back = c.take.ensures.rest ∙ ap (λ (u : Utxos). record u { outputs = without_key outref_cmp c.args.r u.outputs }) c.in_ok-put.ensures.ok
    ∙ ap (λ (es : List (OutRef × Output)). record s.outputs { outputs = es }) (untouched s c.args.r c.args.o c.self.invariant absent) in
    (λ i. record { outputs = back i; accounts = c.in-Err.ensures.err i }) ∙ c.self.view_is

pub invariant_of-self-in-Err : goal.invariant_of-self-in-Err
invariant_of-self-in-Err c =
    let s : Stakes = record { outputs = c.self.inside.outputs; accounts = c.self.inside.accounts } in
    let absent : value_at outref_cmp s.outputs.outputs c.args.r ≡ None = ap (λ (s : Stakes). value_at outref_cmp s.outputs.outputs c.args.r) c.self.view_is ∙ c.requires.absent in
    let back = c.take.ensures.rest ∙ ap (λ (u : Utxos). record u { outputs = without_key outref_cmp c.args.r u.outputs }) c.in_ok-put.ensures.ok
    ∙ ap (λ (es : List (OutRef × Output)). record s.outputs { outputs = es }) (untouched s c.args.r c.args.o c.self.invariant absent) in
    subst (λ (s : Stakes). AreKept s) (λ i. record { outputs = sym back i; accounts = sym c.in-Err.ensures.err i }) c.self.invariant
