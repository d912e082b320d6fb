use Rattle.std.proofs.Common.{◌≡◌, ◌+◌, ℕ, List, IfOk, ap, sym, subst, ◌∙◌, arith}
use Rattle.std.proofs.lemmas.Result.{IfOk-weaker}
use Rattle.gov_actions.specs.declared.state.EnactState.{EnactState}
use Rattle.gov_ids.specs.declared.Credential.{Credential}
use Rattle.payments.specs.Amounts.{accounts_credited, all_amounts, unclaimed_of}
use Rattle.stake_book.specs.Stakes.{HasRoom, accounts_of}
use Rattle.epoch_books.proofs.Credits.{all_credited}
use Rattle.epoch_books.proofs.Updates.{gained_twice}
use Rattle.epoch_books.proofs.rewards.rewarded.Goals as goal

pub overflow_add-treasury : goal.overflow_add-treasury
overflow_add-treasury c = omega (arith, ap (λ (s : EnactState). s.treasury) c.get.ensures, c.requires.fits)

pub paid_out-requires : goal.paid_out-requires
paid_out-requires c = record {
  room = subst (λ (ps : List (Credential × ℕ)). HasRoom (all_amounts ps) c.args.stake) (sym c.as_slice.ensures) c.requires.room;
  fits = omega (
    arith,
    ap (λ (s : EnactState). s.treasury) c.in_ok-state.ensures,
    ap (λ (s : EnactState). s.treasury) c.get.ensures,
    ap (λ (ps : List (Credential × ℕ)). all_amounts ps) c.as_slice.ensures,
    c.requires.fits,
  );
}

pub returns-clause-paid : goal.returns-clause-paid
returns-clause-paid c =
    let e = c.paid_out.ensures in
    let rewards : List (Credential × ℕ) = c.args.u.now.rewards in
    let unclaimed : ℕ = unclaimed_of (accounts_of c.args.stake) rewards in
    all_credited c.paid_out.result rewards (accounts_of c.args.stake) (c.args.state.treasury + c.args.u.now.to_treasury + unclaimed) c.args.stake c.args.state
    (subst (λ (ps : List (Credential × ℕ)). IfOk c.paid_out.result (λ r. accounts_of r.0 ≡ accounts_credited ps (accounts_of c.args.stake))) c.as_slice.ensures e.accounts)
    e.outputs
    e.frozen
    (IfOk-weaker c.paid_out.result
    (λ r. r.1 ≡ record c.in_ok-state.state { treasury = c.in_ok-state.state.treasury + unclaimed_of (accounts_of c.args.stake) c.as_slice.result.now })
    (λ r. r.1 ≡ record c.args.state { treasury = c.args.state.treasury + c.args.u.now.to_treasury + unclaimed })
    (λ r held. gained_twice c.args.state c.get.result.now c.in_ok-state.state r.1 c.args.u.now.to_treasury unclaimed c.get.ensures c.in_ok-state.ensures
    (held ∙ ap (λ (ps : List (Credential × ℕ)). let t : EnactState = record c.in_ok-state.state { treasury = c.in_ok-state.state.treasury + unclaimed_of (accounts_of c.args.stake) ps } in t) c.as_slice.ensures))
    e.state)
