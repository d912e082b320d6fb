use Rattle.std.proofs.Common.{◌≡◌, ℕ, ◌+◌, ◌<◌, List, [], ◌∷◌, drop, get_or, length, ap, sym, ◌∙◌, arith}
use Rattle.std.proofs.lemmas.List.{at_drop_more, at_drop_all}
use Rattle.gov_ids.specs.declared.CredKind.TheVariants.{Key}
use Rattle.gov_ids.specs.declared.Credential.{Credential}
use Rattle.book_records.specs.declared.Registered.{Registered}
use Rattle.stake_book.specs.Stakes.{Stakes, HasRoom, accounts_of}
use Rattle.payments.specs.Amounts.{accounts_credited, claimed_of}
use Rattle.payments.proofs.Crediting.{none_credited, first_credited, first_claimed, same_claims, first_has_room, others_have_room}
use Rattle.payments.proofs.pay_registered.Goals as goal

abbrev nobody : Credential × ℕ
nobody = (record { hash = []; kind = Key }, 0)

-- the claims that are left, with the next payment before the others
next_claims : (accounts : List (Credential × Registered)) (ps : List (Credential × ℕ)) (i : ℕ) → i < length ps
    → claimed_of accounts (drop i ps) ≡ claimed_of accounts (get_or ps i nobody ∷ drop (i + 1) ps)
next_claims accounts ps i h = at_drop_more (λ (l : List (Credential × ℕ)). claimed_of accounts l) ps i nobody h

pub paid_to-requires : goal.paid_to-requires
paid_to-requires c =
    let ps : List (Credential × ℕ) = c.args.payments.now in
    let i : ℕ = c.loop-c.c-index in
    let s : Stakes = c.loop-c.stake in
    let room : HasRoom (claimed_of (accounts_of s) (get_or ps i nobody ∷ drop (i + 1) ps)) s = omega (arith, c.loop-c.invariant.room, next_claims (accounts_of s) ps i c.loop-c-test.true) in
    record { room = first_has_room (get_or ps i nobody) (drop (i + 1) ps) s room }

pub overflow_add-paid : goal.overflow_add-paid
overflow_add-paid c =
    let ps : List (Credential × ℕ) = c.args.payments.now in
    let i : ℕ = c.loop-c.c-index in
    let s : Stakes = c.loop-c.stake in
    omega (
      arith,
      c.requires.room,
      c.in_ok-paid.ensures.paid,
      c.loop-c.invariant.paid,
      next_claims (accounts_of s) ps i c.loop-c-test.true,
      first_claimed (accounts_of s) (get_or ps i nobody) (drop (i + 1) ps),
    )

pub loop-c-preserved : goal.loop-c-preserved
loop-c-preserved c =
    let ps : List (Credential × ℕ) = c.args.payments.now in
    let i : ℕ = c.loop-c.c-index in
    let s : Stakes = c.loop-c.stake in
    let p : Credential × ℕ = get_or ps i nobody in
    let rest : List (Credential × ℕ) = drop (i + 1) ps in
    let after : List (Credential × Registered) = accounts_of c.paid_to.new.stake in
    let room : HasRoom (claimed_of (accounts_of s) (p ∷ rest)) s = omega (arith, c.loop-c.invariant.room, next_claims (accounts_of s) ps i c.loop-c-test.true) in
    record {
      accounts =
          ap (λ (l : List (Credential × Registered)). accounts_credited rest l) c.in_ok-paid.ensures.registered
          ∙ sym (first_credited p rest (accounts_of s))
          ∙ sym (at_drop_more (λ (l : List (Credential × ℕ)). accounts_credited l (accounts_of s)) ps i nobody c.loop-c-test.true)
          ∙ c.loop-c.invariant.accounts;
      paid = omega (
        arith,
        c.in_ok-paid.ensures.paid,
        c.loop-c.invariant.paid,
        next_claims (accounts_of s) ps i c.loop-c-test.true,
        first_claimed (accounts_of s) p rest,
        ap (λ (l : List (Credential × Registered)). claimed_of l rest) c.in_ok-paid.ensures.registered,
        same_claims p.0 p.1 (accounts_of s) rest,
      );
      room = others_have_room p rest s room c.paid_to.new.stake c.in_ok-paid.ensures.kept.in_order c.in_ok-paid.ensures.outputs c.in_ok-paid.ensures.registered;
      outputs = c.in_ok-paid.ensures.outputs ∙ c.loop-c.invariant.outputs;
      frozen = c.in_ok-paid.ensures.frozen ∙ c.loop-c.invariant.frozen;
    }

pub returns-clause-accounts : goal.returns-clause-accounts
returns-clause-accounts c =
    let ps : List (Credential × ℕ) = c.args.payments.now in
    let accounts : List (Credential × Registered) = accounts_of c.loop-c.stake in
    sym (none_credited accounts)
    ∙ sym (at_drop_all (λ (l : List (Credential × ℕ)). accounts_credited l accounts) ps c.loop-c.c-index c.loop-c-test.false)
    ∙ c.loop-c.invariant.accounts
