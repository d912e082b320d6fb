-- What payments to accounts and to the treasury add up to, and what they make of the pots.
use Rattle.std.proofs.Common.{◌≡◌, ℕ, ◌+◌, List, [], ◌∷◌, Bool, true, false, cond, not, map, filter, sum_by, refl, ap, subst, ◌∙◌, arith}
use Rattle.std.proofs.lemmas.List.Sums.{sum_by-cons}
use Rattle.maps.proofs.Credits.{sum_by-plus, sum_values-each, sum_values-entries, sum-amounts_of, sum-parted}
use Rattle.gov_ids.specs.declared.Credential.{Credential}
use Rattle.gov_ids.proofs.Totals.{credential_total}
use Rattle.book_records.specs.declared.Registered.{Registered}
use Rattle.ledger_model.specs.Ledger.{Ledger, is_account}
use Rattle.ledger_model.specs.Supply.{pots_of, deposits_of}
use Rattle.ledger_model.specs.Flows.{Pot, outputs, deposits, rewards, fees, donations, treasury, reserves, hand, Flow, source, sink, same_pot, sum_at}
use Rattle.ledger_model.specs.Moves.{IsMovedBy, held_in}
use Rattle.ledger_model.proofs.FlowSums.{sum-cons, sum_either}
use Rattle.run_model.specs.BoundaryFlows.{payment}
use Rattle.run_model.specs.Boundary.{amount_to, claimed, unclaimed, credited, paid_out}
use Rattle.epoch_balance.specs.StepLaws.{HasAccounts}

abbrev pub amount_of : Credential × ℕ → ℕ
amount_of p = p.1

pub parted-cons : (f : Credential × ℕ → Bool) (p : Credential × ℕ) (ps : List (Credential × ℕ))
    → sum_by amount_of (filter f (p ∷ ps)) ≡ cond (f p) p.1 0 + sum_by amount_of (filter f ps)
parted-cons f p ps = elim (f p) as (λ b. sum_by amount_of (cond b (p ∷ filter f ps) (filter f ps)) ≡ cond b p.1 0 + sum_by amount_of (filter f ps)) [
  | true ↦ sum_by-cons amount_of p (filter f ps)
  | false ↦ omega arith
]

-- one more payment, to the rewards or to the treasury
gather : (r t b : Bool) (n rest claims others : ℕ) → rest ≡ cond r claims 0 + cond t others 0
    → cond (cond b r t) n 0 + rest ≡ cond r (cond b n 0 + claims) 0 + cond t (cond (not b) n 0 + others) 0
gather true true true n rest claims others e = omega arith
gather true true false n rest claims others e = omega arith
gather true false true n rest claims others e = omega arith
gather true false false n rest claims others e = omega arith
gather false true true n rest claims others e = omega arith
gather false true false n rest claims others e = omega arith
gather false false true n rest claims others e = omega arith
gather false false false n rest claims others e = omega arith

zeros : (b c : Bool) → 0 ≡ cond b 0 0 + cond c 0 0
zeros true true = omega arith
zeros true false = omega arith
zeros false true = omega arith
zeros false false = omega arith

to_pot : (p : Pot) (b : Bool) → same_pot (cond b rewards treasury) p ≡ cond b (same_pot rewards p) (same_pot treasury p)
to_pot p true = refl
to_pot p false = refl

-- payments from a pot go to the rewards of registered accounts, and else to the treasury
payments-into : (pot : Pot) (l : Ledger) (ps : List (Credential × ℕ)) (p : Pot)
    → sum_at sink p (map (payment pot l) ps) ≡ cond (same_pot rewards p) (claimed l ps) 0 + cond (same_pot treasury p) (unclaimed l ps) 0
payments-into pot l [] p = zeros (same_pot rewards p) (same_pot treasury p)
payments-into pot l (q ∷ ps) p =
    let both = gather (same_pot rewards p) (same_pot treasury p) (is_account l q.0) q.1 _ _ _ (payments-into pot l ps p) in
    omega (
      arith,
      sum-cons sink p (payment pot l q) (map (payment pot l) ps),
      ap (λ b. cond b q.1 0) (to_pot p (is_account l q.0)),
      both,
      ap (λ n. cond (same_pot rewards p) n 0) (parted-cons (λ x. is_account l x.0) q ps),
      ap (λ n. cond (same_pot treasury p) n 0) (parted-cons (λ x. not (is_account l x.0)) q ps),
    )

pub payments-from : (pot : Pot) (l : Ledger) (ps : List (Credential × ℕ)) (p : Pot) → sum_at source p (map (payment pot l) ps) ≡ cond (same_pot pot p) (sum_by amount_of ps) 0
payments-from pot l [] p = none (same_pot pot p)
  where
    none : (b : Bool) → sum_at source p [] ≡ cond b 0 0
    none true = refl
    none false = refl
payments-from pot l (q ∷ ps) p =
    omega (
      arith,
      sum-cons source p (payment pot l q) (map (payment pot l) ps),
      payments-from pot l ps p,
      sum_either (same_pot pot p) q.1 (sum_by amount_of ps),
      ap (λ n. cond (same_pot pot p) n 0) (sum_by-cons amount_of q ps),
    )

-- they are the same where the same credentials are registered
pub same_payments : (pot : Pot) (a b : Ledger) → ((c : Credential) → is_account a c ≡ is_account b c) → (ps : List (Credential × ℕ)) → map (payment pot a) ps ≡ map (payment pot b) ps
same_payments pot a b s [] = refl
same_payments pot a b s (q ∷ ps) =
    ap (λ (list : List Flow). payment pot a q ∷ list) (same_payments pot a b s ps)
    ∙ ap (λ t. (let f : Flow = record { from = pot; to = cond t rewards treasury; amount = q.1 } in f) ∷ map (payment pot b) ps) (s q.0)

-- what accounts and the treasury gain is all that is paid
pub all_paid : (l : Ledger) (ps : List (Credential × ℕ)) → claimed l ps + unclaimed l ps ≡ sum_by amount_of ps
all_paid l ps = sum-parted amount_of (λ p. is_account l p.0) ps

module _ (l : Ledger) (ps : List (Credential × ℕ)) where
  abbrev deposit : Registered → ℕ
  deposit r = r.deposit

  abbrev balance : Registered → ℕ
  balance r = r.rewards

  abbrev with_amounts : Credential → Registered → Registered
  with_amounts c r = record r { rewards = r.rewards + amount_to ps c }

  -- deposits stay, and the balances gain the amounts of the registered accounts
  pub deposits-credited : deposits_of (credited ps l) ≡ deposits_of l
  deposits-credited = omega (arith, sum_values-each deposit with_amounts l.accounts, sum_values-entries deposit l.accounts)

  pub rewards-credited : HasAccounts l → (pots_of (credited ps l)).rewards ≡ (pots_of l).rewards + claimed l ps
  rewards-credited m =
      sum_values-each balance with_amounts l.accounts
      ∙ sum_by-plus (λ (e : Credential × Registered). e.1.rewards) (λ (e : Credential × Registered). amount_to ps e.0) l.accounts
      ∙ omega (arith, sum_values-entries balance l.accounts, sum-amounts_of credential_total ps l.accounts m)

  -- each pot gains what is paid into it, from whichever pot
  pub paid_into : (pot : Pot) → HasAccounts l → (p : Pot) → held_in p (pots_of (paid_out ps l)) ≡ held_in p (pots_of l) + sum_at sink p (map (payment pot l) ps)
  paid_into pot m outputs = omega (arith, payments-into pot l ps outputs)
  paid_into pot m deposits = omega (arith, payments-into pot l ps deposits, deposits-credited)
  paid_into pot m rewards = omega (arith, payments-into pot l ps rewards, rewards-credited m)
  paid_into pot m fees = omega (arith, payments-into pot l ps fees)
  paid_into pot m donations = omega (arith, payments-into pot l ps donations)
  paid_into pot m treasury = omega (arith, payments-into pot l ps treasury)
  paid_into pot m reserves = omega (arith, payments-into pot l ps reserves)
  paid_into pot m hand = omega (arith, payments-into pot l ps hand)

-- refunds of deposits that a ledger has no more, by one with the same registrations that had them
pub refunds_move : (l cut : Ledger) (ps : List (Credential × ℕ)) → HasAccounts cut → ((c : Credential) → is_account cut c ≡ is_account l c)
    → ((p : Pot) → held_in p (pots_of cut) + cond (same_pot deposits p) (sum_by amount_of ps) 0 ≡ held_in p (pots_of l))
    → IsMovedBy (map (payment deposits l) ps) (pots_of l) (pots_of (paid_out ps cut))
refunds_move l cut ps m s h =
    subst (λ (fs : List Flow). IsMovedBy fs (pots_of l) (pots_of (paid_out ps cut))) (same_payments deposits cut l s ps)
    (λ p. omega (arith, paid_into cut ps deposits m p, payments-from deposits cut ps p, h p))
