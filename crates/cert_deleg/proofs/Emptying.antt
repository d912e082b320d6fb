-- Accounts that give their balances, one after the other.
use Rattle.std.proofs.Common.{◌≡◌, ℕ, ◌+◌, ◌<◌, ◌≤◌, List, ◌∷◌, map, drop, length, get_or, ap, sym, ◌∙◌, add-one}
use Rattle.std.proofs.Math.ListN.{drop_of_length-le}
use Rattle.std.proofs.Math.Seq.{drop-cons}
use Rattle.gov_ids.specs.declared.Account.{Account}
use Rattle.gov_ids.specs.declared.Credential.{Credential}
use Rattle.book_records.specs.declared.Registered.{Registered}
use Rattle.ledger_model.proofs.Emptying.{emptied_among-cons, emptied_among-none}
use Rattle.ledger_model.specs.Ledger.{Ledger}
use Rattle.cert_deleg.specs.Emptied.{emptied_all, emptied_at}

-- one more withdrawal
pub next_emptied : (ws : List (Account × ℕ)) (i : ℕ) (w : Account × ℕ) (l : Ledger) → i < length ws → emptied_all (drop (i + 1) ws) (emptied_at (get_or ws i w).0.cred l) ≡ emptied_all (drop i ws) l
next_emptied ws i w l h =
    let front : drop i ws ≡ get_or ws i w ∷ drop (i + 1) ws = drop-cons ws i w h ∙ ap (λ k. get_or ws i w ∷ drop k ws) (sym (add-one i)) in
    ap (λ (es : List (Credential × Registered)). record l { accounts = es }) (sym (emptied_among-cons (get_or ws i w).0.cred (map (λ (x : Account × ℕ). x.0.cred) (drop (i + 1) ws)) l.accounts))
    ∙ ap (λ (xs : List (Account × ℕ)). emptied_all xs l) (sym front)

-- no withdrawal is left
pub all_emptied : (ws : List (Account × ℕ)) (i : ℕ) (l : Ledger) → length ws ≤ i → emptied_all (drop i ws) l ≡ l
all_emptied ws i l h =
    ap (λ (xs : List (Account × ℕ)). emptied_all xs l) (drop_of_length-le ws h)
    ∙ ap (λ (es : List (Credential × Registered)). record l { accounts = es }) (emptied_among-none l.accounts)
