-- What the outputs of a stake part hold after a change of the outputs.
use Rattle.std.proofs.Common.{◌≡◌, ℕ, ◌+◌, List, [], ◌∷◌, true, false, cond, Some, None, refl, sym, ◌∙◌, arith}
use Rattle.std.specs.Map.{values_of}
use Rattle.std.proofs.lemmas.List.Sums.{sum_by-cons}
use Rattle.gov_ids.specs.declared.Credential.{Credential}
use Rattle.gov_ids.specs.declared.OutRef.{OutRef}
use Rattle.gov_ids.specs.Orders.{outref_cmp}
use Rattle.gov_ids.specs.Same.{same_credential}
use Rattle.book_records.specs.declared.Output.{Output}
use Rattle.maps.proofs.Sums.{sum_values-with_value_absent, sum_values-without_key}
use Rattle.maps.specs.Maps.{value_at, with_value, without_key, entries_where, sum_values}
use Rattle.maps.specs.Words.{holds}
use Rattle.stake_book.specs.Stakes.{stake_held}

-- what an output counts for a credential
abbrev pub counts : Credential → Output → ℕ
counts c o = cond (holds same_credential o.address.stake c) o.lovelace 0

abbrev lovelace : Output → ℕ
lovelace o = o.lovelace

pub held_is : (outputs : List (OutRef × Output)) (c : Credential) → stake_held outputs c ≡ sum_values (counts c) outputs
held_is [] c = refl
held_is (e ∷ outputs) c =
    elim (holds same_credential e.1.address.stake c) as (λ b. sum_values lovelace (cond b (e ∷ entries_where (λ r (o : Output). holds same_credential o.address.stake c) outputs) (entries_where (λ r (o : Output). holds same_credential o.address.stake c) outputs))
    ≡ cond b e.1.lovelace 0 + sum_values (counts c) outputs) [
      | true ↦ omega (arith, held_is outputs c, sum_by-cons lovelace e.1 (values_of (entries_where (λ r (o : Output). holds same_credential o.address.stake c) outputs)))
      | false ↦ omega (arith, held_is outputs c)
    ]
    ∙ sym (sum_by-cons (counts c) e.1 (values_of outputs))

pub held-without_key : (outputs : List (OutRef × Output)) (r : OutRef) (o : Output) (c : Credential) → value_at outref_cmp outputs r ≡ Some o → stake_held (without_key outref_cmp r outputs) c + counts c o ≡ stake_held outputs c
held-without_key outputs r o c m = omega (arith, held_is outputs c, held_is (without_key outref_cmp r outputs) c, sum_values-without_key (counts c) outref_cmp r o outputs m)

pub held-with_value : (outputs : List (OutRef × Output)) (r : OutRef) (o : Output) (c : Credential) → value_at outref_cmp outputs r ≡ None → stake_held (with_value outref_cmp r o outputs) c ≡ stake_held outputs c + counts c o
held-with_value outputs r o c m = omega (arith, held_is outputs c, held_is (with_value outref_cmp r o outputs) c, sum_values-with_value_absent (counts c) outref_cmp r o outputs m)
