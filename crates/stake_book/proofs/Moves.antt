-- What a spent or an added output does to the stake of its stake part.
use Rattle.std.proofs.Common.{◌≡◌, ℕ, ◌+◌, ◌-◌, ◌≤◌, List, Bool, true, false, cond, is_some, Option, Some, None, refl, ap, sym, subst, ◌∙◌, arith}
use Rattle.std.specs.Prelude.{MatchOption}
use Rattle.std.proofs.lemmas.Cmp.{eq_by_cmp_equiv}
use Rattle.gov_ids.specs.declared.Credential.{Credential}
use Rattle.gov_ids.specs.declared.OutRef.{OutRef}
use Rattle.gov_ids.specs.Orders.{outref_cmp}
use Rattle.gov_ids.specs.Same.{same_credential}
use Rattle.std.specs.Option.{option_and_then}
use Rattle.maps.proofs.Lookups.{without_key_absent}
use Rattle.maps.proofs.Sums.{sum_values-with_value_absent, sum_values-without_key}
use Rattle.gov_ids.proofs.Totals.{outref_total}
use Rattle.book_records.specs.declared.Output.{Output}
use Rattle.maps.specs.Maps.{value_at, with_value, without_key}
use Rattle.maps.specs.Words.{holds}
use Rattle.view_map.proofs.Entries.{without_key-with_value, no_entry}
use Rattle.accounts.specs.Accounts.{Accounts}
use Rattle.stake_book.specs.Stakes.{Stakes, AreKept, HasRoom, registrations, stake_at, stake_held, stake_part_at, with_stake, spent}
use Rattle.stake_book.proofs.Kept.{HasMoved, itself, registrations_kept, restaked, stake_kept}
use Rattle.stake_book.proofs.Sums.{counts, held-without_key, held-with_value}

nothing : (b : Bool) → ◌≡◌ {A = ℕ} (cond b 0 0) 0
nothing true = refl
nothing false = refl

pub spend_moves : (outputs : List (OutRef × Output)) (r : OutRef) (o : Output) → value_at outref_cmp outputs r ≡ Some o → HasMoved o.address.stake 0 o.lovelace outputs (without_key outref_cmp r outputs)
spend_moves outputs r o m q = omega (arith, held-without_key outputs r o q m, nothing (holds same_credential o.address.stake q))

pub add_moves : (outputs : List (OutRef × Output)) (r : OutRef) (o : Output) → value_at outref_cmp outputs r ≡ None → HasMoved o.address.stake o.lovelace 0 outputs (with_value outref_cmp r o outputs)
add_moves outputs r o m q = omega (arith, held-with_value outputs r o q m, nothing (holds same_credential o.address.stake q))

-- an output counts for its stake part
own : (o : Output) (c : Credential) → o.address.stake ≡ Some c → counts c o ≡ o.lovelace
own o c p = ap (λ (x : Option Credential). cond (holds same_credential x c) o.lovelace 0) p ∙ ap (λ b. cond b o.lovelace 0) (itself c)

pub spend_enough : (s : Stakes) (r : OutRef) (o : Output) → AreKept s → value_at outref_cmp s.outputs.outputs r ≡ Some o → (c : Credential) → o.address.stake ≡ Some c → o.lovelace ≤ stake_at s.accounts.live c
spend_enough s r o k m c p = omega (arith, k.stakes c, held-without_key s.outputs.outputs r o c m, own o c p)

-- no output is spent where there is none
pub nothing_spent : (s : Stakes) (r : OutRef) → value_at outref_cmp s.outputs.outputs r ≡ None → spent r s ≡ s
nothing_spent s r m =
    let kept : without_key outref_cmp r s.outputs.outputs ≡ s.outputs.outputs = without_key_absent outref_cmp r s.outputs.outputs m in
    let same : with_stake (stake_part_at s.outputs.outputs r) (stake_held (without_key outref_cmp r s.outputs.outputs)) s.accounts ≡ s.accounts =
    ap (λ (x : Option Output). with_stake (option_and_then (λ (o : Output). o.address.stake) x) (stake_held (without_key outref_cmp r s.outputs.outputs)) s.accounts) m in
    λ i. record { outputs = record s.outputs { outputs = kept i }; accounts = same i }

module _ (s : Stakes) (r : OutRef) (o : Output) (k : AreKept s) where
  abbrev left : List (OutRef × Output)
  left = without_key outref_cmp r s.outputs.outputs

  abbrev more : List (OutRef × Output)
  more = with_value outref_cmp r o s.outputs.outputs

  pub spend_keeps : Some o ≡ value_at outref_cmp s.outputs.outputs r → AreKept (record { outputs = record s.outputs { outputs = left }; accounts = with_stake o.address.stake (stake_held left) s.accounts })
  spend_keeps m =
      stake_kept o.address.stake 0 o.lovelace s.outputs (record s.outputs { outputs = left }) s.accounts k (spend_moves s.outputs.outputs r o (sym m))
      (omega (arith, k.room, sum_values-without_key (λ (o : Output). o.lovelace) outref_cmp r o s.outputs.outputs (sym m)))

  pub spend_lowers : Some o ≡ value_at outref_cmp s.outputs.outputs r → with_stake o.address.stake (λ c. stake_at s.accounts.live c - o.lovelace) s.accounts ≡ with_stake o.address.stake (stake_held left) s.accounts
  spend_lowers m = restaked o.address.stake _ (stake_held left) s.accounts (λ c p. omega (arith, k.stakes c, held-without_key s.outputs.outputs r o c (sym m), own o c p))

  pub add_raises : value_at outref_cmp s.outputs.outputs r ≡ None → with_stake o.address.stake (λ c. stake_at s.accounts.live c + o.lovelace) s.accounts ≡ with_stake o.address.stake (stake_held more) s.accounts
  add_raises m = restaked o.address.stake _ (stake_held more) s.accounts (λ c p. omega (arith, k.stakes c, held-with_value s.outputs.outputs r o c m, own o c p))

  pub add_keeps : HasRoom o.lovelace s → value_at outref_cmp s.outputs.outputs r ≡ None → AreKept (record { outputs = record s.outputs { outputs = more }; accounts = with_stake o.address.stake (stake_held more) s.accounts })
  add_keeps w m =
      stake_kept o.address.stake o.lovelace 0 s.outputs (record s.outputs { outputs = more }) s.accounts k (add_moves s.outputs.outputs r o m)
      (omega (arith, w, sum_values-with_value_absent (λ (o : Output). o.lovelace) outref_cmp r o s.outputs.outputs m))

  -- an output that is added and taken away again leaves nothing behind
  pub untouched : value_at outref_cmp s.outputs.outputs r ≡ None → without_key outref_cmp r more ≡ s.outputs.outputs
  untouched m = without_key-with_value outref_total r r o s.outputs.outputs ((eq_by_cmp_equiv outref_total).refl r) (no_entry outref_cmp s.outputs.outputs r (ap (λ (x : Option Output). is_some x) m))

frozen_stays : (part : Option Credential) (stake : Credential → ℕ) (a : Accounts) → (with_stake part stake a).frozen ≡ a.frozen
frozen_stays None stake a = refl
frozen_stays (Some c) stake a = refl

module _ (s : Stakes) (r : OutRef) (a : Accounts) (k : AreKept s) where
  -- the accounts after the output at r, if there is one, has taken its lovelace from its stake part
  abbrev pub IsLowered : Option Output → Type 0
  IsLowered o = MatchOption o (a ≡ s.accounts) (λ o. a ≡ with_stake o.address.stake (λ c. stake_at s.accounts.live c - o.lovelace) s.accounts)

  -- they are those of the book after the spending
  lowered_as : (o : Option Output) → o ≡ value_at outref_cmp s.outputs.outputs r → IsLowered o → a ≡ (spent r s).accounts
  lowered_as None none is = is ∙ sym (ap (λ (s : Stakes). s.accounts) (nothing_spent s r (sym none)))
  lowered_as (Some o) there is =
      is ∙ spend_lowers s r o k there
      ∙ ap (λ (x : Option Output). with_stake (option_and_then (λ (o : Output). o.address.stake) x) (stake_held (without_key outref_cmp r s.outputs.outputs)) s.accounts) there

  pub lowered_is : IsLowered (value_at outref_cmp s.outputs.outputs r) → a ≡ (spent r s).accounts
  lowered_is is = lowered_as (value_at outref_cmp s.outputs.outputs r) refl is

  kept_as : (o : Option Output) → o ≡ value_at outref_cmp s.outputs.outputs r → AreKept (spent r s)
  kept_as None none = subst (λ (s : Stakes). AreKept s) (sym (nothing_spent s r (sym none))) k
  kept_as (Some o) there =
      let left : List (OutRef × Output) = without_key outref_cmp r s.outputs.outputs in
      subst (λ (x : Option Output). AreKept (record { outputs = record s.outputs { outputs = left }; accounts = with_stake (option_and_then (λ (o : Output). o.address.stake) x) (stake_held left) s.accounts })) there
      (spend_keeps s r o k there)

  -- the book is kept after the spending
  pub spent_kept : AreKept (spent r s)
  spent_kept = kept_as (value_at outref_cmp s.outputs.outputs r) refl

  registered_as : (o : Option Output) → IsLowered o → registrations a.live ≡ registrations s.accounts.live
  registered_as None is = ap (λ (a : Accounts). registrations a.live) is
  registered_as (Some o) is = ap (λ (a : Accounts). registrations a.live) is ∙ registrations_kept o.address.stake (λ c. stake_at s.accounts.live c - o.lovelace) s.accounts k.live

  -- the registrations stay
  pub still_registered : IsLowered (value_at outref_cmp s.outputs.outputs r) → registrations a.live ≡ registrations s.accounts.live
  still_registered is = registered_as (value_at outref_cmp s.outputs.outputs r) is

  frozen_as : (o : Option Output) → IsLowered o → a.frozen ≡ s.accounts.frozen
  frozen_as None is = ap (λ (a : Accounts). a.frozen) is
  frozen_as (Some o) is = ap (λ (a : Accounts). a.frozen) is ∙ frozen_stays o.address.stake (λ c. stake_at s.accounts.live c - o.lovelace) s.accounts

  -- and so do the frozen entries
  pub still_frozen : IsLowered (value_at outref_cmp s.outputs.outputs r) → a.frozen ≡ s.accounts.frozen
  still_frozen is = frozen_as (value_at outref_cmp s.outputs.outputs r) is
