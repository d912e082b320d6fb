-- The laws of the line of the pots, and of what is pending.
use Rattle.std.proofs.Common.{◌≡◌, ℕ, ◌+◌, ◌<◌, ◌^◌, ◌%◌, ◌++◌, Bool, true, ◌&&◌, List, [], ◌∷◌, Option, Some, None, IfSome, decimal, get_or, refl, ap, sym, ◌∙◌, subst, arith}
use Rattle.std.proofs.lemmas.Bool.{and_parts, lt-ltb}
use Rattle.std.proofs.lemmas.Fmt.{decimal_by_steps_wide}
use Rattle.std.proofs.lemmas.Option.{none-some, same_Some}
use Rattle.maps.specs.Words.{none_or}
use Rattle.ledger_model.specs.Supply.{total_of}
use Rattle.text_forms.specs.Lines.{joined}
use Rattle.text_model.specs.StateLines.{none_pending_words}
use Rattle.text_model.specs.Words.{Text}
use Rattle.tx_records.specs.declared.report.Pots.{Pots}
use Rattle.tx_records.specs.Limits.{is_u64}
use Rattle.line_kinds.specs.Cuts.{are_plain, is_plain, word_at}
use Rattle.line_kinds.specs.Kinds.{IsLineOf, ReadsLine}
use Rattle.line_kinds.specs.Numbers.{number_of}
use Rattle.book_kinds.proofs.Fields.{number_field, number_small, plain_both, then_formed}
use Rattle.state_kinds.specs.States.{is_pending_line, pending_line}
use Rattle.checkpoint_lists.specs.Pots.{are_pots, pending_or_none, pots_in, pots_line}

abbrev is_num : ℕ → Type 0
is_num n = is_u64 n ≡ true

-- ---- the pots

-- one more digit
digit_after : (n : ℕ) (ds : Text) → n < 10 → is_plain ds ≡ true → is_plain (ds ++ (48 + n) ∷ []) ≡ true
digit_after n ds small p =
    let low : 32 < 48 + n = omega arith in
    let high : 48 + n < 127 = omega (arith, small) in
    plain_both ds ((48 + n) ∷ []) p (rw (lt-ltb 32 (48 + n) low, lt-ltb (48 + n) 127 high) refl)

-- digits of sums too are plain
wide_plain : (n : ℕ) → n < 10 ^ 64 → is_plain (decimal n) ≡ true
wide_plain n small =
    decimal_by_steps_wide (λ m ds. is_plain ds ≡ true) (λ m less. digit_after m [] less refl)
    (λ m ds more p. digit_after (m % 10) ds (omega arith) p) n small

-- each of the pots is a number of 64 bits
record ArePots (p : Pots) : Type 0 where
  pub outputs : is_num p.outputs
  pub deposits : is_num p.deposits
  pub rewards : is_num p.rewards
  pub fees : is_num p.fees
  pub donations : is_num p.donations
  pub treasury : is_num p.treasury
  pub reserves : is_num p.reserves

pots_parts : (p : Pots) → are_pots p ≡ true → ArePots p
pots_parts p is =
    let a = and_parts (is_u64 p.outputs && is_u64 p.deposits && is_u64 p.rewards && is_u64 p.fees && is_u64 p.donations && is_u64 p.treasury) (is_u64 p.reserves) is in
    let b = and_parts (is_u64 p.outputs && is_u64 p.deposits && is_u64 p.rewards && is_u64 p.fees && is_u64 p.donations) (is_u64 p.treasury) a.0 in
    let c = and_parts (is_u64 p.outputs && is_u64 p.deposits && is_u64 p.rewards && is_u64 p.fees) (is_u64 p.donations) b.0 in
    let d = and_parts (is_u64 p.outputs && is_u64 p.deposits && is_u64 p.rewards) (is_u64 p.fees) c.0 in
    let e = and_parts (is_u64 p.outputs && is_u64 p.deposits) (is_u64 p.rewards) d.0 in
    let f = and_parts (is_u64 p.outputs) (is_u64 p.deposits) e.0 in
    record { outputs = f.0; deposits = f.1; rewards = e.1; fees = d.1; donations = c.1; treasury = b.1; reserves = a.1 }

pots_are : (p : Pots) → ArePots p → are_pots p ≡ true
pots_are p is = rw (is.outputs, is.deposits, is.rewards, is.fees, is.donations, is.treasury, is.reserves) refl

-- seven numbers of 64 bits add up to one of at most 64 digits
sum_small : (a b c d e f g : ℕ) → a < 2 ^ 64 → b < 2 ^ 64 → c < 2 ^ 64 → d < 2 ^ 64 → e < 2 ^ 64 → f < 2 ^ 64 → g < 2 ^ 64 → a + b + c + d + e + f + g < 10 ^ 64
sum_small a b c d e f g p q r s t u v = omega (arith, p, q, r, s, t, u, v)

pub pots_plain : (p : Pots) → are_pots p ≡ true → are_plain (pots_line p) ≡ true
pots_plain p is =
    let n = pots_parts p is in
    let total : is_plain (decimal (total_of p)) ≡ true =
    wide_plain (total_of p) (sum_small p.outputs p.deposits p.rewards p.fees p.donations p.treasury p.reserves (number_small p.outputs n.outputs) (number_small p.deposits n.deposits) (number_small p.rewards n.rewards) (number_small p.fees n.fees) (number_small p.donations n.donations) (number_small p.treasury n.treasury) (number_small p.reserves n.reserves)) in
    rw (number_field.plain p.outputs n.outputs, number_field.plain p.deposits n.deposits, number_field.plain p.rewards n.rewards, number_field.plain p.fees n.fees, number_field.plain p.donations n.donations, number_field.plain p.treasury n.treasury, number_field.plain p.reserves n.reserves, total) refl

pub pots_back : (p : Pots) → are_pots p ≡ true → pots_in (pots_line p) ≡ Some p
pots_back p is =
    let n = pots_parts p is in
    rw (number_field.back p.outputs n.outputs, number_field.back p.deposits n.deposits, number_field.back p.rewards n.rewards, number_field.back p.fees n.fees, number_field.back p.donations n.donations, number_field.back p.treasury n.treasury, number_field.back p.reserves n.reserves) refl

pub pots_formed : (ws : List Text) → IfSome (pots_in ws) (λ p. are_pots p ≡ true)
pots_formed ws =
    then_formed is_num (λ p. are_pots p ≡ true) (number_of (word_at 2 ws)) _ (number_field.formed (word_at 2 ws)) (λ a p.
    then_formed is_num (λ p. are_pots p ≡ true) (number_of (word_at 4 ws)) _ (number_field.formed (word_at 4 ws)) (λ b q.
    then_formed is_num (λ p. are_pots p ≡ true) (number_of (word_at 6 ws)) _ (number_field.formed (word_at 6 ws)) (λ c r.
    then_formed is_num (λ p. are_pots p ≡ true) (number_of (word_at 8 ws)) _ (number_field.formed (word_at 8 ws)) (λ d s.
    then_formed is_num (λ p. are_pots p ≡ true) (number_of (word_at 10 ws)) _ (number_field.formed (word_at 10 ws)) (λ e t.
    then_formed is_num (λ p. are_pots p ≡ true) (number_of (word_at 12 ws)) _ (number_field.formed (word_at 12 ws)) (λ f u.
    then_formed is_num (λ p. are_pots p ≡ true) (number_of (word_at 14 ws)) _ (number_field.formed (word_at 14 ws)) (λ g v.
    pots_are _ (record { outputs = p; deposits = q; rewards = r; fees = s; donations = t; treasury = u; reserves = v }))))))))

-- ---- what is pending

-- no line says both
not_both : {line : Text} (p : ℕ × ℕ × ℕ) → line ≡ joined none_pending_words → line ≡ joined (pending_line p) → ⊥
not_both p is is' = (let e : 110 ≡ 114 = ap (λ (t : Text). get_or t 8 0) (sym is ∙ is') in omega (arith, e))

pub reads_pending : {line : Text} (p : ℕ × ℕ × ℕ) → ReadsLine (λ (x : Unit {0}). true) (λ (x : Unit {0}). none_pending_words) line None → ReadsLine is_pending_line pending_line line (Some p) → ReadsLine (none_or is_pending_line) pending_or_none line (Some (Some p))
reads_pending {line} p other reads = record {
  some = λ x e. subst (λ (t : Option (ℕ × ℕ × ℕ)). IsLineOf (none_or is_pending_line) pending_or_none line t) (same_Some (Some p) x e) (record { form = (reads.some p refl).form; text = (reads.some p refl).text });
  all = elim [ None ↦ λ is. absurd (none-some tt (other.all tt (record { form = refl; text = is.text }))) | Some q ↦ λ is. ap Some (reads.all q (record { form = is.form; text = is.text })) ];
}

pub reads_no_pending : {line : Text} → ReadsLine (λ (x : Unit {0}). true) (λ (x : Unit {0}). none_pending_words) line None → ReadsLine is_pending_line pending_line line None → ReadsLine (none_or is_pending_line) pending_or_none line None
reads_no_pending {line} other reads = record {
  some = λ x e. absurd (none-some x e);
  all = elim [ None ↦ λ is. absurd (none-some tt (other.all tt (record { form = refl; text = is.text }))) | Some q ↦ λ is. absurd (none-some q (reads.all q (record { form = is.form; text = is.text }))) ];
}
