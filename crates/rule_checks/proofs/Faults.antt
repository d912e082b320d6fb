-- Answers of calls that may also run out of memory, one group of checks after the other.
use Rattle.std.proofs.Common.{◌≡◌, List, Option, Some, None, Result, Err, refl, ap, sym, subst, ◌∙◌}
use Rattle.std.specs.Prelude.{⊤}
use Rattle.maps.specs.Words.{or_else}
use Rattle.tx_records.specs.declared.reply.Rule.{Rule}
use Rattle.tx_records.specs.declared.reply.TxFault.{TxFault}
use Rattle.tx_records.specs.declared.reply.TxFault.TheVariants as faults
use Rattle.ledger_model.specs.Checks.{Check, answer_by, answer_of, first_among}
use Rattle.rule_checks.specs.Answered.{IsAnswered, as_fault}

answered : (o : Option Rule) → IsAnswered o (as_fault (answer_by o))
answered None = refl
answered (Some r) = refl

-- a call that tries these checks alone, as one that may run out of memory
pub told : (checks : List Check) (answer : Result ⊤ Rule) (r : Result ⊤ TxFault) → answer ≡ answer_of checks → r ≡ as_fault answer → IsAnswered (first_among checks) r
told checks answer r e f = subst (λ (x : Result ⊤ TxFault). IsAnswered (first_among checks) x) (sym (f ∙ ap as_fault e)) (answered (first_among checks))

-- a first group of which none is broken leaves the answer to the others
pub answered_later : (a b whole : Option Rule) (r : Result ⊤ TxFault) → or_else a b ≡ whole → a ≡ None → IsAnswered b r → IsAnswered whole r
answered_later a b whole r is none h = subst (λ (o : Option Rule). IsAnswered o r) (ap (λ (x : Option Rule). or_else x b) (sym none) ∙ is) h

-- the answer where a fault comes with the first rules
pub faulted : (a b whole : Option Rule) (e : TxFault) → or_else a b ≡ whole → IsAnswered a (Err e) → IsAnswered whole (Err e)
faulted a b whole (faults.Refused rule) is h = sym is ∙ ap (λ (o : Option Rule). or_else o b) h
faulted a b whole faults.NoMemory is h = tt
