-- Certificates one after the other: what each breaks, changes and moves.
use Rattle.std.proofs.Common.{◌≡◌, ℕ, ◌+◌, ◌<◌, ◌≤◌, List, ◌∷◌, false, cond, Option, None, map, drop, length, get_or, ap, sym, ◌∙◌, add-one, append-nil}
use Rattle.std.proofs.Math.ListN.{drop_of_length-le}
use Rattle.std.proofs.Math.Seq.{drop-cons}
use Rattle.std.proofs.lemmas.List.Sums.{fold_more}
use Rattle.std.specs.List.{enumerate_from}
use Rattle.std.specs.Prelude.{flat_map}
use Rattle.maps.specs.Words.{or_else}
use Rattle.tx_records.specs.declared.cert.Cert.{Cert}
use Rattle.tx_records.specs.declared.reply.Rule.{Rule}
use Rattle.tx_records.specs.declared.tx.Tx.{Tx}
use Rattle.ledger_model.specs.CertRules.{cert_checks}
use Rattle.ledger_model.specs.Changes.{changed_by}
use Rattle.ledger_model.specs.Checks.{Check, at_place, first_among, per_place_from}
use Rattle.ledger_model.specs.Draft.{draft_after, draft_with, is_refused}
use Rattle.ledger_model.specs.Flows.{End, Flow, flows_of_cert, hand, sum_at}
use Rattle.ledger_model.specs.Ledger.{Ledger}
use Rattle.ledger_model.proofs.CheckLaws.{first_among-append, first_among-at_place}
use Rattle.ledger_model.proofs.FlowSums.{sum-append}
use Rattle.ledger_model.proofs.Unbroken.{none_broken, not_placed}
use Rattle.rule_checks.specs.Told.{told_with}
use Rattle.rule_checks.proofs.Telling.{told_both}

module _ (l : Ledger) (tx : Tx) where
  abbrev pub checks_at : ℕ → Cert → List Check
  checks_at k c = cert_checks l (draft_after l tx k) c

  -- the rules of the certificates from the place i on
  abbrev pub checks_from : ℕ → List Check
  checks_from i = per_place_from checks_at i (drop i tx.certs)

  -- and what these move
  abbrev pub flows_from : ℕ → List Flow
  flows_from i = flat_map (λ p. flows_of_cert (draft_after l tx p.0) p.1) (enumerate_from i (drop i tx.certs))

  module _ (i : ℕ) (d : Cert) (h : i < length tx.certs) where
    abbrev c : Cert
    c = get_or tx.certs i d

    front : drop i tx.certs ≡ c ∷ drop (i + 1) tx.certs
    front = drop-cons tx.certs i d h ∙ ap (λ k. c ∷ drop k tx.certs) (sym (add-one i))

    pub next_checks : or_else (first_among (map (at_place i) (checks_at i c))) (first_among (checks_from (i + 1))) ≡ first_among (checks_from i)
    next_checks =
        sym (first_among-append (map (at_place i) (checks_at i c)) (checks_from (i + 1)))
        ∙ ap (λ (cs : List Cert). first_among (per_place_from checks_at i cs)) (sym front)

    pub next_flows : (end : End) → sum_at end hand (flows_of_cert (draft_after l tx i) c) + sum_at end hand (flows_from (i + 1)) ≡ sum_at end hand (flows_from i)
    next_flows end =
        sym (sum-append end hand (flows_of_cert (draft_after l tx i) c) (flows_from (i + 1)))
        ∙ ap (λ (cs : List Cert). sum_at end hand (flat_map (λ p. flows_of_cert (draft_after l tx p.0) p.1) (enumerate_from i cs))) (sym front)

    -- what the next one breaks, and then the others
    pub next_told : (told : List Rule) → told_with (checks_from (i + 1)) (told_with (map (at_place i) (checks_at i c)) told) ≡ told_with (checks_from i) told
    next_told told =
        told_both (map (at_place i) (checks_at i c)) (checks_from (i + 1)) told
        ∙ ap (λ (cs : List Cert). told_with (per_place_from checks_at i cs) told) (sym front)

    -- the draft behind the next one, whether it breaks a rule or not
    pub draft_behind : draft_with l (draft_after l tx i) c ≡ draft_after l tx (i + 1)
    draft_behind = sym (fold_more (draft_with l) (draft_after l tx 0) tx.certs i d h)

    not_refused : first_among (map (at_place i) (checks_at i c)) ≡ None → is_refused l (draft_after l tx i) c ≡ false
    not_refused none =
        none_broken (checks_at i c) (record { none = not_placed i (first_among (checks_at i c)) (sym (first_among-at_place i (checks_at i c)) ∙ none) })

    pub next_draft : first_among (map (at_place i) (checks_at i c)) ≡ None → changed_by c (draft_after l tx i) ≡ draft_after l tx (i + 1)
    next_draft none =
        ap (λ b. cond b (draft_after l tx i) (changed_by c (draft_after l tx i))) (sym (not_refused none))
        ∙ draft_behind

    pub next_passed : first_among (map (at_place i) (checks_at i c)) ≡ None → first_among (checks_from (i + 1)) ≡ first_among (checks_from i)
    next_passed none = ap (λ (o : Option Rule). or_else o (first_among (checks_from (i + 1)))) (sym none) ∙ next_checks

  -- no certificate is left
  pub no_checks : (i : ℕ) → length tx.certs ≤ i → first_among (checks_from i) ≡ None
  no_checks i h = ap (λ (cs : List Cert). first_among (per_place_from checks_at i cs)) (drop_of_length-le tx.certs h)

  pub none_told : (i : ℕ) (told : List Rule) → length tx.certs ≤ i → told_with (checks_from i) told ≡ told
  none_told i told h = ap (λ (cs : List Cert). told_with (per_place_from checks_at i cs) told) (drop_of_length-le tx.certs h) ∙ append-nil told

  pub no_flows : (i : ℕ) (end : End) → length tx.certs ≤ i → sum_at end hand (flows_from i) ≡ 0
  no_flows i end h = ap (λ (cs : List Cert). sum_at end hand (flat_map (λ p. flows_of_cert (draft_after l tx p.0) p.1) (enumerate_from i cs))) (drop_of_length-le tx.certs h)
