-- Lines that were taken one after another, and those that were given.
use Rattle.std.proofs.Common.{◌≡◌, ◌⊎◌, ◌↔◌, inl, inr, ℕ, ◌++◌, ◌==◌, Bool, true, false, List, [], ◌∷◌, Option, Some, None, Result, Ok, Err, IfOk, bytes_eq, drop, refl, ap, sym, ◌∙◌, subst, if◌then◌else◌, append-nil}
use Rattle.std.proofs.lemmas.Bool.{and_parts}
use Rattle.std.proofs.lemmas.Option.{none-some, same_Some}
use Rattle.std.proofs.lemmas.Slice.Eq.{bytes_eq-Decides}
use Rattle.bare_lines.specs.Bare.{bare, bare_part}
use Rattle.bare_lines.proofs.Joined.{bare_joined}
use Rattle.line_giver.specs.Giving.{known_after}
use Rattle.line_parts.specs.Parts.{lines_of}
use Rattle.byte_lines.specs.declared.lines.LineFault.{LineFault}
use Rattle.byte_lines.specs.declared.sink.SinkFault.{SinkFault}
use Rattle.report.specs.Taking.{HasPut, IsFront, with_lines}
use Rattle.text_forms.specs.Lines.{joined}
use Rattle.text_model.specs.Words.{Text, line_of}
use Rattle.claim_checks.specs.Lines.{is_line_of, left_after, left_after_all}
use Rattle.claim_checks.specs.Meeting.{IsUnmet, Met, with_met}
use Rattle.claim_checks.specs.declared.meeting.Stand.TheVariants.{Same, Differs}
use Rattle.claim_checks.proofs.HaveWords.{HaveWords}
use Rattle.claim_checks.proofs.Lines.{last_same}

-- ---- what a taker reports

-- nothing is left after a line that differs
none_after : (lines : List (List Text)) → left_after_all None lines ≡ None
none_after [] = refl
none_after (words ∷ lines) = none_after lines

-- after lines without their numbers
pub met_all : (m : Met) (lines : List (List Text)) → HaveWords lines → with_lines (bare with_met) 0 m lines ≡ record m { left = left_after_all m.left lines }
met_all m [] have = refl
met_all m ([] ∷ lines) have = absurd have
met_all m ((word ∷ words) ∷ lines) have =
    met_all (with_met m (drop 2 (line_of 0 (word ∷ words)))) lines have
    ∙ ap (λ (line : Text). record m { left = left_after_all (left_after m.left line) lines }) (bare_joined word words)

differs_not : (m m' : Met) {P : Type 0} → m.stand ≡ Same → m' ≡ m → m'.stand ≡ Differs → P
differs_not m m' same is differs = absurd (let e : Same ≡ Differs = sym same ∙ sym (ap (λ (x : Met). x.stand) is) ∙ differs in cc)

-- after one that was not taken
unmet_all : (m m' : Met) (lines : List (List Text)) → HaveWords lines → m.stand ≡ Same → IsFront (bare with_met) (bare_part IsUnmet) 0 m lines m' → m'.stand ≡ Differs → left_after_all m.left lines ≡ None
unmet_all m m' [] have same is d = differs_not m m' same is d
unmet_all m m' ([] ∷ lines) have same is d = absurd have
unmet_all m m' ((word ∷ words) ∷ lines) have same (inl is) d = differs_not m m' same is d
unmet_all m m' ((word ∷ words) ∷ lines) have same (inr (inl part)) d =
    ap (λ (line : Text). left_after_all (left_after m.left line) lines) (sym (bare_joined word words))
    ∙ ap (λ (left : Option (List (Option Text))). left_after_all left lines) (part d)
    ∙ none_after lines
unmet_all m m' ((word ∷ words) ∷ lines) have same (inr (inr later)) d =
    ap (λ (line : Text). left_after_all (left_after m.left line) lines) (sym (bare_joined word words))
    ∙ unmet_all (with_met m (drop 2 (line_of 0 (word ∷ words)))) m' lines have same later d

-- ---- what was given

-- the first line, by whether it is that of the words
met_first : (b : Bool) (words : List Text) (text : Text) (lines : List (List Text)) (more rest : List (Option Text)) → is_line_of (joined words ++ 10 ∷ []) text ≡ b
    → left_after_all (if b then Some more else None) lines ≡ Some rest → (left_after_all (Some more) lines ≡ Some rest → more ≡ lines_of lines ++ rest)
    → Some text ∷ more ≡ lines_of (words ∷ lines) ++ rest
met_first false words text lines more rest is left later = absurd (none-some rest (sym (none_after lines) ∙ left))
met_first true words text lines more rest is left later =
    let parts = and_parts (bytes_eq (joined words) text) (10 == 10) (sym (last_same (joined words) text 10 10) ∙ is) in
    ap (λ (t : Text). Some t ∷ more) (sym ((bytes_eq-Decides (joined words) text).0 parts.0))
    ∙ ap (λ (ls : List (Option Text)). Some (joined words) ∷ ls) (later left)

-- lines that were taken are the first ones
pub met_are : (lines : List (List Text)) (given rest : List (Option Text)) → left_after_all (Some given) lines ≡ Some rest → given ≡ lines_of lines ++ rest
met_are [] given rest left = same_Some given rest left
met_are (words ∷ lines) [] rest left = absurd (none-some rest (sym (none_after lines) ∙ left))
met_are (words ∷ lines) (None ∷ more) rest left = absurd (none-some rest (sym (none_after lines) ∙ left))
met_are (words ∷ lines) (Some text ∷ more) rest left =
    met_first (is_line_of (joined words ++ 10 ∷ []) text) words text lines more rest refl left (met_are lines more rest)

-- and the first ones are taken
pub are_met : (lines : List (List Text)) (rest : List (Option Text)) → left_after_all (Some (lines_of lines ++ rest)) lines ≡ Some rest
are_met [] rest = refl
are_met (words ∷ lines) rest =
    let same : is_line_of (joined words ++ 10 ∷ []) (joined words) ≡ true = (bytes_eq-Decides (joined words ++ 10 ∷ []) (joined words ++ 10 ∷ [])).1 refl in
    ap (λ (b : Bool). left_after_all (if b then Some (lines_of lines ++ rest) else None) lines) same ∙ are_met lines rest

-- ---- what a taker reports at the end

pub record HasMet (m : Met) (lines : List (List Text)) (m' : Met) (result : Result (Unit {0}) SinkFault) : Type 0 where
  pub same : result ≡ Ok tt → m'.left ≡ left_after_all m.left lines
  pub differs : m'.stand ≡ Differs → left_after_all m.left lines ≡ None

put_met : (m m' : Met) (lines : List (List Text)) {f f' : ℕ} (result : Result (Unit {0}) SinkFault) → HasPut (bare with_met) (bare_part IsUnmet) 0 m lines m' f f' result → HaveWords lines → m.stand ≡ Same
    → HasMet m lines m' result
put_met m m' lines (Ok done) put have same =
    let is = put.ok ∙ met_all m lines have in
    record {
      same = λ e. ap (λ (x : Met). x.left) is;
      differs = λ d. differs_not (record m { left = left_after_all m.left lines }) m' same is d;
    }
put_met m m' lines (Err fault) put have same =
    record { same = λ e. absurd (let x : Err fault ≡ Ok tt = e in cc); differs = unmet_all m m' lines have same put.err }

-- by what it holds then
pub put_held : {m m' held : Met} {lines : List (List Text)} {f f' : ℕ} {result : Result (Unit {0}) SinkFault} → HasPut (bare with_met) (bare_part IsUnmet) 0 m lines m' f f' result → held ≡ m' → HaveWords lines
    → m.stand ≡ Same → HasMet m lines held result
put_held {m} {m'} {held} {lines} {f} {f'} {result} put is have same =
    subst (λ (x : Met). HasMet m lines x result) (sym is) (put_met m m' lines result put have same)

-- ---- whether all lines were met

module _ (claims : List (List Text)) (given mid : Option (List (Option Text))) (met : Result Bool LineFault) (is_all : Bool) (same : met ≡ Ok true → mid ≡ left_after_all given claims)
    (differs : met ≡ Ok false → left_after_all given claims ≡ None) (either : (met ≡ Ok true) ⊎ (met ≡ Ok false))
    (all : (rest : List (Option Text)) → mid ≡ Some rest → (is_all ≡ true) ↔ (met ≡ Ok true) × (rest ≡ [])) (lines : List (Option Text)) (known : given ≡ Some lines) where
  all_are : (rest : List (Option Text)) → mid ≡ Some rest → is_all ≡ true → lines ≡ lines_of claims
  all_are rest is done =
      let both = (all rest is).0 done in
      met_are claims lines rest (ap (λ o. left_after_all o claims) (sym known) ∙ sym (same both.0) ∙ is)
      ∙ ap (λ (t : List (Option Text)). lines_of claims ++ t) both.1
      ∙ append-nil (lines_of claims)

  are_left : lines ≡ lines_of claims → left_after_all given claims ≡ Some []
  are_left is =
      ap (λ o. left_after_all o claims) (known ∙ ap Some (is ∙ sym (append-nil (lines_of claims)))) ∙ are_met claims []

  are_all : (rest : List (Option Text)) → mid ≡ Some rest → (met ≡ Ok true) ⊎ (met ≡ Ok false) → lines ≡ lines_of claims → is_all ≡ true
  are_all rest is (inl done) lines_are = (all rest is).1 (done, same_Some rest [] (sym is ∙ same done ∙ are_left lines_are))
  are_all rest is (inr stops) lines_are = absurd (none-some [] (sym (differs stops) ∙ are_left lines_are))

  by_rest : (o : Option (List (Option Text))) (passed : List (Option Text)) → mid ≡ o → Some lines ≡ known_after passed o → (is_all ≡ true) ↔ (lines ≡ lines_of claims)
  by_rest None passed is left = absurd (none-some lines (sym left))
  by_rest (Some rest) passed is left = (all_are rest is, are_all rest is either)

  -- they were, if and only if the lines that were left are those
  pub met_iff : (passed : List (Option Text)) → given ≡ known_after passed mid → (is_all ≡ true) ↔ (lines ≡ lines_of claims)
  met_iff passed left = by_rest mid passed refl (sym known ∙ left)

-- the same of a result, for each S of which the lines are
pub met_if_ok : {S : Type 0} (claims : S → List (List Text)) (Of : S → Type 0) (given mid : Option (List (Option Text))) (met : Result Bool LineFault) (result : Result Bool LineFault)
    → (met ≡ Ok true → (s : S) → Of s → mid ≡ left_after_all given (claims s)) → (met ≡ Ok false → (s : S) → Of s → left_after_all given (claims s) ≡ None) → IfOk result (λ (all : Bool). (met ≡ Ok true) ⊎ (met ≡ Ok false))
    → IfOk result (λ (all : Bool). (rest : List (Option Text)) → mid ≡ Some rest → (all ≡ true) ↔ (met ≡ Ok true) × (rest ≡ [])) → (passed : List (Option Text)) → given ≡ known_after passed mid
    → IfOk result (λ (all : Bool). (s : S) (lines : List (Option Text)) → Of s → given ≡ Some lines → (all ≡ true) ↔ (lines ≡ lines_of (claims s)))
met_if_ok claims Of given mid met (Err fault) same differs either all passed left = tt
met_if_ok claims Of given mid met (Ok b) same differs either all passed left = λ s lines of known.
    met_iff (claims s) given mid met b (λ e. same e s of) (λ e. differs e s of) either all lines known passed left
