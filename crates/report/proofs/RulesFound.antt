-- A rule's text, found in the table.
use Rattle.std.proofs.Common.{◌≡◌, ℕ, ◌==◌, Bool, true, false, List, [], ◌∷◌, Option, Some, None, find, map, option_map, cond, refl, ap, ◌∙◌, Bor}
use Rattle.text_model.specs.of_tx_records.RuleTexts as texts
use Rattle.report.specs.declared.rule_texts.RuleText.{RuleText}
use Rattle.report.specs.RuleNames.{text_seen}

-- the text of the first, or of what is found after it
seen_first : (b : Bool) (t : RuleText) (r : Option RuleText) → option_map text_seen (cond b (Some t) r) ≡ cond b (Some (text_seen t)) (option_map text_seen r)
seen_first true t r = refl
seen_first false t r = refl

-- what is found in the table is what is found among the texts
seen_in : (n : ℕ) (ts : List RuleText) → option_map text_seen (find (λ t. t.number == n) ts) ≡ find (λ t. t.number == n) (map text_seen ts)
seen_in n [] = refl
seen_in n (t ∷ ts) =
    seen_first (t.number == n) t (find (λ (u : RuleText). u.number == n) ts)
    ∙ ap (λ (r : Option texts.RuleText). cond (t.number == n) (Some (text_seen t)) r) (seen_in n ts)

-- what a reference to a text is seen as
seen_there : (r : Option (Bor RuleText)) → option_map (λ t. text_seen t.now) r ≡ option_map text_seen (option_map (λ t. t.now) r)
seen_there None = refl
seen_there (Some t) = refl

-- the text that was found
pub found_is : (n : ℕ) (ts : List RuleText) (r : Option (Bor RuleText)) → option_map (λ t. t.now) r ≡ find (λ t. t.number == n) ts → option_map (λ t. text_seen t.now) r ≡ find (λ t. t.number == n) (map text_seen ts)
found_is n ts r found = seen_there r ∙ ap (λ (o : Option RuleText). option_map text_seen o) found ∙ seen_in n ts
