-- Fields that are added, some after others.
use Rattle.std.proofs.Common.{◌≡◌, Bool, true, false, ◌||◌, List, [], ◌∷◌, ◌++◌, flat_map, codes, Result, Ok, Err, IfOk, refl, ap, sym, ◌∙◌, append_assoc}
use Rattle.no_memory.specs.declared.NoMemory.{NoMemory}
use Rattle.text_model.specs.Words.{Text}
use Rattle.action_lines.specs.Adding.{Adds, are_some, continued}

flat_both : (f : Text → Text) (xs ys : List Text) → flat_map f (xs ++ ys) ≡ flat_map f xs ++ flat_map f ys
flat_both f [] ys = refl
flat_both f (x ∷ xs) ys = ap (λ (t : Text). f x ++ t) (flat_both f xs ys) ∙ sym (append_assoc (f x) (flat_map f xs) (flat_map f ys))

-- fields and then others are all of them
continued_both : (begun : Bool) (xs ys : List Text) → continued begun (xs ++ ys) ≡ continued begun xs ++ continued (begun || are_some xs) ys
continued_both true xs ys = flat_both (λ f. codes "," ++ f) xs ys
continued_both false [] ys = refl
continued_both false (x ∷ xs) ys =
    ap (λ (t : Text). x ++ t) (flat_both (λ f. codes "," ++ f) xs ys)
    ∙ sym (append_assoc x (flat_map (λ f. codes "," ++ f) xs) (flat_map (λ f. codes "," ++ f) ys))

some_both : (begun : Bool) (xs ys : List Text) → ((begun || are_some xs) || are_some ys) ≡ (begun || are_some (xs ++ ys))
some_both true xs ys = refl
some_both false [] ys = refl
some_both false (x ∷ xs) ys = refl

-- fields were added, and then others
pub then_adds : {old mid new : Text} {begun between now : Bool} {xs ys : List Text} → Adds old begun xs mid between → Adds mid between ys new now → Adds old begun (xs ++ ys) new now
then_adds {old} {mid} {new} {begun} {between} {now} {xs} {ys} first second = record {
  text =
      second.text
      ∙ ap (λ (t : Text). t ++ continued between ys) first.text
      ∙ append_assoc old (continued begun xs) (continued between ys)
      ∙ ap (λ (b : Bool). old ++ (continued begun xs ++ continued b ys)) first.begun_now
      ∙ ap (λ (t : Text). old ++ t) (sym (continued_both begun xs ys));
  begun_now = second.begun_now ∙ ap (λ (b : Bool). b || are_some ys) first.begun_now ∙ some_both begun xs ys;
}

-- the same where the last call may have failed
pub then_added : {old mid : Text} {begun between : Bool} {xs : List Text} (ys : List Text) (new : Text) (r : Result Bool NoMemory) → Adds old begun xs mid between
    → IfOk r (Adds mid between ys new) → IfOk r (Adds old begun (xs ++ ys) new)
then_added ys new (Ok now) first second = then_adds first second
then_added ys new (Err e) first second = tt
