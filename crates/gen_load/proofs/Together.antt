-- A line put together from what was added to it.
use Rattle.std.proofs.Common.{◌≡◌, ℕ, ◌+◌, ◌-◌, List, [], ◌∷◌, ◌++◌, flat_map, map, ap, append_assoc, arith, ◌∙◌}
use Rattle.std.specs.List.{range_with_len}
use Rattle.std.proofs.lemmas.List.Folds.{flat_map-map}
use Rattle.load_model.specs.Json.{with_commas}
use Rattle.gen_load.proofs.Commas.{commas_last}

-- three parts, one added after another
pub three_parts : (l0 l1 l2 l3 a b c : List ℕ) → l1 ≡ l0 ++ a → l2 ≡ l1 ++ b → l3 ≡ l2 ++ c → l3 ≡ l0 ++ (a ++ (b ++ c))
three_parts l0 l1 l2 l3 a b c p1 p2 p3 =
    p3
    ∙ ap (λ (l : List ℕ). l ++ c) (p2 ∙ ap (λ (l : List ℕ). l ++ b) p1)
    ∙ append_assoc (l0 ++ a) b c
    ∙ append_assoc l0 a (b ++ c)

-- the six parts of a registration
pub six_parts : (l1 l2 l3 l4 l5 l6 a b c d e f : List ℕ) → l1 ≡ a → l2 ≡ l1 ++ b → l3 ≡ l2 ++ c → l4 ≡ l3 ++ d → l5 ≡ l4 ++ e → l6 ≡ l5 ++ f
    → l6 ≡ a ++ ((b ++ c) ++ (d ++ (e ++ f)))
six_parts l1 l2 l3 l4 l5 l6 a b c d e f p1 p2 p3 p4 p5 p6 =
    three_parts l3 l4 l5 l6 d e f p4 p5 p6
    ∙ ap (λ (l : List ℕ). l ++ (d ++ (e ++ f))) (p3 ∙ ap (λ (l : List ℕ). l ++ c) (p2 ∙ ap (λ (l : List ℕ). l ++ b) p1) ∙ append_assoc a b c)
    ∙ append_assoc a (b ++ c) (d ++ (e ++ f))

-- the outputs of accounts, each with a comma after it, and what is left
pub outputs_are : (f : ℕ → List ℕ) (numbers : List ℕ) (last : List ℕ)
    → with_commas (map f numbers ++ last ∷ []) ≡ flat_map (λ i. f i ++ 44 ∷ []) numbers ++ last
outputs_are f numbers last =
    commas_last (map f numbers) last ∙ ap (λ (l : List ℕ). l ++ last) (flat_map-map (λ (t : List ℕ). t ++ 44 ∷ []) f numbers)

-- numbers from a up to b
pub numbers_are : (a b f n : ℕ) → a ≡ f → b ≡ f + n → range_with_len a (b - a) ≡ range_with_len f n
numbers_are a b f n from to =
    let count : b - a ≡ n = omega arith in
    ap (range_with_len a) count ∙ ap (λ (m : ℕ). range_with_len m n) from
