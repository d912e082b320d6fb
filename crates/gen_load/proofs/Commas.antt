-- Items with commas between them.
use Rattle.std.proofs.Common.{◌≡◌, ℕ, ◌+◌, ◌-◌, ◌<◌, List, [], ◌∷◌, ◌++◌, flat_map, map, ap, append_assoc, sym, ◌∙◌}
use Rattle.std.specs.List.{range_with_len}
use Rattle.std.proofs.lemmas.List.{append-nil}
use Rattle.std.proofs.lemmas.List.Folds.{flat_map-map}
use Rattle.load_model.specs.Json.{with_commas}
use Rattle.gen_load.proofs.Ranges.{range_first}

-- a comma, items each with a comma after it, and a last one
commas_after : (items : List (List ℕ)) (last : List ℕ)
    → flat_map (λ t. 44 ∷ t) (items ++ last ∷ []) ≡ 44 ∷ (flat_map (λ t. t ++ 44 ∷ []) items ++ last)
commas_after [] last = ap (λ (l : List ℕ). 44 ∷ l) (append-nil last)
commas_after (t ∷ ts) last =
    let rest : List ℕ = flat_map (λ t. t ++ 44 ∷ []) ts in
    ap (λ (l : List ℕ). 44 ∷ (t ++ l)) (commas_after ts last)
    ∙ ap (λ (l : List ℕ). 44 ∷ l) (sym (append_assoc t (44 ∷ []) (rest ++ last)) ∙ sym (append_assoc (t ++ 44 ∷ []) rest last))

-- items each with a comma after it, and a last one
pub commas_last : (items : List (List ℕ)) (last : List ℕ) → with_commas (items ++ last ∷ []) ≡ flat_map (λ t. t ++ 44 ∷ []) items ++ last
commas_last [] last = append-nil last
commas_last (t ∷ ts) last =
    let rest : List ℕ = flat_map (λ t. t ++ 44 ∷ []) ts in
    ap (λ (l : List ℕ). t ++ l) (commas_after ts last)
    ∙ sym (append_assoc t (44 ∷ []) (rest ++ last)) ∙ sym (append_assoc (t ++ 44 ∷ []) rest last)

-- the first of some items was added
pub certs_first : (f : ℕ → List ℕ) (a b : ℕ) (old new : List ℕ) → a < b → new ≡ old ++ f a
    → new ++ flat_map (λ i. 44 ∷ f i) (range_with_len (a + 1) (b - (a + 1))) ≡ old ++ with_commas (map f (range_with_len a (b - a)))
certs_first f a b old new below is =
    let others : List ℕ = range_with_len (a + 1) (b - (a + 1)) in
    let rest : List ℕ = flat_map (λ i. 44 ∷ f i) others in
    ap (λ (l : List ℕ). l ++ rest) is
    ∙ append_assoc old (f a) rest
    ∙ ap (λ (l : List ℕ). old ++ (f a ++ l)) (sym (flat_map-map (λ (t : List ℕ). 44 ∷ t) f others))
    ∙ ap (λ (l : List ℕ). old ++ with_commas (map f l)) (sym (range_first a b below))
