-- The names of parameters, as the code looks for them.
use Rattle.std.proofs.Common.{◌≡◌, ℕ, ◌&&◌, Bool, true, false, List, [], ◌∷◌, map, Bor, Ordering, Less, Equal, Greater, nat_cmp, is_eq, refl, sym, ap, ◌∙◌}
use Rattle.std.specs.Cmp.{nat_eq_equiv, partial_equiv_from_equiv}
use Rattle.std.specs.Cmp.Lexicographic.{lists_per, slice_cmp}
use Rattle.std.specs.List.{list_all, list_any}
use Rattle.std.specs.Ordering.{match_ordering}
use Rattle.std.specs.Str.{bytes_eq}
use Rattle.std.proofs.lemmas.Map.Text.{is_eq-slice_cmp}
use Rattle.std.proofs.lemmas.Slice.Eq.{bytes_eq-Decides}
use Rattle.serde_json.specs.Data.{Data, Members, no_members, member, put}
use Rattle.json_tree.specs.View.{view, members_view, members_after}
use Rattle.json_tree.specs.declared.value.Value.{Value}
use Rattle.action_read.specs.Params.{is_param_name, names_only_params}

-- a text is looked for from either side
pub any_text-flip : (name : List ℕ) (names : List (List ℕ)) → list_any (λ text. bytes_eq text name) names ≡ list_any (bytes_eq name) names
any_text-flip name names = λ i. list_any (λ text. (lists_per (partial_equiv_from_equiv nat_eq_equiv)).symm text name i) names

swap : (a b c : Bool) → (a && (b && c)) ≡ (b && (a && c))
swap true b c = refl
swap false true c = refl
swap false false c = refl

again : (a b : Bool) → (a && b) ≡ (a && (a && b))
again true b = refl
again false b = refl

group : (a b c : Bool) → (a && (b && c)) ≡ ((b && a) && c)
group true true c = refl
group true false c = refl
group false true c = refl
group false false c = refl

-- each name passes
abbrev only : (List ℕ → Bool) → Members → Bool
only p no_members = true
only p (member k d ms) = p k && only p ms

module _ (p : List ℕ → Bool) where
  put_at : (o : Ordering) (k l : List ℕ) (d e : Data) (ms : Members) → slice_cmp nat_cmp k l ≡ o → only p (put k d ms) ≡ (p k && only p ms)
      → only p (match_ordering o (member k d (member l e ms)) (member l d ms) (member l e (put k d ms))) ≡ (p k && (p l && only p ms))
  put_at Less k l d e ms is h = refl
  put_at Equal k l d e ms is h =
      let same : k ≡ l = (bytes_eq-Decides k l).0 (sym (is_eq-slice_cmp k l) ∙ ap is_eq is) in
      again (p l) (only p ms) ∙ ap (λ (n : List ℕ). p n && (p l && only p ms)) (sym same)
  put_at Greater k l d e ms is h = ap (λ (b : Bool). p l && b) h ∙ swap (p l) (p k) (only p ms)

  only-put : (k : List ℕ) (d : Data) (ms : Members) → only p (put k d ms) ≡ (p k && only p ms)
  only-put k d no_members = refl
  only-put k d (member l e ms) = put_at _ k l d e ms refl (only-put k d ms)

  only-after : (found : Members) (es : List (Bor (List ℕ) × Value)) → only p (members_after found (map (λ m. (m.0, view m.1)) es)) ≡ (list_all (λ e. p e.0.now) es && only p found)
  only-after found [] = refl
  only-after found (e ∷ es) =
      only-after (put e.0.now (view e.1) found) es
      ∙ ap (λ (b : Bool). list_all (λ (m : Bor (List ℕ) × Value). p m.0.now) es && b) (only-put e.0.now (view e.1) found)
      ∙ group (list_all (λ (m : Bor (List ℕ) × Value). p m.0.now) es) (p e.0.now) (only p found)

  with_none : (b : Bool) → (b && only p no_members) ≡ b
  with_none true = refl
  with_none false = refl

  only-members : (es : List (Bor (List ℕ) × Value)) → only p (members_view es) ≡ list_all (λ e. p e.0.now) es
  only-members es = only-after no_members es ∙ with_none (list_all (λ (m : Bor (List ℕ) × Value). p m.0.now) es)

is_only : (ms : Members) → names_only_params ms ≡ only is_param_name ms
is_only no_members = refl
is_only (member k d ms) = ap (λ (b : Bool). is_param_name k && b) (is_only ms)

-- an object names only parameters where each of its members has the name of one
pub only_params_by_members : (es : List (Bor (List ℕ) × Value)) → names_only_params (members_view es) ≡ list_all (λ e. is_param_name e.0.now) es
only_params_by_members es = is_only (members_view es) ∙ only-members is_param_name es
