-- The rules on assets: the first uneven one is refused, and nothing is where no asset is named.
use Rattle.std.proofs.Common.{◌≡◌, ℕ, ◌-◌, ◌^◌, false, ◌||◌, not, List, [], ◌∷◌, ◌++◌, Option, Some, None, is_some, map, min, option_map, refl, sym, ap, ◌∙◌, ◌+◌, ◌≤◌, suc, length, flat_map, sum_by, append-nil, arith}
use Rattle.std.specs.List.{list_any}
use Rattle.std.specs.Map.{keys_of}
use Rattle.std.specs.Prelude.{ℤ}
use Rattle.std.proofs.lemmas.Bool.{or_parts}
use Rattle.std.proofs.lemmas.List.Sums.{sum_by-cons}
use Rattle.asset_fronts.specs.Fronts.{AreSound, fronts, lowest_of}
use Rattle.asset_fronts.proofs.Balances.{names, names-append}
use Rattle.asset_fronts.proofs.Lowest.{lowest_first}
use Rattle.asset_fronts.proofs.Uneven.{uneven_by_fronts}
use Rattle.assets.specs.Balances.{balance_of, first_uneven, is_even}
use Rattle.assets.specs.Quantities.{all_burned, all_minted}
use Rattle.gov_ids.specs.declared.assets.AssetId.{AssetId}
use Rattle.gov_ids.specs.declared.OutRef.{OutRef}
use Rattle.gov_ids.specs.Orders.{asset_cmp}
use Rattle.gov_ids.specs.Same.{same_asset}
use Rattle.maps.proofs.Joined.{or_assoc}
use Rattle.maps.specs.Maps.{has_member}
use Rattle.maps.specs.Words.{is_empty, with_places}
use Rattle.tx_records.specs.Rules.{placed, rule_keeping_two}
use Rattle.tx_records.specs.declared.reply.Rule.{Rule}
use Rattle.tx_records.specs.declared.rules.TheConstants.{ASSET_NOT_BALANCED}
use Rattle.tx_records.specs.declared.tx.Tx.{Tx}
use Rattle.tx_records.specs.declared.tx.TxOutput.{TxOutput}
use Rattle.ledger_model.specs.Broken.{asset_check, asset_checks, assets_consumed, assets_produced}
use Rattle.ledger_model.specs.Checks.{Check, at_place, first_among, is_broken, rule_of}
use Rattle.ledger_model.specs.Ledger.{Ledger}
use Rattle.ledger_model.specs.UtxoRules.{assets_at, collateral_assets, is_collateral_uneven, returned_assets}
use Rattle.utxo_rules.specs.Plain.{names_assets}
use Rattle.utxo_rules.specs.Spent.{has_assets_at}
use Rattle.utxo_rules.proofs.Uneven.{all_empty, any_from, find-map}

-- an asset with both sums, at its place
abbrev pub Uneven : Type 0
Uneven = ℕ × (AssetId × (ℕ × ℕ))

-- the place and the sums alone
abbrev pub sums_of : Uneven → ℕ × ℕ × ℕ
sums_of p = (p.0, p.1.1.0, p.1.1.1)

-- the refusal of these
abbrev pub refusal : ℕ × ℕ × ℕ → Rule
refusal t = placed (min t.0 (2 ^ 32 - 1)) (rule_keeping_two ASSET_NOT_BALANCED t.1 t.2)

abbrev placed_check : Uneven → Check
placed_check p = at_place (min p.0 (2 ^ 32 - 1)) (asset_check p.1)

rule_by : (o : Option Uneven) → option_map rule_of (option_map placed_check o) ≡ option_map refusal (option_map sums_of o)
rule_by None = refl
rule_by (Some p) = refl

refused_first : (balance : List (AssetId × (ℕ × ℕ))) → first_among (map placed_check (with_places balance)) ≡ option_map refusal (option_map sums_of (first_uneven balance))
refused_first balance = ap (option_map rule_of) (find-map is_broken placed_check (with_places balance)) ∙ rule_by (first_uneven balance)

uneven_by : (o : Option Uneven) → is_some o ≡ is_some (option_map sums_of o)
uneven_by None = refl
uneven_by (Some p) = refl

module _ (l : Ledger) (tx : Tx) (balance : List (AssetId × (ℕ × ℕ))) (found : Option (ℕ × ℕ × ℕ)) (first : found ≡ option_map sums_of (first_uneven balance)) where
  -- the first uneven asset is what the rules on assets refuse
  pub first_refused : balance ≡ balance_of (assets_consumed l tx) (assets_produced tx) → first_among (asset_checks l tx) ≡ option_map refusal found
  first_refused is =
      ap (λ (b : List (AssetId × (ℕ × ℕ))). first_among (map placed_check (with_places b))) (sym is)
      ∙ refused_first balance
      ∙ ap (option_map refusal) (sym first)

  -- and the rule on the collateral asks whether there is one
  pub uneven_collateral : balance ≡ balance_of (collateral_assets l tx) (returned_assets tx) → is_some found ≡ is_collateral_uneven l tx
  uneven_collateral is =
      ap (λ (o : Option (ℕ × ℕ × ℕ)). is_some o) first
      ∙ sym (uneven_by (first_uneven balance))
      ∙ sym (any_from (λ (e : AssetId × (ℕ × ℕ)). not (is_even e)) 0 balance)
      ∙ ap (list_any (λ (e : AssetId × (ℕ × ℕ)). not (is_even e))) is

module _ (l : Ledger) (tx : Tx) where
  -- no asset is asked for where none is taken or given
  pub none_asked : (list_any (has_assets_at l) tx.inputs || names_assets tx) ≡ false → asset_checks l tx ≡ []
  none_asked none =
      let sides = or_parts (list_any (has_assets_at l) tx.inputs) (names_assets tx) none in
      let each = or_parts (not (is_empty tx.mint)) (list_any (λ (o : TxOutput). not (is_empty o.assets)) tx.outputs) sides.1 in
      let mint = nothing tx.mint each.0 in
      let taken = all_empty (assets_at l) tx.inputs sides.0 in
      let made = all_empty (λ (o : TxOutput). o.assets) tx.outputs each.1 in
      λ j. map placed_check (with_places (balance_of (taken j ++ all_minted (mint j)) (made j ++ all_burned (mint j))))
    where
      nothing : {A : Type 0} (xs : List A) → not (is_empty xs) ≡ false → xs ≡ []
      nothing [] e = refl
      nothing (x ∷ xs) e = cc

-- the place and the sums of the lowest asset, of which nothing is given
abbrev pub lone_sums : AssetId × ℕ → ℕ × ℕ × ℕ
lone_sums e = (0, e.1, 0)

lone_by : (o : Option (AssetId × ℕ)) → option_map lone_sums o ≡ option_map sums_of (option_map (λ (e : AssetId × ℕ). (0, (e.0, (e.1, 0)))) o)
lone_by None = refl
lone_by (Some e) = refl

lone_some : (o : Option (AssetId × ℕ)) → is_some o ≡ is_some (option_map lone_sums o)
lone_some None = refl
lone_some (Some e) = refl

-- the lowest asset of some outputs is the first that is not balanced where nothing is given
lone_first : (l : Ledger) (refs : List OutRef) → AreSound (assets_at l) refs
    → option_map lone_sums (lowest_of (fronts (assets_at l) 0 refs)) ≡ option_map sums_of (first_uneven (balance_of (flat_map (assets_at l) refs) []))
lone_first l refs s = lone_by (lowest_of (fronts (assets_at l) 0 refs)) ∙ ap (λ (o : Option Uneven). option_map sums_of o) (sym (lowest_first (assets_at l) refs s))

keys_burned : (mint : List (AssetId × ℤ)) → keys_of (all_burned mint) ≡ keys_of mint
keys_burned [] = refl
keys_burned (e ∷ mint) = ap (λ (ks : List AssetId). e.0 ∷ ks) (keys_burned mint)

length_keys : {X : Type 0} (es : List (AssetId × X)) → length (keys_of es) ≡ length es
length_keys [] = refl
length_keys (e ∷ es) = ap (λ n. suc n) (length_keys es)

length_both : {X : Type 0} (xs ys : List X) → length (xs ++ ys) ≡ length xs + length ys
length_both [] ys = omega arith
length_both (x ∷ xs) ys = omega (arith, length_both xs ys)

length_made : (outputs : List TxOutput) → length (flat_map (λ (o : TxOutput). o.assets) outputs) ≡ sum_by (λ (o : TxOutput). length o.assets) outputs
length_made [] = refl
length_made (o ∷ outputs) = omega (arith, length_both o.assets (flat_map (λ (o : TxOutput). o.assets) outputs), length_made outputs, sum_by-cons (λ (o : TxOutput). length o.assets) o outputs)

member_both : (xs ys : List AssetId) (q : AssetId) → has_member asset_cmp (xs ++ ys) q ≡ (has_member asset_cmp xs q || has_member asset_cmp ys q)
member_both [] ys q = refl
member_both (x ∷ xs) ys q = ap (λ b. same_asset q x || b) (member_both xs ys q) ∙ or_assoc (same_asset q x) (has_member asset_cmp xs q) (has_member asset_cmp ys q)

module _ (l : Ledger) (tx : Tx) where
  -- the lowest asset of the inputs is the first that is not balanced where none is named
  pub unnamed_first : names_assets tx ≡ false → AreSound (assets_at l) tx.inputs
      → option_map lone_sums (lowest_of (fronts (assets_at l) 0 tx.inputs)) ≡ option_map sums_of (first_uneven (balance_of (assets_consumed l tx) (assets_produced tx)))
  unnamed_first none s =
      let each = or_parts (not (is_empty tx.mint)) (list_any (λ (o : TxOutput). not (is_empty o.assets)) tx.outputs) none in
      let mint = nothing tx.mint each.0 in
      let made = all_empty (λ (o : TxOutput). o.assets) tx.outputs each.1 in
      lone_first l tx.inputs s
      ∙ ap (λ (taken : List (AssetId × ℕ)). option_map sums_of (first_uneven (balance_of taken []))) (sym (append-nil (flat_map (assets_at l) tx.inputs)))
      ∙ sym (λ j. option_map sums_of (first_uneven (balance_of (flat_map (assets_at l) tx.inputs ++ all_minted (mint j)) (made j ++ all_burned (mint j)))))
    where
      nothing : {A : Type 0} (xs : List A) → not (is_empty xs) ≡ false → xs ≡ []
      nothing [] e = refl
      nothing (x ∷ xs) e = cc

  -- the fronts of the inputs, as long as what is named, tell the first one
  pub named_first : (n : ℕ) → n ≡ length tx.mint + sum_by (λ (o : TxOutput). length o.assets) tx.outputs → AreSound (assets_at l) tx.inputs
      → first_uneven (balance_of (fronts (assets_at l) n tx.inputs ++ all_minted tx.mint) (assets_produced tx)) ≡ first_uneven (balance_of (assets_consumed l tx) (assets_produced tx))
  named_first n is s =
      let made : List (AssetId × ℕ) = flat_map (λ (o : TxOutput). o.assets) tx.outputs in
      let ns : List AssetId = keys_of made ++ keys_of tx.mint in
      let few : length ns ≤ n = omega (arith, is, length_both (keys_of made) (keys_of tx.mint), length_keys made, length_keys tx.mint, length_made tx.outputs) in
      uneven_by_fronts (assets_at l) n ns few (all_minted tx.mint) (assets_produced tx)
      (λ q h. names-append made (all_burned tx.mint) q ∙ ap (λ (ks : List AssetId). names made q || has_member asset_cmp ks q) (keys_burned tx.mint) ∙ sym (member_both (keys_of made) (keys_of tx.mint) q) ∙ h) tx.inputs s

  -- and so those of the collateral, beside its return
  pub returned_first : (n : ℕ) → n ≡ length (returned_assets tx) → AreSound (assets_at l) tx.collateral
      → first_uneven (balance_of (fronts (assets_at l) n tx.collateral) (returned_assets tx)) ≡ first_uneven (balance_of (collateral_assets l tx) (returned_assets tx))
  returned_first n is s =
      let few : length (keys_of (returned_assets tx)) ≤ n = omega (arith, is, length_keys (returned_assets tx)) in
      ap (λ (taken : List (AssetId × ℕ)). first_uneven (balance_of taken (returned_assets tx))) (sym (append-nil (fronts (assets_at l) n tx.collateral)))
      ∙ uneven_by_fronts (assets_at l) n (keys_of (returned_assets tx)) few [] (returned_assets tx) (λ q h. h) tx.collateral s
      ∙ ap (λ (taken : List (AssetId × ℕ)). first_uneven (balance_of taken (returned_assets tx))) (append-nil (flat_map (assets_at l) tx.collateral))

  -- nothing comes back: the collateral is uneven where it has an asset
  pub unreturned : returned_assets tx ≡ [] → AreSound (assets_at l) tx.collateral → is_some (lowest_of (fronts (assets_at l) 0 tx.collateral)) ≡ is_collateral_uneven l tx
  unreturned none s =
      lone_some (lowest_of (fronts (assets_at l) 0 tx.collateral))
      ∙ uneven_collateral l tx (balance_of (collateral_assets l tx) []) (option_map lone_sums (lowest_of (fronts (assets_at l) 0 tx.collateral))) (lone_first l tx.collateral s)
      (ap (λ (given : List (AssetId × ℕ)). balance_of (collateral_assets l tx) given) (sym none))
