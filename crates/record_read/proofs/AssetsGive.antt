-- What the assets of an output and of a transaction give is within its limits.
use Rattle.std.proofs.Common.{◌≡◌, ℕ, Bool, true, List, Option, Some, None, Result, Ok, refl}
use Rattle.std.specs.Prelude.{ℤ}
use Rattle.std.specs.List.{list_all}
use Rattle.std.proofs.lemmas.Result.{IfOk-at_ok}
use Rattle.serde_json.specs.Data.{Data}
use Rattle.serde_json.specs.Find.{as_i64, as_number}
use Rattle.assets.specs.Quantities.{is_held, is_moved}
use Rattle.gov_ids.specs.declared.assets.AssetId.{AssetId}
use Rattle.gov_ids.specs.Orders.{asset_cmp}
use Rattle.gov_ids.proofs.Totals.{asset_total}
use Rattle.tx_records.specs.declared.field.FieldName.TheVariants as fields
use Rattle.tx_records.specs.declared.limits.TheConstants.{LIST_LIMIT}
use Rattle.tx_records.specs.Limits.{are_assets, is_mint}
use Rattle.json_fields.specs.declared.fault.FieldFault.{FieldFault}
use Rattle.json_fields.specs.declared.fault.FieldFault.TheVariants.{OutOfRange, WrongKind}
use Rattle.json_fields.specs.Kinds.{asset_name_in, hash28_in, three_in, u64_in}
use Rattle.json_fields.specs.Lists.{distinct_list_in}
use Rattle.json_fields.specs.Steps.{or_fault}
use Rattle.record_read.specs.Entries.{asset_in, assets_by, assets_in, held_in, moved_in}
use Rattle.record_read.specs.Fields.{optional_distinct_list}
use Rattle.record_read.specs.Records.{mint_in}
use Rattle.record_read.proofs.Gives.{Gives, Within, IsDistinctListOf, given, next, skip, if_test, distinct_list_in-within, none_twice, optional_list-within, without_place-within}
use Rattle.record_read.proofs.InOrder.{in_order-within}

held_in-within : Within (λ n. is_held n ≡ true) held_in
held_in-within d = skip (u64_in d) (λ n. if_test (is_held n) n OutOfRange (λ e. e))

moved_in-within : Within (λ z. is_moved z ≡ true) moved_in
moved_in-within d = skip (or_fault WrongKind (as_number d)) (λ n. skip (or_fault OutOfRange (as_i64 n)) (λ z. if_test (is_moved z) z OutOfRange (λ e. e)))

asset_in-within : {Q : Type 0} {p : Q → Bool} {quantity : Data → Result Q FieldFault} → Within (λ q. p q ≡ true) quantity → Within (λ (e : AssetId × Q). p e.1 ≡ true) (asset_in quantity)
unfolding asset_in
asset_in-within h d =
    skip (three_in d) (λ parts. skip (hash28_in parts.0) (λ policy. skip (asset_name_in parts.1) (λ name. next (h parts.2) (λ held e. given e))))

abbrev AreHeld : List (AssetId × ℕ) → Type 0
AreHeld es = IsDistinctListOf asset_cmp (λ (e : AssetId × ℕ). e.0) LIST_LIMIT (λ (e : AssetId × ℕ). is_held e.1) es

abbrev AreMoved : List (AssetId × ℤ) → Type 0
AreMoved es = IsDistinctListOf asset_cmp (λ (e : AssetId × ℤ). e.0) LIST_LIMIT (λ (e : AssetId × ℤ). is_moved e.1) es

held_list-within : Within AreHeld (distinct_list_in asset_cmp (λ (e : AssetId × ℕ). e.0) LIST_LIMIT (asset_in held_in))
held_list-within = distinct_list_in-within (asset_in-within held_in-within) asset_total (λ (e : AssetId × ℕ). e.0) LIST_LIMIT

moved_list-within : Within AreMoved (optional_distinct_list fields.Mint asset_cmp (λ (e : AssetId × ℤ). e.0) LIST_LIMIT (asset_in moved_in))
moved_list-within = optional_list-within (distinct_list_in-within (asset_in-within moved_in-within) asset_total (λ (e : AssetId × ℤ). e.0) LIST_LIMIT) (none_twice LIST_LIMIT) fields.Mint

-- the quantities of an output's assets are in their range
pub held_by : (d : Data) (es : List (AssetId × ℕ)) → distinct_list_in asset_cmp (λ (e : AssetId × ℕ). e.0) LIST_LIMIT (asset_in held_in) d ≡ Ok es → list_all (λ (e : AssetId × ℕ). is_held e.1) es ≡ true
held_by d es is = (IfOk-at_ok AreHeld is (held_list-within d).holds).each

-- so are those of what is minted
pub moved_by : (d : Data) (es : List (AssetId × ℤ)) → optional_distinct_list fields.Mint asset_cmp (λ (e : AssetId × ℤ). e.0) LIST_LIMIT (asset_in moved_in) d ≡ Ok es → list_all (λ (e : AssetId × ℤ). is_moved e.1) es ≡ true
moved_by d es is = (IfOk-at_ok AreMoved is (moved_list-within d).holds).each

assets_in-within : Within (λ held. are_assets held ≡ true) assets_in
assets_in-within d = next (without_place-within held_list-within d) (λ es h. given (in_order-within asset_total LIST_LIMIT is_held es h))

-- the assets of an output are within their limits
pub assets_by-within : (o : Option Data) → Gives (λ held. are_assets held ≡ true) (assets_by o)
assets_by-within None = given refl
assets_by-within (Some d) = assets_in-within d

-- so is what is minted
pub mint_in-within : Within (λ mint. is_mint mint ≡ true) mint_in
mint_in-within d = next (moved_list-within d) (λ es h. given (in_order-within asset_total LIST_LIMIT is_moved es h))
