-- The output that a row shows.
use Rattle.std.proofs.Common.{◌≡◌, ℕ, ◌&&◌, Bool, true, false, List, [], ◌∷◌, Option, Some, None, option_map, refl, ap, sym, ◌∙◌, subst}
use Rattle.std.specs.List.{list_all}
use Rattle.std.specs.Map.{keys_of}
use Rattle.std.proofs.lemmas.Bool.{and_parts, false≢true}
use Rattle.std.proofs.lemmas.Option.{none-some, same_Some}
use Rattle.gov_ids.specs.declared.Address.{Address}
use Rattle.gov_ids.specs.declared.assets.AssetId.{AssetId}
use Rattle.gov_ids.specs.declared.OutRef.{OutRef}
use Rattle.gov_ids.specs.Orders.{asset_cmp}
use Rattle.gov_ids.proofs.Totals.{asset_total}
use Rattle.maps.proofs.Copied.{copied_is}
use Rattle.maps.specs.Maps.{with_values}
use Rattle.assets.specs.Quantities.{is_held}
use Rattle.book_records.specs.declared.Output.{Output}
use Rattle.resume_checks.proofs.Ordered.{set_from_rising}
use Rattle.text_forms.specs.Ids.{is_map}
use Rattle.book_rows.specs.Assets.{are_assets}
use Rattle.shown_lists.specs.Only.{IsOnly}
use Rattle.checkpoint_lists.specs.Shown.{output_row}

-- assets with their quantities
abbrev Held : Type 0
Held = List (AssetId × ℕ)

abbrev pub TheAssets : Held → Option Held → Type 0
TheAssets es r = IsOnly (λ (held : Held). are_assets held ≡ true) (λ held. held) es r

pub quantities_of : (es : Held) → are_assets es ≡ true → list_all (λ (e : AssetId × ℕ). is_held e.1) es ≡ true
quantities_of es h = (and_parts (is_map asset_cmp es) (list_all (λ (e : AssetId × ℕ). is_held e.1) es) h).1

pub no_assets : (es : Held) → are_assets es ≡ false → TheAssets es None
no_assets es none = record {
  kind = λ x e. absurd (none-some x e);
  some = λ x e. absurd (none-some x e);
  all = λ x k e. absurd (false≢true (sym none ∙ ap are_assets (sym e) ∙ k));
}

pub assets_only : (es held : Held) → are_assets es ≡ true → held ≡ with_values asset_cmp es [] → TheAssets es (Some held)
assets_only es held h made =
    let order = (and_parts (is_map asset_cmp es) (list_all (λ (e : AssetId × ℕ). is_held e.1) es) h).0 in
    let same : held ≡ es = made ∙ copied_is asset_total es (set_from_rising asset_cmp (keys_of es) order) in
    record {
      kind = λ x e. ap are_assets (sym (same_Some held x e) ∙ same) ∙ h;
      some = λ x e. sym (same_Some held x e) ∙ same;
      all = λ x k e. ap Some (same ∙ sym e);
    }

-- ---- the output of a row

abbrev pub Row : Type 0
Row = (OutRef × (Address × ℕ)) × Held

abbrev pub TheOutput : Row → Option (OutRef × Output) → Type 0
TheOutput r o = IsOnly (λ (x : OutRef × Output). are_assets x.1.assets ≡ true) output_row r o

pub no_output : (r : Row) → TheAssets r.1 None → TheOutput r None
no_output r none = record {
  kind = λ x e. absurd (none-some x e);
  some = λ x e. absurd (none-some x e);
  all = λ x k e. absurd (none-some x.1.assets (none.all x.1.assets k (ap (λ (t : Row). t.1) e)));
}

pub output_only : (r : Row) (held : Held) → TheAssets r.1 (Some held) → TheOutput r (Some (r.0.0, record { address = r.0.1.0; lovelace = r.0.1.1; assets = held }))
output_only r held only =
    let made : OutRef × Output = (r.0.0, record { address = r.0.1.0; lovelace = r.0.1.1; assets = held }) in
    record {
      kind = λ x e. subst (λ (o : OutRef × Output). are_assets o.1.assets ≡ true) (same_Some made x e) (only.kind held refl);
      some = λ x e. subst (λ (o : OutRef × Output). output_row o ≡ r) (same_Some made x e) (λ i. (r.0, only.some held refl i));
      all = λ x k e.
          let assets : held ≡ x.1.assets = same_Some held x.1.assets (only.all x.1.assets k (ap (λ (t : Row). t.1) e)) in
          let back : r ≡ output_row x = sym e in
          λ i. Some ((back i).0.0, record { address = (back i).0.1.0; lovelace = (back i).0.1.1; assets = assets i });
    }
