-- The lines of parameters are those of no others.
use Rattle.std.proofs.Common.{◌≡◌, ℕ, ◌^◌, ◌<◌, ◌≤◌, ◌++◌, ◌==◌, Bool, true, false, ◌&&◌, nat_lt, List, [], ◌∷◌, Option, Some, None, codes, decimal, flat_map, get_or, length, refl, ap, sym, ◌∙◌, true≢false, append-nil, append_assoc, arith, lit<, eqb-true}
use Rattle.std.proofs.lemmas.Bool.{and_parts, lt-ltb, ltb-true}
use Rattle.std.proofs.lemmas.Fmt.{digits_decimal}
use Rattle.std.proofs.lemmas.List.{append_cancel_left}
use Rattle.std.proofs.lemmas.Option.{same_Some}
use Rattle.std.specs.List.{list_all}
use Rattle.coin_frac.specs.Fraction.{Fraction}
use Rattle.pparams.specs.declared.Params.{Params}
use Rattle.text_forms.specs.Actions.{are_prices}
use Rattle.text_forms.specs.Ids.{are_u64, are_units, is_hash, is_ratio, is_u16, is_unit}
use Rattle.text_forms.specs.Lines.{joined}
use Rattle.text_forms.specs.States.{are_economic_params, are_governance_params, are_network_params, are_params, are_technical_params}
use Rattle.text_model.specs.ParamLines.{hash, number, param_lines, share, shares, two_numbers, two_shares}
use Rattle.text_model.specs.Words.{Text, share_text}
use Rattle.tx_records.specs.Limits.{is_u32, is_u64}
use Rattle.line_kinds.specs.Cuts.{is_plain, is_plain_byte}
use Rattle.book_kinds.specs.Pools.{halves}
use Rattle.book_kinds.proofs.Fields.{IsField, hash_field, number_field, number_small, own, plain_both}
use Rattle.book_kinds.proofs.Shares.{digits_free, halves_cut, unit_field}
use Rattle.line_parts.specs.Parts.{lines_of}

-- ---- words

-- a space is no plain byte
no_space : (b : ℕ) → is_plain_byte b ≡ true → 32 ≡ b → ⊥
no_space b p e = (let low : 32 < b = ltb-true 32 b (and_parts (nat_lt 32 b) (nat_lt b 127) p).0 in omega (arith, low, e))

-- the head of a text
heads : (b c : ℕ) (bs cs : Text) → b ∷ bs ≡ c ∷ cs → b ≡ c
heads b c bs cs e = ap (λ (t : Text). get_or t 0 b) e

tails : (b c : ℕ) (bs cs : Text) → b ∷ bs ≡ c ∷ cs → bs ≡ cs
tails b c bs cs e = append_cancel_left (b ∷ []) bs cs (e ∙ ap (λ (x : ℕ). x ∷ cs) (sym (heads b c bs cs e)))

-- texts that begin with plain words before spaces
split : (w v r s : Text) → is_plain w ≡ true → is_plain v ≡ true → w ++ 32 ∷ r ≡ v ++ 32 ∷ s → (w ≡ v) × (r ≡ s)
split [] [] r s p q e = (refl, tails 32 32 r s e)
split [] (c ∷ cs) r s p q e = absurd (no_space c (and_parts (is_plain_byte c) (is_plain cs) q).0 (heads 32 c r (cs ++ 32 ∷ s) e))
split (b ∷ bs) [] r s p q e = absurd (no_space b (and_parts (is_plain_byte b) (is_plain bs) p).0 (sym (heads b 32 (bs ++ 32 ∷ r) s e)))
split (b ∷ bs) (c ∷ cs) r s p q e =
    let rest = split bs cs r s (and_parts (is_plain_byte b) (is_plain bs) p).1 (and_parts (is_plain_byte c) (is_plain cs) q).1 (tails b c (bs ++ 32 ∷ r) (cs ++ 32 ∷ s) e) in
    (ap (λ (x : ℕ). x ∷ bs) (heads b c (bs ++ 32 ∷ r) (cs ++ 32 ∷ s) e) ∙ ap (λ (t : Text). c ∷ t) rest.0, rest.1)

-- one word behind a front
word_same : (front : Text) (w v : Text) → Some (front ++ (w ++ [])) ≡ Some (front ++ (v ++ [])) → w ≡ v
word_same front w v e = sym (append-nil w) ∙ append_cancel_left front (w ++ []) (v ++ []) (same_Some (front ++ (w ++ [])) (front ++ (v ++ [])) e) ∙ append-nil v

-- a word says one thing
field_same : {A : Type 0} {form : A → Bool} {text : A → Text} {reading : Text → Option A} → IsField form text reading → (a b : A) → form a ≡ true → form b ≡ true → text a ≡ text b → a ≡ b
field_same {reading = reading} field a b p q e = same_Some a b (sym (field.back a p) ∙ ap reading e ∙ field.back b q)

-- ---- fractions

ratio_parts : (a : Fraction) → is_ratio a ≡ true → (is_u64 a.num ≡ true) × (is_u64 a.den ≡ true)
ratio_parts a p =
    let all = and_parts (nat_lt 0 a.den && is_u64 a.num) (is_u64 a.den) p in
    ((and_parts (nat_lt 0 a.den) (is_u64 a.num) all.0).1, all.1)

ratio_halves : (a : Fraction) → is_ratio a ≡ true → halves 47 (share_text a) ≡ Some (decimal a.num, decimal a.den)
ratio_halves a p =
    let is = ratio_parts a p in
    ap (halves 47) (append_assoc (decimal a.num) (codes "/") (decimal a.den))
    ∙ halves_cut 47 (decimal a.num) (decimal a.den) (digits_free 47 (decimal a.num) (lit< tt) (digits_decimal own a.num (number_small a.num is.0)))

ratio_text_same : (a b : Fraction) → is_ratio a ≡ true → is_ratio b ≡ true → share_text a ≡ share_text b → a ≡ b
ratio_text_same a b p q e =
    let is = ratio_parts a p in
    let is' = ratio_parts b q in
    let both = same_Some (decimal a.num, decimal a.den) (decimal b.num, decimal b.den) (sym (ratio_halves a p) ∙ ap (halves 47) e ∙ ratio_halves b q) in
    let num : a.num ≡ b.num = field_same number_field a.num b.num is.0 is'.0 (ap (λ (t : Text × Text). t.0) both) in
    let den : a.den ≡ b.den = field_same number_field a.den b.den is.1 is'.1 (ap (λ (t : Text × Text). t.1) both) in
    λ i. record { num = num i; den = den i }

ratio_plain : (a : Fraction) → is_ratio a ≡ true → is_plain (share_text a) ≡ true
ratio_plain a p =
    let is = ratio_parts a p in
    plain_both (decimal a.num ++ codes "/") (decimal a.den) (plain_both (decimal a.num) (codes "/") (number_field.plain a.num is.0) refl) (number_field.plain a.den is.1)

-- each parameter has its form
record EachHasForm (p : Params) : Type 0 where
  pub max_block_body_size : is_u32 p.max_block_body_size ≡ true
  pub max_tx_size : is_u32 p.max_tx_size ≡ true
  pub max_block_header_size : is_u32 p.max_block_header_size ≡ true
  pub max_value_size : is_u32 p.max_value_size ≡ true
  pub max_tx_ex_units : are_u64 p.max_tx_ex_units ≡ true
  pub max_block_ex_units : are_u64 p.max_block_ex_units ≡ true
  pub max_collateral_inputs : is_u16 p.max_collateral_inputs ≡ true
  pub min_fee_a : is_u64 p.min_fee_a ≡ true
  pub min_fee_b : is_u64 p.min_fee_b ≡ true
  pub key_deposit : is_u64 p.key_deposit ≡ true
  pub pool_deposit : is_u64 p.pool_deposit ≡ true
  pub rho : is_unit p.rho ≡ true
  pub tau : is_unit p.tau ≡ true
  pub min_pool_cost : is_u64 p.min_pool_cost ≡ true
  pub coins_per_utxo_byte : is_u64 p.coins_per_utxo_byte ≡ true
  pub prices : are_prices p.prices ≡ true
  pub min_fee_ref_script_cost_per_byte : is_ratio p.min_fee_ref_script_cost_per_byte ≡ true
  pub a0 : is_ratio p.a0 ≡ true
  pub e_max : is_u32 p.e_max ≡ true
  pub n_opt : is_u16 p.n_opt ≡ true
  pub cost_models : is_hash 32 p.cost_models ≡ true
  pub collateral_percentage : is_u16 p.collateral_percentage ≡ true
  pub pool_voting_thresholds : are_units 5 p.pool_voting_thresholds ≡ true
  pub drep_voting_thresholds : are_units 10 p.drep_voting_thresholds ≡ true
  pub gov_action_lifetime : is_u32 p.gov_action_lifetime ≡ true
  pub gov_action_deposit : is_u64 p.gov_action_deposit ≡ true
  pub drep_deposit : is_u64 p.drep_deposit ≡ true
  pub drep_activity : is_u32 p.drep_activity ≡ true
  pub committee_min_size : is_u16 p.committee_min_size ≡ true
  pub committee_max_term_length : is_u32 p.committee_max_term_length ≡ true

each_has_form : (p : Params) → are_params p ≡ true → EachHasForm p
each_has_form p is =
    let all3 = and_parts (are_network_params p && are_economic_params p && are_technical_params p) (are_governance_params p) is in
    let all2 = and_parts (are_network_params p && are_economic_params p) (are_technical_params p) all3.0 in
    let all1 = and_parts (are_network_params p) (are_economic_params p) all2.0 in
    let s6 = and_parts (is_u32 p.max_block_body_size && is_u32 p.max_tx_size && is_u32 p.max_block_header_size && is_u32 p.max_value_size && are_u64 p.max_tx_ex_units && are_u64 p.max_block_ex_units) (is_u16 p.max_collateral_inputs) all1.0 in
    let s5 = and_parts (is_u32 p.max_block_body_size && is_u32 p.max_tx_size && is_u32 p.max_block_header_size && is_u32 p.max_value_size && are_u64 p.max_tx_ex_units) (are_u64 p.max_block_ex_units) s6.0 in
    let s4 = and_parts (is_u32 p.max_block_body_size && is_u32 p.max_tx_size && is_u32 p.max_block_header_size && is_u32 p.max_value_size) (are_u64 p.max_tx_ex_units) s5.0 in
    let s3 = and_parts (is_u32 p.max_block_body_size && is_u32 p.max_tx_size && is_u32 p.max_block_header_size) (is_u32 p.max_value_size) s4.0 in
    let s2 = and_parts (is_u32 p.max_block_body_size && is_u32 p.max_tx_size) (is_u32 p.max_block_header_size) s3.0 in
    let s1 = and_parts (is_u32 p.max_block_body_size) (is_u32 p.max_tx_size) s2.0 in
    let s16 = and_parts (is_u64 p.min_fee_a && is_u64 p.min_fee_b && is_u64 p.key_deposit && is_u64 p.pool_deposit && is_unit p.rho && is_unit p.tau && is_u64 p.min_pool_cost && is_u64 p.coins_per_utxo_byte && are_prices p.prices) (is_ratio p.min_fee_ref_script_cost_per_byte) all1.1 in
    let s15 = and_parts (is_u64 p.min_fee_a && is_u64 p.min_fee_b && is_u64 p.key_deposit && is_u64 p.pool_deposit && is_unit p.rho && is_unit p.tau && is_u64 p.min_pool_cost && is_u64 p.coins_per_utxo_byte) (are_prices p.prices) s16.0 in
    let s14 = and_parts (is_u64 p.min_fee_a && is_u64 p.min_fee_b && is_u64 p.key_deposit && is_u64 p.pool_deposit && is_unit p.rho && is_unit p.tau && is_u64 p.min_pool_cost) (is_u64 p.coins_per_utxo_byte) s15.0 in
    let s13 = and_parts (is_u64 p.min_fee_a && is_u64 p.min_fee_b && is_u64 p.key_deposit && is_u64 p.pool_deposit && is_unit p.rho && is_unit p.tau) (is_u64 p.min_pool_cost) s14.0 in
    let s12 = and_parts (is_u64 p.min_fee_a && is_u64 p.min_fee_b && is_u64 p.key_deposit && is_u64 p.pool_deposit && is_unit p.rho) (is_unit p.tau) s13.0 in
    let s11 = and_parts (is_u64 p.min_fee_a && is_u64 p.min_fee_b && is_u64 p.key_deposit && is_u64 p.pool_deposit) (is_unit p.rho) s12.0 in
    let s10 = and_parts (is_u64 p.min_fee_a && is_u64 p.min_fee_b && is_u64 p.key_deposit) (is_u64 p.pool_deposit) s11.0 in
    let s9 = and_parts (is_u64 p.min_fee_a && is_u64 p.min_fee_b) (is_u64 p.key_deposit) s10.0 in
    let s8 = and_parts (is_u64 p.min_fee_a) (is_u64 p.min_fee_b) s9.0 in
    let s21 = and_parts (is_ratio p.a0 && is_u32 p.e_max && is_u16 p.n_opt && is_hash 32 p.cost_models) (is_u16 p.collateral_percentage) all2.1 in
    let s20 = and_parts (is_ratio p.a0 && is_u32 p.e_max && is_u16 p.n_opt) (is_hash 32 p.cost_models) s21.0 in
    let s19 = and_parts (is_ratio p.a0 && is_u32 p.e_max) (is_u16 p.n_opt) s20.0 in
    let s18 = and_parts (is_ratio p.a0) (is_u32 p.e_max) s19.0 in
    let s29 = and_parts (are_units 5 p.pool_voting_thresholds && are_units 10 p.drep_voting_thresholds && is_u32 p.gov_action_lifetime && is_u64 p.gov_action_deposit && is_u64 p.drep_deposit && is_u32 p.drep_activity && is_u16 p.committee_min_size) (is_u32 p.committee_max_term_length) all3.1 in
    let s28 = and_parts (are_units 5 p.pool_voting_thresholds && are_units 10 p.drep_voting_thresholds && is_u32 p.gov_action_lifetime && is_u64 p.gov_action_deposit && is_u64 p.drep_deposit && is_u32 p.drep_activity) (is_u16 p.committee_min_size) s29.0 in
    let s27 = and_parts (are_units 5 p.pool_voting_thresholds && are_units 10 p.drep_voting_thresholds && is_u32 p.gov_action_lifetime && is_u64 p.gov_action_deposit && is_u64 p.drep_deposit) (is_u32 p.drep_activity) s28.0 in
    let s26 = and_parts (are_units 5 p.pool_voting_thresholds && are_units 10 p.drep_voting_thresholds && is_u32 p.gov_action_lifetime && is_u64 p.gov_action_deposit) (is_u64 p.drep_deposit) s27.0 in
    let s25 = and_parts (are_units 5 p.pool_voting_thresholds && are_units 10 p.drep_voting_thresholds && is_u32 p.gov_action_lifetime) (is_u64 p.gov_action_deposit) s26.0 in
    let s24 = and_parts (are_units 5 p.pool_voting_thresholds && are_units 10 p.drep_voting_thresholds) (is_u32 p.gov_action_lifetime) s25.0 in
    let s23 = and_parts (are_units 5 p.pool_voting_thresholds) (are_units 10 p.drep_voting_thresholds) s24.0 in
    record { max_block_body_size = s1.0; max_tx_size = s1.1; max_block_header_size = s2.1; max_value_size = s3.1; max_tx_ex_units = s4.1; max_block_ex_units = s5.1; max_collateral_inputs = s6.1; min_fee_a = s8.0; min_fee_b = s8.1; key_deposit = s9.1; pool_deposit = s10.1; rho = s11.1; tau = s12.1; min_pool_cost = s13.1; coins_per_utxo_byte = s14.1; prices = s15.1; min_fee_ref_script_cost_per_byte = s16.1; a0 = s18.0; e_max = s18.1; n_opt = s19.1; cost_models = s20.1; collateral_percentage = s21.1; pool_voting_thresholds = s23.0; drep_voting_thresholds = s23.1; gov_action_lifetime = s24.1; gov_action_deposit = s25.1; drep_deposit = s26.1; drep_activity = s27.1; committee_min_size = s28.1; committee_max_term_length = s29.1 }

-- ---- the kinds of values

-- a smaller number has 64 bits
wider : (bound n : ℕ) → bound ≤ 2 ^ 64 → nat_lt n bound ≡ true → is_u64 n ≡ true
wider bound n small p = (let less : n < bound = ltb-true n bound p in lt-ltb n (2 ^ 64) (omega (arith, less, small)))

u64_same : (front : Text) (a b : ℕ) → is_u64 a ≡ true → is_u64 b ≡ true → Some (front ++ joined (number a)) ≡ Some (front ++ joined (number b)) → a ≡ b
u64_same front a b p q e = field_same number_field a b p q (word_same front (decimal a) (decimal b) e)

u32_same : (front : Text) (a b : ℕ) → is_u32 a ≡ true → is_u32 b ≡ true → Some (front ++ joined (number a)) ≡ Some (front ++ joined (number b)) → a ≡ b
u32_same front a b p q = u64_same front a b (wider (2 ^ 32) a (omega arith) p) (wider (2 ^ 32) b (omega arith) q)

u16_same : (front : Text) (a b : ℕ) → is_u16 a ≡ true → is_u16 b ≡ true → Some (front ++ joined (number a)) ≡ Some (front ++ joined (number b)) → a ≡ b
u16_same front a b p q = u64_same front a b (wider (2 ^ 16) a (omega arith) p) (wider (2 ^ 16) b (omega arith) q)

two_same : (front : Text) (a b : ℕ × ℕ) → are_u64 a ≡ true → are_u64 b ≡ true → Some (front ++ joined (two_numbers a)) ≡ Some (front ++ joined (two_numbers b)) → a ≡ b
two_same front a b p q e =
    let is = and_parts (is_u64 a.0) (is_u64 a.1) p in
    let is' = and_parts (is_u64 b.0) (is_u64 b.1) q in
    let parts = split (decimal a.0) (decimal b.0) (decimal a.1 ++ []) (decimal b.1 ++ []) (number_field.plain a.0 is.0) (number_field.plain b.0 is'.0) (append_cancel_left front (joined (two_numbers a)) (joined (two_numbers b)) (same_Some _ _ e)) in
    let first : a.0 ≡ b.0 = field_same number_field a.0 b.0 is.0 is'.0 parts.0 in
    let second : a.1 ≡ b.1 = field_same number_field a.1 b.1 is.1 is'.1 (sym (append-nil (decimal a.1)) ∙ parts.1 ∙ append-nil (decimal b.1)) in
    λ i. (first i, second i)

unit_same : (front : Text) (a b : Fraction) → is_unit a ≡ true → is_unit b ≡ true → Some (front ++ joined (share a)) ≡ Some (front ++ joined (share b)) → a ≡ b
unit_same front a b p q e = field_same unit_field a b p q (word_same front (share_text a) (share_text b) e)

ratio_same : (front : Text) (a b : Fraction) → is_ratio a ≡ true → is_ratio b ≡ true → Some (front ++ joined (share a)) ≡ Some (front ++ joined (share b)) → a ≡ b
ratio_same front a b p q e = ratio_text_same a b p q (word_same front (share_text a) (share_text b) e)

prices_same : (front : Text) (a b : Fraction × Fraction) → are_prices a ≡ true → are_prices b ≡ true → Some (front ++ joined (two_shares a)) ≡ Some (front ++ joined (two_shares b)) → a ≡ b
prices_same front a b p q e =
    let is = and_parts (is_ratio a.0) (is_ratio a.1) p in
    let is' = and_parts (is_ratio b.0) (is_ratio b.1) q in
    let parts = split (share_text a.0) (share_text b.0) (share_text a.1 ++ []) (share_text b.1 ++ []) (ratio_plain a.0 is.0) (ratio_plain b.0 is'.0) (append_cancel_left front (joined (two_shares a)) (joined (two_shares b)) (same_Some _ _ e)) in
    let first : a.0 ≡ b.0 = ratio_text_same a.0 b.0 is.0 is'.0 parts.0 in
    let second : a.1 ≡ b.1 = ratio_text_same a.1 b.1 is.1 is'.1 (sym (append-nil (share_text a.1)) ∙ parts.1 ∙ append-nil (share_text b.1)) in
    λ i. (first i, second i)

hash_same : (front : Text) (a b : List ℕ) → is_hash 32 a ≡ true → is_hash 32 b ≡ true → Some (front ++ joined (hash a)) ≡ Some (front ++ joined (hash b)) → a ≡ b
hash_same front a b p q e = field_same (hash_field 32) a b p q (word_same front _ _ e)

-- fractions, each after a space
abbrev after_spaces : List Fraction → Text
after_spaces us = flat_map (λ (w : Text). 32 ∷ [] ++ w) (shares us)

-- as many fractions as others say one thing
each_same : (a b : List Fraction) → length a ≡ length b → list_all is_unit a ≡ true → list_all is_unit b ≡ true → after_spaces a ≡ after_spaces b → a ≡ b
each_same [] [] many p q e = refl
each_same [] (v ∷ vs) many p q e = absurd (omega (arith, many))
each_same (u ∷ us) [] many p q e = absurd (omega (arith, many))
each_same (u ∷ []) (v ∷ []) many p q e =
    let is = and_parts (is_unit u) true p in
    let is' = and_parts (is_unit v) true q in
    let same : u ≡ v = field_same unit_field u v is.0 is'.0 (sym (append-nil (share_text u)) ∙ tails 32 32 (share_text u ++ []) (share_text v ++ []) e ∙ append-nil (share_text v)) in
    ap (λ (x : Fraction). x ∷ []) same
each_same (u ∷ []) (v ∷ w ∷ vs) many p q e = absurd (omega (arith, many))
each_same (u ∷ t ∷ us) (v ∷ []) many p q e = absurd (omega (arith, many))
each_same (u ∷ t ∷ us) (v ∷ w ∷ vs) many p q e =
    let is = and_parts (is_unit u) (list_all is_unit (t ∷ us)) p in
    let is' = and_parts (is_unit v) (list_all is_unit (w ∷ vs)) q in
    let parts = split (share_text u) (share_text v) (share_text t ++ after_spaces us) (share_text w ++ after_spaces vs) (unit_field.plain u is.0) (unit_field.plain v is'.0) (tails 32 32 (share_text u ++ after_spaces (t ∷ us)) (share_text v ++ after_spaces (w ∷ vs)) e) in
    let fewer : length (t ∷ us) ≡ length (w ∷ vs) = omega (arith, many) in
    let first : u ≡ v = field_same unit_field u v is.0 is'.0 parts.0 in
    let rest : t ∷ us ≡ w ∷ vs = each_same (t ∷ us) (w ∷ vs) fewer is.1 is'.1 (ap (λ (x : Text). 32 ∷ x) parts.1) in
    ap (λ (x : Fraction). x ∷ t ∷ us) first ∙ ap (λ (x : List Fraction). v ∷ x) rest

units_same : (n : ℕ) (front : Text) (a b : List Fraction) → are_units n a ≡ true → are_units n b ≡ true → Some (front ++ after_spaces a) ≡ Some (front ++ after_spaces b) → a ≡ b
units_same n front a b p q e =
    let is = and_parts (length a == n) (list_all is_unit a) p in
    let is' = and_parts (length b == n) (list_all is_unit b) q in
    each_same a b (eqb-true (length a) n is.0 ∙ sym (eqb-true (length b) n is'.0)) is.1 is'.1 (append_cancel_left front (after_spaces a) (after_spaces b) (same_Some (front ++ after_spaces a) (front ++ after_spaces b) e))

-- ---- all of them

pub params_same : (x y : Params) (more more' : List (Option Text)) → are_params x ≡ true → are_params y ≡ true → lines_of (param_lines x) ++ more ≡ lines_of (param_lines y) ++ more' → x ≡ y
params_same x y more more' p q same =
    let a = each_has_form x p in
    let b = each_has_form y q in
    let at : (i : ℕ) → get_or (lines_of (param_lines x) ++ more) i None ≡ get_or (lines_of (param_lines y) ++ more') i None = λ i. ap (λ (t : List (Option Text)). get_or t i None) same in
    let e0 : x.max_block_body_size ≡ y.max_block_body_size = u32_same (codes "param maxBlockBodySize ") x.max_block_body_size y.max_block_body_size a.max_block_body_size b.max_block_body_size (at 0) in
    let e1 : x.max_tx_size ≡ y.max_tx_size = u32_same (codes "param maxTxSize ") x.max_tx_size y.max_tx_size a.max_tx_size b.max_tx_size (at 1) in
    let e2 : x.max_block_header_size ≡ y.max_block_header_size = u32_same (codes "param maxBlockHeaderSize ") x.max_block_header_size y.max_block_header_size a.max_block_header_size b.max_block_header_size (at 2) in
    let e3 : x.max_value_size ≡ y.max_value_size = u32_same (codes "param maxValueSize ") x.max_value_size y.max_value_size a.max_value_size b.max_value_size (at 3) in
    let e4 : x.max_tx_ex_units ≡ y.max_tx_ex_units = two_same (codes "param maxTxExUnits ") x.max_tx_ex_units y.max_tx_ex_units a.max_tx_ex_units b.max_tx_ex_units (at 4) in
    let e5 : x.max_block_ex_units ≡ y.max_block_ex_units = two_same (codes "param maxBlockExUnits ") x.max_block_ex_units y.max_block_ex_units a.max_block_ex_units b.max_block_ex_units (at 5) in
    let e6 : x.max_collateral_inputs ≡ y.max_collateral_inputs = u16_same (codes "param maxCollateralInputs ") x.max_collateral_inputs y.max_collateral_inputs a.max_collateral_inputs b.max_collateral_inputs (at 6) in
    let e7 : x.min_fee_a ≡ y.min_fee_a = u64_same (codes "param minFeeA ") x.min_fee_a y.min_fee_a a.min_fee_a b.min_fee_a (at 7) in
    let e8 : x.min_fee_b ≡ y.min_fee_b = u64_same (codes "param minFeeB ") x.min_fee_b y.min_fee_b a.min_fee_b b.min_fee_b (at 8) in
    let e9 : x.key_deposit ≡ y.key_deposit = u64_same (codes "param keyDeposit ") x.key_deposit y.key_deposit a.key_deposit b.key_deposit (at 9) in
    let e10 : x.pool_deposit ≡ y.pool_deposit = u64_same (codes "param poolDeposit ") x.pool_deposit y.pool_deposit a.pool_deposit b.pool_deposit (at 10) in
    let e11 : x.rho ≡ y.rho = unit_same (codes "param rho ") x.rho y.rho a.rho b.rho (at 11) in
    let e12 : x.tau ≡ y.tau = unit_same (codes "param tau ") x.tau y.tau a.tau b.tau (at 12) in
    let e13 : x.min_pool_cost ≡ y.min_pool_cost = u64_same (codes "param minPoolCost ") x.min_pool_cost y.min_pool_cost a.min_pool_cost b.min_pool_cost (at 13) in
    let e14 : x.coins_per_utxo_byte ≡ y.coins_per_utxo_byte = u64_same (codes "param coinsPerUTxOByte ") x.coins_per_utxo_byte y.coins_per_utxo_byte a.coins_per_utxo_byte b.coins_per_utxo_byte (at 14) in
    let e15 : x.prices ≡ y.prices = prices_same (codes "param prices ") x.prices y.prices a.prices b.prices (at 15) in
    let e16 : x.min_fee_ref_script_cost_per_byte ≡ y.min_fee_ref_script_cost_per_byte = ratio_same (codes "param minFeeRefScriptCostPerByte ") x.min_fee_ref_script_cost_per_byte y.min_fee_ref_script_cost_per_byte a.min_fee_ref_script_cost_per_byte b.min_fee_ref_script_cost_per_byte (at 16) in
    let e17 : x.a0 ≡ y.a0 = ratio_same (codes "param a0 ") x.a0 y.a0 a.a0 b.a0 (at 17) in
    let e18 : x.e_max ≡ y.e_max = u32_same (codes "param eMax ") x.e_max y.e_max a.e_max b.e_max (at 18) in
    let e19 : x.n_opt ≡ y.n_opt = u16_same (codes "param nOpt ") x.n_opt y.n_opt a.n_opt b.n_opt (at 19) in
    let e20 : x.cost_models ≡ y.cost_models = hash_same (codes "param costModels ") x.cost_models y.cost_models a.cost_models b.cost_models (at 20) in
    let e21 : x.collateral_percentage ≡ y.collateral_percentage = u16_same (codes "param collateralPercentage ") x.collateral_percentage y.collateral_percentage a.collateral_percentage b.collateral_percentage (at 21) in
    let e22 : x.pool_voting_thresholds ≡ y.pool_voting_thresholds = units_same 5 (codes "param poolVotingThresholds") x.pool_voting_thresholds y.pool_voting_thresholds a.pool_voting_thresholds b.pool_voting_thresholds (at 22) in
    let e23 : x.drep_voting_thresholds ≡ y.drep_voting_thresholds = units_same 10 (codes "param drepVotingThresholds") x.drep_voting_thresholds y.drep_voting_thresholds a.drep_voting_thresholds b.drep_voting_thresholds (at 23) in
    let e24 : x.gov_action_lifetime ≡ y.gov_action_lifetime = u32_same (codes "param govActionLifetime ") x.gov_action_lifetime y.gov_action_lifetime a.gov_action_lifetime b.gov_action_lifetime (at 24) in
    let e25 : x.gov_action_deposit ≡ y.gov_action_deposit = u64_same (codes "param govActionDeposit ") x.gov_action_deposit y.gov_action_deposit a.gov_action_deposit b.gov_action_deposit (at 25) in
    let e26 : x.drep_deposit ≡ y.drep_deposit = u64_same (codes "param drepDeposit ") x.drep_deposit y.drep_deposit a.drep_deposit b.drep_deposit (at 26) in
    let e27 : x.drep_activity ≡ y.drep_activity = u32_same (codes "param drepActivity ") x.drep_activity y.drep_activity a.drep_activity b.drep_activity (at 27) in
    let e28 : x.committee_min_size ≡ y.committee_min_size = u16_same (codes "param committeeMinSize ") x.committee_min_size y.committee_min_size a.committee_min_size b.committee_min_size (at 28) in
    let e29 : x.committee_max_term_length ≡ y.committee_max_term_length = u32_same (codes "param committeeMaxTermLength ") x.committee_max_term_length y.committee_max_term_length a.committee_max_term_length b.committee_max_term_length (at 29) in
    λ i. record { max_block_body_size = e0 i; max_tx_size = e1 i; max_block_header_size = e2 i; max_value_size = e3 i; max_tx_ex_units = e4 i; max_block_ex_units = e5 i; max_collateral_inputs = e6 i; min_fee_a = e7 i; min_fee_b = e8 i; key_deposit = e9 i; pool_deposit = e10 i; rho = e11 i; tau = e12 i; min_pool_cost = e13 i; coins_per_utxo_byte = e14 i; prices = e15 i; min_fee_ref_script_cost_per_byte = e16 i; a0 = e17 i; e_max = e18 i; n_opt = e19 i; cost_models = e20 i; collateral_percentage = e21 i; pool_voting_thresholds = e22 i; drep_voting_thresholds = e23 i; gov_action_lifetime = e24 i; gov_action_deposit = e25 i; drep_deposit = e26 i; drep_activity = e27 i; committee_min_size = e28 i; committee_max_term_length = e29 i }
