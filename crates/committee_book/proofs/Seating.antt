-- Whether a hot key is named, and whether a member has it, by the cold keys that have it.
use Rattle.std.proofs.Common.{◌≡◌, ℕ, List, [], ◌∷◌, Bool, true, false, ◌&&◌, ◌||◌, cond, filter, length, nat_lt, Option, Some, None, is_some, refl, ap, sym, ◌∙◌, arith}
use Rattle.std.specs.List.{list_any}
use Rattle.std.specs.Map.{keys_of}
use Rattle.std.proofs.lemmas.Bool.{lt-ltb}
use Rattle.std.specs.BTreeMap.{is_at}
use Rattle.std.proofs.lemmas.Map.Entries.{length-keys_of, option_filter}
use Rattle.std.proofs.lemmas.Map.Made.{is_some-lookup}
use Rattle.gov_ids.specs.declared.Credential.{Credential}
use Rattle.gov_ids.specs.Orders.{credential_cmp}
use Rattle.gov_ids.specs.Same.{same_credential}
use Rattle.gov_ids.proofs.Exacts.{credential_exact}
use Rattle.gov_ids.proofs.Totals.{credential_total}
use Rattle.gov_actions.specs.declared.state.Committee.{Committee}
use Rattle.gov_actions.specs.declared.state.HotState.{HotState}
use Rattle.gov_model.specs.Hot.{is_hot_key, is_member, is_named, of_members}
use Rattle.gov_model.specs.Sides.{members_of}
use Rattle.maps.proofs.Lookups.{value_at-entries_where}
use Rattle.maps.specs.Maps.{IsMap, entries_where, value_at}
use Rattle.maps.specs.Words.{some_and}
use Rattle.committee_book.specs.Counts.{count_of}
use Rattle.committee_book.specs.Holders.{holders_of}
use Rattle.committee_book.proofs.Holding.{Hots, passed}

-- some cold key has it exactly where the count is above 0
pub named_is : (hot : Hots) (c : Credential) → is_named hot c ≡ nat_lt 0 (count_of hot c)
named_is [] c = refl
named_is (h ∷ hot) c =
    elim (is_hot_key c h.1) as (λ b. (b || is_named hot c) ≡ nat_lt 0 (length (cond b (h ∷ filter (λ (e : Credential × HotState). is_hot_key c e.1) hot) (filter (λ (e : Credential × HotState). is_hot_key c e.1) hot)))) [
      | true ↦ sym (lt-ltb 0 _ (omega arith))
      | false ↦ named_is hot c
    ]

-- the count is how many there are
pub counted : (hot : Hots) (c : Credential) → length (holders_of hot c) ≡ count_of hot c
counted hot c = length-keys_of (entries_where (λ cold s. is_hot_key c s) hot)

-- one of those that pass q passes p where one passes both
pub any_where : {A : Type 0} (p q : A → Bool) (xs : List A) → list_any p (filter q xs) ≡ list_any (λ x. q x && p x) xs
any_where p q [] = refl
any_where p q (x ∷ xs) =
    elim (q x) as (λ b. list_any p (cond b (x ∷ filter q xs) (filter q xs)) ≡ ((b && p x) || list_any (λ y. q y && p y) xs)) [
      | true ↦ ap (λ b. p x || b) (any_where p q xs)
      | false ↦ any_where p q xs
    ]

any_key : {K X : Type 0} (p : K → Bool) (es : List (K × X)) → list_any p (keys_of es) ≡ list_any (λ (e : K × X). p e.0) es
any_key p [] = refl
any_key p (e ∷ es) = ap (λ b. p e.0 || b) (any_key p es)

turned : (a b c : Bool) → (a && (b && c)) ≡ (c && (b && a))
turned true true true = refl
turned true true false = refl
turned true false true = refl
turned true false false = refl
turned false true true = refl
turned false true false = refl
turned false false true = refl
turned false false false = refl

-- a member whose entry counts has it
pub seated_is : (committee : Option Committee) (counts : Credential → Bool) (hot : Hots) (h : Credential)
    → list_any (λ cold. is_member committee cold && counts cold) (holders_of hot h) ≡ is_named (of_members committee (entries_where (λ cold s. counts cold) hot)) h
seated_is committee counts hot h =
    let has = λ (e : Credential × HotState). is_hot_key h e.1 in
    let member = λ (e : Credential × HotState). is_member committee e.0 in
    let in_it = λ (e : Credential × HotState). counts e.0 in
    any_key (λ cold. is_member committee cold && counts cold) (filter has hot)
    ∙ any_where (λ (e : Credential × HotState). member e && in_it e) has hot
    ∙ (λ i. list_any (λ (e : Credential × HotState). turned (has e) (member e) (in_it e) i) hot)
    ∙ sym (any_where (λ (e : Credential × HotState). member e && has e) in_it hot)
    ∙ sym (any_where has member (filter in_it hot))

-- ---- the same by the members

never : {A : Type 0} (r : A → Bool) (es : List A) → list_any (λ e. r e && false) es ≡ false
never r [] = refl
never r (e ∷ es) = elim (r e) as (λ b. ((b && false) || list_any (λ x. r x && false) es) ≡ false) [ true ↦ never r es | false ↦ never r es ]

shared : (r p q a b : Bool) → ((r && (p || q)) || (a || b)) ≡ (((r && p) || a) || ((r && q) || b))
shared true true q a b = refl
shared true false true true b = refl
shared true false true false b = refl
shared true false false a b = refl
shared false p q a b = refl

either : {A : Type 0} (r p q : A → Bool) (es : List A) → list_any (λ e. r e && (p e || q e)) es ≡ (list_any (λ e. r e && p e) es || list_any (λ e. r e && q e) es)
either r p q [] = refl
either r p q (e ∷ es) =
    ap (λ b. (r e && (p e || q e)) || b) (either r p q es)
    ∙ shared (r e) (p e) (q e) (list_any (λ x. r x && p x) es) (list_any (λ x. r x && q x) es)

moved : (a b c : Bool) → ((a && b) && c) ≡ (b && (c && a))
moved true true true = refl
moved true true false = refl
moved true false c = refl
moved false true true = refl
moved false true false = refl
moved false false c = refl

with_counts : (p : HotState → Bool) (b : Bool) (o : Option HotState) → some_and (λ s. p s && b) o ≡ (some_and p o && b)
with_counts p b None = refl
with_counts p b (Some s) = refl

-- one that ties with a member, and passes
pub any_member : {K T X : Type 0} (r : K × X → Bool) (same : K → K → Bool) (ms : List (K × T)) (es : List (K × X))
    → list_any (λ (m : K × T). list_any (λ (e : K × X). r e && same m.0 e.0) es) ms ≡ list_any (λ (e : K × X). r e && list_any (λ (m : K × T). same m.0 e.0) ms) es
any_member r same [] es = sym (never r es)
any_member r same (m ∷ ms) es =
    ap (λ b. list_any (λ (e : _ × _). r e && same m.0 e.0) es || b) (any_member r same ms es)
    ∙ sym (either r (λ (e : _ × _). same m.0 e.0) (λ (e : _ × _). list_any (λ (x : _ × _). same x.0 e.0) ms) es)

-- an entry of this cold key that is this hot key, and counts
at_key : (counts : Credential → Bool) (hot : Hots) (h k : Credential) → IsMap credential_cmp hot
    → list_any (λ (e : Credential × HotState). (is_hot_key h e.1 && counts e.0) && same_credential k e.0) hot ≡ (some_and (is_hot_key h) (value_at credential_cmp hot k) && counts k)
at_key counts hot h k m =
    let r = λ (cold : Credential) (s : HotState). is_hot_key h s && counts cold in
    sym (any_where (λ (e : Credential × HotState). same_credential k e.0) (λ (e : Credential × HotState). r e.0 e.1) hot)
    ∙ sym (any_key (λ cold. same_credential k cold) (entries_where r hot))
    ∙ sym (is_some-lookup (is_at (credential_cmp k)) (entries_where r hot))
    ∙ ap (λ (o : Option HotState). is_some o) (value_at-entries_where credential_total credential_exact r hot k m)
    ∙ passed (r k) (value_at credential_cmp hot k)
    ∙ with_counts (is_hot_key h) (counts k) (value_at credential_cmp hot k)

-- a member that has it, and whose entry counts
pub seated_among : (committee : Option Committee) (counts : Credential → Bool) (hot : Hots) (h : Credential) → IsMap credential_cmp hot
    → list_any (λ (m : Credential × ℕ). some_and (is_hot_key h) (value_at credential_cmp hot m.0) && counts m.0) (members_of committee) ≡ is_named (of_members committee (entries_where (λ cold s. counts cold) hot)) h
seated_among committee counts hot h m =
    let has = λ (e : Credential × HotState). is_hot_key h e.1 in
    let member = λ (e : Credential × HotState). is_member committee e.0 in
    let in_it = λ (e : Credential × HotState). counts e.0 in
    (λ i. list_any (λ (x : Credential × ℕ). sym (at_key counts hot h x.0 m) i) (members_of committee))
    ∙ any_member (λ (e : Credential × HotState). has e && in_it e) same_credential (members_of committee) hot
    ∙ (λ i. list_any (λ (e : Credential × HotState). moved (has e) (in_it e) (member e) i) hot)
    ∙ sym (any_where (λ (e : Credential × HotState). member e && has e) in_it hot)
    ∙ sym (any_where has member (filter in_it hot))
