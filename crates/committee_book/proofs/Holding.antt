-- Which cold keys are kept of each hot key, before and after a change of the entries or of what is kept.
use Rattle.std.proofs.Common.{◌≡◌, List, [], Bool, true, false, cond, not, ◌&&◌, ◌||◌, is_some, Option, Some, None, refl, ap, sym, ◌∙◌}
use Rattle.std.specs.BTreeMap.{is_at}
use Rattle.std.specs.BTreeSet.{BTreeSet}
use Rattle.std.proofs.lemmas.Map.Entries.{option_filter}
use Rattle.std.proofs.lemmas.Map.Made.{is_some-lookup}
use Rattle.gov_ids.specs.declared.Credential.{Credential}
use Rattle.gov_ids.specs.Orders.{credential_cmp}
use Rattle.gov_ids.specs.Same.{same_credential}
use Rattle.gov_ids.proofs.Exacts.{credential_exact}
use Rattle.gov_ids.proofs.Totals.{credential_total}
use Rattle.gov_actions.specs.declared.state.HotState.{HotState}
use Rattle.gov_actions.specs.declared.state.HotState.TheVariants.{Hot}
use Rattle.gov_model.specs.Hot.{is_hot_key}
use Rattle.maps.proofs.Kept.{IsMap-entries_where, IsMap-with_value, IsMap-without_key}
use Rattle.maps.proofs.Lookups.{value_at-entries_where, value_at-with_value, value_at-without_key}
use Rattle.maps.proofs.Same.{set_from_has_member}
use Rattle.maps.proofs.Sets.{IsSet-with_key, IsSet-without_member, has_member-with_key, has_member-without_member, without_member_absent}
use Rattle.maps.proofs.Ties.{same_key}
use Rattle.maps.specs.Maps.{IsMap, IsSet, entries_where, has_member, value_at, with_key, with_value, without_key, without_member}
use Rattle.maps.specs.Words.{some_and}
use Rattle.committee_book.specs.Holders.{IsIndexed, held_at, held_in, holders_of, is_left}

abbrev pub Hots : Type 0
Hots = List (Credential × HotState)

abbrev pub Held : Type 0
Held = List (Credential × BTreeSet Credential)

-- ---- what is kept

-- f changed the cold keys of this hot key, and of no other
abbrev pub IsChanged : Credential → (List Credential → List Credential) → Held → Held → Type 0
IsChanged hot f old new = (h : Credential) → held_at new h ≡ cond (same_credential hot h) (f (held_at old h)) (held_at old h)

module _ (hot : Credential) (f : List Credential → List Credential) (old new : Held) where
  -- where its look-up alone is another
  pub changed_by : (o : Option (BTreeSet Credential)) → ((q : Credential) → value_at credential_cmp new q ≡ cond (same_credential hot q) o (value_at credential_cmp old q))
      → held_in o ≡ f (held_at old hot) → IsChanged hot f old new
  changed_by o at is h =
      ap (λ (x : Option (BTreeSet Credential)). held_in x) (at h)
      ∙ elim (same_credential hot h) as (λ b. same_credential hot h ≡ b → held_in (cond b o (value_at credential_cmp old h)) ≡ cond b (f (held_at old h)) (held_at old h)) [
        | true ↦ λ t. is ∙ ap (λ q. f (held_at old q)) (same_key credential_exact hot h t)
        | false ↦ λ t. refl
      ] refl

  -- where there is nothing of it, and nothing to change
  pub changed_none : new ≡ old → held_at old hot ≡ [] → f [] ≡ [] → IsChanged hot f old new
  changed_none same none e h =
      ap (λ (es : Held). held_at es h) same
      ∙ elim (same_credential hot h) as (λ b. same_credential hot h ≡ b → held_at old h ≡ cond b (f (held_at old h)) (held_at old h)) [
        | true ↦ λ t.
            let here : held_at old h ≡ [] = ap (λ q. held_at old q) (sym (same_key credential_exact hot h t)) ∙ none in
            here ∙ sym (ap f here ∙ e)
        | false ↦ λ t. refl
      ] refl

-- a hot key is left by what comes after it
pub left_by : (hot h : Credential) (s : HotState) (b : Bool) → is_hot_key hot s ≡ b → is_left h (Some (Hot hot)) s ≡ (same_credential hot h && not b)
left_by hot h s b e =
    elim (same_credential hot h) as (λ t. same_credential hot h ≡ t → (t && not (is_hot_key h s)) ≡ (t && not b)) [
      | true ↦ λ t. ap not (ap (λ q. is_hot_key q s) (sym (same_key credential_exact hot h t)) ∙ e)
      | false ↦ λ t. refl
    ] refl

-- ---- the cold keys of entries

pub passed : (p : HotState → Bool) (s : Option HotState) → is_some (option_filter p s) ≡ some_and p s
passed p None = refl
passed p (Some s) = elim (p s) as (λ b. is_some (cond b (Some s) None) ≡ b) [ true ↦ refl | false ↦ refl ]

put_or_not : (p : HotState → Bool) (b : Bool) (s : HotState) (o : Option HotState) → some_and p (cond b (Some s) o) ≡ cond b (p s) (some_and p o)
put_or_not p true s o = refl
put_or_not p false s o = refl

taken_or_not : (p : HotState → Bool) (b : Bool) (o : Option HotState) → some_and p (cond b None o) ≡ (not b && some_and p o)
taken_or_not p true o = refl
taken_or_not p false o = refl

or_there : (b m : Bool) → cond b true m ≡ (b || m)
or_there true m = refl
or_there false m = refl

and_there : (b m : Bool) → cond b false m ≡ (not b && m)
and_there true m = refl
and_there false m = refl

module _ (k : Credential) (hot : Hots) (h : Credential) (m : IsMap credential_cmp hot) where
  in_order : IsSet credential_cmp (holders_of hot h)
  in_order = IsMap-entries_where credential_cmp (λ cold s. is_hot_key h s) hot m

  -- a cold key is among them where it has this hot key
  has_holder : (q : Credential) → has_member credential_cmp (holders_of hot h) q ≡ some_and (is_hot_key h) (value_at credential_cmp hot q)
  has_holder q =
      sym (is_some-lookup (is_at (credential_cmp q)) (entries_where (λ cold s. is_hot_key h s) hot))
      ∙ ap (λ (o : Option HotState). is_some o) (value_at-entries_where credential_total credential_exact (λ cold s. is_hot_key h s) hot q m)
      ∙ passed (is_hot_key h) (value_at credential_cmp hot q)

  -- one that has not is not taken away
  pub not_held : some_and (is_hot_key h) (value_at credential_cmp hot k) ≡ false → without_member credential_cmp k (holders_of hot h) ≡ holders_of hot h
  not_held e = without_member_absent credential_cmp k (holders_of hot h) (has_holder k ∙ e)

module _ (k : Credential) (s : HotState) (hot : Hots) (h : Credential) (m : IsMap credential_cmp hot) where
  m_after : IsMap credential_cmp (with_value credential_cmp k s hot)
  m_after = IsMap-with_value credential_total k s hot m

  has_after : (q : Credential) → has_member credential_cmp (holders_of (with_value credential_cmp k s hot) h) q ≡ cond (same_credential k q) (is_hot_key h s) (has_member credential_cmp (holders_of hot h) q)
  has_after q =
      has_holder k (with_value credential_cmp k s hot) h m_after q
      ∙ ap (λ (o : Option HotState). some_and (is_hot_key h) o) (value_at-with_value credential_total k s hot q)
      ∙ put_or_not (is_hot_key h) (same_credential k q) s (value_at credential_cmp hot q)
      ∙ ap (λ b. cond (same_credential k q) (is_hot_key h s) b) (sym (has_holder k hot h m q))

  -- the cold keys of each hot key after an entry was put in
  pub holders-with_value : holders_of (with_value credential_cmp k s hot) h ≡ cond (is_hot_key h s) (with_key credential_cmp k (holders_of hot h)) (without_member credential_cmp k (holders_of hot h))
  holders-with_value =
      let ks = holders_of hot h in
      let set : IsSet credential_cmp ks = in_order k hot h m in
      let after : IsSet credential_cmp (holders_of (with_value credential_cmp k s hot) h) = in_order k (with_value credential_cmp k s hot) h m_after in
      elim (is_hot_key h s) as (λ b. is_hot_key h s ≡ b → holders_of (with_value credential_cmp k s hot) h ≡ cond b (with_key credential_cmp k ks) (without_member credential_cmp k ks)) [
        | true ↦ λ t. set_from_has_member credential_total credential_exact _ _ after (IsSet-with_key credential_total k ks set)
            (λ q. has_after q ∙ ap (λ b. cond (same_credential k q) b (has_member credential_cmp ks q)) t ∙ or_there (same_credential k q) (has_member credential_cmp ks q) ∙ sym (has_member-with_key credential_total k ks q))
        | false ↦ λ t. set_from_has_member credential_total credential_exact _ _ after (IsSet-without_member credential_cmp k ks set)
            (λ q. has_after q ∙ ap (λ b. cond (same_credential k q) b (has_member credential_cmp ks q)) t ∙ and_there (same_credential k q) (has_member credential_cmp ks q) ∙ sym (has_member-without_member credential_total k ks q set))
      ] refl

-- and after an entry was taken away
holders-without_key : (k : Credential) (hot : Hots) (h : Credential) → IsMap credential_cmp hot → holders_of (without_key credential_cmp k hot) h ≡ without_member credential_cmp k (holders_of hot h)
holders-without_key k hot h m =
    let ks = holders_of hot h in
    let set : IsSet credential_cmp ks = in_order k hot h m in
    let after : IsMap credential_cmp (without_key credential_cmp k hot) = IsMap-without_key credential_cmp k hot m in
    set_from_has_member credential_total credential_exact _ _ (in_order k (without_key credential_cmp k hot) h after) (IsSet-without_member credential_cmp k ks set)
    (λ q. has_holder k (without_key credential_cmp k hot) h after q
    ∙ ap (λ (o : Option HotState). some_and (is_hot_key h) o) (value_at-without_key credential_total k hot q m)
    ∙ taken_or_not (is_hot_key h) (same_credential k q) (value_at credential_cmp hot q)
    ∙ ap (λ b. not (same_credential k q) && b) (sym (has_holder k hot h m q))
    ∙ sym (has_member-without_member credential_total k ks q set))

dropped : (b x : Bool) → (not b && (b || x)) ≡ (not b && x)
dropped true x = refl
dropped false x = refl

-- one that has it not, added and taken away again
put_and_taken : (k : Credential) (hot : Hots) (h : Credential) → IsMap credential_cmp hot → some_and (is_hot_key h) (value_at credential_cmp hot k) ≡ false
    → without_member credential_cmp k (with_key credential_cmp k (holders_of hot h)) ≡ holders_of hot h
put_and_taken k hot h m e =
    let ks = holders_of hot h in
    let set : IsSet credential_cmp ks = in_order k hot h m in
    let more : IsSet credential_cmp (with_key credential_cmp k ks) = IsSet-with_key credential_total k ks set in
    set_from_has_member credential_total credential_exact _ _ (IsSet-without_member credential_cmp k (with_key credential_cmp k ks) more) set
    (λ q. has_member-without_member credential_total k (with_key credential_cmp k ks) q more
    ∙ ap (λ b. not (same_credential k q) && b) (has_member-with_key credential_total k ks q)
    ∙ dropped (same_credential k q) (has_member credential_cmp ks q)
    ∙ sym (has_member-without_member credential_total k ks q set)
    ∙ ap (λ (l : List Credential). has_member credential_cmp l q) (not_held k hot h m e))

-- ---- the book after each change

-- a test of what is left and of what comes: what is left goes, what comes stays
replaced : {A : Type 0} (without with : A → A) (ks : A) (was is : Bool) → (was ≡ false → without ks ≡ ks)
    → cond (was && not is) (without (cond is (with ks) ks)) (cond is (with ks) ks) ≡ cond is (with ks) (without ks)
replaced without with ks true true e = refl
replaced without with ks true false e = refl
replaced without with ks false true e = refl
replaced without with ks false false e = sym (e refl)

module _ (k : Credential) (hot : Hots) (held : Held) (m : IsIndexed hot held) where
  -- an entry is put in: its cold key is added to those of its hot key, and leaves those of the one before
  pub set_indexed : (s : HotState) (before : Option HotState) (added after : Held) → before ≡ value_at credential_cmp hot k
      → ((h : Credential) → held_at added h ≡ cond (is_hot_key h s) (with_key credential_cmp k (held_at held h)) (held_at held h))
      → ((h : Credential) → held_at after h ≡ cond (is_left h before s) (without_member credential_cmp k (held_at added h)) (held_at added h))
      → IsIndexed (with_value credential_cmp k s hot) after
  set_indexed s before added after was add leave =
      record {
        in_order = IsMap-with_value credential_total k s hot m.in_order;
        held = λ h.
            let ks = holders_of hot h in
            let here : held_at added h ≡ cond (is_hot_key h s) (with_key credential_cmp k ks) ks = add h ∙ ap (λ (l : List Credential). cond (is_hot_key h s) (with_key credential_cmp k l) l) (m.held h) in
            leave h
            ∙ (λ i. cond (is_left h (was i) s) (without_member credential_cmp k (here i)) (here i))
            ∙ replaced (without_member credential_cmp k) (with_key credential_cmp k) ks (some_and (is_hot_key h) (value_at credential_cmp hot k)) (is_hot_key h s) (not_held k hot h m.in_order)
            ∙ sym (holders-with_value k s hot h m.in_order);
      }

  -- one that was added where there was none is taken away again
  pub undone_indexed : (s : HotState) (added after : Held) → value_at credential_cmp hot k ≡ None
      → ((h : Credential) → held_at added h ≡ cond (is_hot_key h s) (with_key credential_cmp k (held_at held h)) (held_at held h))
      → ((h : Credential) → held_at after h ≡ cond (is_hot_key h s) (without_member credential_cmp k (held_at added h)) (held_at added h))
      → IsIndexed hot after
  undone_indexed s added after none add take =
      record {
        in_order = m.in_order;
        held = λ h.
            let ks = holders_of hot h in
            let here : held_at added h ≡ cond (is_hot_key h s) (with_key credential_cmp k ks) ks = add h ∙ ap (λ (l : List Credential). cond (is_hot_key h s) (with_key credential_cmp k l) l) (m.held h) in
            take h
            ∙ (λ i. cond (is_hot_key h s) (without_member credential_cmp k (here i)) (here i))
            ∙ elim (is_hot_key h s) as (λ b. cond b (without_member credential_cmp k (cond b (with_key credential_cmp k ks) ks)) (cond b (with_key credential_cmp k ks) ks) ≡ ks) [
              | true ↦ put_and_taken k hot h m.in_order (ap (λ (o : Option HotState). some_and (is_hot_key h) o) none)
              | false ↦ refl
            ];
      }

  -- an entry is taken away with its cold key
  pub forgotten_indexed : (before : Option HotState) (after : Held) → before ≡ value_at credential_cmp hot k
      → ((h : Credential) → held_at after h ≡ cond (some_and (is_hot_key h) before) (without_member credential_cmp k (held_at held h)) (held_at held h))
      → IsIndexed (without_key credential_cmp k hot) after
  forgotten_indexed before after was take =
      record {
        in_order = IsMap-without_key credential_cmp k hot m.in_order;
        held = λ h.
            let ks = holders_of hot h in
            take h
            ∙ (λ i. cond (some_and (is_hot_key h) (was i)) (without_member credential_cmp k (m.held h i)) (m.held h i))
            ∙ elim (some_and (is_hot_key h) (value_at credential_cmp hot k)) as (λ b. some_and (is_hot_key h) (value_at credential_cmp hot k) ≡ b → cond b (without_member credential_cmp k ks) ks ≡ without_member credential_cmp k ks) [
              | true ↦ λ t. refl
              | false ↦ λ t. sym (not_held k hot h m.in_order t)
            ] refl
            ∙ sym (holders-without_key k hot h m.in_order);
      }
