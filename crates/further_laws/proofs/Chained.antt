-- Every live proposal of a World that records reach names the last enacted action of its purpose, or an earlier live proposal of it.
use Rattle.std.proofs.Common.{◌≡◌, ℕ, ◌+◌, List, [], ◌∷◌, ◌++◌, Bool, true, false, ◌&&◌, ◌||◌, cond, inl, inr, ◌⊎◌, Contains, Option, Some, None, filter, find, map, refl, ap, sym, subst, ◌∙◌, append_assoc, append-nil}
use Rattle.std.specs.List.{AllByRecursion, enumerate_from, list_all}
use Rattle.std.proofs.lemmas.Bool.{and_from, and_parts, false≢true, or_left, or_right}
use Rattle.std.proofs.lemmas.Cmp.{eq_by_cmp_equiv}
use Rattle.std.proofs.lemmas.List.Elements.{filter-append}
use Rattle.maps.specs.Maps.{has_member}
use Rattle.maps.specs.Words.{fronts_from, holds, none_or, same_option, some_and}
use Rattle.maps.proofs.Ties.{is_equal}
use Rattle.gov_ids.specs.declared.ActionId.{ActionId}
use Rattle.gov_ids.specs.declared.TxId.{TxId}
use Rattle.gov_ids.specs.Orders.{txid_cmp}
use Rattle.gov_ids.specs.Same.{same_action}
use Rattle.gov_ids.proofs.Exacts.{action_id_exact}
use Rattle.gov_ids.proofs.Totals.{action_id_total}
use Rattle.gov_actions.specs.declared.action.Action.{Action}
use Rattle.gov_actions.specs.declared.action.Proposal.{Proposal}
use Rattle.gov_actions.specs.declared.action.Purpose.{Purpose}
use Rattle.gov_actions.specs.declared.state.LastIds.{LastIds}
use Rattle.gov_actions.specs.Kinds.{last_of, previous_of, purpose_of, same_purpose}
use Rattle.gov_model.specs.Kept.{IsChain, IsKept, is_kept, is_parent}
use Rattle.gov_model.specs.Laws.{HaveDistinctIds}
use Rattle.gov_model.specs.Lineage.{is_last_enacted, is_live_of, may_follow}
use Rattle.gov_model.proofs.Chains.{StandsIn, is_contained, kept_by_chains, stands_in, unique}
use Rattle.gov_model.proofs.KeptOf.{from_filter, into_filter}
use Rattle.tx_records.specs.declared.tx.ProposalRecord.{ProposalRecord}
use Rattle.ledger_model.specs.Transaction.{made_proposal}
use Rattle.checkpoint_model.specs.Resumable.{unvoted}
use Rattle.dormant_laws.proofs.Lists.{all_append, all_passing}

-- ---- what a search finds

not_here : (p : Proposal → Bool) (x : Proposal) (xs : List Proposal) (b : Proposal) → StandsIn b (x ∷ xs) → p b ≡ true → p x ≡ false → StandsIn b xs
not_here p x xs b (inl is) h e = let yes : p x ≡ true = subst (λ (y : Proposal). p y ≡ true) (sym is) h in absurd (false≢true (sym e ∙ yes))
not_here p x xs b (inr there) h e = there

found_some : (p t : Proposal → Bool) (xs : List Proposal) (b : Proposal) → StandsIn b xs → p b ≡ true → ((q : Proposal) → StandsIn q xs → p q ≡ true → t q ≡ true) → some_and t (find p xs) ≡ true
found_some p t [] b i h f = absurd i
found_some p t (x ∷ xs) b i h f =
    elim (p x) as (λ c. p x ≡ c → some_and t (cond c (Some x) (find p xs)) ≡ true) [
      | true ↦ λ e. f x (inl refl) e
      | false ↦ λ e. found_some p t xs b (not_here p x xs b i h e) h (λ q j k. f q (inr j) k)
    ] refl

found_more : (p t : Proposal → Bool) (xs ys : List Proposal) → some_and t (find p xs) ≡ true → some_and t (find p (xs ++ ys)) ≡ true
found_more p t [] ys h = absurd (false≢true h)
found_more p t (x ∷ xs) ys h =
    elim (p x) as (λ c. some_and t (cond c (Some x) (find p xs)) ≡ true → some_and t (cond c (Some x) (find p (xs ++ ys))) ≡ true) [
      | true ↦ λ k. k
      | false ↦ λ k. found_more p t xs ys k
    ] h

pub live_unvoted : (purpose : Purpose) (id : ActionId) (xs : List Proposal) → is_live_of xs purpose id ≡ true → is_live_of (map unvoted xs) purpose id ≡ true
live_unvoted purpose id [] h = h
live_unvoted purpose id (x ∷ xs) h =
    elim (same_action x.id id) as (λ c. some_and (λ (p : Proposal). holds same_purpose (purpose_of p.action) purpose) (cond c (Some x) (find (λ (p : Proposal). same_action p.id id) xs)) ≡ true
    → some_and (λ (p : Proposal). holds same_purpose (purpose_of p.action) purpose) (cond c (Some (unvoted x)) (find (λ (p : Proposal). same_action p.id id) (map unvoted xs))) ≡ true) [
      | true ↦ λ k. k
      | false ↦ λ k. live_unvoted purpose id xs k
    ] h

live_voted : (purpose : Purpose) (id : ActionId) (xs : List Proposal) → is_live_of (map unvoted xs) purpose id ≡ true → is_live_of xs purpose id ≡ true
live_voted purpose id [] h = h
live_voted purpose id (x ∷ xs) h =
    elim (same_action x.id id) as (λ c. some_and (λ (p : Proposal). holds same_purpose (purpose_of p.action) purpose) (cond c (Some (unvoted x)) (find (λ (p : Proposal). same_action p.id id) (map unvoted xs))) ≡ true
    → some_and (λ (p : Proposal). holds same_purpose (purpose_of p.action) purpose) (cond c (Some x) (find (λ (p : Proposal). same_action p.id id) xs)) ≡ true) [
      | true ↦ λ k. k
      | false ↦ λ k. live_voted purpose id xs k
    ] h

-- ---- what may follow

some_grows : {A : Type 0} (p q : A → Bool) (o : Option A) → ((x : A) → p x ≡ true → q x ≡ true) → some_and p o ≡ true → some_and q o ≡ true
some_grows p q None f h = h
some_grows p q (Some x) f h = f x h

or_grows : (a b c : Bool) → (b ≡ true → c ≡ true) → (a || b) ≡ true → (a || c) ≡ true
or_grows true b c f h = refl
or_grows false b c f h = f h

-- with more live proposals
follow_grows_by : (xs ys : List Proposal) (last : LastIds) (previous : Option ActionId) (o : Option Purpose) → ((p : Purpose) (id : ActionId) → is_live_of xs p id ≡ true → is_live_of ys p id ≡ true)
    → none_or (λ p. is_last_enacted last p previous || some_and (is_live_of xs p) previous) o ≡ true → none_or (λ p. is_last_enacted last p previous || some_and (is_live_of ys p) previous) o ≡ true
follow_grows_by xs ys last previous None f h = refl
follow_grows_by xs ys last previous (Some p) f h =
    or_grows (is_last_enacted last p previous) (some_and (is_live_of xs p) previous) (some_and (is_live_of ys p) previous) (some_grows (is_live_of xs p) (is_live_of ys p) previous (f p)) h

pub follow_grows : (xs ys : List Proposal) (last : LastIds) (a : Action) → ((p : Purpose) (id : ActionId) → is_live_of xs p id ≡ true → is_live_of ys p id ≡ true)
    → may_follow xs last a ≡ true → may_follow ys last a ≡ true
follow_grows xs ys last a f h = follow_grows_by xs ys last (previous_of a) (purpose_of a) f h

follow_more : (xs ys : List Proposal) (last : LastIds) (a : Action) → may_follow xs last a ≡ true → may_follow (xs ++ ys) last a ≡ true
follow_more xs ys last a h = follow_grows xs (xs ++ ys) last a (λ p id k. found_more (λ (q : Proposal). same_action q.id id) (λ (q : Proposal). holds same_purpose (purpose_of q.action) p) xs ys k) h

-- ---- chains

-- each may follow after those of the front and those before it
abbrev pub Chained : LastIds → List Proposal → List Proposal → Type 0
Chained last front [] = Unit {0}
Chained last front (a ∷ xs) = (may_follow front last a.action ≡ true) × Chained last (front ++ a ∷ []) xs

pub chained_test : (last : LastIds) (front xs : List Proposal) → Chained last front xs → list_all (λ (p : List Proposal × Proposal). may_follow p.0 last p.1.action) (fronts_from front xs) ≡ true
chained_test last front [] h = refl
chained_test last front (a ∷ xs) h = and_from _ _ h.0 (chained_test last (front ++ a ∷ []) xs h.1)

pub chained_append : (last : LastIds) (front xs ys : List Proposal) → Chained last front xs → Chained last (front ++ xs) ys → Chained last front (xs ++ ys)
chained_append last front [] ys h k = subst (λ (zs : List Proposal). Chained last zs ys) (append-nil front) k
chained_append last front (a ∷ xs) ys h k = (h.0, chained_append last (front ++ a ∷ []) xs ys h.1 (subst (λ (zs : List Proposal). Chained last zs ys) (sym (append_assoc front (a ∷ []) xs)) k))

map_one_more : (front : List Proposal) (a : Proposal) → map unvoted (front ++ a ∷ []) ≡ map unvoted front ++ unvoted a ∷ []
map_one_more [] a = refl
map_one_more (x ∷ front) a = ap (λ (ys : List Proposal). unvoted x ∷ ys) (map_one_more front a)

-- votes do not count
pub chained_unvoted : (last : LastIds) (front xs : List Proposal) → Chained last front xs → Chained last (map unvoted front) (map unvoted xs)
chained_unvoted last front [] h = tt
chained_unvoted last front (a ∷ xs) h = (
  follow_grows front (map unvoted front) last a.action (λ p id k. live_unvoted p id front k) h.0,
  subst (λ (ys : List Proposal). Chained last ys (map unvoted xs)) (map_one_more front a) (chained_unvoted last (front ++ a ∷ []) xs h.1),
)

pub chained_voted : (last : LastIds) (front xs : List Proposal) → Chained last (map unvoted front) (map unvoted xs) → Chained last front xs
chained_voted last front [] h = tt
chained_voted last front (a ∷ xs) h = (
  follow_grows (map unvoted front) front last a.action (λ p id k. live_voted p id front k) h.0,
  chained_voted last (front ++ a ∷ []) xs (subst (λ (ys : List Proposal). Chained last ys (map unvoted xs)) (sym (map_one_more front a)) h.1),
)

-- new ones that each may follow
pub new_chained : (last : LastIds) (old more new : List Proposal) → AllByRecursion (λ (p : Proposal). may_follow old last p.action ≡ true) new → Chained last (old ++ more) new
new_chained last old more [] h = tt
new_chained last old more (a ∷ new) h = (
  follow_more old more last a.action h.0,
  subst (λ (xs : List Proposal). Chained last xs new) (sym (append_assoc old more (a ∷ []))) (new_chained last old (more ++ a ∷ []) new h.1),
)

-- ---- no proposal names itself or a later one

abbrev pub NoneLater : List Proposal → Type 0
NoneLater [] = Unit {0}
NoneLater (a ∷ xs) = AllByRecursion (λ (b : Proposal). is_parent a b ≡ false) (a ∷ xs) × NoneLater xs

-- they differ from what a names
pub later_filter : (t : Proposal → Bool) (xs : List Proposal) → NoneLater xs → NoneLater (filter t xs)
later_filter t [] h = tt
later_filter t (a ∷ xs) h =
    elim (t a) as (λ c. NoneLater (cond c (a ∷ filter t xs) (filter t xs))) [
      | true ↦ ((h.0.0, all_passing (λ (b : Proposal). is_parent a b ≡ false) t xs h.0.1), later_filter t xs h.1)
      | false ↦ later_filter t xs h.1
    ]

pub all_unvoted : (a : Proposal) (xs : List Proposal) → AllByRecursion (λ (b : Proposal). is_parent a b ≡ false) xs → AllByRecursion (λ (b : Proposal). is_parent (unvoted a) b ≡ false) (map unvoted xs)
all_unvoted a [] h = tt
all_unvoted a (x ∷ xs) h = (h.0, all_unvoted a xs h.1)

all_voted : (a : Proposal) (xs : List Proposal) → AllByRecursion (λ (b : Proposal). is_parent (unvoted a) b ≡ false) (map unvoted xs) → AllByRecursion (λ (b : Proposal). is_parent a b ≡ false) xs
all_voted a [] h = tt
all_voted a (x ∷ xs) h = (h.0, all_voted a xs h.1)

pub later_unvoted : (xs : List Proposal) → NoneLater xs → NoneLater (map unvoted xs)
later_unvoted [] h = tt
later_unvoted (a ∷ xs) h = (all_unvoted a (a ∷ xs) h.0, later_unvoted xs h.1)

pub later_voted : (xs : List Proposal) → NoneLater (map unvoted xs) → NoneLater xs
later_voted [] h = tt
later_voted (a ∷ xs) h = (all_voted a (a ∷ xs) h.0, later_voted xs h.1)

-- ---- ids of used transactions

abbrev pub IsUsed : List TxId → Option ActionId → Type 0
IsUsed used o = none_or (λ (id : ActionId). has_member txid_cmp used id.tx) o ≡ true

abbrev pub NamesUsed : List TxId → List Proposal → Type 0
NamesUsed used xs = AllByRecursion (λ (a : Proposal). IsUsed used (previous_of a.action)) xs

pub names_unvoted : (used : List TxId) (xs : List Proposal) → NamesUsed used xs → NamesUsed used (map unvoted xs)
names_unvoted used [] h = tt
names_unvoted used (a ∷ xs) h = (h.0, names_unvoted used xs h.1)

pub names_voted : (used : List TxId) (xs : List Proposal) → NamesUsed used (map unvoted xs) → NamesUsed used xs
names_voted used [] h = tt
names_voted used (a ∷ xs) h = (h.0, names_voted used xs h.1)

-- what names an id of a used transaction names none of a new one
not_new : (used : List TxId) (t : TxId) (id : ActionId) (n : ℕ) → has_member txid_cmp used id.tx ≡ true → has_member txid_cmp used t ≡ false → same_action id (record { tx = t; index = n }) ≡ false
not_new used t id n h f =
    elim (same_action id (record { tx = t; index = n })) as (λ c. same_action id (record { tx = t; index = n }) ≡ c → c ≡ false) [
      | true ↦ λ e.
          let one : id.tx ≡ t = ap (λ (x : ActionId). x.tx) (action_id_exact id (record { tx = t; index = n }) (is_equal _ e)) in
          let yes : has_member txid_cmp used t ≡ true = ap (λ (x : TxId). has_member txid_cmp used x) (sym one) ∙ h in
          absurd (false≢true (sym f ∙ yes))
      | false ↦ λ e. refl
    ] refl

holds_not_new : (used : List TxId) (t : TxId) (o : Option ActionId) (n : ℕ) → IsUsed used o → has_member txid_cmp used t ≡ false → holds same_action o (record { tx = t; index = n }) ≡ false
holds_not_new used t None n h f = refl
holds_not_new used t (Some id) n h f = not_new used t id n h f

and_false : (a b : Bool) → a ≡ false → (a && b) ≡ false
and_false true b e = absurd (false≢true (sym e))
and_false false b e = refl

-- no proposal that names used ones names a new one
pub none_new : (used : List TxId) (t : TxId) (a : Proposal) (last n : ℕ) (ps : List ProposalRecord) → IsUsed used (previous_of a.action) → has_member txid_cmp used t ≡ false
    → AllByRecursion (λ (b : Proposal). is_parent a b ≡ false) (map (λ (p : ℕ × ProposalRecord). made_proposal last t p.0 p.1) (enumerate_from n ps))
none_new used t a last n [] h f = tt
none_new used t a last n (p ∷ ps) h f =
    (and_false _ _ (holds_not_new used t (previous_of a.action) n h f), none_new used t a last (n + 1) ps h f)

pub later_append : (xs ys : List Proposal) → NoneLater xs → NoneLater ys → AllByRecursion (λ (a : Proposal). AllByRecursion (λ (b : Proposal). is_parent a b ≡ false) ys) xs → NoneLater (xs ++ ys)
later_append [] ys h k f = k
later_append (a ∷ xs) ys h k f = (all_append (λ (b : Proposal). is_parent a b ≡ false) (a ∷ xs) ys h.0 f.0, later_append xs ys h.1 k f.1)

-- the new ones
pub new_later : (used : List TxId) (t : TxId) (last n : ℕ) (ps : List ProposalRecord) → AllByRecursion (λ (p : ProposalRecord). IsUsed used (previous_of p.action)) ps → has_member txid_cmp used t ≡ false
    → NoneLater (map (λ (p : ℕ × ProposalRecord). made_proposal last t p.0 p.1) (enumerate_from n ps))
new_later used t last n [] h f = tt
new_later used t last n (p ∷ ps) h f = (none_new used t (made_proposal last t n p) last n (p ∷ ps) h.0 f, new_later used t last (n + 1) ps h.1 f)

-- ---- the boundary: what stays is chained

-- what follows a proposal that is before it
follows_parent : (front rest : List Proposal) (last : LastIds) (a b : Proposal) → HaveDistinctIds rest → ((q : Proposal) → StandsIn q front → StandsIn q rest) → StandsIn b front → is_parent a b ≡ true → may_follow front last a.action ≡ true
follows_parent front rest last a b d inside i h =
    let parts = and_parts (holds same_action (previous_of a.action) b.id) (same_option same_purpose (purpose_of a.action) (purpose_of b.action)) h in
    by_purpose (purpose_of a.action) (previous_of a.action) parts.1 parts.0
  where
    is_it : (id : ActionId) → same_action id b.id ≡ true → (q : Proposal) → StandsIn q front → same_action q.id id ≡ true → b ≡ q
    is_it id e q j k =
        let same : same_action q.id b.id ≡ true = (eq_by_cmp_equiv action_id_total).congr q.id id b.id k ∙ e in
        sym (unique rest q b d (inside q j) (inside b i) same)

    by_id : (p : Purpose) (o : Option ActionId) → holds same_purpose (purpose_of b.action) p ≡ true → holds same_action o b.id ≡ true → some_and (is_live_of front p) o ≡ true
    by_id p None same e = e
    by_id p (Some id) same e =
        found_some (λ (q : Proposal). same_action q.id id) (λ (q : Proposal). holds same_purpose (purpose_of q.action) p) front b i
        ((eq_by_cmp_equiv action_id_total).symm b.id id ∙ e)
        (λ q j k. subst (λ (z : Proposal). holds same_purpose (purpose_of z.action) p ≡ true) (is_it id e q j k) same)

    by_purpose : (o : Option Purpose) (previous : Option ActionId) → same_option same_purpose o (purpose_of b.action) ≡ true → holds same_action previous b.id ≡ true
        → none_or (λ p. is_last_enacted last p previous || some_and (is_live_of front p) previous) o ≡ true
    by_purpose None previous same e = refl
    by_purpose (Some p) previous same e = or_right (is_last_enacted last p previous) _ (by_id p previous same e)

follows_last : (front : List Proposal) (last : LastIds) (previous : Option ActionId) (o : Option Purpose) → some_and (λ p. same_option same_action previous (last_of last p)) o ≡ true
    → none_or (λ p. is_last_enacted last p previous || some_and (is_live_of front p) previous) o ≡ true
follows_last front last previous None h = refl
follows_last front last previous (Some p) h = or_left (is_last_enacted last p previous) _ h

no_purpose : (front : List Proposal) (last : LastIds) (previous : Option ActionId) (o : Option Purpose) → o ≡ None
    → none_or (λ p. is_last_enacted last p previous || some_and (is_live_of front p) previous) o ≡ true
no_purpose front last previous None e = refl
no_purpose front last previous (Some p) e = cc

-- what is in a list is before its part or in it
in_either : (xs ys : List Proposal) (b : Proposal) → StandsIn b (xs ++ ys) → StandsIn b xs ⊎ StandsIn b ys
in_either [] ys b h = inr h
in_either (x ∷ xs) ys b (inl e) = inl (inl e)
in_either (x ∷ xs) ys b (inr h) = elim (in_either xs ys b h) [ inl i ↦ inl (inr i) | inr i ↦ inr i ]

not_in : (a b : Proposal) (ys : List Proposal) → AllByRecursion (λ (c : Proposal). is_parent a c ≡ false) ys → StandsIn b ys → is_parent a b ≡ true → ⊥
not_in a b [] h i e = i
not_in a b (y ∷ ys) h (inl is) e = false≢true (sym h.0 ∙ subst (λ (z : Proposal). is_parent a z ≡ true) (sym is) e)
not_in a b (y ∷ ys) h (inr i) e = not_in a b ys h.1 i e

module _ (rest : List Proposal) (last : LastIds) (d : HaveDistinctIds rest) where
  abbrev stays : Proposal → Bool
  stays a = is_kept rest last a

  by_parent : (xs ys : List Proposal) (a b : Proposal) → xs ++ ys ≡ rest → AllByRecursion (λ (c : Proposal). is_parent a c ≡ false) ys → StandsIn b rest → stays b ≡ true → is_parent a b ≡ true
      → may_follow (filter stays xs) last a.action ≡ true
  by_parent xs ys a b e none i kept h =
      let before : StandsIn b xs = earlier (in_either xs ys b (subst (λ (zs : List Proposal). StandsIn b zs) (sym e) i)) in
      follows_parent (filter stays xs) rest last a b d inside (into_filter stays xs b before kept) h
    where
      earlier : StandsIn b xs ⊎ StandsIn b ys → StandsIn b xs
      earlier (inl j) = j
      earlier (inr j) = absurd (not_in a b ys none j h)

      left_in : (us vs : List Proposal) (q : Proposal) → StandsIn q us → StandsIn q (us ++ vs)
      left_in [] vs q j = absurd j
      left_in (u ∷ us) vs q (inl is) = inl is
      left_in (u ∷ us) vs q (inr j) = inr (left_in us vs q j)

      inside : (q : Proposal) → StandsIn q (filter stays xs) → StandsIn q rest
      inside q j = subst (λ (zs : List Proposal). StandsIn q zs) e (left_in xs ys q (from_filter stays xs q j).0)

  head_in : (b : Proposal) (chain : List Proposal) → IsChain rest last (b ∷ chain) → Contains rest b
  head_in b [] h = h.0
  head_in b (c ∷ chain) h = h.0

  by_kept : (xs ys : List Proposal) (a : Proposal) → xs ++ ys ≡ rest → AllByRecursion (λ (c : Proposal). is_parent a c ≡ false) ys → IsKept rest last a → may_follow (filter stays xs) last a.action ≡ true
  by_kept xs ys a e none (inl k) = no_purpose (filter stays xs) last (previous_of a.action) (purpose_of a.action) k
  by_kept xs ys a e none (inr ([], h)) = follows_last (filter stays xs) last (previous_of a.action) (purpose_of a.action) h.1
  by_kept xs ys a e none (inr (b ∷ chain, h)) =
      let there : Contains rest b = head_in b chain h.2 in
      by_parent xs ys a b e none (stands_in rest b there) ((kept_by_chains rest last b d there).1 (inr (chain, h.2))) h.1

  kept_chained : (xs ys : List Proposal) → xs ++ ys ≡ rest → NoneLater ys → Chained last (filter stays xs) (filter stays ys)
  kept_chained xs [] e none = tt
  kept_chained xs (a ∷ ys) e none =
      let next : (xs ++ a ∷ []) ++ ys ≡ rest = append_assoc xs (a ∷ []) ys ∙ e in
      let later : Chained last (filter stays (xs ++ a ∷ [])) (filter stays ys) = kept_chained (xs ++ a ∷ []) ys next none.1 in
      elim (stays a) as (λ c. stays a ≡ c → Chained last (filter stays xs) (cond c (a ∷ filter stays ys) (filter stays ys))) [
        | true ↦ λ s. (
          by_kept xs (a ∷ ys) a e none.0 ((kept_by_chains rest last a d (is_contained rest a (here xs ys a e))).0 s),
          subst (λ (zs : List Proposal). Chained last zs (filter stays ys)) (filter-append stays xs (a ∷ []) ∙ ap (λ (c : Bool). filter stays xs ++ cond c (a ∷ []) []) s) later,
        )
        | false ↦ λ s.
            subst (λ (zs : List Proposal). Chained last zs (filter stays ys))
            (filter-append stays xs (a ∷ []) ∙ ap (λ (c : Bool). filter stays xs ++ cond c (a ∷ []) []) s ∙ append-nil (filter stays xs)) later
      ] refl
    where
      here : (us vs : List Proposal) (q : Proposal) → us ++ q ∷ vs ≡ rest → StandsIn q rest
      here us vs q e = subst (λ (zs : List Proposal). StandsIn q zs) e (middle us vs q)
        where
          middle : (us vs : List Proposal) (q : Proposal) → StandsIn q (us ++ q ∷ vs)
          middle [] vs q = inl refl
          middle (u ∷ us) vs q = inr (middle us vs q)

  pub stay_chained : NoneLater rest → Chained last [] (filter stays rest)
  stay_chained none = kept_chained [] rest refl none
