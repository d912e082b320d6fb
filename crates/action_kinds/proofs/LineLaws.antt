-- Lines are read as the actions that they are printed from, and as no others.
use Rattle.std.proofs.Common.{◌≡◌, ◌≢◌, ℕ, zero, suc, ◌<◌, ◌&&◌, true, nat_lt, if◌then◌else◌, [], ◌∷◌, ◌++◌, Option, Some, None, Result, Ok, Err, IfSome, codes, get_or, length, option_and_then, refl, ap, sym, ◌∙◌, subst, arith, append-nil}
use Rattle.std.proofs.lemmas.Bool.{and_from, and_parts, ltb-true}
use Rattle.std.proofs.lemmas.Option.{none-some, same_Some}
use Rattle.std.specs.List.{list_all}
use Rattle.std.specs.Result.{result_ok}
use Rattle.std.specs.Str.{is_utf8}
use Rattle.serde_json.specs.Data.{Data}
use Rattle.serde_json.specs.Read.{read}
use Rattle.gov_ids.specs.declared.ActionId.{ActionId}
use Rattle.gov_ids.specs.Spelling.{◌>>=◌, action_id_of, action_id_text}
use Rattle.gov_actions.specs.declared.action.Action.{Action}
use Rattle.json_fields.specs.declared.fault.FieldFault.{FieldFault}
use Rattle.action_read.specs.Actions.{action_in}
use Rattle.record_read.proofs.Gives.{Gives}
use Rattle.formed_lines.proofs.Actions.{action_in-formed}
use Rattle.text_forms.specs.Actions.{is_action}
use Rattle.text_forms.specs.ActionText.{action_text}
use Rattle.text_forms.specs.Ids.{is_action_id}
use Rattle.text_forms.specs.Lines.{joined}
use Rattle.text_model.specs.Words.{Text}
use Rattle.line_kinds.specs.Kinds.{IsLineOf, ReadsLine}
use Rattle.book_kinds.specs.Pools.{halves}
use Rattle.book_kinds.proofs.Ids.{action_id_field}
use Rattle.book_kinds.proofs.Shares.{halves_cut}
use Rattle.action_kinds.specs.Lines.{action_line, action_of, action_of_json, is_action_line, item_of, parts_of}
use Rattle.action_kinds.proofs.Actions.{action_back, low_utf8}
use Rattle.action_kinds.proofs.Quiet.{action_id_quiet, are_quiet}
use Rattle.action_kinds.proofs.Trees.{is_low, is_quiet, low_both, quiet_low}

-- ---- what is printed reads

-- quiet bytes are no spaces
no_spaces : (w : Text) → are_quiet w ≡ true → (i : ℕ) → i < length w → get_or w i 0 ≢ 32
no_spaces [] p i less = absurd (omega (arith, less))
no_spaces (b ∷ bs) p zero less =
    let low : 34 < b = ltb-true 34 b (and_parts (nat_lt 34 b) (nat_lt b 127) (and_parts (nat_lt 34 b && nat_lt b 127) _ (and_parts (is_quiet b) (are_quiet bs) p).0).0).0 in
    λ e. omega (arith, low, e)
no_spaces (b ∷ bs) p (suc i) less = no_spaces bs (and_parts (is_quiet b) (are_quiet bs) p).1 i (omega (arith, less))

-- the line of a quiet id and of a text of ASCII
parts_back : (id json : Text) → are_quiet id ≡ true → list_all is_low json ≡ true → parts_of (codes "action" ++ 32 ∷ (id ++ 32 ∷ json)) ≡ Some (id, json)
parts_back id json quiet low =
    let text : is_utf8 (codes "action" ++ 32 ∷ (id ++ 32 ∷ json)) ≡ true = low_utf8 (codes "action" ++ 32 ∷ (id ++ 32 ∷ json)) (low_both (codes "action ") (id ++ 32 ∷ json) refl (low_both id (32 ∷ json) (quiet_low id quiet) low)) in
    let second : halves 32 (id ++ 32 ∷ json) ≡ Some (id, json) = halves_cut 32 id json (no_spaces id quiet) in
    rw (text, second) refl

line_is : (x : ActionId × Action) → joined (action_line x) ≡ codes "action" ++ 32 ∷ (action_id_text x.0 ++ 32 ∷ action_text x.1)
line_is x = ap (λ (t : Text). codes "action" ++ 32 ∷ (action_id_text x.0 ++ 32 ∷ t)) (append-nil (action_text x.1))

item_back : (x : ActionId × Action) → is_action_line x ≡ true → item_of (joined (action_line x)) ≡ Some x
item_back x p =
    let both = and_parts (is_action_id x.0) (is_action x.1) p in
    let back = action_back x.1 both.1 in
    let parts : parts_of (joined (action_line x)) ≡ Some (action_id_text x.0, action_text x.1) = ap parts_of (line_is x) ∙ parts_back (action_id_text x.0) (action_text x.1) (action_id_quiet x.0 both.0) back.1 in
    rw (parts, action_id_field.back x.0 both.0, back.0) refl

-- ---- what is read has the form

action_formed_by : (r : Result Action FieldFault) → Gives (λ a. is_action a ≡ true) r → IfSome (result_ok r) (λ a. is_action a ≡ true)
action_formed_by (Ok a) g = g.holds
action_formed_by (Err e) g = tt

json_formed : (o : Option Data) → IfSome (option_and_then action_of_json o) (λ a. is_action a ≡ true)
json_formed None = tt
json_formed (Some d) = action_formed_by (action_in d) (action_in-formed d)

action_formed : (id : ActionId) → is_action_id id ≡ true → (o : Option Action) → IfSome o (λ a. is_action a ≡ true) → IfSome (o >>= λ a. Some (id, a)) (λ x. is_action_line x ≡ true)
action_formed id p None h = tt
action_formed id p (Some a) h = and_from (is_action_id id) (is_action a) p h

id_formed : (json : Text) (o : Option ActionId) → IfSome o (λ id. is_action_id id ≡ true) → IfSome (o >>= λ id. action_of json >>= λ a. Some (id, a)) (λ x. is_action_line x ≡ true)
id_formed json None h = tt
id_formed json (Some id) h = action_formed id h (action_of json) (json_formed (if is_utf8 json then read json else None))

item_formed_by : (o : Option (Text × Text)) → IfSome (o >>= λ parts. action_id_of parts.0 >>= λ id. action_of parts.1 >>= λ a. Some (id, a)) (λ x. is_action_line x ≡ true)
item_formed_by None = tt
item_formed_by (Some parts) = id_formed parts.1 (action_id_of parts.0) (action_id_field.formed parts.0)

item_formed : (line : Text) (x : ActionId × Action) → item_of line ≡ Some x → is_action_line x ≡ true
item_formed line x e = subst (λ (o : Option (ActionId × Action)). IfSome o (λ y. is_action_line y ≡ true)) e (item_formed_by (parts_of line))

-- ---- lines

line_back : {line : Text} {x : ActionId × Action} → IsLineOf is_action_line action_line line x → item_of line ≡ Some x
line_back {line} {x} is = ap item_of is.text ∙ item_back x is.form

-- a line that reads as none
pub reads_none : {line : Text} → item_of line ≡ None → ReadsLine is_action_line action_line line None
reads_none {line} none = record {
  some = λ x e. absurd (none-some x e);
  all = λ x is. sym none ∙ line_back is;
}

-- an action that was read, printed as the line
pub reads_some : {line : Text} (x : ActionId × Action) → item_of line ≡ Some x → joined (action_line x) ≡ line → ReadsLine is_action_line action_line line (Some x)
reads_some {line} x e same = record {
  some = λ y f. subst (λ (z : ActionId × Action). IsLineOf is_action_line action_line line z) (same_Some x y f) (record { form = item_formed line x e; text = sym same });
  all = λ y is. sym e ∙ line_back is;
}

-- an action that was read, printed otherwise
pub reads_other : {line : Text} (x : ActionId × Action) → item_of line ≡ Some x → joined (action_line x) ≢ line → ReadsLine is_action_line action_line line None
reads_other {line} x e other = record {
  some = λ y f. absurd (none-some y f);
  all = λ y is.
      let same : x ≡ y = same_Some x y (sym e ∙ line_back is) in
      absurd (other (ap (λ (z : ActionId × Action). joined (action_line z)) same ∙ sym is.text));
}
