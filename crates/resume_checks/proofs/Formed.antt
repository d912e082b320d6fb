-- A snapshot of lists in order has the form, if each of its items has it.
use Rattle.std.proofs.Common.{◌≡◌, Bool, true, ◌&&◌, not, sym, ◌∙◌}
use Rattle.std.specs.List.{list_all}
use Rattle.std.proofs.lemmas.Bool.{and_parts}
use Rattle.gov_ids.specs.Orders.{action_id_cmp, credential_cmp, pool_cmp}
use Rattle.gov_model.specs.Ratified.{ids_of}
use Rattle.gov_model.specs.Snapshot.{Snapshot}
use Rattle.maps.proofs.Joined.{and_true}
use Rattle.maps.specs.Maps.{has_key}
use Rattle.maps.specs.Words.{repeats}
use Rattle.text_forms.specs.Actions.{is_proposal}
use Rattle.text_forms.specs.Books as books
use Rattle.text_forms.specs.Ids.{is_map}
use Rattle.text_forms.specs.Snapshots.{is_snapshot}
use Rattle.text_forms.specs.States.{is_state}
use Rattle.resume_checks.specs.Forms.{are_accounts_of, have_frozen_form}

-- the order alone, where all the rest is true
all_true : (e d m a k h own : Bool) → (e && d && m && (a && k) && h && own) ≡ (e && true && d && true && (m && true) && (a && true && k) && h && true && (true && own) && true)
all_true e d m a k h own = simp and_true

by_parts : (e d m a k h own fe fd fm fa fh fp st : Bool) → fe ≡ true → fd ≡ true → fm ≡ true → fa ≡ true → fh ≡ true → fp ≡ true → st ≡ true
    → (e && d && m && (a && k) && h && own) ≡ (e && fe && d && fd && (m && fm) && (a && fa && k) && h && fh && (fp && own) && st)
by_parts e d m a k h own fe fd fm fa fh fp st he hd hm ha hh hp hs =
    all_true e d m a k h own ∙ sym (λ i. e && he i && d && hd i && (m && hm i) && (a && ha i && k) && h && hh i && (hp i && own) && hs i)

-- the form of a snapshot is the order of its lists and that its proposals have ids of their own
pub formed_is : (f : Snapshot) → have_frozen_form f ≡ true
    → (is_map credential_cmp f.entries && is_map credential_cmp f.dreps && is_map pool_cmp f.mark && are_accounts_of f.mark f.pool_accounts && is_map credential_cmp f.hot && not (repeats action_id_cmp (ids_of f.proposals))) ≡ is_snapshot f
formed_is f h =
    let six = and_parts _ (is_state f.start) h in
    let five = and_parts _ (list_all is_proposal f.proposals) six.0 in
    let four = and_parts _ (list_all books.is_hot f.hot) five.0 in
    let three = and_parts _ (list_all books.is_pool_account f.pool_accounts) four.0 in
    let two = and_parts _ (list_all books.is_stake f.mark) three.0 in
    let one = and_parts (list_all books.is_entry f.entries) (list_all books.is_frozen_drep f.dreps) two.0 in
    by_parts (is_map credential_cmp f.entries) (is_map credential_cmp f.dreps) (is_map pool_cmp f.mark) (is_map pool_cmp f.pool_accounts) (list_all (λ p. has_key pool_cmp f.mark p.0) f.pool_accounts)
    (is_map credential_cmp f.hot) (not (repeats action_id_cmp (ids_of f.proposals)))
    (list_all books.is_entry f.entries) (list_all books.is_frozen_drep f.dreps) (list_all books.is_stake f.mark) (list_all books.is_pool_account f.pool_accounts) (list_all books.is_hot f.hot) (list_all is_proposal f.proposals) (is_state f.start)
    one.0 one.1 two.1 three.1 four.1 five.1 six.1
