-- The laws of the line of a proposal.
use Rattle.std.proofs.Common.{◌≡◌, ℕ, true, ◌&&◌, List, Option, Some, None, IfSome, refl}
use Rattle.std.proofs.lemmas.Bool.{and_from, and_parts}
use Rattle.maps.specs.Words.{none_or}
use Rattle.gov_ids.specs.Spelling.{account_of, action_id_of, action_id_text}
use Rattle.gov_actions.specs.declared.action.ActionKind.{ActionKind}
use Rattle.gov_actions.specs.declared.action.ActionKind.TheVariants as kind
use Rattle.text_forms.specs.Ids.{is_account_id, is_action_id}
use Rattle.text_model.specs.ActionWords.{kind_text}
use Rattle.text_model.specs.Words.{Text, or_none}
use Rattle.tx_records.specs.Limits.{is_u64}
use Rattle.line_kinds.specs.Cuts.{are_plain, is_plain, word_at}
use Rattle.line_kinds.specs.Numbers.{number_of}
use Rattle.book_kinds.specs.Words.{or_none_of}
use Rattle.book_kinds.proofs.Fields.{IsField, number_field, or_none_field, then_formed}
use Rattle.book_kinds.proofs.Ids.{account_field, action_id_field}
use Rattle.state_kinds.specs.declared.proposals.ProposalRow.{ProposalRow}
use Rattle.state_kinds.specs.Proposals.{is_proposal_line, kind_of_text, proposal_in, proposal_line}

kind_plain : (k : ActionKind) → is_plain (kind_text k) ≡ true
kind_plain kind.NoConfidence = refl
kind_plain kind.UpdateCommittee = refl
kind_plain kind.NewConstitution = refl
kind_plain kind.HardForkInitiation = refl
kind_plain kind.ParameterChange = refl
kind_plain kind.TreasuryWithdrawals = refl
kind_plain kind.Info = refl

kind_back : (k : ActionKind) → kind_of_text (kind_text k) ≡ Some k
kind_back kind.NoConfidence = refl
kind_back kind.UpdateCommittee = refl
kind_back kind.NewConstitution = refl
kind_back kind.HardForkInitiation = refl
kind_back kind.ParameterChange = refl
kind_back kind.TreasuryWithdrawals = refl
kind_back kind.Info = refl

any_kind : (o : Option ActionKind) → IfSome o (λ k. true ≡ true)
any_kind None = tt
any_kind (Some k) = refl

id_or_none : IsField (none_or is_action_id) (or_none action_id_text) (or_none_of action_id_of)
id_or_none = or_none_field action_id_field refl

row_parts : (r : ProposalRow) → is_proposal_line r ≡ true → (is_action_id r.id ≡ true) × (is_u64 r.deposit ≡ true) × (is_account_id r.account ≡ true) × (is_u64 r.expires_after ≡ true) × (none_or is_action_id r.previous ≡ true)
row_parts r p =
    let five = and_parts (is_action_id r.id && is_u64 r.deposit && is_account_id r.account && is_u64 r.expires_after) (none_or is_action_id r.previous) p in
    let four = and_parts (is_action_id r.id && is_u64 r.deposit && is_account_id r.account) (is_u64 r.expires_after) five.0 in
    let three = and_parts (is_action_id r.id && is_u64 r.deposit) (is_account_id r.account) four.0 in
    let two = and_parts (is_action_id r.id) (is_u64 r.deposit) three.0 in
    (two.0, two.1, three.1, four.1, five.1)

abbrev is_row : ProposalRow → Type 0
is_row r = is_proposal_line r ≡ true

abbrev is_num : ℕ → Type 0
is_num n = is_u64 n ≡ true

pub proposal_formed : (ws : List Text) → IfSome (proposal_in ws) is_row
proposal_formed ws =
    then_formed (λ a. is_action_id a ≡ true) is_row (action_id_of (word_at 1 ws)) _ (action_id_field.formed (word_at 1 ws)) (λ a p.
    then_formed (λ k. true ≡ true) is_row (kind_of_text (word_at 2 ws)) _ (any_kind (kind_of_text (word_at 2 ws))) (λ k u.
    then_formed is_num is_row (number_of (word_at 4 ws)) _ (number_field.formed (word_at 4 ws)) (λ d q.
    then_formed (λ x. is_account_id x ≡ true) is_row (account_of (word_at 6 ws)) _ (account_field.formed (word_at 6 ws)) (λ x r.
    then_formed is_num is_row (number_of (word_at 8 ws)) _ (number_field.formed (word_at 8 ws)) (λ e s.
    then_formed (λ o. none_or is_action_id o ≡ true) is_row (or_none_of action_id_of (word_at 10 ws)) _ (id_or_none.formed (word_at 10 ws)) (λ o t.
    and_from (is_action_id a && is_u64 d && is_account_id x && is_u64 e) (none_or is_action_id o)
    (and_from (is_action_id a && is_u64 d && is_account_id x) (is_u64 e)
    (and_from (is_action_id a && is_u64 d) (is_account_id x) (and_from (is_action_id a) (is_u64 d) p q) r) s) t))))))

pub proposal_plain : (r : ProposalRow) → is_proposal_line r ≡ true → are_plain (proposal_line r) ≡ true
proposal_plain r p =
    let is = row_parts r p in
    rw (action_id_field.plain r.id is.0, kind_plain r.kind, number_field.plain r.deposit is.1, account_field.plain r.account is.2, number_field.plain r.expires_after is.3, id_or_none.plain r.previous is.4) refl

pub proposal_back : (r : ProposalRow) → is_proposal_line r ≡ true → proposal_in (proposal_line r) ≡ Some r
proposal_back r p =
    let is = row_parts r p in
    rw (action_id_field.back r.id is.0, kind_back r.kind, number_field.back r.deposit is.1, account_field.back r.account is.2, number_field.back r.expires_after is.3, id_or_none.back r.previous is.4) refl
