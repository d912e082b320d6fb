-- The laws of the lines of votes, and of what cold keys authorized.
use Rattle.std.proofs.Common.{◌≡◌, Bool, true, false, List, Option, Some, None, IfSome, bytes_eq, codes, option_map, if◌then◌else◌, refl}
use Rattle.std.proofs.lemmas.Bool.{and_from, and_parts}
use Rattle.gov_ids.specs.declared.ActionId.{ActionId}
use Rattle.gov_ids.specs.declared.Credential.{Credential}
use Rattle.gov_ids.specs.declared.Voter.{Voter}
use Rattle.gov_ids.specs.Spelling.{action_id_of, credential_of, voter_of}
use Rattle.gov_actions.specs.declared.action.Vote.{Vote}
use Rattle.gov_actions.specs.declared.action.Vote.TheVariants.{Yes, No, Abstain}
use Rattle.gov_actions.specs.declared.state.HotState.{HotState}
use Rattle.gov_actions.specs.declared.state.HotState.TheVariants.{Hot, Resigned}
use Rattle.text_forms.specs.Books.{is_hot, is_hot_state}
use Rattle.text_forms.specs.Ids.{is_action_id, is_credential, is_voter}
use Rattle.text_model.specs.ActionWords.{vote_text}
use Rattle.text_model.specs.StateLines.{hot_text, hot_words}
use Rattle.text_model.specs.Words.{Text}
use Rattle.line_kinds.specs.Cuts.{are_plain, is_plain, word_at}
use Rattle.book_kinds.specs.Books.{hot_in, is_vote_line, vote_in, vote_line}
use Rattle.book_kinds.specs.Words.{hot_state_of, vote_of}
use Rattle.book_kinds.proofs.Fields.{IsField, not_word, then_formed}
use Rattle.book_kinds.proofs.Ids.{action_id_field, credential_field, voter_field}

-- ---- what cold keys authorized

state_plain : (h : HotState) → is_hot_state h ≡ true → is_plain (hot_text (Some h)) ≡ true
state_plain (Hot key) p = credential_field.plain key p
state_plain Resigned p = refl

state_formed : (o : Option Credential) (is : Bool) → IfSome o (λ c. is_credential c ≡ true) → IfSome (if is then Some Resigned else option_map Hot o) (λ h. is_hot_state h ≡ true)
state_formed o true p = refl
state_formed None false p = tt
state_formed (Some c) false p = p

state_back : (h : HotState) → is_hot_state h ≡ true → hot_state_of (hot_text (Some h)) ≡ Some h
state_back (Hot key) p = rw (not_word credential_field (codes "resigned") refl key p, credential_field.back key p) refl
state_back Resigned p = refl

-- what a cold key authorized
pub hot_state_field : IsField is_hot_state (λ h. hot_text (Some h)) hot_state_of
hot_state_field = record {
  plain = state_plain;
  formed = λ t. state_formed (credential_of t) (bytes_eq t (codes "resigned")) (credential_field.formed t);
  back = state_back;
}

pub hot_formed : (ws : List Text) → IfSome (hot_in ws) (λ x. is_hot x ≡ true)
hot_formed ws =
    then_formed (λ c. is_credential c ≡ true) (λ x. is_hot x ≡ true) (credential_of (word_at 1 ws)) _ (credential_field.formed (word_at 1 ws)) (λ c p.
    then_formed (λ h. is_hot_state h ≡ true) (λ x. is_hot x ≡ true) (hot_state_of (word_at 2 ws)) _ (hot_state_field.formed (word_at 2 ws)) (λ h q.
    and_from (is_credential c) (is_hot_state h) p q))

pub hot_plain : (x : Credential × HotState) → is_hot x ≡ true → are_plain (hot_words x) ≡ true
hot_plain (c, h) p =
    let is = and_parts (is_credential c) (is_hot_state h) p in
    rw (credential_field.plain c is.0, hot_state_field.plain h is.1) refl

pub hot_back : (x : Credential × HotState) → is_hot x ≡ true → hot_in (hot_words x) ≡ Some x
hot_back (c, h) p =
    let is = and_parts (is_credential c) (is_hot_state h) p in
    rw (credential_field.back c is.0, hot_state_field.back h is.1) refl

-- ---- votes

cast_plain : (v : Vote) → is_plain (vote_text v) ≡ true
cast_plain Yes = refl
cast_plain No = refl
cast_plain Abstain = refl

cast_back : (v : Vote) → vote_of (vote_text v) ≡ Some v
cast_back Yes = refl
cast_back No = refl
cast_back Abstain = refl

-- a value that is there or not
any_formed : {A : Type 0} (o : Option A) → IfSome o (λ x. true ≡ true)
any_formed None = tt
any_formed (Some x) = refl

pub vote_formed : (ws : List Text) → IfSome (vote_in ws) (λ x. is_vote_line x ≡ true)
vote_formed ws =
    then_formed (λ a. is_action_id a ≡ true) (λ x. is_vote_line x ≡ true) (action_id_of (word_at 1 ws)) _ (action_id_field.formed (word_at 1 ws)) (λ a p.
    then_formed (λ v. is_voter v ≡ true) (λ x. is_vote_line x ≡ true) (voter_of (word_at 2 ws)) _ (voter_field.formed (word_at 2 ws)) (λ v q.
    then_formed (λ c. true ≡ true) (λ x. is_vote_line x ≡ true) (vote_of (word_at 3 ws)) _ (any_formed (vote_of (word_at 3 ws))) (λ c r.
    and_from (is_action_id a) (is_voter v) p q)))

pub vote_plain : (x : ActionId × (Voter × Vote)) → is_vote_line x ≡ true → are_plain (vote_line x) ≡ true
vote_plain (a, (v, c)) p =
    let is = and_parts (is_action_id a) (is_voter v) p in
    rw (action_id_field.plain a is.0, voter_field.plain v is.1, cast_plain c) refl

pub vote_back : (x : ActionId × (Voter × Vote)) → is_vote_line x ≡ true → vote_in (vote_line x) ≡ Some x
vote_back (a, (v, c)) p =
    let is = and_parts (is_action_id a) (is_voter v) p in
    rw (action_id_field.back a is.0, voter_field.back v is.1, cast_back c) refl
