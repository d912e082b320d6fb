use Rattle.std.proofs.Common.{List, ap, subst, sym, ◌∙◌}
use Rattle.std.proofs.lemmas.List.{drop_all}
use Rattle.gov_ids.specs.declared.Credential.{Credential}
use Rattle.gov_ids.specs.Orders.{credential_cmp}
use Rattle.maps.proofs.Kept.{IsMap-without_key}
use Rattle.maps.proofs.Several.{without_keys_none}
use Rattle.maps.specs.Maps.{IsMap, without_keys}
use Rattle.stake_book.specs.Stakes.{Stakes}
use Rattle.resumed_books.proofs.Noted.{none_next}
use Rattle.resumed_books.specs.Noted.{with_frozen}
use Rattle.resumed_books.proofs.frozen.note_none.Goals as goal

pub loop-credential-preserved : goal.loop-credential-preserved
loop-credential-preserved c =
    let items = c.args.credentials.now in
    let i = c.loop-credential.credential-index in
    let old = c.loop-credential.stake in
    let h = c.loop-credential.invariant in
    let put = c.in_ok-note_first.ensures.ok in
    record {
      in_order = subst (λ (s : Stakes). IsMap credential_cmp s.accounts.frozen) (sym put) (IsMap-without_key credential_cmp _ old.accounts.frozen h.in_order);
      rest = none_next items i _ old c.note_first.new.self c.loop-credential-test.true h.in_order put ∙ h.rest;
    }

pub returns : goal.returns
returns c =
    let s = c.loop-credential.stake in
    let none = drop_all c.loop-credential.credential-index c.args.credentials.now c.loop-credential-test.false in
    sym (ap (λ (es : List _). with_frozen es s) (ap (λ (cs : List Credential). without_keys credential_cmp cs s.accounts.frozen) none ∙ without_keys_none credential_cmp s.accounts.frozen)) ∙ c.loop-credential.invariant.rest
