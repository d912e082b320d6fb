use Rattle.std.proofs.Common.{ℕ, rules, tests}
use Rattle.std.proofs.lemmas.Iterator.{YieldsList-from_slice}
use Rattle.std.proofs.lemmas.Iterator.Search.{any_from_yields_List}
use Rattle.gov_ids.specs.declared.Credential.{Credential}
use Rattle.gov_ids.specs.Orders.{credential_cmp}
use Rattle.ledger_books.specs.of_gov_model.Hot.{is_hot_key}
use Rattle.maps.specs.Maps.{value_at, with_values}
use Rattle.maps.specs.Words.{some_and}
use Rattle.draft_changes.proofs.hot_changes.HotChanges.is_of_member.Goals as goal

pub returns : goal.returns
returns c =
    let after = with_values credential_cmp c.args.self.now.entries c.args.book.now in
    any_from_yields_List (λ (m : Credential × ℕ). some_and (is_hot_key c.args.hot.now) (value_at credential_cmp after m.0)) _ _ _ c.any.ensures.ran (YieldsList-from_slice c.args.members.now cc) (λ x b q k. search (rules, tests))
