use Rattle.std.proofs.Common.{List, length, ap, arith, subst, sym, ◌∙◌}
use Rattle.book_records.specs.declared.Entry.{Entry}
use Rattle.drep_pulser.specs.Facts.{held_by}
use Rattle.gov_ids.specs.declared.Credential.{Credential}
use Rattle.gov_ids.specs.Orders.{credential_cmp}
use Rattle.stake_book.specs.Stakes.{Stakes, accounts_of}
use Rattle.state_lists.specs.declared.lists.BookLists.{BookLists}
use Rattle.view_map.specs.View.{frozen_of}
use Rattle.resumed_ledger.specs.Parts.{AreSoundBooks}
use Rattle.resumed_ledger.proofs.books.books_of.Goals as goal

pub stake_of-requires : goal.stake_of-requires
stake_of-requires c =
    let s = subst AreSoundBooks c.into_parts-outputs.ensures c.requires.sound in
    record { accounts = s.accounts; outputs = s.outputs; used = s.used; entries = c.requires.entries; room = s.room }

pub held_of-requires : goal.held_of-requires
held_of-requires c =
    let entries = c.in_ok-stake.ensures.frozen in
    record {
      some = c.requires.some;
      few = c.requires.few;
      room = omega (arith, c.requires.frozen, ap held_by entries);
      counted = omega (arith, c.requires.counted, ap (λ (es : List (Credential × Entry)). length es) entries);
    }

pub keyed_of-requires : goal.keyed_of-requires
keyed_of-requires c =
    let s = subst AreSoundBooks c.into_parts-outputs.ensures c.requires.sound in
    record { pools = s.pools; dreps = s.dreps; hot = s.hot }

pub proposals_of-requires : goal.proposals_of-requires
proposals_of-requires c =
    let s = subst AreSoundBooks c.into_parts-outputs.ensures c.requires.sound in
    record { ids = s.ids; votes = s.votes; fits = s.deposits }

pub returns-clause-outputs : goal.returns-clause-outputs
returns-clause-outputs c = ap (λ (s : Stakes). s.outputs) c.in_ok-held.ensures.stake ∙ c.in_ok-stake.ensures.outputs ∙ (λ i. record { outputs = (sym c.into_parts-outputs.ensures i).outputs; used = (sym c.into_parts-outputs.ensures i).used })

pub returns-clause-accounts : goal.returns-clause-accounts
returns-clause-accounts c = ap accounts_of c.in_ok-held.ensures.stake ∙ c.in_ok-stake.ensures.accounts ∙ ap (λ (b : BookLists). b.accounts) (sym c.into_parts-outputs.ensures)

pub returns-clause-pools : goal.returns-clause-pools
returns-clause-pools c = c.in_ok-keyed.ensures.pools ∙ ap (λ (b : BookLists). b.pools) (sym c.into_parts-outputs.ensures)

pub returns-clause-dreps : goal.returns-clause-dreps
returns-clause-dreps c = c.in_ok-keyed.ensures.dreps ∙ (λ i. record { dreps = (sym c.into_parts-outputs.ensures i).dreps; dormant = c.args.dormant })

pub returns-clause-hot : goal.returns-clause-hot
returns-clause-hot c = c.in_ok-keyed.ensures.hot ∙ ap (λ (b : BookLists). b.hot) (sym c.into_parts-outputs.ensures)

pub returns-clause-proposals : goal.returns-clause-proposals
returns-clause-proposals c = c.in_ok-proposals.ensures ∙ ap (λ (b : BookLists). b.proposals) (sym c.into_parts-outputs.ensures)

pub returns-clause-entries : goal.returns-clause-entries
returns-clause-entries c = ap (λ (s : Stakes). frozen_of credential_cmp s.accounts) c.in_ok-held.ensures.stake ∙ c.in_ok-stake.ensures.frozen

pub returns-clause-counts : goal.returns-clause-counts
returns-clause-counts c = λ f h.
    c.in_ok-held.ensures.counts f (record { entries = h.entries ∙ sym c.in_ok-stake.ensures.frozen; dreps = h.dreps; proposals = h.proposals })
