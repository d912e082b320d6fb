use Rattle.std.proofs.Common.{List, sym, subst}
use Rattle.std.specs.Map.{values_of}
use Rattle.gov_ids.specs.declared.ActionId.{ActionId}
use Rattle.gov_actions.specs.declared.action.Proposal.{Proposal}
use Rattle.proposal_store.specs.Store.{IsStore}
use Rattle.proposal_store.specs.Voted.{AreNoted}
use Rattle.proposal_store.proofs.Entries.{IsStore-none}
use Rattle.proposal_store.proofs.Noting.{AreNoted-none}
use Rattle.proposal_store.proofs.store.ProposalStore.new.Goals as goal

pub invariant_of-result : goal.invariant_of-result
invariant_of-result c =
    subst (λ (es : List (ActionId × Proposal)). IsStore es c.new.result c.new-3.result 0 × AreNoted c.new-2.result (values_of es)) (sym c.with_hasher.ensures.empty)
    (IsStore-none c.new.result c.new-3.result c.new.ensures c.new-3.ensures, AreNoted-none c.new-2.result c.new-2.ensures)
