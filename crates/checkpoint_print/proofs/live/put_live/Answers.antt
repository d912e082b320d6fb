use Rattle.std.proofs.Common.{List, map, ap, ◌∙◌}
use Rattle.checkpoint_model.specs.Checkpoint.{used_words}
use Rattle.gov_actions.specs.declared.action.Proposal.{Proposal}
use Rattle.gov_ids.specs.declared.TxId.{TxId}
use Rattle.report.proofs.Puts.{put_first_as, put_second_as}
use Rattle.text_forms.specs.Snapshots.{action_words}
use Rattle.utxo_set.specs.Utxos.{Utxos}
use Rattle.checkpoint_print.proofs.live.put_live.Goals as goal

pub returns-in_err-put_used : goal.returns-in_err-put_used
returns-in_err-put_used g c =
    put_first_as _ (map used_words c.args.s.now.ledger.used)
    (map action_words c.args.s.now.ledger.proposals)
    (ap (λ (ids : List TxId). map used_words ids) (ap (λ (u : Utxos). u.used) c.outputs.ensures.value ∙ c.stake.ensures.used))
    c.in_err-put_used.ensures c.from_residual.ensures.1

pub returns : goal.returns
returns g c =
    put_second_as _ (map used_words c.args.s.now.ledger.used) _
    (map action_words c.args.s.now.ledger.proposals)
    (ap (λ (ids : List TxId). map used_words ids) (ap (λ (u : Utxos). u.used) c.outputs.ensures.value ∙ c.stake.ensures.used))
    (ap (λ (ps : List Proposal). map action_words ps) c.proposals.ensures)
    c.in_ok-put_used.ensures c.put_actions.ensures
