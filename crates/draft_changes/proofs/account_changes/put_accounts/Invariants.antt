use Rattle.draft_changes.proofs.Lowering.{IsLaying}
use Rattle.draft_changes.proofs.account_changes.put_accounts.Given as goal

abbrev pub invariant-loop-credential : goal.invariant-loop-credential
invariant-loop-credential l = IsLaying l.left.entries l.fn.changed.entries l.credential-iterator l.fn.stake l.stake
