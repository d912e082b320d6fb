-- The slot is read by nothing that a ledger keeps true.
use Rattle.std.proofs.Common.{ℕ}
use Rattle.ledger_model.specs.Ledger.{Ledger}
use Rattle.live_ledger.specs.Kept.{IsLiveLedger}

-- so it keeps it at any slot
pub kept_at : (slot : ℕ) (l : Ledger) → IsLiveLedger l → IsLiveLedger (record l { slot = slot })
kept_at slot l h = record {
  sound = record { outputs = h.sound.outputs; used = h.sound.used; accounts = h.sound.accounts; pools = h.sound.pools; dreps = h.sound.dreps; hot = h.sound.hot; ids_used = h.sound.ids_used };
  balanced = h.balanced;
  within = h.within;
  early = h.early;
  timely = record { awake = h.timely.awake; at_most = h.timely.at_most; expiries = h.timely.expiries };
  active = h.active;
  proposed = h.proposed;
  voted = h.voted;
  seated = h.seated;
}
