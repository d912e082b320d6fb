-- What the lines of a group say, one after another. (Own)
use Rattle.std.specs.Prelude.{ℕ, List, Option}
use Rattle.coin_frac.specs.Fraction.{Fraction}
use Rattle.gov_ids.specs.declared.Account.{Account}
use Rattle.gov_ids.specs.declared.Credential.{Credential}
use Rattle.gov_ids.specs.declared.PoolId.{PoolId}
use Rattle.book_records.specs.declared.Entry.{Entry}
use Rattle.gov_actions.specs.declared.state.HotState.{HotState}
use Rattle.gov_actions.specs.declared.state.LastIds.{LastIds}
use Rattle.certificate_lists.specs.declared.rows.GovernedRows.{GovernedRows}
use Rattle.pparams.specs.declared.Params.{Params}
use Rattle.certificate_lists.specs.declared.rows.SnapshotRows.{SnapshotRows}
use Rattle.certificate_lists.specs.declared.rows.VoterRows.{VoterRows}

-- how the epoch was governed
abbrev pub governed_items : GovernedRows → (ℕ × (ℕ × ℕ) × ℕ) × ((List ℕ × Option (List ℕ)) × (Option Fraction × (List ((Credential × ℕ) × Option HotState) × (List (Credential × HotState) × LastIds))))
governed_items g = (g.head, (g.constitution, (g.threshold, (g.members, (g.hot, g.last)))))

-- who votes
abbrev pub voter_items : VoterRows → List (Credential × ℕ) × (List (PoolId × Option Account) × (List (PoolId × ℕ) × List (Credential × Entry)))
voter_items v = (v.dreps, (v.pools, (v.mark, v.entries)))

-- what is before the proposals
abbrev pub front_items : SnapshotRows → GovernedRows × (Params × VoterRows)
front_items s = (s.governed, (s.params, s.voters))
