-- What every World that records reach has of what a checkpoint asks.
use Rattle.std.proofs.Common.{◌≡◌, ℕ, ◌/◌, List, [], ◌∷◌, ◌++◌, Bool, true, false, ◌||◌, cond, Option, Some, None, filter, map, nat_lt, refl, subst}
use Rattle.std.specs.List.{list_all}
use Rattle.std.proofs.lemmas.Bool.{and_from, eq-eqb}
use Rattle.maps.specs.Maps.{in_order}
use Rattle.gov_ids.specs.declared.Credential.{Credential}
use Rattle.gov_ids.specs.Orders.{credential_cmp}
use Rattle.book_records.specs.declared.Entry.{Entry}
use Rattle.book_records.specs.declared.Registered.{Registered}
use Rattle.tx_records.specs.declared.record.Record.{Record}
use Rattle.tx_records.specs.declared.record.Record.TheVariants as records
use Rattle.tx_records.specs.declared.reply.Rule.{Rule}
use Rattle.ledger_model.specs.Ledger.{Ledger, account_at, is_account, output_stake}
use Rattle.run_model.specs.Boundary.{world_after_boundary}
use Rattle.run_model.specs.Freeze.{entries_of, stake_parts}
use Rattle.run_model.specs.Genesis.{world_of_genesis}
use Rattle.run_model.specs.Runs.{IsReached, world_after_all}
use Rattle.run_model.specs.Step.{crossed, enters_next, pulsed, refusal_of, step, step_by, world_after_accepted}
use Rattle.run_model.specs.World.{World}
use Rattle.run_laws.proofs.Start.{genesis_good}
use Rattle.checkpoint_model.specs.Laws.{ReachedEntriesCount, ReachedIsTimed}
use Rattle.checkpoint_model.specs.Resumable.{is_counted_entry}
use Rattle.further_laws.proofs.Standing.{IsTimed, genesis_timed, timed_all}

timed : (w : World) (h : IsReached w) → IsTimed w
timed w h = subst (λ (v : World). IsTimed v) h.reached (timed_all h.records (world_of_genesis h.genesis) (genesis_good h.genesis) (genesis_timed h.genesis h.within) h.all_within)

pub reached_is_timed : ReachedIsTimed
reached_is_timed w h = eq-eqb w.ledger.epoch (w.ledger.slot / w.ledger.epoch_length) (timed w h).clock

-- ---- frozen entries

-- what is frozen of a credential
abbrev entry_at : Ledger → Credential → Credential × Entry
entry_at l c = (c, record { stake = output_stake l c; registered = account_at l c })

-- what passes the test of the freeze counts
counted_by : (b : Bool) (l : Ledger) (c : Credential) (cs : List Credential) → (is_account l c || nat_lt 0 (output_stake l c)) ≡ b
    → list_all is_counted_entry (map (entry_at l) cs) ≡ true → list_all is_counted_entry (map (entry_at l) (cond b (c ∷ cs) cs)) ≡ true
counted_by true l c cs e h = and_from (is_counted_entry (entry_at l c)) (list_all is_counted_entry (map (entry_at l) cs)) e h
counted_by false l c cs e h = h

all_counted : (l : Ledger) (cs : List Credential)
    → list_all is_counted_entry (map (entry_at l) (filter (λ c. is_account l c || nat_lt 0 (output_stake l c)) cs)) ≡ true
all_counted l [] = refl
all_counted l (c ∷ cs) =
    counted_by (is_account l c || nat_lt 0 (output_stake l c)) l c (filter (λ (q : Credential). is_account l q || nat_lt 0 (output_stake l q)) cs) refl (all_counted l cs)

entries_count : (l : Ledger) → list_all is_counted_entry (entries_of l) ≡ true
entries_count l = all_counted l (in_order credential_cmp (map (λ (e : Credential × Registered). e.0) l.accounts ++ stake_parts l))

abbrev HasCounted : World → Type 0
HasCounted w = list_all is_counted_entry w.frozen.entries ≡ true

counted_block : (b : Bool) (w : World) (slot pulse : ℕ) → HasCounted w → HasCounted (pulsed slot pulse (crossed b w))
counted_block true w slot pulse h = entries_count (world_after_boundary w).ledger
counted_block false w slot pulse h = h

counted_accepted : (w : World) (r : Record) → HasCounted w → HasCounted (world_after_accepted w r)
counted_accepted w (records.Genesis g) h = h
counted_accepted w (records.Block slot pulse) h = counted_block (enters_next w.ledger slot) w slot pulse h
counted_accepted w (records.Rewards u) h = h
counted_accepted w (records.Tx tx) h = h
counted_accepted w (records.Print what) h = h

counted_step : (o : Option Rule) (w : World) (r : Record) → HasCounted w → HasCounted (step_by o w r).0
counted_step (Some rule) w r h = h
counted_step None w r h = counted_accepted w r h

counted_all : (rs : List Record) (w : World) → HasCounted w → HasCounted (world_after_all w rs)
counted_all [] w h = h
counted_all (r ∷ rs) w h = counted_all rs (step w r).0 (counted_step (refusal_of w r) w r h)

pub reached_entries_count : ReachedEntriesCount
reached_entries_count w h = subst (λ (v : World). HasCounted v) h.reached (counted_all h.records (world_of_genesis h.genesis) (entries_count (world_of_genesis h.genesis).ledger))
