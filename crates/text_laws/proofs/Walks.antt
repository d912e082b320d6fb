-- The pots move along all that is read: each prefix is a run of records.
use Rattle.std.proofs.Common.{◌≡◌, ℕ, ◌&&◌, List, [], ◌∷◌, ◌++◌, Bool, true, refl, ap, ◌∙◌}
use Rattle.std.specs.List.{list_all}
use Rattle.std.proofs.lemmas.Bool.{and_parts}
use Rattle.std.proofs.lemmas.List.Folds.{list_all-append}
use Rattle.std.proofs.lemmas.List.Sums.{fold-append}
use Rattle.tx_records.specs.declared.record.Reading.{Reading}
use Rattle.tx_records.specs.declared.record.Reading.TheVariants.{Read, Malformed, TooLong}
use Rattle.tx_records.specs.declared.record.Record.{Record}
use Rattle.tx_records.specs.RecordLimits.{is_within_limits}
use Rattle.run_model.specs.Genesis.{world_of_genesis}
use Rattle.run_model.specs.Runs.{IsReached}
use Rattle.run_model.specs.Step.{step}
use Rattle.run_model.specs.World.{World}
use Rattle.run_laws.proofs.Reach.{flows_balance, supply_stays}
use Rattle.text_laws.specs.Laws.{PotsMove}
use Rattle.text_laws.specs.Walks.{DoPotsMove, records_of_readings}

-- what more is read is reached too
abbrev reached_next : (w : World) (h : IsReached w) (r : Record) → is_within_limits r ≡ true → IsReached (step w r).0
reached_next w h r e = record {
  genesis = h.genesis;
  records = h.records ++ r ∷ [];
  within = h.within;
  all_within = list_all-append is_within_limits h.records (r ∷ []) ∙ ap (λ (b : Bool). b && (is_within_limits r && true)) h.all_within ∙ ap (λ (b : Bool). b && true) e;
  no_fault = h.no_fault;
  reached = fold-append (λ (v : World) (s : Record). (step v s).0) (world_of_genesis h.genesis) h.records (r ∷ []) ∙ ap (λ (v : World). (step v r).0) h.reached;
}

walk : (rs : List (ℕ × Reading)) (w : World) (h : IsReached w) → list_all is_within_limits (records_of_readings rs) ≡ true → DoPotsMove h.genesis.supply w rs
walk [] w h e = supply_stays w h
walk ((n, Read r) ∷ rs) w h e =
    let both = and_parts (is_within_limits r) (list_all is_within_limits (records_of_readings rs)) e in
    (supply_stays w h, flows_balance w h r both.0, walk rs (step w r).0 (reached_next w h r both.0) both.1)
walk ((n, Malformed field place) ∷ rs) w h e = (supply_stays w h, λ p. refl, walk rs w h e)
walk ((n, TooLong) ∷ rs) w h e = (supply_stays w h, λ p. refl, walk rs w h e)

pub pots_move : PotsMove
pots_move g rs within no_fault all =
    walk rs (world_of_genesis g) (record { genesis = g; records = []; within = within; all_within = refl; no_fault = no_fault; reached = refl }) all
