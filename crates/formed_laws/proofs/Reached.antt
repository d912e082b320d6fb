-- What records of the form reach has it.
use Rattle.std.proofs.Common.{◌≡◌, List, [], ◌∷◌, true, subst}
use Rattle.std.specs.List.{list_all}
use Rattle.tx_records.specs.declared.record.Record.{Record}
use Rattle.tx_records.specs.RecordLimits.{is_within_limits}
use Rattle.run_model.specs.Genesis.{world_of_genesis}
use Rattle.run_model.specs.Runs.{world_after_all}
use Rattle.run_model.specs.SoundWorld.{IsSoundWorld}
use Rattle.run_model.specs.Step.{step}
use Rattle.run_model.specs.World.{World}
use Rattle.run_laws.proofs.Sound.{genesis_begins_sound, records_keep_sound}
use Rattle.dormant_laws.proofs.Lists.{left_of, right_of}
use Rattle.checkpoint_model.specs.Resumable.{has_form}
use Rattle.formed_laws.specs.Laws.{ReachedHasForm}
use Rattle.formed_laws.specs.Records.{is_formed}
use Rattle.formed_laws.proofs.Genesis.{genesis_formed}
use Rattle.formed_laws.proofs.Steps.{IsFormed, has_form_of, step_formed}

form_all : (rs : List Record) (w : World) → IsFormed w → IsSoundWorld w → list_all is_within_limits rs ≡ true → list_all is_formed rs ≡ true → has_form (world_after_all w rs) ≡ true
form_all [] w f s h k = has_form_of w f s
form_all (r ∷ rs) w f s h k =
    let here : is_within_limits r ≡ true = left_of (is_within_limits r) (list_all is_within_limits rs) h in
    form_all rs (step w r).0 (step_formed w r f s here (left_of (is_formed r) (list_all is_formed rs) k)) (records_keep_sound w r s here)
    (right_of (is_within_limits r) (list_all is_within_limits rs) h) (right_of (is_formed r) (list_all is_formed rs) k)

pub reached_has_form : ReachedHasForm
reached_has_form w h g k =
    let start : World = world_of_genesis h.genesis in
    let s : IsSoundWorld start = genesis_begins_sound h.genesis h.within h.no_fault in
    subst (λ (v : World). has_form v ≡ true) h.reached (form_all h.records start (genesis_formed h.genesis h.within g s) s h.all_within k)
