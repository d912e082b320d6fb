-- Worked rows on what no stream can show: runs without a World, lines at their limit, checkpoints and certificates as lists of lines, and the answers of a checker.
use Rattle.std.specs.Prelude.{ℕ, ◌≡◌, ◌+◌, ◌-◌, ◌*◌, ◌^◌, ◌&&◌, Bool, true, false, List, [], ◌∷◌, Some, None, codes, is_none, drop, length, map, nat_le, take, refl}
use Rattle.std.proofs.Common.{ap, ◌∙◌, append-nil, arith}
use Rattle.std.specs.Fmt.{digits}
use Rattle.hex.specs.Hex.{encode_with}
use Rattle.gov_actions.specs.declared.action.Action.TheVariants as actions
use Rattle.gov_actions.specs.declared.action.Proposal.{Proposal}
use Rattle.gov_actions.specs.declared.tally.Need.TheVariants as need
use Rattle.tx_records.specs.declared.genesis.Genesis.{Genesis}
use Rattle.tx_records.specs.declared.limits.TheConstants.{LINE_LIMIT}
use Rattle.tx_records.specs.declared.record.Reading.{Reading}
use Rattle.tx_records.specs.declared.record.Reading.TheVariants.{Read}
use Rattle.tx_records.specs.declared.record.Record.TheVariants as records
use Rattle.gov_model.specs.Snapshot.{Snapshot}
use Rattle.gov_model.specs.Thresholds.{zero_share}
use Rattle.ledger_model.specs.Ledger.{Ledger}
use Rattle.run_model.specs.Genesis.{world_of_genesis}
use Rattle.run_model.specs.Report.{boundary_of}
use Rattle.run_model.specs.World.{World, on_ledger}
use Rattle.text_forms.specs.Lines.{are_short_lines, joined_lines}
use Rattle.text_forms.specs.Worlds.{world_of_readings}
use Rattle.checkpoint_model.specs.Checkpoint.{checkpoint_lines}
use Rattle.checkpoint_model.specs.Resumable.{IsResumable}
use Rattle.checkpoint_model.specs.Resumed.{IsCheckpoint, IsNoCheckpoint, checkpoint_of_readings, text_of_resume}
use Rattle.certificate_model.specs.Certificate.{certificate_lines}
use Rattle.certificate_model.specs.Checked.{Answers, answers_text, certificates_in, certificates_of_readings, is_end}
use Rattle.certificate_model.specs.Fits.{Fits}
use Rattle.shortfall_model.specs.declared.short.Short.TheVariants as short
use Rattle.shortfall_model.specs.Laws.{threshold_of}
use Rattle.shortfall_model.specs.ShortLines.{shortfall_of_readings}
use Rattle.shortfall_model.specs.Silent.{short_for}
use Rattle.outlook_model.specs.Outlook.{can_end, outlook_lines, outlook_of_readings}
use Rattle.follow_model.specs.FollowLines.{follow_of_readings}
use Rattle.follow_records.specs.declared.record.FollowReading.{FollowReading}
use Rattle.follow_records.specs.declared.record.FollowReading.TheVariants as follow
use Rattle.follow_records.specs.declared.record.FollowRecord.TheVariants.{Plain, Rollback}
use Rattle.load_model.specs.Names.{address_with_stake}
use Rattle.ledger_rows.proofs.Base.{base, h32, key, account_on, action, same_line}
use Rattle.further_rows.proofs.Texts.{is_text, refuted}

-- ---- runs without a World

-- a genesis with 1 lovelace more than its supply
abbrev broken : Genesis
broken = record base { reserves = 580 }

-- runs that begin with it, and one that begins with a block
abbrev without_world : List (List (ℕ × Reading))
without_world =
    ((1, Read (records.Genesis broken)) ∷ []) ∷
    ((1, Read (records.Genesis broken)) ∷ (2, Read (records.Genesis base)) ∷ (3, Read (records.Block 10 1)) ∷ []) ∷
    ((1, Read (records.Block 10 1)) ∷ (2, Read (records.Genesis base)) ∷ []) ∷
    [] ∷
    []

abbrev all_none : List Bool
all_none = true ∷ true ∷ true ∷ true ∷ []

pub no_world : map (λ rs. is_none (world_of_readings rs)) without_world ≡ all_none
no_world = refl

pub no_checkpoint : map (λ rs. is_none (checkpoint_of_readings 3 rs)) without_world ≡ all_none
no_checkpoint = refl

pub no_certificates : map (λ rs. is_none (certificates_of_readings rs)) without_world ≡ all_none
no_certificates = refl

pub no_shortfall : map (λ rs. is_none (shortfall_of_readings rs)) without_world ≡ all_none
no_shortfall = refl

pub no_outlook : map (λ rs. is_none (outlook_of_readings rs)) without_world ≡ all_none
no_outlook = refl

abbrev followed : ℕ × Reading → ℕ × FollowReading
followed (n, Read r) = (n, follow.Read (Plain r))
followed (n, other) = (n, follow.TooLong)

pub no_followed_text : map (λ rs. is_none (follow_of_readings (map followed rs))) without_world ≡ all_none
no_followed_text = refl

-- a followed stream that begins with a rollback or with a line that is too long has no text, either
pub no_text_of_a_rollback : map (λ r. is_none (follow_of_readings ((1, r) ∷ (2, follow.Read (Plain (records.Genesis base))) ∷ []))) (follow.Read (Rollback 0) ∷ follow.TooLong ∷ []) ≡
    true ∷ true ∷ []
no_text_of_a_rollback = refl

abbrev start : World
start = world_of_genesis base

-- behind a checkpoint any genesis is a second one
pub resumed_with_a_genesis : is_text (Some (text_of_resume start ((8, Read (records.Genesis broken)) ∷ (9, Read (records.Genesis base)) ∷ []))) (
    codes "8 refused 3 GenesisAgain" ∷ codes "9 refused 3 GenesisAgain" ∷ []) ≡ true
unfolding digits encode_with
resumed_with_a_genesis = refl

-- ---- lines at their limit

-- a followed line that is too long is told as in a replay, and changes nothing
pub a_followed_line_too_long : is_text (follow_of_readings (
    (1, follow.Read (Plain (records.Genesis base))) ∷ (2, follow.Read (Plain (records.Block 1 1))) ∷ (3, follow.TooLong) ∷
    (4, follow.Read (Plain (records.Block 2 1))) ∷ (5, follow.Read (Rollback 1)) ∷ [])) (
    codes "1 genesis outputs 200 deposits 21 rewards 100 fees 0 donations 0 treasury 100 reserves 579 supply 1000" ∷
    codes "2 block slot 1 epoch 0 counted 1 of 3" ∷ codes "3 refused 2 TooLong" ∷ codes "4 block slot 2 epoch 0 counted 2 of 3" ∷
    codes "5 rolled slot 1 epoch 0 counted 2 of 3" ∷ []) ≡ true
unfolding digits encode_with
a_followed_line_too_long = refl

-- a line of one word that has just as many bytes as a line may have is short, and one of a byte more is not
pub a_line_of_just_the_limit : (word : List ℕ) → length word ≡ LINE_LIMIT → are_short_lines ((word ∷ []) ∷ []) ≡ true
a_line_of_just_the_limit word e = ap (λ (n : ℕ). nat_le n LINE_LIMIT && true) (ap length (append-nil word) ∙ e)

pub a_line_of_a_byte_more : (word : List ℕ) → length word ≡ LINE_LIMIT + 1 → are_short_lines ((word ∷ []) ∷ []) ≡ false
a_line_of_a_byte_more word e = ap (λ (n : ℕ). nat_le n LINE_LIMIT && true) (ap length (append-nil word) ∙ e)

-- ---- checkpoints

pub start_is_sound : IsResumable start
unfolding digits encode_with
start_is_sound = record { form = refl; time = refl; dormancy = refl; delegations = refl; supply = refl; ids = refl; chains = refl; pending = refl; within = refl; entries = refl; counted = refl; epoch = refl; mark = refl; state = refl; treasury = refl; proposals = refl; short = refl }

-- the lines of a checkpoint are one, up to the last number of a line, and of no later one
pub lines_of_a_checkpoint : IsCheckpoint (joined_lines (checkpoint_lines start (2 ^ 48))) start (2 ^ 48)
lines_of_a_checkpoint = record { sound = start_is_sound; within = omega arith; text = refl }

pub no_later_line : (lines : List (List ℕ)) → IsCheckpoint lines start (2 ^ 48 + 1) → ⊥
no_later_line lines h = omega (arith, h.within)

-- a line begins with these bytes
abbrev begins_with : List ℕ → List ℕ → Bool
begins_with wanted line = same_line wanted (take (length wanted) line)

-- the first lines begin with these
abbrev begin_with : List (List ℕ) → List (List ℕ) → Bool
begin_with [] lines = true
begin_with (wanted ∷ others) [] = false
begin_with (wanted ∷ others) (line ∷ lines) = begins_with wanted line && begin_with others lines

abbrev starts_of_a_checkpoint : List (List ℕ)
starts_of_a_checkpoint = codes "checkpoint 1 line " ∷ codes "now slot " ∷ []

-- no lines are no checkpoint, and none that begin with an empty line, with a record, with another version, or with a certificate
pub nothing_is_no_checkpoint : IsNoCheckpoint []
nothing_is_no_checkpoint w line h = refuted (ap (begin_with starts_of_a_checkpoint) h.text)

pub empty_lines_are_no_checkpoint : (lines : List (List ℕ)) → IsNoCheckpoint ([] ∷ lines)
empty_lines_are_no_checkpoint lines w line h = refuted (ap (begin_with starts_of_a_checkpoint) h.text)

pub records_are_no_checkpoint : (lines : List (List ℕ)) → IsNoCheckpoint (codes "{\"kind\":\"genesis\"}" ∷ lines)
records_are_no_checkpoint lines w line h = refuted (ap (begin_with starts_of_a_checkpoint) h.text)

pub another_version_is_no_checkpoint : (lines : List (List ℕ)) → IsNoCheckpoint (codes "checkpoint 2 line 7 network 1 length 10 counted 0" ∷ lines)
another_version_is_no_checkpoint lines w line h = refuted (ap (begin_with starts_of_a_checkpoint) h.text)

pub certificates_are_no_checkpoint : (f : Snapshot) → IsNoCheckpoint (joined_lines (certificate_lines f))
certificates_are_no_checkpoint f w line h = refuted (ap (begin_with starts_of_a_checkpoint) h.text)

-- nor a first line alone
pub a_first_line_is_no_checkpoint : (first : List ℕ) → IsNoCheckpoint (first ∷ [])
a_first_line_is_no_checkpoint first w line h = refuted (ap (λ (lines : List (List ℕ)). begin_with (codes "now slot " ∷ []) (drop 1 lines)) h.text)

-- ---- the checker

-- the one line that ends a certificate
pub lines_that_end : map is_end (codes "end" ∷ codes "end " ∷ codes " end" ∷ codes "ends" ∷ codes "en" ∷ codes "End" ∷ [] ∷ []) ≡
    true ∷ false ∷ false ∷ false ∷ false ∷ false ∷ false ∷ []
lines_that_end = refl

abbrev a : List ℕ
a = codes "a"

abbrev end : List ℕ
end = codes "end"

-- each certificate with its end, and a rest; nothing behind the last end is none
pub certificates_in_lines : map certificates_in ([] ∷ (a ∷ end ∷ []) ∷ (a ∷ a ∷ end ∷ end ∷ a ∷ end ∷ []) ∷ (a ∷ end ∷ a ∷ a ∷ []) ∷ (a ∷ []) ∷ []) ≡
    [] ∷ ((a ∷ end ∷ []) ∷ []) ∷ ((a ∷ a ∷ end ∷ []) ∷ (end ∷ []) ∷ (a ∷ end ∷ []) ∷ []) ∷ ((a ∷ end ∷ []) ∷ (a ∷ a ∷ []) ∷ []) ∷ ((a ∷ []) ∷ []) ∷ []
certificates_in_lines = refl

-- the answers have the numbers of the certificates
pub printed_answers : is_text (Some (answers_text 1 (true ∷ false ∷ true ∷ []))) (codes "1 yes" ∷ codes "2 no" ∷ codes "3 yes" ∷ []) ≡ true
unfolding digits
printed_answers = refl

pub no_answers : answers_text 1 [] ≡ []
no_answers = refl

-- what is frozen of a genesis fits, so the answer to its certificate is yes
pub frozen_fits : Fits start.frozen
unfolding digits encode_with
frozen_fits = record { form = refl; epoch = refl; held = refl; mark = refl; short = refl }

pub yes_to_a_certificate : Answers (joined_lines (certificate_lines start.frozen)) true
yes_to_a_certificate = (λ e. record { snapshot = start.frozen; fits = frozen_fits; text = refl }, λ h. refl)

pub no_is_wrong_to_a_certificate : Answers (joined_lines (certificate_lines start.frozen)) false → ⊥
no_is_wrong_to_a_certificate h = refuted (h.1 (record { snapshot = start.frozen; fits = frozen_fits; text = refl }))

abbrev starts_of_a_certificate : List (List ℕ)
starts_of_a_certificate = codes "certificate epoch " ∷ codes "constitution " ∷ []

-- no lines are no certificate, and none that begin with a record, an end or a checkpoint
pub yes_to_nothing_is_wrong : Answers [] true → ⊥
yes_to_nothing_is_wrong h = refuted (ap (begin_with starts_of_a_certificate) (h.0 refl).text)

pub yes_to_records_is_wrong : (lines : List (List ℕ)) → Answers (codes "{\"kind\":\"genesis\"}" ∷ lines) true → ⊥
yes_to_records_is_wrong lines h = refuted (ap (begin_with starts_of_a_certificate) (h.0 refl).text)

pub yes_to_an_end_is_wrong : (lines : List (List ℕ)) → Answers (codes "end" ∷ lines) true → ⊥
yes_to_an_end_is_wrong lines h = refuted (ap (begin_with starts_of_a_certificate) (h.0 refl).text)

pub yes_to_a_checkpoint_is_wrong : (w : World) (line : ℕ) → Answers (joined_lines (checkpoint_lines w line)) true → ⊥
yes_to_a_checkpoint_is_wrong w line h = refuted (ap (begin_with starts_of_a_certificate) (h.0 refl).text)

-- ---- shortfalls

abbrev proposed : Proposal
proposed = record { id = action 2 0; action = actions.NewConstitution None (h32 2) None; deposit = 10; account = account_on 1 (key 0x12); expires_after = 2; votes = [] }

-- where DReps need nothing, none need vote, whatever the total is
pub shortfall_of_no_need : map (λ (f : Snapshot). short_for need.Nothing f proposed) (start.frozen ∷ record start.frozen { entries = [] } ∷ []) ≡
    short.Least [] 0 100 zero_share 0 ∷ short.Least [] 0 0 zero_share 0 ∷ []
shortfall_of_no_need = refl

pub threshold_of_no_need : threshold_of need.Nothing ≡ Some zero_share
threshold_of_no_need = refl

-- ---- outlooks

-- the start in another epoch
abbrev in_epoch : ℕ → World
in_epoch n = on_ledger (λ (l : Ledger). record l { slot = 10 * n; epoch = n }) start

-- an epoch below 2^62 can end, and no later one: then there is one boundary less, or none
pub epochs_that_can_end : map (λ n. can_end (in_epoch n)) (0 ∷ (2 ^ 62 - 1) ∷ (2 ^ 62) ∷ []) ≡ true ∷ true ∷ false ∷ []
epochs_that_can_end = refl

pub outlook_of_the_last_epochs : map (λ n. length (outlook_lines (in_epoch n))) ((2 ^ 62 - 2) ∷ (2 ^ 62 - 1) ∷ (2 ^ 62) ∷ []) ≡ 2 ∷ 1 ∷ 0 ∷ []
outlook_of_the_last_epochs = refl

-- ---- others

-- a boundary gives the World behind it, and reports it
pub what_a_boundary_gives : (
    (boundary_of start).0.ledger.epoch ∷ (boundary_of start).0.frozen.epoch ∷ (boundary_of start).1.epoch ∷
    (boundary_of start).1.dormant ∷ (boundary_of start).1.frozen ∷ []) ≡ 1 ∷ 1 ∷ 1 ∷ 1 ∷ 3 ∷ []
what_a_boundary_gives = refl

-- an address with a stake part of a benchmark stream
pub an_address_with_a_stake_part : address_with_stake 7 12 ≡
    codes "1k00000000000000000000000000000000000000000000000000000007+k00000000000000000000000000000000000000000000000000000012"
unfolding digits
an_address_with_a_stake_part = refl
