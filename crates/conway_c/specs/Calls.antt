-- What the calls of the C interface do to a handle, and what they answer. (Own)
use Rattle.std.specs.Prelude.{◌≡◌, ◌≢◌, ℕ, ◌<◌, ◌≤◌, ◌++◌, List, [], Option, Some, None, Ok, Err, length, drop}
use Rattle.embedded.specs.declared.fault.CheckpointFault.{CheckpointFault}
use Rattle.embedded.specs.declared.fault.CheckpointFault.TheVariants as checkpoint_faults
use Rattle.embedded.specs.Resumed.{Resumes}
use Rattle.embedded.specs.Standing.{Opens, Records, Standing}
use Rattle.embedded.specs.declared.ending.Ending.{Ending}
use Rattle.embedded.specs.declared.ending.Ending.TheVariants as endings
use Rattle.replay_loop.specs.declared.fault.AnswerFault.{AnswerFault}
use Rattle.replay_loop.specs.declared.fault.AnswerFault.TheVariants as faults
use Rattle.replay_loop.specs.declared.status.GenesisCause.TheVariants as causes
use Rattle.text_model.specs.Words.{Text}
use Rattle.conway_c.specs.declared.answer.Answer.{Answer}

-- the status of a call; 0 and 6 are as those with which the program ends
abbrev pub status_of : Ending → ℕ
status_of endings.Done = 0
status_of endings.NoMemory = 6
status_of endings.Closed = 20
status_of endings.Full = 21

-- a text that was to be copied into room: whole, if it fits, else nothing of it
pub record IsCopied (text room room' : List ℕ) (written : ℕ) : Type 0 where
  pub fits : length text ≤ length room → (written ≡ length text) × (room' ≡ text ++ drop (length text) room)
  pub lacks : length room < length text → (written ≡ 0) × (room' ≡ room)

-- the text of the handle after a call, nothing where it is closed
abbrev pub text_now : Option Standing → Text
text_now None = []
text_now (Some s) = s.text

-- an answer with a text
pub record Tells (text room room' : List ℕ) (a : Answer) : Type 0 where
  pub wanted : a.wanted ≡ length text
  pub copied : IsCopied text room room' a.written

-- an answer without one
pub record TellsNone (room room' : List ℕ) (a : Answer) : Type 0 where
  pub wanted : a.wanted ≡ 0
  pub written : a.written ≡ 0
  pub same : room' ≡ room

-- by how the call ended
abbrev pub TellsBy : Ending → Option Standing → List ℕ → List ℕ → Answer → Type 0
TellsBy endings.Done h room room' a = Tells (text_now h) room room' a
TellsBy e h room room' a = TellsNone room room' a

-- what recording a line does to a handle; out of memory closes it
abbrev pub HandleRecords : Option Standing → List ℕ → Option Standing → Ending → Type 0
HandleRecords None line h' e = (e ≡ endings.Closed) × (h' ≡ None)
HandleRecords (Some s) line None e = e ≡ endings.NoMemory
HandleRecords (Some s) line (Some s') e = (e ≢ endings.NoMemory) × Records s line s' e

-- a line was recorded: the handle before and after, the room, and the answer
pub record HasRecorded (h : Option Standing) (line : List ℕ) (h' : Option Standing) (room room' : List ℕ) (a : Answer) : Type 0 where
  pub ending : Ending
  pub status : a.status ≡ status_of ending
  pub records : HandleRecords h line h' ending
  pub tells : TellsBy ending h' room room' a

-- the status where a genesis begins no ledger
abbrev pub fault_status : AnswerFault → ℕ
fault_status (faults.BadGenesis causes.Missing) = 22
fault_status (faults.BadGenesis cause) = 3
fault_status faults.NoMemory = 6

-- a genesis on the line of this number was opened: the handle after it, and the status
abbrev pub HandleOpens : ℕ → List ℕ → Option Standing → ℕ → Type 0
HandleOpens n line (Some s) status = (status ≡ 0) × Opens n line (Ok s)
HandleOpens n line None status = (fault : AnswerFault) × (status ≡ fault_status fault) × Opens n line (Err fault)

-- what another call does to a handle, by what it does to the ledger; it frees none
abbrev pub HandleDoes : (Standing → Standing → Ending → Type 0) → Option Standing → Option Standing → Ending → Type 0
HandleDoes does None h' e = (e ≡ endings.Closed) × (h' ≡ None)
HandleDoes does (Some s) None e = ⊥
HandleDoes does (Some s) (Some s') e = does s s' e

-- such a call was made: the handle before and after, the room, and the answer
pub record HasDone (does : Standing → Standing → Ending → Type 0) (h h' : Option Standing) (room room' : List ℕ) (a : Answer) : Type 0 where
  pub ending : Ending
  pub status : a.status ≡ status_of ending
  pub did : HandleDoes does h h' ending
  pub tells : TellsBy ending h' room room' a

-- the status where a text begins no ledger
abbrev pub resume_status : CheckpointFault → ℕ
resume_status checkpoint_faults.Bad = 8
resume_status checkpoint_faults.NoMemory = 6

-- the text of a checkpoint was resumed: the handle after it, and the status
abbrev pub HandleResumes : List ℕ → Option Standing → ℕ → Type 0
HandleResumes text (Some s) status = (status ≡ 0) × Resumes text (Ok s)
HandleResumes text None status = (fault : CheckpointFault) × (status ≡ resume_status fault) × Resumes text (Err fault)
