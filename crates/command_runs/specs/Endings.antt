-- How runs of `resume`, `certify` and `check` end. (Own)
use Rattle.std.specs.Prelude.{◌≡◌, ℕ, All, List, Option, Result, Ok, Err}
use Rattle.line_runs.specs.declared.fault.RunFault.TheVariants as faults
use Rattle.replay_loop.specs.declared.status.Status.{Status}
use Rattle.replay_loop.specs.declared.status.Status.TheVariants as statuses
use Rattle.replay_loop.specs.Lasts.{IsWhole}
use Rattle.certificate_model.specs.Checked.{certificates_of_readings}
use Rattle.certificate_laws.specs.Laws.{texts_of_bytes}
use Rattle.resume_loop.specs.Plays.{ResumeResult}
use Rattle.resume_loop.specs.Resumed.{IsResumed}
use Rattle.check_loop.specs.Checked.{IsChecked}
use Rattle.check_loop.specs.declared.fault.CheckFault.{CheckFault}
use Rattle.check_loop.specs.declared.fault.CheckFault.TheVariants as check_faults
use Rattle.check_loop.specs.Right.{IsCertificateText}

-- ---- a resume

-- its status, by what its loop answers
abbrev pub status_of_resume : ResumeResult → Status
status_of_resume (Ok done) = statuses.Done
status_of_resume (Err (faults.Stop cause)) = statuses.BadCheckpoint
status_of_resume (Err faults.ReadFault) = statuses.ReadFault
status_of_resume (Err faults.WriteFault) = statuses.WriteFault
status_of_resume (Err faults.NoMemory) = statuses.NoMemory
status_of_resume (Err faults.TooMuch) = statuses.TooMuch

-- how it ends, by its status, if its source gave its bytes
pub record IsResumeRun (status : Status) (bytes : List ℕ) (left had has : Option (List ℕ)) : Type 0 where
  pub ended : ResumeResult
  pub is : status ≡ status_of_resume ended
  pub run : IsResumed bytes left had has ended

-- ---- certificates

-- no byte is left, and what was written are the certificates of the bytes, each of which is right
pub record HasCertified (bytes : List ℕ) (left had has : Option (List ℕ)) : Type 0 where
  pub whole : IsWhole certificates_of_readings bytes left had has
  pub right : All IsCertificateText (texts_of_bytes whole.text)

-- ---- a check

-- what its loop answers
abbrev pub CheckResult : Type 0
CheckResult = Result (Unit {0}) CheckFault

-- its status, by that
abbrev pub status_of_check : CheckResult → Status
status_of_check (Ok done) = statuses.Done
status_of_check (Err check_faults.ReadFault) = statuses.ReadFault
status_of_check (Err check_faults.WriteFault) = statuses.WriteFault
status_of_check (Err check_faults.NoMemory) = statuses.NoMemory
status_of_check (Err check_faults.TooMuch) = statuses.TooMuch

-- how it ends, by its status, if its source gave its bytes: a text is right if it is a certificate
pub record IsCheckRun (status : Status) (bytes : List ℕ) (left had has : Option (List ℕ)) : Type 0 where
  pub ended : CheckResult
  pub is : status ≡ status_of_check ended
  pub run : IsChecked IsCertificateText bytes left had has ended
