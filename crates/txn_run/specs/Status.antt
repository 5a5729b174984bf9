-- What is made of the words, and of a disk that couldn't be opened.
use Rattle.std.specs.Prelude.{◌≡◌, ℕ, List, Result, Ok, Err}
use Rattle.txn_base.specs.declared.usage.Usage.{Usage}
use Rattle.txn_engine.specs.declared.opening.EngineError.{EngineError}
use Rattle.txn_engine.specs.declared.opening.EngineError.TheVariants as engine_error
use Rattle.txn_run.specs.declared.status.RunStatus.{RunStatus}
use Rattle.txn_run.specs.declared.status.RunStatus.TheVariants as status

-- What was read of the words is what they are, unless memory ran out.
abbrev pub ReadsWords : Result (List ℕ) RunStatus → Result (List ℕ) Usage → Type 0
ReadsWords (Ok name) command = command ≡ Ok name
ReadsWords (Err status.NoMemory) command = Unit {0}
ReadsWords (Err (status.Usage u)) command = command ≡ Err u
ReadsWords (Err _) command = ⊥

-- The status of a run whose parts couldn't be opened.
abbrev pub status_unopened : EngineError → RunStatus
status_unopened (engine_error.Damaged file entry) = status.Damaged file entry
status_unopened engine_error.Fault = status.DiskFault
status_unopened engine_error.NoMemory = status.NoMemory
