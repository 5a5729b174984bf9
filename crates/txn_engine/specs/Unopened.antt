-- What is told of a part that couldn't be opened.
use Rattle.txn_base.specs.declared.file_id.FileId.{FileId}
use Rattle.txn_base.specs.declared.part.MendError.{MendError}
use Rattle.txn_base.specs.declared.part.MendError.TheVariants as mend
use Rattle.txn_ledger.specs.declared.error.OpenError.{OpenError}
use Rattle.txn_ledger.specs.declared.error.OpenError.TheVariants as opening
use Rattle.txn_engine.specs.declared.opening.EngineError.{EngineError}
use Rattle.txn_engine.specs.declared.opening.EngineError.TheVariants as engine

-- Of this file, which couldn't be opened.
abbrev pub unopened : FileId → OpenError → EngineError
unopened file (opening.Damaged entry) = engine.Damaged file entry
unopened file opening.Fault = engine.Fault
unopened file opening.NoMemory = engine.NoMemory

-- Of the ledger in this file, whose replay was refused.
abbrev pub unmended : FileId → MendError → EngineError
unmended file mend.Fault = engine.Fault
unmended file (mend.Damaged place) = engine.Damaged file place
unmended file mend.NoMemory = engine.NoMemory
