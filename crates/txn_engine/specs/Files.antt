-- Which files of a disk the parts may change.
use Rattle.std.specs.Prelude.{◌≡◌, ℕ, ◌≤◌, List, All}
use Rattle.txn_base.specs.declared.file_id.FileId.{FileId}
use Rattle.txn_base.specs.Disk.{Files}
use Rattle.txn_base.specs.Frames.{Batch, IsBatch, frames}
use Rattle.txn_model.specs.Sound.{ledger_file}
use Rattle.txn_engine.specs.Opening.{IsPartFile}

-- Only the ledgers of the coordinator and of n topics differ.
abbrev pub OnlyLedgers : ℕ → Files → Files → Type 0
OnlyLedgers n before after = (file : FileId) → (IsPartFile n file → ⊥) → after file ≡ before file

-- The bytes are the frames of some batches and no more.
abbrev pub IsJustFrames : List ℕ → Type 0
IsJustFrames bytes = (batches : List Batch) × All IsBatch batches × (bytes ≡ frames batches)

-- So are the ledgers of the coordinator and of n topics.
abbrev pub AreJustFrames : ℕ → Files → Type 0
AreJustFrames n files = (p : ℕ) → p ≤ n → IsJustFrames (files (ledger_file p))
