-- What stands behind the frames of a file that were read so far.
use Rattle.std.specs.Prelude.{◌≡◌, ◌⊎◌, ℕ, ◌+◌, ◌*◌, ◌≤◌, List, ◌∷◌, ◌++◌, length, take, drop}
use Rattle.byteorder.specs.Endian.{big_bytes}
use Rattle.txn_base.specs.Frames.{Batch, IsBatch, IsShut, IsDamagedAt, Stands, frame, frames}
use Rattle.txn_ledger.specs.declared.parse.Head.{Head}
use Rattle.txn_ledger.specs.declared.parse.Head.TheVariants.{Body, End, NoFrame}

-- an open gate, and no frame
pub record AtNone (rest : List ℕ) : Type 0 where
  pub behind : List ℕ
  pub gate : rest ≡ 1 ∷ behind
  pub no_frame : (batch : Batch) (after : List ℕ) → IsBatch batch → rest ≡ frame batch ++ after → ⊥

-- An open gate and the length of a body; an end or a closed gate; or neither.
abbrev pub IsHead : List ℕ → Head → Type 0
IsHead rest (Body len) = rest ≡ 1 ∷ (big_bytes 4 len ++ drop 5 rest)
IsHead rest End = IsShut rest
IsHead rest NoFrame = AtNone rest

-- So long a body lies within the bytes that are left, and isn't longer than any batch.
abbrev pub FitsIn : ℕ → Head → Type 0
FitsIn left (Body len) = (5 + len ≤ left) × (len ≤ 64 * 65537)
FitsIn left End = Unit {0}
FitsIn left NoFrame = Unit {0}

-- a piece of a file of this size, from this offset on; the file's bytes are known where they are told
pub record IsPiece (tells : Type 0) (file : List ℕ) (size at : ℕ) (bytes : List ℕ) : Type 0 where
  pub within : at + length bytes ≤ size
  pub read : tells → bytes ≡ take (length bytes) (drop at file)

-- What the bytes before stand for, the bytes after do.
abbrev pub KeepsList : List ℕ → List ℕ → Type 0
KeepsList before after = (batches : List Batch) → Stands before batches → Stands after batches

-- Bytes in which an open gate begins no frame stay as they were.
abbrev pub KeepsDamaged : List ℕ → List ℕ → Type 0
KeepsDamaged before after = (entry : ℕ) → IsDamagedAt before entry → after ≡ before

-- Bytes that stand for batches stay as they were, or are cut behind the frames of these; damaged ones stay as they were.
pub record KeepsFile (before after : List ℕ) : Type 0 where
  pub cut : (batches : List Batch) → Stands before batches → (after ≡ before) ⊎ (after ≡ frames batches)
  pub damage : KeepsDamaged before after
