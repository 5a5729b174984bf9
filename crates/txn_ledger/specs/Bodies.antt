-- The records that the bytes of a body are cut into.
use Rattle.std.specs.Prelude.{ℕ, zero, suc, List, [], ◌∷◌, length, take, drop}
use Rattle.byteorder.specs.Endian.{big_number}
use Rattle.txn_base.specs.Frames.{Record, Batch}

-- The record at the front: behind a length of two bytes, so many bytes.
abbrev pub first_record : List ℕ → Record
first_record bytes = take (big_number 2 bytes) (drop 2 bytes)

abbrev pub behind_first : List ℕ → List ℕ
behind_first bytes = drop (big_number 2 bytes) (drop 2 bytes)

-- The records to the end of the bytes, at most so many.
abbrev pub batch_from : ℕ → List ℕ → Batch
batch_from zero bytes = []
batch_from (suc more) [] = []
batch_from (suc more) (byte ∷ bytes) = first_record (byte ∷ bytes) ∷ batch_from more (behind_first (byte ∷ bytes))

-- The records of a body. It has fewer of them than bytes.
abbrev pub batch_in : List ℕ → Batch
batch_in body = batch_from (length body) body
