-- Changes of a file, how they are undone, and how they are made again with other bytes.
use Rattle.std.specs.Prelude.{ℕ, ◌+◌, ◌-◌, List, [], ◌∷◌, ◌++◌, length, take, drop, map, replicate}
use Rattle.txn_base.specs.Disk.{resized}
use Rattle.txn_memdisk.specs.declared.change.Change.{Change}
use Rattle.txn_memdisk.specs.declared.change.Change.TheVariants.{Sized, Written}
use Rattle.txn_memdisk.specs.declared.change.Undo.{Undo}
use Rattle.txn_memdisk.specs.declared.change.Undo.TheVariants.{Size, Bytes}
use Rattle.txn_memdisk.specs.declared.change.Pending.{Pending}

-- Bytes stand at the offset, as far as they lie within.
abbrev pub bytes_put_back : ℕ → List ℕ → List ℕ → List ℕ
bytes_put_back at old bytes = take at bytes ++ take (length bytes - at) old ++ drop (at + length old) bytes

-- A range is filled with a byte, as far as it lies within.
abbrev pub filled : ℕ → ℕ → ℕ → List ℕ → List ℕ
filled at n byte bytes = take at bytes ++ replicate (length (take n (drop at bytes))) byte ++ drop (at + n) bytes

-- The bytes before a change: of the size before it and with what it cut off, or with what it wrote over.
abbrev pub undo_one : Undo → List ℕ → List ℕ
undo_one (Size before cut) bytes = take before bytes ++ cut.items
undo_one (Bytes offset old) bytes = bytes_put_back offset old.items bytes

-- The bytes before these changes, of which the last is undone first.
abbrev pub undone : List Pending → List ℕ → List ℕ
undone [] bytes = bytes
undone (p ∷ ps) bytes = undo_one p.undo (undone ps bytes)

abbrev pub changes_of : List Pending → List Change
changes_of ps = map (λ p. p.change) ps

-- The bytes after a change, which fills what it wrote with this byte.
abbrev pub made : ℕ → Change → List ℕ → List ℕ
made byte (Sized size) bytes = resized size bytes
made byte (Written offset count) bytes = filled offset count byte bytes

-- The bytes after these changes, the first of them first.
abbrev pub replayed : ℕ → List Change → List ℕ → List ℕ
replayed byte [] bytes = bytes
replayed byte (change ∷ changes) bytes = replayed byte changes (made byte change bytes)
