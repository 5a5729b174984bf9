-- The names of the files that there are.
use Rattle.std.proofs.Common.{arith, suc, ◌≡◌, ◌⊎◌, inl, inr, true, false, List, [], ◌∷◌, map, refl, sym, subst}
use Rattle.std.specs.Prelude.{Result, Ok, Err, IfOk}
use Rattle.std.specs.List.{Contains}
use Rattle.txn_base.specs.declared.file_id.FileId.{FileId}
use Rattle.txn_base.specs.Disk.{same_file}
use Rattle.txn_memdisk.specs.declared.file.MemFile.{MemFile}
use Rattle.txn_memdisk.specs.Files.{entry_in, nothing, file_id_of}
use Rattle.txn_memdisk.proofs.Entries.{Tells, same_tells}

more : (file : MemFile) (files : List MemFile) (id : FileId) → Tells file.id id → Contains (map file_id_of files) id ⊎ (entry_in files id ≡ nothing) → Contains (map file_id_of (file ∷ files)) id ⊎ (entry_in (file ∷ files) id ≡ nothing)
more file files id (inl is) rest = inl (0, omega arith, is.1)
more file files id (inr isnt) (inl among) = inl (suc among.0, omega (arith, among.1), among.2)
more file files id (inr isnt) (inr none) = inr (rw isnt.0 none)

-- A file is among them, or it was never written.
pub named_or_nothing : (files : List MemFile) (id : FileId) → Contains (map file_id_of files) id ⊎ (entry_in files id ≡ nothing)
named_or_nothing [] id = inr refl
named_or_nothing (file ∷ files) id = more file files id (same_tells file.id id) (named_or_nothing files id)

-- The same of the names that a call gives, which may have no memory for them.
pub all_named : {V E : Type 0} (items : V → List FileId) (r : Result V E) (files : List MemFile) → IfOk r (λ v. items v ≡ map file_id_of files) → IfOk r (λ v. (id : FileId) → Contains (items v) id ⊎ (entry_in files id ≡ nothing))
all_named items (Ok v) files are = λ id. subst (λ (names : List FileId). Contains names id ⊎ (entry_in files id ≡ nothing)) (sym are) (named_or_nothing files id)
all_named items (Err e) files are = tt
