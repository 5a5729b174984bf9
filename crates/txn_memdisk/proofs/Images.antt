-- What a call on one file makes of the images.
use Rattle.std.proofs.Common.{◌≡◌, inl, inr, ⊎_elim, ℕ, ◌+◌, ◌≤◌, List, [], ◌∷◌, ◌++◌, length, refl, sym, ◌∙◌, ap, subst}
use Rattle.std.specs.Prelude.{if◌then◌else◌}
use Rattle.txn_base.specs.declared.file_id.FileId.{FileId}
use Rattle.txn_base.specs.Disk.{Files, Changes, Torn, OldOrResized, same_file}
use Rattle.txn_memdisk.specs.declared.change.Change.{Change}
use Rattle.txn_memdisk.specs.declared.change.Change.TheVariants.{Sized, Written}
use Rattle.txn_memdisk.specs.declared.file.MemFile.{MemFile}
use Rattle.txn_memdisk.specs.Files.{Becomes, Entry, entry_in, updated, sized_entry, written_entry, lost_entry, sure_entry, MayMake, MayLeave, IsImageOf, IsImage, seen_in}
use Rattle.txn_memdisk.proofs.Bytes.{written_torn}
use Rattle.txn_memdisk.proofs.Entries.{same_tells}

leave_push : (changes : List Change) (change : Change) (before after : List ℕ) → MayLeave (changes ++ change ∷ []) before after → (mid : List ℕ) × MayLeave changes before mid × MayMake change mid after
leave_push [] change before after left = (before, refl, subst (λ (x : List ℕ). MayMake change before x) (sym left.2) left.1)
leave_push (c ∷ changes) change before after left =
    let rest = leave_push changes change left.0 after left.2 in (rest.0, (left.0, left.1, rest.1), rest.2)

-- one more change
pub step_image : (entry : Entry) (change : Change) (seen x : List ℕ) → MayMake change entry.seen seen → IsImageOf (record { seen = seen; sure = entry.sure; pending = entry.pending ++ change ∷ [] }) x
    → (d : List ℕ) × IsImageOf entry d × MayMake change d x
step_image entry change seen x makes (inl is) = (entry.seen, inl refl, subst (λ (y : List ℕ). MayMake change entry.seen y) (sym is) makes)
step_image entry change seen x makes (inr left) = let from = leave_push entry.pending change entry.sure x left in (from.0, inr from.1, from.2)

-- the files with this one changed
abbrev patched : FileId → List ℕ → Files → Files
patched file x c id = if same_file file id then x else c id

-- from the file to the files
pub lifted : (files after : List MemFile) (file : FileId) (entry : Entry) (R : List ℕ → List ℕ → Type 0)
    → ((id : FileId) → entry_in after id ≡ updated file entry (entry_in files) id)
    → ((x : List ℕ) → IsImageOf entry x → (d : List ℕ) × IsImageOf (entry_in files file) d × R d x)
    → (c : Files) → IsImage after c → (d : Files) × IsImage files d × Changes file R d c
lifted files after file entry R entries step c image =
    (patched file from.0 c, old_image, record { here = subst (λ (x : List ℕ). R x (c file)) (sym (here file refl)) from.2; others = λ other apart. sym (elsewhere other apart) })
  where
    at_file : entry ≡ entry_in after file
    at_file = sym (entries file ∙ ⊎_elim (λ is. rw is.0 refl) (λ isnt. absurd (isnt.1 refl)) (same_tells file file))

    from : (d : List ℕ) × IsImageOf (entry_in files file) d × R d (c file)
    from = step (c file) (subst (λ (e : Entry). IsImageOf e (c file)) (sym at_file) (image file))

    here : (id : FileId) → file ≡ id → patched file from.0 c id ≡ from.0
    here id e = ⊎_elim (λ is. rw is.0 refl) (λ isnt. absurd (isnt.1 e)) (same_tells file id)

    elsewhere : (id : FileId) → (id ≡ file → ⊥) → patched file from.0 c id ≡ c id
    elsewhere id apart = ⊎_elim (λ is. absurd (apart (sym is.1))) (λ isnt. rw isnt.0 refl) (same_tells file id)

    unchanged : (id : FileId) → (file ≡ id → ⊥) → entry_in after id ≡ entry_in files id
    unchanged id apart = entries id ∙ ⊎_elim (λ is. absurd (apart is.1)) (λ isnt. rw isnt.0 refl) (same_tells file id)

    old_image : IsImage files (patched file from.0 c)
    old_image id = ⊎_elim
        (λ is. subst (λ (x : List ℕ). IsImageOf (entry_in files id) x) (sym (here id is.1)) (subst (λ (f : FileId). IsImageOf (entry_in files f) from.0) is.1 from.1))
        (λ isnt. subst (λ (x : List ℕ). IsImageOf (entry_in files id) x) (sym (elsewhere id (λ e. isnt.1 (sym e)))) (subst (λ (e : Entry). IsImageOf e (c id)) (unchanged id isnt.1) (image id)))
        (same_tells file id)

-- what a read gives of the other files, and of this one
pub seen_elsewhere : (files after : List MemFile) (file : FileId) (entry : Entry) → ((id : FileId) → entry_in after id ≡ updated file entry (entry_in files) id)
    → (other : FileId) → (other ≡ file → ⊥) → seen_in after other ≡ seen_in files other
seen_elsewhere files after file entry entries other apart =
    let same_entry : entry_in after other ≡ entry_in files other = entries other ∙ ⊎_elim (λ is. absurd (apart (sym is.1))) (λ isnt. rw isnt.0 refl) (same_tells file other) in
    ap (λ (e : Entry). e.seen) same_entry

pub seen_here : (files after : List MemFile) (file : FileId) (entry : Entry) → ((id : FileId) → entry_in after id ≡ updated file entry (entry_in files) id) → seen_in after file ≡ entry.seen
seen_here files after file entry entries =
    let here : entry_in after file ≡ entry = entries file ∙ ⊎_elim (λ is. rw is.0 refl) (λ isnt. absurd (isnt.1 refl)) (same_tells file file) in
    ap (λ (e : Entry). e.seen) here

-- a sync leaves fewer images
pub sync_image : (files after : List MemFile) (file : FileId) → ((id : FileId) → entry_in after id ≡ updated file (sure_entry (entry_in files file).seen) (entry_in files) id)
    → (c : Files) → IsImage after c → IsImage files c
sync_image files after file entries c image id = ⊎_elim
    (λ is.
    let synced : entry_in after id ≡ sure_entry (entry_in files file).seen = entries id ∙ rw is.0 refl in
    let here : c id ≡ (entry_in files file).seen = sure (entry_in files file) (c id) (subst (λ (e : Entry). IsImageOf e (c id)) synced (image id)) in
    inl (here ∙ ap (λ (f : FileId). (entry_in files f).seen) is.1))
    (λ isnt. let kept : entry_in after id ≡ entry_in files id = entries id ∙ rw isnt.0 refl in subst (λ (e : Entry). IsImageOf e (c id)) kept (image id))
    (same_tells file id)
  where
    sure : (e : Entry) (x : List ℕ) → IsImageOf (sure_entry e.seen) x → x ≡ e.seen
    sure e x (inl is) = is
    sure e x (inr is) = is

-- the size
pub size_image : (files after : List MemFile) (file : FileId) (size : ℕ) → ((id : FileId) → entry_in after id ≡ updated file (sized_entry size (entry_in files file)) (entry_in files) id)
    → (c : Files) → IsImage after c → (d : Files) × IsImage files d × Changes file (OldOrResized size) d c
size_image files after file size entries =
    lifted files after file (sized_entry size (entry_in files file)) (OldOrResized size) entries (λ x at. step_image (entry_in files file) (Sized size) _ x (inr refl) at)

-- the bytes
pub write_image : (files after : List MemFile) (file : FileId) (offset : ℕ) (bytes : List ℕ) → offset + length bytes ≤ length (entry_in files file).seen
    → ((id : FileId) → entry_in after id ≡ updated file (written_entry offset bytes (entry_in files file)) (entry_in files) id)
    → (c : Files) → IsImage after c → (d : Files) × IsImage files d × Changes file (Torn offset (length bytes)) d c
write_image files after file offset bytes fits entries =
    lifted files after file (written_entry offset bytes (entry_in files file)) (Torn offset (length bytes)) entries
    (λ x at. step_image (entry_in files file) (Written offset (length bytes)) _ x (written_torn offset bytes (entry_in files file).seen fits) at)

-- the bytes of a write that failed
pub lost_image : (files after : List MemFile) (file : FileId) (offset count : ℕ) → ((id : FileId) → entry_in after id ≡ updated file (lost_entry offset count (entry_in files file)) (entry_in files) id)
    → (c : Files) → IsImage after c → (d : Files) × IsImage files d × Changes file (Torn offset count) d c
lost_image files after file offset count entries =
    lifted files after file (lost_entry offset count (entry_in files file)) (Torn offset count) entries
    (λ x at. step_image (entry_in files file) (Written offset count) _ x (record { size = refl; front = refl; back = refl }) at)

-- the bytes of a file that was put
pub put_image : (files after : List MemFile) (file : FileId) (bytes : List ℕ) → ((id : FileId) → entry_in after id ≡ updated file (sure_entry bytes) (entry_in files) id)
    → (c : Files) → IsImage after c → (d : Files) × IsImage files d × Changes file (Becomes bytes) d c
put_image files after file bytes entries =
    lifted files after file (sure_entry bytes) (Becomes bytes) entries (λ x at. ((entry_in files file).seen, inl refl, ⊎_elim (λ is. is) (λ is. is) at))
