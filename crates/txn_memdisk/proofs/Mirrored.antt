-- The images of a disk and what a crash makes of it.
use Rattle.std.proofs.Common.{◌≡◌, inl, inr, ⊎_elim, ℕ, ◌+◌, ◌<◌, List, [], ◌∷◌, ◌++◌, length, take, get_or, true, false, refl, sym, ◌∙◌, ap, subst}
use Rattle.std.proofs.lemmas.Bool.{cases_Bool}
use Rattle.std.proofs.lemmas.List.{take_more}
use Rattle.txn_base.specs.declared.file_id.FileId.{FileId}
use Rattle.txn_base.specs.Disk.{same_file}
use Rattle.txn_memdisk.specs.declared.crash.Choice.{Choice}
use Rattle.txn_memdisk.specs.declared.crash.Choice.TheVariants as choice
use Rattle.txn_memdisk.specs.declared.change.Change.{Change}
use Rattle.txn_memdisk.specs.declared.change.Change.TheVariants.{Sized, Written}
use Rattle.txn_memdisk.specs.declared.file.MemFile.{MemFile}
use Rattle.txn_memdisk.specs.Change.{made, replayed}
use Rattle.txn_memdisk.specs.Files.{Entry, nothing, entry_of, entry_in, sure_entry, MayMake, MayLeave, IsImageOf, IsImage, seen_in}
use Rattle.txn_memdisk.specs.Crash.{chosen, AreCrashedFrom}
use Rattle.txn_memdisk.proofs.Bytes.{filled_torn}

mirrors_push : (how : Choice) (xs ys : List MemFile) (x y : MemFile) → AreCrashedFrom how xs ys → y.id ≡ x.id → entry_of y ≡ sure_entry (chosen how (entry_of x)) → AreCrashedFrom how (xs ++ x ∷ []) (ys ++ y ∷ [])
mirrors_push how [] [] x y m named entry = (named, entry, tt)
mirrors_push how [] (b ∷ ys) x y m named entry = absurd m
mirrors_push how (a ∷ xs) [] x y m named entry = absurd m
mirrors_push how (a ∷ xs) (b ∷ ys) x y m named entry = (m.0, m.1, mirrors_push how xs ys x y m.2 named entry)

pub mirrors_more : (how : Choice) (files ys : List MemFile) (i : ℕ) (x y : MemFile) → i < length files → x ≡ get_or files i x → AreCrashedFrom how (take i files) ys → y.id ≡ x.id → entry_of y ≡ sure_entry (chosen how (entry_of x))
    → AreCrashedFrom how (take (i + 1) files) (ys ++ y ∷ [])
mirrors_more how files ys i x y below is m named entry =
    subst (λ (l : List MemFile). AreCrashedFrom how l (ys ++ y ∷ [])) (sym (take_more files i x below ∙ ap (λ (f : MemFile). take i files ++ f ∷ []) (sym is))) (mirrors_push how (take i files) ys x y m named entry)

chosen_nothing : (how : Choice) → nothing ≡ sure_entry (chosen how nothing)
chosen_nothing choice.Old = refl
chosen_nothing choice.New = refl
chosen_nothing (choice.Torn byte) = refl

-- Each file has the entry that the crash makes.
pub mirrored : (how : Choice) (xs ys : List MemFile) → AreCrashedFrom how xs ys → (id : FileId) → entry_in ys id ≡ sure_entry (chosen how (entry_in xs id))
mirrored how [] [] m id = chosen_nothing how
mirrored how [] (y ∷ ys) m id = absurd m
mirrored how (x ∷ xs) [] m id = absurd m
mirrored how (x ∷ xs) (y ∷ ys) m id = ⊎_elim
    (λ is.
    let here : entry_in (x ∷ xs) id ≡ entry_of x = rw is refl in
    let also : same_file y.id id ≡ true = ap (λ (f : FileId). same_file f id) m.0 ∙ is in
    let there : entry_in (y ∷ ys) id ≡ entry_of y = rw also refl in
    there ∙ m.1 ∙ ap (λ (e : Entry). sure_entry (chosen how e)) (sym here))
    (λ isnt.
    let here : entry_in (x ∷ xs) id ≡ entry_in xs id = rw isnt refl in
    let also : same_file y.id id ≡ false = ap (λ (f : FileId). same_file f id) m.0 ∙ isnt in
    let there : entry_in (y ∷ ys) id ≡ entry_in ys id = rw also refl in
    there ∙ mirrored how xs ys m.2 id ∙ ap (λ (e : Entry). sure_entry (chosen how e)) (sym here))
    (cases_Bool (same_file x.id id))

make_same : (change : Change) (x : List ℕ) → MayMake change x x
make_same (Sized size) x = inl refl
make_same (Written offset count) x = record { size = refl; front = refl; back = refl }

leave_same : (changes : List Change) (x : List ℕ) → MayLeave changes x x
leave_same [] x = refl
leave_same (c ∷ changes) x = (x, make_same c x, leave_same changes x)

make_filled : (byte : ℕ) (change : Change) (x : List ℕ) → MayMake change x (made byte change x)
make_filled byte (Sized size) x = inr refl
make_filled byte (Written offset count) x = filled_torn offset count byte x

leave_filled : (byte : ℕ) (changes : List Change) (x : List ℕ) → MayLeave changes x (replayed byte changes x)
leave_filled byte [] x = refl
leave_filled byte (c ∷ changes) x = (made byte c x, make_filled byte c x, leave_filled byte changes (made byte c x))

chosen_image : (how : Choice) (entry : Entry) → IsImageOf entry (chosen how entry)
chosen_image choice.Old entry = inr (leave_same entry.pending entry.sure)
chosen_image choice.New entry = inl refl
chosen_image (choice.Torn byte) entry = inr (leave_filled byte entry.pending entry.sure)

-- It is one of the images.
pub crash_image : (how : Choice) (xs ys : List MemFile) → AreCrashedFrom how xs ys → IsImage xs (seen_in ys)
crash_image how xs ys m id =
    subst (λ (x : List ℕ). IsImageOf (entry_in xs id) x) (sym (ap (λ (e : Entry). e.seen) (mirrored how xs ys m id))) (chosen_image how (entry_in xs id))

-- It has no other.
pub crash_only : (how : Choice) (xs ys : List MemFile) → AreCrashedFrom how xs ys → (c : FileId → List ℕ) → IsImage ys c → (id : FileId) → c id ≡ seen_in ys id
crash_only how xs ys m c image id =
    let e = mirrored how xs ys m id in
    ⊎_elim (λ is. is) (λ is. is) (subst (λ (entry : Entry). IsImageOf entry (c id)) e (image id)) ∙ sym (ap (λ (entry : Entry). entry.seen) e)
