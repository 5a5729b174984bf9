-- Images from a moment on.
use Rattle.std.proofs.Common.{◌≡◌, ◌⊎◌, inl, inr, ⊎_elim, ℕ, ◌≤◌, List, [], ◌∷◌, ◌++◌, length, drop, sym, ◌∙◌, ap, subst, arith, length-append}
use Rattle.std.specs.Prelude.{Vec}
use Rattle.std.specs.declared.alloc.Global.{Global}
use Rattle.std.specs.declared.snapshot.Snapshot.{Snapshot}
use Rattle.std.proofs.lemmas.List.{drop-append-le}
use Rattle.txn_base.specs.Disk.{Files, Since}
use Rattle.txn_memdisk.specs.declared.file.MemFile.{MemFile}
use Rattle.txn_memdisk.specs.declared.disk.MemDisk.{MemDisk}
use Rattle.txn_base.specs.declared.file_id.FileId.{FileId}
use Rattle.txn_memdisk.specs.Files.{Entry, entry_in, IsImage, IsImageOf}
use Rattle.txn_memdisk.specs.Past.{Past, Remembers, HadBeen}
use Rattle.txn_memdisk.specs.Disk.{image_of, moment_of, left_since_of}

keeps : (past : Past) (v : Snapshot (Vec MemFile Global)) (c : Files) → HadBeen past c → HadBeen (past ++ v ∷ []) c
keeps [] v c had = absurd had
keeps (p ∷ past) v c (inl here) = inl here
keeps (p ∷ past) v c (inr there) = inr (keeps past v c there)

adds : (past : Past) (v : Snapshot (Vec MemFile Global)) (c : Files) → HadBeen (past ++ v ∷ []) c → HadBeen past c ⊎ IsImage v.value.items c
adds [] v c (inl here) = inr here
adds [] v c (inr none) = absurd none
adds (p ∷ past) v c (inl here) = inl (inl here)
adds (p ∷ past) v c (inr there) = ⊎_elim (λ had. inl (inr had)) (λ new. inr new) (adds past v c there)

newest : (past : Past) (v : Snapshot (Vec MemFile Global)) (c : Files) → IsImage v.value.items c → HadBeen (past ++ v ∷ []) c
newest [] v c is = inl is
newest (p ∷ past) v c is = inr (newest past v c is)

-- the state before is remembered, and each image now comes from one of it
pub changed : (R : Files → Files → Type 0) (old new : MemDisk) → Remembers old.files.items old.past.items new.past.items
    → ((c : Files) → image_of new c → (d : Files) × image_of old d × R d c)
    → Since moment_of image_of left_since_of R old new
changed R old new (v, was, grown) step = record {
  time = omega (arith, ap length grown, length-append old.past.items (v ∷ []));
  at_end = step;
  between = λ t c le left. ⊎_elim (λ at. inr (step c at)) (λ had. inl (⊎_elim (λ h. inr h) (λ at. inl (subst (λ (files : List MemFile). IsImage files c) was at)) (adds (drop t old.past.items) v c (subst (λ (p : Past). HadBeen p c) (dropped t le) had)))) left;
  keeps = λ t c le left. inr (subst (λ (p : Past). HadBeen p c) (sym (dropped t le)) (⊎_elim (λ at. newest (drop t old.past.items) v c (subst (λ (files : List MemFile). IsImage files c) (sym was) at)) (λ h. keeps (drop t old.past.items) v c h) left));
}
  where
    dropped : (t : ℕ) → t ≤ length old.past.items → drop t new.past.items ≡ drop t old.past.items ++ v ∷ []
    dropped t le = ap (λ (p : Past). drop t p) grown ∙ drop-append-le t old.past.items (v ∷ []) le

-- No entry and no state before changed.
pub unchanged : (R : Files → Files → Type 0) (old new : MemDisk) → ((c : Files) → R c c) → ((id : FileId) → entry_in new.files.items id ≡ entry_in old.files.items id) → new.past.items ≡ old.past.items
    → Since moment_of image_of left_since_of R old new
unchanged R old new same entries past = record {
  time = omega (arith, ap length past);
  at_end = λ c at. (c, back c at, same c);
  between = λ t c le left. inl (⊎_elim (λ at. inl (back c at)) (λ had. inr (subst (λ (p : Past). HadBeen (drop t p) c) past had)) left);
  keeps = λ t c le left. ⊎_elim (λ at. inl (on c at)) (λ had. inr (subst (λ (p : Past). HadBeen (drop t p) c) (sym past) had)) left;
}
  where
    back : (c : Files) → image_of new c → image_of old c
    back c at id = subst (λ (e : Entry). IsImageOf e (c id)) (entries id) (at id)

    on : (c : Files) → image_of old c → image_of new c
    on c at id = subst (λ (e : Entry). IsImageOf e (c id)) (sym (entries id)) (at id)
