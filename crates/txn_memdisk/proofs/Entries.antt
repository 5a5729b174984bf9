-- Entries of files that are found, added and replaced.
use Rattle.std.proofs.Common.{◌≡◌, ◌⊎◌, inl, inr, ⊎_elim, ℕ, suc, ◌+◌, ◌<◌, true, false, List, [], ◌∷◌, ◌++◌, length, take, drop, get_or, refl, sym, ◌∙◌, ap, subst, add-one, take-append-drop, arith, length-append}
use Rattle.std.specs.Prelude.{eqb}
use Rattle.std.proofs.lemmas.Bool.{cases_Bool}
use Rattle.std.proofs.lemmas.Bool.Decides.{eqb_tells}
use Rattle.std.proofs.lemmas.List.{take_more, drop_more, set_split, get_or_default}
use Rattle.std.proofs.Math.ListN.{set}
use Rattle.std.proofs.Math.Seq.{take-append_seam}
use Rattle.txn_base.specs.declared.file_id.FileId.{FileId}
use Rattle.txn_base.specs.Disk.{same_file}
use Rattle.txn_memdisk.specs.declared.file.MemFile.{MemFile}
use Rattle.txn_memdisk.specs.Files.{Entry, entry_of, entry_in, nothing, updated}
use Rattle.txn_memdisk.specs.Places.{Misses, IsFileAt}

-- whether both name the same file
abbrev pub Tells : FileId → FileId → Type 0
Tells a b = ((same_file a b ≡ true) × (a ≡ b)) ⊎ ((same_file a b ≡ false) × (a ≡ b → ⊥))

pub same_tells : (a b : FileId) → Tells a b
same_tells a b = parts (eqb_tells a.part b.part) (eqb_tells a.row b.row)
  where
    parts : ((eqb a.part b.part ≡ true) × (a.part ≡ b.part)) ⊎ ((eqb a.part b.part ≡ false) × (a.part ≡ b.part → ⊥)) → ((eqb a.row b.row ≡ true) × (a.row ≡ b.row)) ⊎ ((eqb a.row b.row ≡ false) × (a.row ≡ b.row → ⊥)) → Tells a b
    parts (inl p) (inl r) = inl (rw (p.0, r.0) refl, λ i. record { part = p.1 i; row = r.1 i })
    parts (inr p) r = inr (rw p.0 refl, λ e. p.1 (ap (λ (f : FileId). f.part) e))
    parts (inl p) (inr r) = inr (rw (p.0, r.0) refl, λ e. r.1 (ap (λ (f : FileId). f.row) e))

pub same_is : (a b : FileId) → same_file a b ≡ true → a ≡ b
same_is a b e = ⊎_elim (λ is. is.1) (λ isnt. absurd (cc (isnt.0, e))) (same_tells a b)

pub same_itself : (a : FileId) → same_file a a ≡ true
same_itself a = ⊎_elim (λ is. is.0) (λ isnt. absurd (isnt.1 refl)) (same_tells a a)

misses_push : (files : List MemFile) (file : MemFile) (id : FileId) → Misses files id → same_file file.id id ≡ false → Misses (files ++ file ∷ []) id
misses_push [] file id miss is = (is, tt)
misses_push (f ∷ files) file id miss is = (miss.0, misses_push files file id miss.1 is)

-- one file more isn't it
pub misses_more : (files : List MemFile) (i : ℕ) (d : MemFile) (id : FileId) → i < length files → Misses (take i files) id → same_file (get_or files i d).id id ≡ false → Misses (take (i + 1) files) id
misses_more files i d id below miss apart =
    subst (λ (l : List MemFile). Misses l id) (sym (take_more files i d below)) (misses_push (take i files) (get_or files i d) id miss apart)

-- A file that was never written has the entry of one that isn't there.
pub push_nothing : (files : List MemFile) (next : MemFile) → entry_of next ≡ nothing → (id : FileId) → entry_in (files ++ next ∷ []) id ≡ entry_in files id
push_nothing [] next e id = ⊎_elim (λ is. rw is e) (λ isnt. rw isnt refl) (cases_Bool (same_file next.id id))
push_nothing (file ∷ files) next e id = ⊎_elim (λ is. rw is refl) (λ isnt. rw isnt (push_nothing files next e id)) (cases_Bool (same_file file.id id))

last_is : (files : List MemFile) (next d : MemFile) → get_or (files ++ next ∷ []) (length files) d ≡ next
last_is [] next d = refl
last_is (file ∷ files) next d = last_is files next d

-- It stands at the end.
pub push_at : (files : List MemFile) (next : MemFile) (id : FileId) → next.id ≡ id → Misses files id → IsFileAt (files ++ next ∷ []) (length files) id
push_at files next id e miss = record {
  file = next;
  below = omega (arith, length-append files (next ∷ []));
  is = last_is files next next;
  named = ap (λ (f : FileId). same_file f id) e ∙ same_itself id;
  first = subst (λ (l : List MemFile). Misses l id) (sym (take-append_seam files (next ∷ []))) miss;
}

-- behind those that miss
found : (front back : List MemFile) (id : FileId) → Misses front id → entry_in (front ++ back) id ≡ entry_in back id
found [] back id miss = refl
found (file ∷ front) back id miss = rw miss.0 (found front back id miss.1)

-- What isn't there has the entry of a file that was never written.
pub missed : (files : List MemFile) (id : FileId) → Misses files id → entry_in files id ≡ nothing
missed [] id miss = refl
missed (file ∷ files) id miss = rw miss.0 (missed files id miss.1)

at_entry : (file : MemFile) (files : List MemFile) (id : FileId) → same_file file.id id ≡ true → entry_in (file ∷ files) id ≡ entry_of file
at_entry file files id e = rw e refl

past_entry : (file : MemFile) (files : List MemFile) (id : FileId) → same_file file.id id ≡ false → entry_in (file ∷ files) id ≡ entry_in files id
past_entry file files id e = rw e refl

updated_here : (file : FileId) (entry : Entry) (entries : FileId → Entry) (id : FileId) → same_file file id ≡ true → updated file entry entries id ≡ entry
updated_here file entry entries id e = rw e refl

updated_other : (file : FileId) (entry : Entry) (entries : FileId → Entry) (id : FileId) → same_file file id ≡ false → updated file entry entries id ≡ entries id
updated_other file entry entries id e = rw e refl

-- another file's entry, with one more or without
elsewhere : (front back : List MemFile) (file : MemFile) (id : FileId) → same_file file.id id ≡ false → entry_in (front ++ file ∷ back) id ≡ entry_in (front ++ back) id
elsewhere [] back file id e = past_entry file back id e
elsewhere (f ∷ front) back file id e = ⊎_elim
    (λ is. at_entry f (front ++ file ∷ back) id is ∙ sym (at_entry f (front ++ back) id is))
    (λ isnt. past_entry f (front ++ file ∷ back) id isnt ∙ elsewhere front back file id e ∙ sym (past_entry f (front ++ back) id isnt))
    (cases_Bool (same_file f.id id))

between : (front back : List MemFile) (old next : MemFile) (key : FileId) → Misses front key → old.id ≡ key → next.id ≡ key → (id : FileId) → entry_in (front ++ next ∷ back) id ≡ updated key (entry_of next) (entry_in (front ++ old ∷ back)) id
between front back old next key miss is_old is_next id = ⊎_elim
    (λ is. found front (next ∷ back) id (subst (λ (f : FileId). Misses front f) is.1 miss) ∙ at_entry next back id (ap (λ (f : FileId). same_file f id) is_next ∙ is.0) ∙ sym (updated_here key (entry_of next) (entry_in (front ++ old ∷ back)) id is.0))
    (λ isnt. elsewhere front back next id (ap (λ (f : FileId). same_file f id) is_next ∙ isnt.0) ∙ sym (elsewhere front back old id (ap (λ (f : FileId). same_file f id) is_old ∙ isnt.0)) ∙ sym (updated_other key (entry_of next) (entry_in (front ++ old ∷ back)) id isnt.0))
    (same_tells key id)

split_at : (files : List MemFile) (i : ℕ) (d : MemFile) → i < length files → files ≡ take i files ++ get_or files i d ∷ drop (suc i) files
split_at files i d below = sym (take-append-drop i files) ∙ ap (λ (l : List MemFile). take i files ++ l) (drop_more files i d below ∙ (λ j. get_or files i d ∷ drop (add-one i j) files))

-- The file's entry is that of the file at its index.
pub entry_at : (files : List MemFile) (i : ℕ) (id : FileId) → IsFileAt files i id → (d : MemFile) → entry_in files id ≡ entry_of (get_or files i d)
entry_at files i id at d =
    let front = take i files in
    let back = drop (suc i) files in
    ap (λ (l : List MemFile). entry_in l id) (split_at files i at.file at.below ∙ ap (λ (f : MemFile). front ++ f ∷ back) at.is)
    ∙ found front (at.file ∷ back) id at.first ∙ at_entry at.file back id at.named ∙ ap entry_of (sym at.is)
    ∙ ap entry_of (get_or_default files i at.file d at.below)

-- The file at that index is replaced.
pub put_at : (files : List MemFile) (i : ℕ) (key : FileId) (next : MemFile) → IsFileAt files i key → next.id ≡ (get_or files i next).id → (id : FileId) → entry_in (set files i next) id ≡ updated key (entry_of next) (entry_in files) id
put_at files i key next at named id =
    let front = take i files in
    let back = drop (suc i) files in
    let old = get_or files i next in
    let is_old : old.id ≡ key = ap (λ (f : MemFile). f.id) (get_or_default files i next at.file at.below ∙ at.is) ∙ same_is at.file.id key at.named in
    ap (λ (l : List MemFile). entry_in l id) (set_split files i next at.below)
    ∙ between front back old next key at.first is_old (named ∙ is_old) id
    ∙ ap (λ (l : List MemFile). updated key (entry_of next) (entry_in l) id) (sym (split_at files i next at.below))

-- One file was found or made.
module _ (files placed : List MemFile) (i : ℕ) (key : FileId) (same : (id : FileId) → entry_in placed id ≡ entry_in files id) (at : IsFileAt placed i key) (file : MemFile) (is : file ≡ get_or placed i file) where
  -- its entry
  pub placed_entry : entry_of file ≡ entry_in files key
  placed_entry = ap entry_of is ∙ sym (entry_at placed i key at file) ∙ same key

  -- It was changed.
  pub changed_at : (next : MemFile) (change : Entry → Entry) → next.id ≡ file.id → entry_of next ≡ change (entry_of file) → (id : FileId) → entry_in (set placed i next) id ≡ updated key (change (entry_in files key)) (entry_in files) id
  changed_at next change named makes id =
      put_at placed i key next at (named ∙ ap (λ (f : MemFile). f.id) (is ∙ get_or_default placed i file next at.below)) id
      ∙ ⊎_elim (λ here. updated_here key (entry_of next) (entry_in placed) id here ∙ makes ∙ ap change placed_entry ∙ sym (updated_here key (change (entry_in files key)) (entry_in files) id here))
      (λ other. updated_other key (entry_of next) (entry_in placed) id other ∙ same id ∙ sym (updated_other key (change (entry_in files key)) (entry_in files) id other))
      (cases_Bool (same_file key id))

  -- It stayed as it was.
  pub unchanged_at : (next : MemFile) → next.id ≡ file.id → entry_of next ≡ entry_of file → (id : FileId) → entry_in (set placed i next) id ≡ entry_in files id
  unchanged_at next named makes id =
      changed_at next (λ (e : Entry). e) named makes id
      ∙ ⊎_elim (λ here. updated_here key (entry_in files key) (entry_in files) id here ∙ ap (entry_in files) (same_is key id here)) (λ other. updated_other key (entry_in files key) (entry_in files) id other) (cases_Bool (same_file key id))
