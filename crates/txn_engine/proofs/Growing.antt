-- What files stand for only grows, through a call and through calls behind each other.
use Rattle.std.proofs.Common.{◌≡◌, ⊎_elim, inl, inr, ℕ, List, [], ◌∷◌, ◌++◌, refl, sym, ◌∙◌, subst, append_assoc, append-nil}
use Rattle.txn_base.specs.declared.disk.Disk.{Ghosts}
use Rattle.txn_base.specs.declared.file_id.FileId.{FileId}
use Rattle.txn_base.specs.Content.{LedgerContent, Appends}
use Rattle.txn_base.specs.Disk.{Files, Same}
use Rattle.txn_base.specs.Frames.{Batch, Stands, IsDamagedAt}
use Rattle.txn_base.specs.Moves.{After}
use Rattle.txn_base.proofs.Laws.{goes_on, started, stands_one, stands_not_damaged, weaker}
use Rattle.txn_ledger.specs.Ledger.{IsFile, StandsIn}
use Rattle.txn_model.specs.declared.world.World.{World}
use Rattle.txn_model.specs.Sound.{StandsFor}
use Rattle.txn_model.specs.World.{Extends}
use Rattle.txn_model.proofs.Laws.Worlds.{extends_both, extends_same}
use Rattle.txn_engine.specs.Growing.{Grows, GrowsFile, GrowsList, GrowsWorld}
use Rattle.txn_engine.specs.Opening.{KeepsFiles, KeepsWorld}
use Rattle.txn_engine.proofs.OpeningFiles.{same_or_not, keeps_list}

-- ---- Between two moments.

list_stays : (before after : List ℕ) (batches : List Batch) → Stands after batches → (more : List Batch) × Stands after (batches ++ more)
list_stays before after batches stands = ([], subst (Stands after) (sym (append-nil batches)) stands)

file_itself : (bytes : List ℕ) → GrowsFile bytes bytes
file_itself bytes = record { list = list_stays bytes bytes; damage = λ entry damaged. refl }

grows_itself : (c : Files) → Grows c c
grows_itself c file = file_itself (c file)

grows_after : (a b c : Files) → Grows a b → Grows b c → Grows a c
grows_after a b c one two file = record {
  list = λ batches stands.
      let first = (one file).list batches stands in
      let second = (two file).list (batches ++ first.0) first.1 in
      (first.0 ++ second.0, subst (Stands (c file)) (append_assoc batches first.0 second.0) second.1);
  damage = λ entry damaged.
      let same = (one file).damage entry damaged in
      (two file).damage entry (subst (λ (l : List ℕ). IsDamagedAt l entry) (sym same) damaged) ∙ same;
}

same_grows : (d c : Files) → Same d c → Grows d c
same_grows d c same = subst (Grows d) (sym same) (grows_itself d)

-- an append to a ledger that stood for its batches
pub appended_grows : (content : LedgerContent) (batch : Batch) (d c : Files) → StandsIn content.key d content.batches → Appends IsFile StandsIn content batch d c → Grows d c
appended_grows content batch d c before step file = ⊎_elim
    (λ same. subst (λ (f : FileId). GrowsFile (d f) (c f)) (sym same)
    (record { list = here; damage = λ entry damaged. absurd (stands_not_damaged (d content.key) content.batches entry before damaged) }))
    (λ apart. subst (GrowsFile (d file)) (sym (step.others file apart)) (file_itself (d file)))
    (same_or_not file content.key)
  where
    here : GrowsList (d content.key) (c content.key)
    here batches stands = subst (λ (bs : List Batch). (more : List Batch) × Stands (c content.key) (bs ++ more))
        (stands_one (d content.key) content.batches batches before stands)
        (⊎_elim (λ none. list_stays (d content.key) (c content.key) content.batches none) (λ more. (batch ∷ [], more)) step.here)

worlds_after : (names : List (List ℕ)) (a b c : Files) → GrowsWorld names a b → GrowsWorld names b c → GrowsWorld names a c
worlds_after names a b c one two w stands =
    let first = one w stands in
    let second = two first.0 first.1 in
    (second.0, second.1, extends_both w first.0 second.0 first.2 second.2)

-- ---- In each image.

module _ {D : Type 0} (on : Ghosts D) where
  pub files_first : (disk : D) → After on Grows disk disk
  files_first disk = started on disk Grows (λ c at. grows_itself c)

  pub files_then : (old mid new : D) → After on Grows old mid → After on Grows mid new → After on Grows old new
  files_then old mid new one two = goes_on on Grows Grows Grows old mid new one two (λ d c at is. is) (λ d e c at first mid_at second. grows_after d e c first second)

  pub files_same : (old new : D) → After on Same old new → After on Grows old new
  files_same old new since = weaker on Same Grows old new (λ d c at same. same_grows d c same) since

  pub lists_files : (old new : D) → After on KeepsFiles old new → After on Grows old new
  lists_files old new since = weaker on KeepsFiles Grows old new (λ d c at keeps file. record { list = λ batches stands. list_stays (d file) (c file) batches (keeps_list _ _ (keeps file) batches stands); damage = (keeps file).damage }) since

  module _ (names : List (List ℕ)) where
    pub worlds_first : (disk : D) → After on (GrowsWorld names) disk disk
    worlds_first disk = started on disk (GrowsWorld names) (λ c at w stands. (w, stands, extends_same w))

    pub worlds_then : (old mid new : D) → After on (GrowsWorld names) old mid → After on (GrowsWorld names) mid new → After on (GrowsWorld names) old new
    worlds_then old mid new one two = goes_on on (GrowsWorld names) (GrowsWorld names) (GrowsWorld names) old mid new one two (λ d c at is. is) (λ d e c at first mid_at second. worlds_after names d e c first second)

    pub worlds_same : (old new : D) → After on Same old new → After on (GrowsWorld names) old new
    worlds_same old new since = weaker on Same (GrowsWorld names) old new (λ d c at same w stands. (w, subst (λ (files : Files). StandsFor names files w) (sym same) stands, extends_same w)) since

    pub lists_worlds : (old new : D) → After on (KeepsWorld names) old new → After on (GrowsWorld names) old new
    lists_worlds old new since = weaker on (KeepsWorld names) (GrowsWorld names) old new (λ d c at keeps w stands. (w, keeps w stands, extends_same w)) since
