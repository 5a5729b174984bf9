-- What opening leaves of files, and the counts of faults.
use Rattle.std.proofs.Common.{◌≡◌, ◌⊎◌, ⊎_elim, inl, inr, ℕ, ◌≤◌, true, false, List, [], ◌∷◌, ◌++◌, All, refl, sym, ap, ◌∙◌, subst, arith}
use Rattle.std.specs.Prelude.{eqb}
use Rattle.std.proofs.lemmas.Bool.Decides.{eqb_tells}
use Rattle.std.proofs.lemmas.List.{append-nil}
use Rattle.std.proofs.lemmas.List.Elements.{All-head, All-tail, All-cons, All-nil}
use Rattle.txn_base.specs.declared.disk.Disk.{Ghosts}
use Rattle.txn_base.specs.Moves.{After}
use Rattle.txn_base.specs.declared.file_id.FileId.{FileId}
use Rattle.txn_base.specs.Content.{LedgerContent, Standing, settled, in_flight, looked_at, KeptOrNot, Settles}
use Rattle.txn_base.specs.Disk.{Files, Elsewhere, Changes, CountsFaults}
use Rattle.txn_base.specs.Frames.{Batch, IsBatch, Stands, IsDamagedAt, frames}
use Rattle.txn_base.specs.Outside.{Rose}
use Rattle.txn_base.proofs.Laws.{goes_on, weaker, settled_stands, stands_not_damaged}
use Rattle.txn_ledger.specs.Found.{KeepsDamaged, KeepsFile, KeepsList}
use Rattle.txn_ledger.specs.Ledger.{IsFile, StandsIn, ExactlyIn, Stored}
use Rattle.txn_model.specs.Sound.{ledger_file, part_file, StandsForEntries}
use Rattle.txn_buffer.specs.View.{TopicView}
use Rattle.txn_engine.specs.Opening.{KeepsFiles, KeepsAllDamaged, KeepsWorld}

-- ---- One file changes.

pub same_or_not : (a b : FileId) → (a ≡ b) ⊎ (a ≡ b → ⊥)
same_or_not a b = parts (eqb_tells a.part b.part) (eqb_tells a.row b.row)
  where
    parts : ((eqb a.part b.part ≡ true) × (a.part ≡ b.part)) ⊎ ((eqb a.part b.part ≡ false) × (a.part ≡ b.part → ⊥)) → ((eqb a.row b.row ≡ true) × (a.row ≡ b.row)) ⊎ ((eqb a.row b.row ≡ false) × (a.row ≡ b.row → ⊥)) → (a ≡ b) ⊎ (a ≡ b → ⊥)
    parts (inl p) (inl r) = inl (λ i. record { part = p.1 i; row = r.1 i })
    parts (inr p) r = inr (λ e. p.1 (ap (λ (f : FileId). f.part) e))
    parts (inl p) (inr r) = inr (λ e. r.1 (ap (λ (f : FileId). f.row) e))

-- just frames stand for these
just_stands : (bytes : List ℕ) (batches : List Batch) → All IsBatch batches → bytes ≡ frames batches → Stands bytes batches
just_stands bytes batches each just = record { each = each; rest = []; split = just ∙ sym (append-nil (frames batches)); shut = tt }

pub keeps_itself : (bytes : List ℕ) → KeepsFile bytes bytes
keeps_itself bytes = record { cut = λ batches stands. inl refl; damage = λ entry damaged. refl }

-- What the bytes stood for they stand for; and just frames stay just those.
pub keeps_list : (x y : List ℕ) → KeepsFile x y → KeepsList x y
keeps_list x y keeps batches stands = ⊎_elim (λ same. subst (λ (l : List ℕ). Stands l batches) (sym same) stands) (λ only. just_stands y batches stands.each only) (keeps.cut batches stands)

pub keeps_just : (x y : List ℕ) → KeepsFile x y → (batches : List Batch) → All IsBatch batches → x ≡ frames batches → y ≡ x
keeps_just x y keeps batches each just = ⊎_elim (λ same. same) (λ only. only ∙ sym just) (keeps.cut batches (just_stands x batches each just))

pub file_then : (x y z : List ℕ) → KeepsFile x y → KeepsFile y z → KeepsFile x z
file_then x y z one two = record {
  cut = λ batches stands.
      ⊎_elim
      (λ stays. ⊎_elim (λ same. inl (stays ∙ same)) (λ only. inr (stays ∙ only)) (one.cut batches stands))
      (λ only. inr only)
      (two.cut batches (keeps_list x y one batches stands));
  damage = λ entry damaged. (let same = one.damage entry damaged in two.damage entry (subst (λ (l : List ℕ). IsDamagedAt l entry) (sym same) damaged) ∙ same);
}

pub keeps_all : (key : FileId) (d c : Files) → Changes key KeepsFile d c → KeepsFiles d c
keeps_all key d c is file = ⊎_elim
    (λ same. subst (λ (f : FileId). KeepsFile (d f) (c f)) (sym same) is.here)
    (λ apart. subst (KeepsFile (d file)) (sym (is.others file apart)) (keeps_itself (d file)))
    (same_or_not file key)

pub others_then : (key file : FileId) (a b c : Files) → key ≡ file → Elsewhere file a b → ((other : FileId) → (IsFile key other → ⊥) → c other ≡ b other) → Elsewhere file a c
others_then key file a b c e one two other ne = two other (λ same. ne (same ∙ e)) ∙ one other ne

-- ---- What is damaged stays.

pub not_damaged : (before after : List ℕ) (batches : List Batch) → Stands before batches → KeepsDamaged before after
not_damaged before after batches stands = λ entry damaged. absurd (stands_not_damaged before batches entry stands damaged)

pub damaged_all : (key : FileId) (d c : Files) → Elsewhere key d c → KeepsDamaged (d key) (c key) → KeepsAllDamaged d c
damaged_all key d c others here file = ⊎_elim
    (λ same. subst (λ (f : FileId). KeepsDamaged (d f) (c f)) (sym same) here)
    (λ apart entry damaged. others file apart)
    (same_or_not file key)

pub damaged_then : (before mid after : Files) → KeepsAllDamaged before mid → KeepsAllDamaged mid after → KeepsAllDamaged before after
damaged_then before mid after one two file entry damaged =
    let first : mid file ≡ before file = one file entry damaged in
    two file entry (subst (λ (bytes : List ℕ). IsDamagedAt bytes entry) (sym first) damaged) ∙ first

-- ---- A file keeps its list through a step of a replay with nothing in flight.

module _ {D : Type 0} (on : Ghosts D) where
  pub mended_keeps : (key : FileId) (content : LedgerContent) (old mid new : D) → content.key ≡ key → content.standing ≡ settled → Stored (on.image mid) content
      → After on (Changes key KeepsFile) old mid → After on (Settles IsFile StandsIn content) mid new
      → After on (Changes key KeepsFile) old new
  mended_keeps key content old mid new key_is settled_is backed so_far call =
      goes_on on (Changes key KeepsFile) (Settles IsFile StandsIn content) (Changes key KeepsFile) old mid new so_far call
      (λ d c at one. one) (λ d e c at one mid_at two. further d e c one mid_at two)
    where
      further : (d e c : Files) → Changes key KeepsFile d e → on.image mid e → Settles IsFile StandsIn content e c → Changes key KeepsFile d c
      further d e c one at two = subst (λ (f : Files). Changes key KeepsFile d f) (sym (two.quiet settled_is)) one

  -- ---- Each file keeps its list.

  pub keeps_of : (key : FileId) (old new : D) → After on (Changes key KeepsFile) old new → After on KeepsFiles old new
  keeps_of key old new since = weaker on (Changes key KeepsFile) KeepsFiles old new (λ d c at is. keeps_all key d c is) since

  pub keeps_then : (old mid new : D) → After on KeepsFiles old mid → After on KeepsFiles mid new → After on KeepsFiles old new
  keeps_then old mid new one two = goes_on on KeepsFiles KeepsFiles KeepsFiles old mid new one two (λ d c at is. is) (λ d e c at first mid_at second file. file_then (d file) (e file) (c file) (first file) (second file))

  pub backed_kept : (content : LedgerContent) (old new : D) → After on KeepsFiles old new → Stored (on.image old) content → Stored (on.image new) content
  backed_kept content old new since backed = record {
    each = λ c at. let from = since.at_end c at in each_kept content.standing from.0 c from.2 (backed.each from.0 from.1);
    exact = λ is c at.
        let from = since.at_end c at in
        let stands = settled_stands StandsIn ExactlyIn (on.image old) content is backed from.0 from.1 in
        let just = backed.exact is from.0 from.1 in
        keeps_just (from.0 content.key) (c content.key) (from.2 content.key) content.batches stands.each just ∙ just;
  }
    where
      each_kept : (s : Standing) (d c : Files) → KeepsFiles d c → KeptOrNot (StandsIn content.key d) content.batches s → KeptOrNot (StandsIn content.key c) content.batches s
      each_kept settled d c keeps h = keeps_list _ _ (keeps content.key) content.batches h
      each_kept looked_at d c keeps h = keeps_list _ _ (keeps content.key) content.batches h
      each_kept (in_flight batch) d c keeps h = ⊎_elim (λ none. inl (keeps_list _ _ (keeps content.key) content.batches none)) (λ more. inr (keeps_list _ _ (keeps content.key) (content.batches ++ batch ∷ []) more)) h

  pub topics_kept : (ts : List TopicView) (old new : D) → After on KeepsFiles old new → All (λ t. Stored (on.image old) t.content) ts → All (λ t. Stored (on.image new) t.content) ts
  topics_kept [] old new since all = All-nil (λ t. Stored (on.image new) t.content)
  topics_kept (t ∷ ts) old new since all =
      All-cons (λ t. Stored (on.image new) t.content) t ts
      (backed_kept t.content old new since (All-head (λ t. Stored (on.image old) t.content) t ts all)) (topics_kept ts old new since (All-tail (λ t. Stored (on.image old) t.content) t ts all))

  -- ---- The files stand for the world for which they stood.

  entries_kept : {E : Type 0} (is : List ℕ → E → Type 0) (before after : List ℕ) (es : List E) → KeepsFile before after → StandsForEntries is before es → StandsForEntries is after es
  entries_kept is before after es keeps was = record { batches = was.batches; stands = keeps_list before after keeps was.batches was.stands; each = was.each }

  world_kept : (names : List (List ℕ)) (d c : Files) → KeepsFiles d c → KeepsWorld names d c
  world_kept names d c keeps w was = record {
    named = was.named;
    shaped = was.shaped;
    coord = entries_kept _ _ _ w.coord (keeps (ledger_file 0)) was.coord;
    topics = λ p h. entries_kept _ _ _ _ (keeps (ledger_file p)) (was.topics p h);
    subs = λ p h. entries_kept _ _ _ _ (keeps (ledger_file p)) (was.subs p h);
    others = λ p row above most few. keeps_list _ _ (keeps (part_file p row)) [] (was.others p row above most few);
  }

  pub worlds_kept : (names : List (List ℕ)) (old new : D) → After on KeepsFiles old new → After on (KeepsWorld names) old new
  worlds_kept names old new since = weaker on KeepsFiles (KeepsWorld names) old new (λ d c at keeps. world_kept names d c keeps) since

-- ---- Counts of one part.

rose_then : (a b c : ℕ) → a ≤ b → Rose b c → Rose a c
rose_then a b c le rose = grind (arith, le, rose)

pub part_none : (p f g : ℕ) (fs gs : ℕ → ℕ) (X : Type 0) → CountsFaults p f g fs gs X → CountsFaults p f g fs gs ⊥
part_none p f g fs gs X h = record { later = h.later; parts_later = h.parts_later; failed = λ none. absurd none; others = h.others }

pub part_then : (p f g h : ℕ) (fs gs hs : ℕ → ℕ) (X Y : Type 0) → CountsFaults p f g fs gs X → CountsFaults p g h gs hs Y → CountsFaults p f h fs hs Y
part_then p f g h fs gs hs X Y one two = record {
  later = omega (arith, one.later, two.later);
  parts_later = λ q. omega (arith, one.parts_later q, two.parts_later q);
  failed = λ y. (rose_then f g h one.later (two.failed y).0, rose_then (fs p) (gs p) (hs p) (one.parts_later p) (two.failed y).1);
  others = λ q most other. two.others q most other ∙ one.others q most other;
}

pub part_at : (p : ℕ) (key : FileId) (f g : ℕ) (fs gs : ℕ → ℕ) (X : Type 0) → key ≡ ledger_file p → CountsFaults key.part f g fs gs X → CountsFaults p f g fs gs X
part_at p key f g fs gs X is h = subst (λ (k : FileId). CountsFaults k.part f g fs gs X) is h

pub part_but : (p f g : ℕ) (fs gs : ℕ → ℕ) (X Y : Type 0) → (Y → X) → CountsFaults p f g fs gs X → CountsFaults p f g fs gs Y
part_but p f g fs gs X Y means h = record { later = h.later; parts_later = h.parts_later; failed = λ y. h.failed (means y); others = h.others }
