-- How calls on the disk follow each other: what every image keeps, and the counts of faults.
use Rattle.std.proofs.Common.{◌≡◌, ◌≤◌, ℕ, List, length, subst, refl, arith, ◌∙◌}
use Rattle.txn_base.specs.declared.disk.Disk.{Ghosts}
use Rattle.txn_base.specs.Moves.{After}
use Rattle.txn_base.specs.Outside.{Rose}
use Rattle.txn_base.proofs.Laws.{started, goes_on}
use Rattle.txn_engine.proofs.Laws.{keeps_itself}
use Rattle.txn_engine.specs.Above.{KeepsAboveIf}
use Rattle.txn_engine.specs.Files.{OnlyLedgers}
use Rattle.txn_engine.specs.Opening.{KeepsFiles}
use Rattle.txn_engine.specs.Told.{CountsWithin}
use Rattle.txn_run.specs.Files.{LeavesOthers}

module _ {D : Type 0} (on : Ghosts D) where
  pub keeps_first : (X : Type 0) (names : List (List ℕ)) (disk : D) → After on (KeepsAboveIf X names) disk disk
  keeps_first X names disk = started on disk (KeepsAboveIf X names) (λ c at holds floor above. above)

  pub keeps_then : (X Y : Type 0) (names other : List (List ℕ)) (old mid new : D) → other ≡ names → (X → Y) → After on (KeepsAboveIf X names) old mid → After on (KeepsAboveIf Y other) mid new
      → After on (KeepsAboveIf X names) old new
  keeps_then X Y names other old mid new same still so_far call =
      goes_on on (KeepsAboveIf X names) (KeepsAboveIf Y names) (KeepsAboveIf X names) old mid new so_far (subst (λ (ns : List (List ℕ)). After on (KeepsAboveIf Y ns) mid new) same call)
      (λ d c at is. is) (λ d e c at one mid_at two holds floor above. two (still holds) floor (one holds floor above))

-- ---- other files

module _ {D : Type 0} (on : Ghosts D) where
  pub leaves_none : (n : ℕ) (disk : D) → LeavesOthers on n disk disk
  leaves_none n disk = record { now = λ file other. refl; since = started on disk (OnlyLedgers n) (λ c at file other. refl) }

  -- over parts of the same names
  pub leaves_then : (names other : List (List ℕ)) (old mid new : D) → other ≡ names → LeavesOthers on (length names) old mid → LeavesOthers on (length other) mid new → LeavesOthers on (length names) old new
  leaves_then names other old mid new same one call =
      let two : LeavesOthers on (length names) mid new = subst (λ (ns : List (List ℕ)). LeavesOthers on (length ns) mid new) same call in
      record {
        now = λ file apart. two.now file apart ∙ one.now file apart;
        since = goes_on on (OnlyLedgers (length names)) (OnlyLedgers (length names)) (OnlyLedgers (length names)) old mid new one.since two.since (λ d c at is. is) (λ d e c at first mid_at then file apart. then file apart ∙ first file apart);
      }

  pub lists_kept : (disk : D) → After on KeepsFiles disk disk
  lists_kept disk = started on disk KeepsFiles (λ c at file. keeps_itself (c file))

rose_then : (a b c : ℕ) → a ≤ b → Rose b c → Rose a c
rose_then a b c le rose = grind (arith, le, rose)

pub counts_none : (n f f' : ℕ) (fs fs' : ℕ → ℕ) (X : Type 0) → CountsWithin n f f' fs fs' X → CountsWithin n f f' fs fs' ⊥
counts_none n f f' fs fs' X h = record { later = h.later; parts_later = h.parts_later; failed = λ none. absurd none; others = h.others }

pub counts_first : (n f : ℕ) (fs : ℕ → ℕ) → CountsWithin n f f fs fs ⊥
counts_first n f fs = record { later = omega arith; parts_later = λ p. omega arith; failed = λ none. absurd none; others = λ p past most. refl }

-- where this answer means that of the call
pub counts_but : (n f g : ℕ) (fs gs : ℕ → ℕ) (X Y : Type 0) → (Y → X) → CountsWithin n f g fs gs X → CountsWithin n f g fs gs Y
counts_but n f g fs gs X Y means h = record { later = h.later; parts_later = h.parts_later; failed = λ y. h.failed (means y); others = h.others }

-- over parts of the same names
pub counts_then : (names other : List (List ℕ)) (f g h : ℕ) (fs gs hs : ℕ → ℕ) (X Y : Type 0) → other ≡ names → CountsWithin (length names) f g fs gs X → CountsWithin (length other) g h gs hs Y → CountsWithin (length names) f h fs hs Y
counts_then names other f g h fs gs hs X Y same one call =
    let two : CountsWithin (length names) g h gs hs Y = subst (λ (ns : List (List ℕ)). CountsWithin (length ns) g h gs hs Y) same call in
    record {
      later = omega (arith, one.later, two.later);
      parts_later = λ p. omega (arith, one.parts_later p, two.parts_later p);
      failed = λ y. let r = two.failed y in (r.0, r.1, (rose_then f g h one.later r.2.0, rose_then (fs r.0) (gs r.0) (hs r.0) (one.parts_later r.0) r.2.1));
      others = λ p past most. two.others p past most ∙ one.others p past most;
    }
