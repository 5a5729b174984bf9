-- Files that no call of an engine changes.
use Rattle.std.proofs.Common.{◌≡◌, ℕ, ◌≤◌, List, refl, ap, ◌∙◌}
use Rattle.txn_base.specs.declared.disk.Disk.{Ghosts}
use Rattle.txn_base.specs.Moves.{After}
use Rattle.txn_base.specs.declared.file_id.FileId.{FileId}
use Rattle.txn_base.specs.Content.{LedgerContent, Appends}
use Rattle.txn_base.specs.Disk.{Files, Elsewhere, Changes, Same}
use Rattle.txn_base.specs.Frames.{Batch}
use Rattle.txn_base.proofs.Laws.{goes_on, weaker}
use Rattle.txn_ledger.specs.Ledger.{IsFile, StandsIn}
use Rattle.txn_model.specs.Sound.{ledger_file}
use Rattle.txn_engine.specs.Files.{OnlyLedgers}

-- ---- Between two moments.

pub only_none : (n : ℕ) (before after : Files) → after ≡ before → OnlyLedgers n before after
only_none n before after same = λ file apart. ap (λ (files : Files). files file) same

pub only_one : (n p : ℕ) (key : FileId) (before after : Files) → key ≡ ledger_file p → p ≤ n → Elsewhere key before after → OnlyLedgers n before after
only_one n p key before after is within others = λ file apart. others file (λ same. apart (p, within, same ∙ is))

pub only_then : (n : ℕ) (before mid after : Files) → OnlyLedgers n before mid → OnlyLedgers n mid after → OnlyLedgers n before after
only_then n before mid after one two = λ file apart. two file apart ∙ one file apart

-- ---- In each image.

module _ {D : Type 0} (on : Ghosts D) where
  pub images_same : (n : ℕ) (old new : D) → After on Same old new → After on (OnlyLedgers n) old new
  images_same n old new since = weaker on Same (OnlyLedgers n) old new (λ d c at same. only_none n d c same) since

  pub images_append : (n p : ℕ) (content : LedgerContent) (batch : Batch) (old new : D) → content.key ≡ ledger_file p → p ≤ n → After on (Appends IsFile StandsIn content batch) old new → After on (OnlyLedgers n) old new
  images_append n p content batch old new is within since =
      weaker on (Appends IsFile StandsIn content batch) (OnlyLedgers n) old new (λ d c at step. only_one n p content.key d c is within step.others) since

  pub images_change : (n p : ℕ) (step : List ℕ → List ℕ → Type 0) (old new : D) → p ≤ n → After on (Changes (ledger_file p) step) old new → After on (OnlyLedgers n) old new
  images_change n p step old new within since =
      weaker on (Changes (ledger_file p) step) (OnlyLedgers n) old new (λ d c at change. only_one n p (ledger_file p) d c refl within change.others) since

  pub images_then : (n : ℕ) (old mid new : D) → After on (OnlyLedgers n) old mid → After on (OnlyLedgers n) mid new → After on (OnlyLedgers n) old new
  images_then n old mid new one two = goes_on on (OnlyLedgers n) (OnlyLedgers n) (OnlyLedgers n) old mid new one two (λ d c at is. is) (λ d e c at first mid_at second. only_then n d e c first second)
