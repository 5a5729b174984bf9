-- The laws of a ledger as a log of records.
use Rattle.std.specs.Prelude.{◌≡◌, ℕ, List, [], ◌++◌, All, refl}
use Rattle.std.proofs.Common.{sym, ap, ◌∙◌, subst, append_assoc}
use Rattle.std.proofs.lemmas.List.{append-nil}
use Rattle.std.proofs.lemmas.List.Concat.{flat_map-append}
use Rattle.txn_base.specs.declared.file_id.FileId.{FileId}
use Rattle.txn_base.specs.Disk.{Files}
use Rattle.txn_base.specs.Frames.{Batch, IsBatch, frame, frames, Stands}
use Rattle.txn_base.proofs.Laws.{stands_one}
use Rattle.txn_ledger.specs.Ledger.{IsFile, StandsIn, BeginsIn, ExactlyIn}

pub local : (key : FileId) (c d : Files) (batches : List Batch) → ((file : FileId) → IsFile key file → d file ≡ c file) → StandsIn key c batches → StandsIn key d batches
local key c d batches same stands = subst (λ (bytes : List ℕ). Stands bytes batches) (sym (same key refl)) stands

pub exact_local : (key : FileId) (c d : Files) (batches : List Batch) → ((file : FileId) → IsFile key file → d file ≡ c file) → ExactlyIn key c batches → ExactlyIn key d batches
exact_local key c d batches same exact = same key refl ∙ exact

pub exact_one : (key : FileId) (c d : Files) (batches : List Batch) → ExactlyIn key c batches → ExactlyIn key d batches → (file : FileId) → IsFile key file → d file ≡ c file
exact_one key c d batches one two file is = ap d is ∙ two ∙ sym one ∙ sym (ap c is)

pub exact_stands : (key : FileId) (c : Files) (batches : List Batch) → All IsBatch batches → ExactlyIn key c batches → StandsIn key c batches
exact_stands key c batches each exact = record { each = each; rest = []; split = exact ∙ sym (append-nil (frames batches)); shut = tt }

pub one_list : (key : FileId) (c : Files) (a b : List Batch) → StandsIn key c a → StandsIn key c b → a ≡ b
one_list key c a b one two = stands_one (c key) a b one two

pub begins : (key : FileId) (c : Files) (batches more : List Batch) → StandsIn key c (batches ++ more) → BeginsIn key c batches
begins key c batches more stands = (
  frames more ++ stands.rest,
  stands.split ∙ ap (λ (l : List ℕ). l ++ stands.rest) (flat_map-append frame batches more) ∙ append_assoc (frames batches) (frames more) stands.rest,
)

pub one_part : (key file : FileId) → IsFile key file → file.part ≡ key.part
one_part key file is = ap (λ (f : FileId). f.part) is
