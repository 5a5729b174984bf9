-- What a batch's frame makes of a ledger's file.
use Rattle.std.proofs.Common.{◌≡◌, ◌⊎◌, ℕ, List, [], ◌∷◌, ◌++◌, length, drop, subst, ap, ◌∙◌, sym}
use Rattle.txn_base.specs.declared.disk.Disk.{Ghosts}
use Rattle.txn_base.specs.Moves.{After}
use Rattle.txn_base.specs.declared.file_id.FileId.{FileId}
use Rattle.txn_base.specs.Disk.{Files, Changes}
use Rattle.txn_base.specs.Frames.{Batch, IsBatch, frames, behind_gate, Stands}
use Rattle.txn_base.specs.Content.{LedgerContent, settled, landed, begun, Appends}
use Rattle.txn_base.proofs.Laws.{settled_stands, not_settled, weaker}
use Rattle.txn_ledger.specs.Gate.{IsClosedAt, MayOpen}
use Rattle.txn_ledger.specs.Ledger.{IsFile, StandsIn, ExactlyIn, Stored}
use Rattle.txn_ledger.proofs.Frames.{closed_of_stands, all_or_none, opened_stands, opened_is}

module _ (content : LedgerContent) (is_settled : content.standing ≡ settled) (end : ℕ) (ends : end ≡ length (frames content.batches)) (file : FileId) (is : file ≡ content.key) where
  pub closed : (image : Files → Type 0) → Stored image content → (c : Files) → image c → IsClosedAt end (c file)
  closed image backed c at = subst (λ (f : FileId). IsClosedAt end (c f)) (sym is) (closed_of_stands content.batches end ends _ (settled_stands StandsIn ExactlyIn image content is_settled backed c at))

  module _ {D : Type 0} (on : Ghosts D)
      (batch : Batch) (is_batch : IsBatch batch) (tail : List ℕ) (tail_is : tail ≡ behind_gate batch) (old new : D) (backed : Stored (on.image old) content)
      (since : After on (Changes file (MayOpen end tail)) old new) where
    here : After on (Changes content.key (MayOpen end (behind_gate batch))) old new
    here = subst (λ (f : FileId). After on (Changes f (MayOpen end (behind_gate batch))) old new) is
        (subst (λ (l : List ℕ). After on (Changes file (MayOpen end l)) old new) tail_is since)

    before : (d : Files) → on.image old d → Stands (d content.key) content.batches
    before d at = settled_stands StandsIn ExactlyIn (on.image old) content is_settled backed d at

    either : (d c : Files) → on.image old d → MayOpen end (behind_gate batch) (d content.key) (c content.key) → Stands (c content.key) content.batches ⊎ Stands (c content.key) (content.batches ++ batch ∷ [])
    either d c at may = all_or_none content.batches end ends batch _ _ is_batch (before d at) may

    pub appends : After on (Appends IsFile StandsIn content batch) old new
    appends = weaker on _ _ old new (λ d c at step. record { here = either d c at step.here; others = step.others }) here

    pub in_doubt : Stored (on.image new) (begun content batch)
    in_doubt = record {
      each = λ c at. let d = here.at_end c at in either d.0 c d.1 d.2.here;
      exact = λ is. absurd (not_settled (begun content batch).standing tt is);
    }

    pub stands : ((c : Files) → on.image new c → drop end (c file) ≡ 1 ∷ tail) → Stored (on.image new) (landed content batch)
    stands opened = record {
      each = λ c at. let d = here.at_end c at in opened_stands content.batches end ends batch _ _ is_batch (before d.0 d.1) d.2.here.front (behind c at);
      exact = λ is c at. let d = here.at_end c at in opened_is content.batches end ends batch _ _ (before d.0 d.1) d.2.here.front (behind c at);
    }
      where
        behind : (c : Files) → on.image new c → drop end (c content.key) ≡ 1 ∷ behind_gate batch
        behind c at = subst (λ (f : FileId). drop end (c f) ≡ 1 ∷ behind_gate batch) is (opened c at ∙ ap (λ (l : List ℕ). 1 ∷ l) tail_is)
