-- Logs of records on a disk, beside each other.
use Rattle.std.proofs.Common.{◌≡◌, ⊎_elim, inl, inr, ℕ, List, [], ◌∷◌, ◌++◌, sym, ap, subst}
use Rattle.std.proofs.lemmas.List.{append-nil}
use Rattle.txn_base.specs.declared.file_id.FileId.{FileId}
use Rattle.txn_base.specs.declared.disk.Disk.{Ghosts}
use Rattle.txn_base.specs.Disk.{Files, Same}
use Rattle.txn_base.specs.Moves.{After}
use Rattle.txn_base.specs.Frames.{Batch}
use Rattle.txn_base.proofs.Moments.{weaker}
use Rattle.txn_base.specs.Content.{Standing, settled, in_flight, looked_at, LedgerContent, Backed, Settles, KeptOrNot, IsInFlight}

-- what is in flight is in doubt
pub not_settled : (standing : Standing) → IsInFlight standing → standing ≡ settled → ⊥
not_settled standing doubt is = subst IsInFlight is doubt

module _ (stands exactly : FileId → Files → List Batch → Type 0) where
  -- nothing is in doubt
  pub settled_stands : (image : Files → Type 0) (content : LedgerContent) → content.standing ≡ settled → Backed stands exactly image content
      → (c : Files) → image c → stands content.key c content.batches
  settled_stands image content is backed c at = subst (λ (s : Standing). KeptOrNot (stands content.key c) content.batches s) is (backed.each c at)

  -- through calls that change nothing
  pub same_backed : {D : Type 0} (on : Ghosts D) (old new : D) (content : LedgerContent) → After on Same old new
      → Backed stands exactly (on.image old) content → Backed stands exactly (on.image new) content
  same_backed on old new content same backed = record {
    each = λ c at. let d = same.at_end c at in
        subst (λ (f : Files). KeptOrNot (stands content.key f) content.batches content.standing) (sym d.2) (backed.each d.0 d.1);
    exact = λ is c at. let d = same.at_end c at in subst (λ (f : Files). exactly content.key f content.batches) (sym d.2) (backed.exact is d.0 d.1);
  }

  -- and they settle
  pub same_settles : (mine : FileId → FileId → Type 0) {D : Type 0} (on : Ghosts D) (old new : D) (content : LedgerContent) → After on Same old new
      → Backed stands exactly (on.image old) content → After on (Settles mine stands content) old new
  same_settles mine on old new content same backed = weaker on _ _ old new (λ d c at is. record {
    here = subst (λ (f : Files). KeptOrNot (stands content.key f) content.batches content.standing) (sym is) (backed.each d at);
    still = λ batches so. subst (λ (f : Files). stands content.key f batches) (sym is) so;
    quiet = λ settled. is;
    others = λ other apart. ap (λ (f : Files). f other) is;
  }) same

  -- Whoever is backed begins with the batches, whatever is in flight.
  pub begins_with : (begins : FileId → Files → List Batch → Type 0)
      → ((key : FileId) (c : Files) (batches more : List Batch) → stands key c (batches ++ more) → begins key c batches)
      → (image : Files → Type 0) (content : LedgerContent) → Backed stands exactly image content → (c : Files) → image c → begins content.key c content.batches
  begins_with begins law image content backed c at = either content.standing (backed.each c at)
    where
      front : stands content.key c content.batches → begins content.key c content.batches
      front is = law content.key c content.batches [] (subst (λ (l : List Batch). stands content.key c l) (sym (append-nil content.batches)) is)

      either : (standing : Standing) → KeptOrNot (stands content.key c) content.batches standing → begins content.key c content.batches
      either settled is = front is
      either looked_at is = front is
      either (in_flight batch) is = ⊎_elim (λ none. front none) (λ all. law content.key c content.batches (batch ∷ []) all) is
