-- The records of a batch are those of its entries.
use Rattle.std.proofs.Common.{ℕ, ◌≤◌, List, [], ◌∷◌, length, Option, Some, None, All, refl, sym, subst, arith, append-nil}
use Rattle.std.proofs.lemmas.List.Elements.{All-head, All-tail}
use Rattle.txn_base.specs.Frames.{records}
use Rattle.txn_base.specs.Limits.{InRange}
use Rattle.txn_base.specs.Records.{IsTxnId}
use Rattle.txn_base.specs.declared.limits.Limits.{Limits}
use Rattle.txn_base.specs.declared.txn.Decision.{Decision}
use Rattle.txn_base.specs.declared.txn.Decision.TheVariants.{Commit, Abort}
use Rattle.txn_base.specs.declared.txn.TxnId.{TxnId}
use Rattle.txn_buffer.specs.Adding.{IsBodyWithin, messages_of}
use Rattle.txn_buffer.specs.View.{topic_batch}
use Rattle.txn_model.specs.Sound.{RecordsOf, IsBareRecord}
use Rattle.txn_records.specs.Topics.{marker_entry}

-- ---- A marker.

pub marker_records : (x : TxnId) (d : Decision) → IsTxnId x → RecordsOf IsBareRecord (records (topic_batch (marker_entry x d ∷ []) ∷ [])) (marker_entry x d ∷ [])
marker_records x Commit fits = (record { of_entry = record { bytes_are = refl; fits = fits }; no_room = refl }, tt)
marker_records x Abort fits = (record { of_entry = record { bytes_are = refl; fits = fits }; no_room = refl }, tt)

-- ---- Messages.

-- The transaction of a message has numbers of 64 bits.
abbrev pub IsInside : Option TxnId → Type 0
IsInside None = Unit {0}
IsInside (Some x) = IsTxnId x

module _ (limits : Limits) (range : InRange limits) where
  bare_records : (who : Option TxnId) → IsInside who → (bodies : List (List ℕ)) → All (IsBodyWithin limits) bodies → RecordsOf IsBareRecord (topic_batch (messages_of who bodies)) (messages_of who bodies)
  bare_records who inside [] h = tt
  bare_records None inside (b ∷ bs) h =
      let one : IsBodyWithin limits b = All-head (IsBodyWithin limits) b bs h in
      let size : length b ≤ limits.message = one.size in
      (record { of_entry = record { bytes_are = refl; fits = record { text = one.text; size = omega (arith, size, range.message) } }; no_room = refl }, bare_records None inside bs (All-tail (IsBodyWithin limits) b bs h))
  bare_records (Some x) inside (b ∷ bs) h =
      let one : IsBodyWithin limits b = All-head (IsBodyWithin limits) b bs h in
      let size : length b ≤ limits.message = one.size in
      (record { of_entry = record { bytes_are = refl; fits = (inside, record { text = one.text; size = omega (arith, size, range.message) }) }; no_room = refl }, bare_records (Some x) inside bs (All-tail (IsBodyWithin limits) b bs h))

  pub batch_records : (who : Option TxnId) → IsInside who → (bodies : List (List ℕ)) → All (IsBodyWithin limits) bodies → RecordsOf IsBareRecord (records (topic_batch (messages_of who bodies) ∷ [])) (messages_of who bodies)
  batch_records who inside bodies each = subst (λ rs. RecordsOf IsBareRecord rs (messages_of who bodies)) (sym (append-nil (topic_batch (messages_of who bodies)))) (bare_records who inside bodies each)
