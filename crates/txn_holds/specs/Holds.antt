-- What is kept of a subscription's entries.
use Rattle.std.specs.Prelude.{◌≡◌, ℕ, ◌≤◌, ◌<◌, ◌^◌, ◌∷◌, ◌++◌, nat_le, max, Bool, true, false, if◌then◌else◌, List, [], All, Option, Some, None, is_none}
use Rattle.std.specs.List.{flat_map}
use Rattle.txn_base.specs.declared.txn.TxnId.{TxnId}
use Rattle.txn_base.specs.declared.txn.Decision.{Decision}
use Rattle.txn_base.specs.declared.txn.Decision.TheVariants.{Commit, Abort}
use Rattle.txn_base.specs.Content.{LedgerContent}
use Rattle.txn_base.specs.Decoded.{ack_entries}
use Rattle.txn_model.specs.Table.{ack_marker}
use Rattle.txn_holds.specs.Spans.{set_each, up_to}
use Rattle.txn_holds.specs.Taken.{TakenView, how_taken}
use Rattle.txn_holds.specs.Rows.{key_of, row_of}
use Rattle.txn_base.specs.Records.{IsAckEntry}
use Rattle.txn_base.specs.declared.entry.AckEntry.{AckEntry}
use Rattle.txn_base.specs.declared.entry.AckEntry.TheVariants as ack
use Rattle.txn_model.specs.Skeletons.{same_txn, ack_skeletons}
use Rattle.txn_model.specs.Topic.{marker_of}
use Rattle.txn_model.specs.Ack.{is_acked, holder_of, held_count, is_held_by, AckLawful}
use Rattle.txn_model.specs.Words.{has}

-- The places that an entry lists as an individual hold of x.
abbrev pub listed : TxnId → AckEntry → List ℕ
listed x (ack.Hold y places) = if same_txn x y then places else []
listed x _ = []

-- In the list a, the places that x holds one by one, in the order in which they were listed.
abbrev pub held_places : List AckEntry → TxnId → List ℕ
held_places a x = if is_none (marker_of (ack_skeletons a) x) then flat_map (listed x) a else []

-- The holder, but none where it is x.
abbrev pub without : TxnId → Option TxnId → Option TxnId
without x holder = if is_held_by x holder then None else holder

-- The entries, and for how many markers there is room.
pub record HoldsView : Type 0 where
  pub entries : List AckEntry
  pub ends : ℕ

-- How many markers an entry is.
abbrev pub ends_of : AckEntry → ℕ
ends_of (ack.Commit x) = 1
ends_of (ack.Abort x) = 1
ends_of _ = 0

-- By how a place is taken: it is acknowledged; x holds it by itself.
abbrev pub is_ack : Option (Option TxnId) → Bool
is_ack (Some None) = true
is_ack _ = false

abbrev pub is_single : TxnId → Option (Option TxnId) → Bool
is_single x None = false
is_single x (Some owner) = is_held_by x owner

-- The holder of a place that nobody has by itself: that of the cumulative hold which covers it.
abbrev pub holder_up_to : Option (ℕ × TxnId) → ℕ → Option TxnId
holder_up_to None q = None
holder_up_to (Some up) q = if nat_le q up.0 then Some up.1 else None

-- The holder of a place, by how it is taken and by the cumulative hold.
abbrev pub holder_at : Option (ℕ × TxnId) → ℕ → Option (Option TxnId) → Option TxnId
holder_at up q None = holder_up_to up q
holder_at up q (Some owner) = owner

-- The place of the cumulative hold, once there is one up to this place.
abbrev pub raised : Option (ℕ × TxnId) → ℕ → ℕ
raised None place = place
raised (Some up) place = max up.0 place

-- How a held place is taken after the marker of its transaction.
abbrev pub left_by : Decision → Option (Option TxnId)
left_by Commit = Some None
left_by Abort = None

-- The place of the cumulative hold, where it is of x; the hold that is left after a marker of x.
abbrev pub own_up : TxnId → Option (ℕ × TxnId) → Option ℕ
own_up x None = None
own_up x (Some up) = if same_txn x up.1 then Some up.0 else None

abbrev pub left_up : TxnId → Option (ℕ × TxnId) → Option (ℕ × TxnId)
left_up x None = None
left_up x (Some up) = if same_txn x up.1 then None else Some up

-- How a place is taken after a cumulative hold up to this place was ended, if there was one.
abbrev pub after_up : Option ℕ → Decision → (ℕ → Option (Option TxnId)) → ℕ → Option (Option TxnId)
after_up None d t q = t q
after_up (Some last) Commit t q = up_to t last q
after_up (Some last) Abort t q = t q

-- In the list a, the place isn't acknowledged, and all before it are.
pub record IsFirstUnacked (a : List AckEntry) (place : ℕ) : Type 0 where
  pub here : is_acked a place ≡ false
  pub before : (q : ℕ) → q < place → is_acked a q ≡ true

-- In the list a, x holds a place at or before this one.
pub record IsLive (a : List AckEntry) (last : ℕ) (x : TxnId) : Type 0 where
  pub at : ℕ
  pub within : at ≤ last
  pub held : holder_of a at ≡ Some x

-- What is kept of the list a: how each place is taken, the pending cumulative hold, the places that each transaction holds one by
-- one, the markers, and how many places are held one by one.
pub record IsHolds (a : List AckEntry) (t : ℕ → Option (Option TxnId)) (up : Option (ℕ × TxnId)) (rows : TxnId → List ℕ) (ends : TxnId → Option Decision) (held : ℕ) : Type 0 where
  pub lawful : AckLawful a
  pub each : All IsAckEntry a
  pub acked : (q : ℕ) → is_acked a q ≡ is_ack (t q)
  pub holder : (q : ℕ) → holder_of a q ≡ holder_at up q (t q)
  pub whole : (u : ℕ) (x : TxnId) → up ≡ Some (u, x) → (q : ℕ) → q ≤ u → is_acked a q ≡ false → holder_of a q ≡ Some x
  pub live : (u : ℕ) (x : TxnId) → up ≡ Some (u, x) → IsLive a u x
  pub rows_are : (x : TxnId) → rows x ≡ held_places a x
  pub singles : (x : TxnId) (q : ℕ) → has (held_places a x) q ≡ is_single x (t q)
  pub marked : (x : TxnId) → ends x ≡ marker_of (ack_skeletons a) x
  pub held_is : held ≡ held_count a

-- They are kept by these tables: how places are taken, the rows by key, the decisions by key.
abbrev pub KeepsHolds : List AckEntry → TakenView → Option (ℕ × TxnId) → (ℕ × ℕ → Option (List ℕ)) → (ℕ × ℕ → Option Decision) → ℕ → Type 0
KeepsHolds a v up rows decisions held = IsHolds a (how_taken v) up (row_of rows) (λ x. decisions (key_of x)) held

-- The entries of a ledger's content.
abbrev pub entries_in : LedgerContent → List AckEntry
entries_in content = ack_entries content.batches

-- In the list a, all places are acknowledged.
abbrev pub AreAllAcked : List AckEntry → Type 0
AreAllAcked a = (q : ℕ) → q < 2 ^ 64 → is_acked a q ≡ true

-- The marker of x stands behind the others.
abbrev pub IsMarked : TxnId → Decision → List AckEntry → List AckEntry → Type 0
IsMarked x d a b = b ≡ a ++ ack_marker x d ∷ []

-- These held places, or those of a cumulative hold if there was one, were acknowledged or let go by the decision.
abbrev pub IsRowEnded : Decision → List ℕ → TakenView → TakenView → Type 0
IsRowEnded d places v w = (q : ℕ) → how_taken w q ≡ set_each (how_taken v) places (left_by d) q

abbrev pub IsUpEnded : Decision → Option ℕ → TakenView → TakenView → Type 0
IsUpEnded d last v w = (q : ℕ) → how_taken w q ≡ after_up last d (how_taken v) q
