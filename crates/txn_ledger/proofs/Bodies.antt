-- The lengths of records and frames, and the positions of records, one behind the other.
use Rattle.std.proofs.Common.{◌≡◌, ℕ, ◌+◌, ◌<◌, ◌≤◌, ◌^◌, List, [], ◌∷◌, ◌++◌, length, drop, get_or, refl, sym, ap, ◌∙◌, arith, length-append, append_assoc}
use Rattle.std.proofs.lemmas.List.{append-nil, drop_more}
use Rattle.byteorder.specs.Endian.{big_bytes}
use Rattle.byteorder.specs.Numbers.{length-bytes_high_first}
use Rattle.txn_base.specs.Bytes.{contents_of}
use Rattle.txn_base.specs.Room.{Roomy}
use Rattle.txn_base.specs.Frames.{Batch, Record, IsBatch, record_bytes, body_of, frame, frames, records}
use Rattle.txn_base.specs.Content.{Standing, settled, in_flight, looked_at, IsInFlight}
use Rattle.txn_base.proofs.Laws.{body_small}
use Rattle.txn_ledger.specs.declared.position.Position.{Position}
use Rattle.txn_ledger.specs.Positions.{positions_of, positions_in}
use Rattle.txn_ledger.specs.Tied.{IsSent}

pub record_length : (bytes : Record) → length (record_bytes bytes) ≡ length bytes + 2
record_length bytes = omega (arith, length-append (big_bytes 2 (length bytes)) bytes, length-bytes_high_first 2 (length bytes))

pub frame_length : (batch : Batch) → length (frame batch) ≡ length (body_of batch) + 5
frame_length batch = omega (arith, length-append (big_bytes 4 (length (body_of batch))) (body_of batch), length-bytes_high_first 4 (length (body_of batch)))

-- a batch is short
pub frame_small : (batch : Batch) → IsBatch batch → length (frame batch) ≤ 2 ^ 33
frame_small batch is = let small = body_small batch is in omega (arith, frame_length batch)

pub sent_small : (standing : Standing) (sent : ℕ) → IsInFlight standing → IsSent standing sent → sent ≤ 2 ^ 33
sent_small settled sent none is = absurd none
sent_small looked_at sent none is = absurd none
sent_small (in_flight batch) sent some is = omega (arith, is.1, frame_small batch is.0)

-- the positions of one batch more
positions_on : (at : ℕ) (batches : List Batch) (batch : Batch) → positions_in at (batches ++ batch ∷ []) ≡ positions_in at batches ++ positions_of (at + length (frames batches) + 5) batch
positions_on at [] batch = append-nil (positions_of (at + 5) batch) ∙ ap (λ (n : ℕ). positions_of (n + 5) batch) (let e : at ≡ at + 0 = omega arith in e)
positions_on at (first ∷ batches) batch =
    let rest = positions_on (at + length (frame first)) batches batch in
    let e : at + length (frame first) + length (frames batches) ≡ at + length (frame first ++ frames batches) = omega (arith, length-append (frame first) (frames batches)) in
    ap (λ (l : List Position). positions_of (at + 5) first ++ l) rest
    ∙ sym (append_assoc (positions_of (at + 5) first) (positions_in (at + length (frame first)) batches) (positions_of (at + length (frame first) + length (frames batches) + 5) batch))
    ∙ ap (λ (n : ℕ). (positions_of (at + 5) first ++ positions_in (at + length (frame first)) batches) ++ positions_of (n + 5) batch) e

pub positions-push : (batches : List Batch) (batch : Batch) (end : ℕ) → end ≡ length (frames batches) → positions_in 0 (batches ++ batch ∷ []) ≡ positions_in 0 batches ++ positions_of (end + 5) batch
positions-push batches batch end ends =
    positions_on 0 batches batch ∙ ap (λ (n : ℕ). positions_in 0 batches ++ positions_of (n + 5) batch) (let e : 0 + length (frames batches) ≡ end = omega (arith, ends) in e)

pub positions_count : (at : ℕ) (batch : Batch) → length (positions_of at batch) ≡ length batch
positions_count at [] = refl
positions_count at (bytes ∷ batch) = omega (arith, positions_count (at + (length bytes + 2)) batch)

pub count_positions : (at : ℕ) (batches : List Batch) → length (positions_in at batches) ≡ length (records batches)
count_positions at [] = refl
count_positions at (batch ∷ batches) =
    omega (arith, length-append (positions_of (at + 5) batch) (positions_in (at + length (frame batch)) batches), positions_count (at + 5) batch, count_positions (at + length (frame batch)) batches, length-append batch (records batches))

-- the contents from one item on
pub item_next : (items : List Roomy) (i : ℕ) (item : Roomy) → i < length items → item ≡ get_or items i item → contents_of (drop i items) ≡ item.bytes ∷ contents_of (drop (i + 1) items)
item_next items i item below is = ap contents_of (drop_more items i item below) ∙ ap (λ (x : Roomy). x.bytes ∷ contents_of (drop (i + 1) items)) (sym is)

-- the bytes from there on
pub body_next : (items : List Roomy) (i : ℕ) (item : Roomy) → i < length items → item ≡ get_or items i item → length (body_of (contents_of (drop i items))) ≡ length item.bytes + 2 + length (body_of (contents_of (drop (i + 1) items)))
body_next items i item below is =
    omega (arith, ap (λ (b : Batch). length (body_of b)) (item_next items i item below is), length-append (record_bytes item.bytes) (body_of (contents_of (drop (i + 1) items))), record_length item.bytes)
