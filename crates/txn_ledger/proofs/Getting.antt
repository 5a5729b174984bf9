-- A record stands at its position.
use Rattle.std.proofs.Common.{◌≡◌, ◌⊎◌, inl, inr, ℕ, zero, suc, ◌+◌, ◌-◌, ◌<◌, ◌≤◌, List, [], ◌∷◌, ◌++◌, length, take, drop, get_or, refl, sym, ap, ◌∙◌, subst, arith, length-append}
use Rattle.std.specs.Prelude.{Result, Ok, Err, IfOk}
use Rattle.std.proofs.lemmas.Bool.{cases_lt}
use Rattle.std.proofs.lemmas.List.{append_assoc, drop_at, take_at, get_or_append_left, get_or-append_right}
use Rattle.byteorder.specs.Endian.{big_bytes}
use Rattle.byteorder.specs.Numbers.{length-bytes_high_first}
use Rattle.txn_base.specs.Room.{Roomy}
use Rattle.txn_base.specs.Frames.{Batch, Record, record_bytes, body_of, frame, frames, records}
use Rattle.txn_base.specs.Content.{Standing, settled, in_flight, looked_at, with_flight}
use Rattle.txn_ledger.specs.declared.position.Position.{Position}
use Rattle.txn_ledger.specs.Positions.{positions_of, positions_in, record_at}
use Rattle.txn_ledger.proofs.Bodies.{record_length, positions_count, count_positions, positions-push}

pub no_position : Position
no_position = record { offset = 0; len = 0 }

-- these bytes stand at the position
pub record IsRecordAt (x : List ℕ) (position : Position) (bytes : Record) : Type 0 where
  pub within : position.offset + position.len ≤ length x
  pub bytes_are : take position.len (drop position.offset x) ≡ bytes

piece : (x front bytes after : List ℕ) (at : ℕ) → at ≡ length front → x ≡ front ++ (bytes ++ after) → IsRecordAt x (record { offset = at; len = length bytes }) bytes
piece x front bytes after at ends is = record {
  within = omega (arith, ends, ap length is, length-append front (bytes ++ after), length-append bytes after);
  bytes_are = ap (λ (l : List ℕ). take (length bytes) l) (ap (λ (l : List ℕ). drop at l) is ∙ drop_at front (bytes ++ after) at (sym ends)) ∙ take_at bytes after (length bytes) refl;
}

in_batch : (batch : Batch) (x front rest : List ℕ) (at k : ℕ) → at ≡ length front → x ≡ front ++ (body_of batch ++ rest) → k < length batch
    → IsRecordAt x (get_or (positions_of at batch) k no_position) (get_or batch k [])
in_batch [] x front rest at k ends is below = absurd (omega (arith, below))
in_batch (y ∷ batch) x front rest at zero ends is below =
    let head = big_bytes 2 (length y) in
    piece x (front ++ head) y (body_of batch ++ rest) (at + 2) (omega (arith, ends, length-append front head, length-bytes_high_first 2 (length y)))
    (is ∙ ap (λ (l : List ℕ). front ++ l) (append_assoc (record_bytes y) (body_of batch) rest ∙ append_assoc head y (body_of batch ++ rest)) ∙ sym (append_assoc front head (y ++ (body_of batch ++ rest))))
in_batch (y ∷ batch) x front rest at (suc k) ends is below =
    in_batch batch x (front ++ record_bytes y) rest (at + (length y + 2)) k (omega (arith, ends, length-append front (record_bytes y), record_length y))
    (is ∙ ap (λ (l : List ℕ). front ++ l) (append_assoc (record_bytes y) (body_of batch) rest) ∙ sym (append_assoc front (record_bytes y) (body_of batch ++ rest))) (omega (arith, below))

in_batches : (batches : List Batch) (x front rest : List ℕ) (at k : ℕ) → at ≡ length front → x ≡ front ++ (frames batches ++ rest) → k < length (records batches)
    → IsRecordAt x (get_or (positions_in at batches) k no_position) (record_at batches k)
in_batches [] x front rest at k ends is below = absurd (omega (arith, below))
in_batches (b ∷ batches) x front rest at k ends is below =
    on (λ later. in_batches batches x (front ++ frame b) rest (at + length (frame b)) (k - length b) (omega (arith, ends, length-append front (frame b)))
    (is ∙ ap (λ (l : List ℕ). front ++ l) (append_assoc (frame b) (frames batches) rest) ∙ sym (append_assoc front (frame b) (frames batches ++ rest))) (omega (arith, below, later, length-append b (records batches)))) (cases_lt k (length b))
  where
    on : (length b ≤ k → IsRecordAt x (get_or (positions_in (at + length (frame b)) batches) (k - length b) no_position) (record_at batches (k - length b))) → (k < length b) ⊎ (length b ≤ k) → IsRecordAt x (get_or (positions_in at (b ∷ batches)) k no_position) (record_at (b ∷ batches) k)
    on again (inl here) =
        let head = 1 ∷ big_bytes 4 (length (body_of b)) in
        let found = in_batch b x (front ++ head) (frames batches ++ rest) (at + 5) k (omega (arith, ends, length-append front head, length-bytes_high_first 4 (length (body_of b))))
        (is ∙ ap (λ (l : List ℕ). front ++ l) (append_assoc (frame b) (frames batches) rest ∙ append_assoc head (body_of b) (frames batches ++ rest)) ∙ sym (append_assoc front head (body_of b ++ (frames batches ++ rest)))) here in
        let place : get_or (positions_of (at + 5) b) k no_position ≡ get_or (positions_in at (b ∷ batches)) k no_position = sym (get_or_append_left (positions_of (at + 5) b) (positions_in (at + length (frame b)) batches) no_position k (omega (arith, here, positions_count (at + 5) b))) in
        let bytes : get_or b k [] ≡ record_at (b ∷ batches) k = sym (get_or_append_left b (records batches) [] k here) in
        subst (λ (p : Position × Record). IsRecordAt x p.0 p.1) (λ i. (place i, bytes i)) found
    on again (inr later) =
        let place : get_or (positions_in (at + length (frame b)) batches) (k - length b) no_position ≡ get_or (positions_in at (b ∷ batches)) k no_position = sym (get_or-append_right (positions_of (at + 5) b) (positions_in (at + length (frame b)) batches) (length b) k no_position (positions_count (at + 5) b) later) in
        let bytes : record_at batches (k - length b) ≡ record_at (b ∷ batches) k = sym (get_or-append_right b (records batches) (length b) k [] refl later) in
        subst (λ (p : Position × Record). IsRecordAt x p.0 p.1) (λ i. (place i, bytes i)) (again later)

-- the element below the end, whatever stands for one beyond it
pub same_in : {A : Type 0} (xs : List A) (k : ℕ) (d e : A) → k < length xs → get_or xs k d ≡ get_or xs k e
same_in [] k d e below = absurd (omega (arith, below))
same_in (x ∷ xs) zero d e below = refl
same_in (x ∷ xs) (suc k) d e below = same_in xs k d e (omega (arith, below))

-- the positions of what is settled come first
settled_position : (batches : List Batch) (standing : Standing) (k : ℕ) → k < length (records batches) → get_or (positions_in 0 (with_flight batches standing)) k no_position ≡ get_or (positions_in 0 batches) k no_position
settled_position batches settled k below = refl
settled_position batches looked_at k below = refl
settled_position batches (in_flight batch) k below =
    ap (λ (l : List Position). get_or l k no_position) (positions-push batches batch (length (frames batches)) refl)
    ∙ get_or_append_left (positions_in 0 batches) (positions_of (length (frames batches) + 5) batch) no_position k (omega (arith, below, count_positions 0 batches))

pub place_below : (batches : List Batch) (standing : Standing) (k : ℕ) → k < length (records batches) → k < length (positions_in 0 (with_flight batches standing))
place_below batches settled k below = omega (arith, below, count_positions 0 batches)
place_below batches looked_at k below = omega (arith, below, count_positions 0 batches)
place_below batches (in_flight batch) k below =
    omega (arith, below, count_positions 0 batches, ap length (positions-push batches batch (length (frames batches)) refl), length-append (positions_in 0 batches) (positions_of (length (frames batches) + 5) batch))

-- the position that a ledger keeps for a settled record
pub kept_at : (batches : List Batch) (standing : Standing) (positions : List Position) (position : Position) (k : ℕ) → positions ≡ positions_in 0 (with_flight batches standing) → k < length (records batches) → position ≡ get_or positions k position
    → (x rest : List ℕ) → x ≡ frames batches ++ rest → IsRecordAt x position (record_at batches k)
kept_at batches standing positions position k are below is x rest split =
    let within : k < length positions = omega (arith, place_below batches standing k below, ap length are) in
    let there : position ≡ get_or (positions_in 0 batches) k no_position = is ∙ same_in positions k position no_position within ∙ ap (λ (l : List Position). get_or l k no_position) are ∙ settled_position batches standing k below in
    subst (λ (p : Position). IsRecordAt x p (record_at batches k)) (sym there) (in_batches batches x [] rest 0 k refl split below)

-- an answer that is what stands there is the record
pub as_asked : {E : Type 0} (batches : List Batch) (k : ℕ) (read : List ℕ) (result : Result Roomy E) → k < length (records batches) → read ≡ record_at batches k
    → IfOk result (λ bytes. bytes.bytes ≡ read) → IfOk result (λ bytes. bytes.bytes ≡ get_or (records batches) k bytes.bytes)
as_asked batches k read (Ok bytes) below is found = found ∙ is ∙ same_in (records batches) k [] bytes.bytes below
as_asked batches k read (Err e) below is found = tt
