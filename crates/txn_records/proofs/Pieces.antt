-- The ends of a snapshot, cut into records of 3,000.
use Rattle.std.proofs.Common.{◌≡◌, add-one, ℕ, zero, suc, ◌+◌, ◌-◌, ◌*◌, ◌/◌, ◌<◌, ◌≤◌, min, ◌⊎◌, List, [], ◌∷◌, ◌++◌, length, take, drop, get_or, refl, sym, ap, ◌∙◌, arith, length-append, subst, inl, inr}
use Rattle.std.specs.Prelude.{All}
use Rattle.std.proofs.lemmas.List.{get_or-map, length-map, take_all, drop_all, take-append-le, drop-append-le, length-drop, length-take, length-take-le, drop-drop, take-append-drop, take_more}
use Rattle.std.proofs.Math.Seq.{take-append-add}
use Rattle.std.proofs.lemmas.List.Elements.{All-append, All-take, All-drop}
use Rattle.std.proofs.lemmas.Bool.{cases_lt}
use Rattle.txn_base.specs.declared.txn.TxnId.{TxnId}
use Rattle.txn_base.specs.declared.txn.Decision.{Decision}
use Rattle.txn_base.specs.Room.{Roomy}
use Rattle.txn_base.specs.Bytes.{contents_of}
use Rattle.txn_base.specs.Frames.{Record}
use Rattle.txn_base.specs.Records.{IsEnd, ends_record}
use Rattle.txn_base.specs.Snapshots.{ends_piece, ends_records, snapshot_batch}
use Rattle.txn_base.specs.declared.snapshot.Snapshot.{Snapshot}
use Rattle.txn_records.specs.EndsRead.{AddsRecord}
use Rattle.txn_records.proofs.EndsOne.{ends_one}

pub piece_is : (ends : List (TxnId × Decision)) (i : ℕ) → ends_piece ends i ≡ take 3000 (drop (3000 * i) ends)
piece_is ends zero = refl
piece_is ends (suc i) = piece_is (drop 3000 ends) i ∙ ap (take 3000) (drop-drop (3000 * i) 3000 ends ∙ ap (λ (n : ℕ). drop n ends) (let e : 3000 + 3000 * i ≡ 3000 * suc i = omega arith in e))

no_pieces : (n : ℕ) → ends_records n [] ≡ []
no_pieces zero = refl
no_pieces (suc n) = refl

-- the record at a place, and that it has some ends
pub ends_record_at : (n : ℕ) (ends : List (TxnId × Decision)) (i : ℕ) (d : Record) → i < length (ends_records n ends) → get_or (ends_records n ends) i d ≡ ends_record (ends_piece ends i)
ends_record_at zero ends i d below = absurd (omega arith)
ends_record_at (suc n) [] i d below = absurd (omega arith)
ends_record_at (suc n) (end ∷ ends) zero d below = refl
ends_record_at (suc n) (end ∷ ends) (suc i) d below = ends_record_at n (drop 3000 (end ∷ ends)) i d (omega arith)

pub some_left : (n : ℕ) (ends : List (TxnId × Decision)) (i : ℕ) → i < length (ends_records n ends) → 3000 * i < length ends
some_left zero ends i below = absurd (omega arith)
some_left (suc n) [] i below = absurd (omega arith)
some_left (suc n) (end ∷ ends) zero below = omega arith
some_left (suc n) (end ∷ ends) (suc i) below =
    let rest = some_left n (drop 3000 (end ∷ ends)) i (omega arith) in omega (arith, rest, length-drop 3000 (end ∷ ends))

-- how many records there are
pub count_is : (n : ℕ) (ends : List (TxnId × Decision)) → length ends ≤ 3000 * n → length (ends_records n ends) ≡ (length ends + 2999) / 3000
count_is zero [] few = refl
count_is zero (end ∷ ends) few = absurd (omega arith)
count_is (suc n) [] few = refl
count_is (suc n) (end ∷ ends) few =
    let rest = count_is n (drop 3000 (end ∷ ends)) (omega (arith, length-drop 3000 (end ∷ ends))) in omega (arith, rest, length-drop 3000 (end ∷ ends))

pub count_at_most : (n : ℕ) (ends : List (TxnId × Decision)) → length (ends_records n ends) ≤ n
count_at_most zero ends = omega arith
count_at_most (suc n) [] = omega arith
count_at_most (suc n) (end ∷ ends) = let rest = count_at_most n (drop 3000 (end ∷ ends)) in omega (arith, rest)

-- one record more
pub one_more : (n i : ℕ) (found piece : List (TxnId × Decision)) → length found ≡ 3000 * i → i < n → 1 ≤ length piece → length piece ≤ 3000
    → ends_records n (found ++ piece) ≡ ends_records n found ++ ends_record piece ∷ []
one_more zero i found piece full below some few = absurd (omega arith)
one_more (suc n) i [] [] full below some few = absurd (omega arith)
one_more (suc n) i [] (end ∷ piece) full below some few =
    let whole = take_all 3000 (end ∷ piece) few in
    let none = drop_all 3000 (end ∷ piece) few in
    ap (λ (l : List (TxnId × Decision)). ends_record l ∷ ends_records n (drop 3000 (end ∷ piece))) whole
    ∙ ap (λ (l : List (TxnId × Decision)). ends_record (end ∷ piece) ∷ ends_records n l) none
    ∙ ap (λ (l : List Record). ends_record (end ∷ piece) ∷ l) (no_pieces n)
one_more (suc n) zero (first ∷ found) piece full below some few = absurd (omega arith)
one_more (suc n) (suc i) (first ∷ found) piece full below some few =
    let front = take-append-le 3000 (first ∷ found) piece (omega arith) in
    let back = drop-append-le 3000 (first ∷ found) piece (omega arith) in
    let rest = one_more n i (drop 3000 (first ∷ found)) piece (omega (arith, length-drop 3000 (first ∷ found), full)) (omega arith) some few in
    ap (λ (l : List (TxnId × Decision)). ends_record l ∷ ends_records n (drop 3000 ((first ∷ found) ++ piece))) front
    ∙ ap (λ (l : List (TxnId × Decision)). ends_record (take 3000 (first ∷ found)) ∷ ends_records n l) back
    ∙ ap (λ (l : List Record). ends_record (take 3000 (first ∷ found)) ∷ l) rest

-- The first records were read, of those that hold so many ends.
pub record ReadsPieces (contents : List Record) (i total : ℕ) (found : List (TxnId × Decision)) : Type 0 where
  pub few : length found ≤ total
  pub full : (length found ≡ 3000 * i) ⊎ (length found ≡ total)
  pub so_far : take i contents ≡ ends_records 63 found
  pub each : All IsEnd found
  pub agrees : (ends : List (TxnId × Decision)) → All IsEnd ends → length ends ≡ total → contents ≡ ends_records 63 ends → found ≡ take (3000 * i) ends

pub pieces_none : (contents : List Record) (total : ℕ) → ReadsPieces contents 0 total []
pieces_none contents total = record {
  few = omega arith;
  full = inl refl;
  so_far = refl;
  each = λ k d below. absurd (omega arith);
  agrees = λ ends fit counted are. refl;
}

-- the piece that stands at a place has the ends that are to come
pub piece_due : (contents : List Record) (i total : ℕ) (found ends : List (TxnId × Decision)) → i < length contents → ReadsPieces contents i total found → All IsEnd ends → length ends ≡ total → contents ≡ ends_records 63 ends
    → (length found ≡ 3000 * i) × (length found < total) × (length (ends_piece ends i) ≡ min (total - length found) 3000)
piece_due contents i total found ends below reads fit counted are =
    let left : 3000 * i < length ends = some_left 63 ends i (omega (arith, ap length are)) in
    let so_far : length found ≡ 3000 * i = ap length (reads.agrees ends fit counted are) ∙ length-take-le (3000 * i) ends (omega arith) in
    let size : length (ends_piece ends i) ≡ min 3000 (length ends - 3000 * i) = ap length (piece_is ends i) ∙ length-take 3000 (drop (3000 * i) ends) ∙ ap (λ (n : ℕ). min 3000 n) (length-drop (3000 * i) ends) in
    (so_far, omega (arith, so_far, left, counted), omega (arith, size, so_far, counted))

pub piece_fits : (ends : List (TxnId × Decision)) (i : ℕ) → All IsEnd ends → All IsEnd (ends_piece ends i)
piece_fits ends i fit = subst (All IsEnd) (sym (piece_is ends i)) (All-take IsEnd 3000 (drop (3000 * i) ends) (All-drop IsEnd (3000 * i) ends fit))

joined : (i : ℕ) (ends : List (TxnId × Decision)) → 3000 * i ≤ length ends → take (3000 * i) ends ++ take 3000 (drop (3000 * i) ends) ≡ take (3000 * (i + 1)) ends
joined i ends long =
    let front : List (TxnId × Decision) = take (3000 * i) ends in
    let back : List (TxnId × Decision) = drop (3000 * i) ends in
    let size : 3000 * (i + 1) ≡ length front + 3000 = omega (arith, length-take-le (3000 * i) ends long) in
    sym (ap (take (3000 * (i + 1))) (sym (take-append-drop (3000 * i) ends)) ∙ ap (λ (n : ℕ). take n (front ++ back)) size ∙ take-append-add front back 3000)

pub pieces_more : (contents : List Record) (i total count : ℕ) (found after : List (TxnId × Decision)) (bytes : Record)
    → i < length contents → length contents ≤ 63 → bytes ≡ get_or contents i bytes → ReadsPieces contents i total found
    → count ≡ min (total - length found) 3000 → 1 ≤ count → AddsRecord found after bytes count → ReadsPieces contents (i + 1) total after
pieces_more contents i total count found after bytes below few at reads count_is some adds =
    let whole : length found ≡ 3000 * i = elim reads.full [ inl full ↦ full | inr all ↦ absurd (omega arith) ] in
    let size : length after ≡ length found + count = ap length adds.after_is ∙ length-append found adds.ends ∙ ap (λ (n : ℕ). length found + n) adds.count_is in
    record {
      few = omega arith;
      full = elim (cases_lt (total - length found) 3000) [ inl last ↦ inr (omega arith) | inr more ↦ inl (omega arith) ];
      so_far =
          take_more contents i bytes below
          ∙ ap (λ (l : List Record). l ++ get_or contents i bytes ∷ []) reads.so_far
          ∙ ap (λ (r : Record). ends_records 63 found ++ r ∷ []) (sym at ∙ adds.bytes_are)
          ∙ sym (one_more 63 i found adds.ends whole (omega arith) (omega (arith, adds.count_is)) (omega (arith, adds.count_is)))
          ∙ ap (ends_records 63) (sym adds.after_is);
      each = subst (All IsEnd) (sym adds.after_is) (All-append IsEnd found adds.ends reads.each adds.each);
      agrees = λ ends fit counted are.
          let due = piece_due contents i total found ends below reads fit counted are in
          let same : ends_record adds.ends ≡ ends_record (ends_piece ends i) =
          sym adds.bytes_are ∙ at ∙ ap (λ (l : List Record). get_or l i bytes) are ∙ ends_record_at 63 ends i bytes (omega (arith, below, ap length are)) in
          let piece : adds.ends ≡ ends_piece ends i = ends_one adds.ends (ends_piece ends i) adds.each (piece_fits ends i fit) same in
          adds.after_is ∙ ap (λ (l : List (TxnId × Decision)). l ++ adds.ends) (reads.agrees ends fit counted are)
          ∙ ap (λ (l : List (TxnId × Decision)). take (3000 * i) ends ++ l) (piece ∙ piece_is ends i) ∙ joined i ends (omega (arith, due.0, due.1, counted));
    }

-- All records were read: the ends are the only ones of which these are the records.
pub pieces_all : (contents : List Record) (i total : ℕ) (found ends : List (TxnId × Decision)) → i ≡ length contents → total ≤ 189000 → ReadsPieces contents i total found → All IsEnd ends → length ends ≡ total → contents ≡ ends_records 63 ends → ends ≡ found
pieces_all contents i total found ends whole few reads fit counted are =
    let count = count_is 63 ends (omega (arith, few, counted)) in
    sym (reads.agrees ends fit counted are ∙ take_all (3000 * i) ends (omega (arith, whole, ap length are, count)))

pub pieces_are : (contents : List Record) (i total : ℕ) (found : List (TxnId × Decision)) → i ≡ length contents → ReadsPieces contents i total found → contents ≡ ends_records 63 found
pieces_are contents i total found whole reads = sym (take_all i contents (omega (arith, whole))) ∙ reads.so_far

pub piece_small : (ends : List (TxnId × Decision)) (i : ℕ) → length (ends_piece ends i) ≤ 3000
piece_small ends i = omega (arith, ap length (piece_is ends i), length-take 3000 (drop (3000 * i) ends))

-- a piece, cut out of the ends as code does
pub piece_taken : (ends behind front : List (TxnId × Decision)) (i count : ℕ) → behind ≡ drop (3000 * i) ends → count ≡ min (length behind) 3000 → front ≡ take count behind → front ≡ ends_piece ends i
piece_taken ends behind front i count is_behind is_count is_front =
    let same : take count behind ≡ take 3000 behind = elim (cases_lt (length behind) 3000) [
      | inl short ↦ take_all count behind (omega arith) ∙ sym (take_all 3000 behind (omega arith))
      | inr long ↦ ap (λ (n : ℕ). take n behind) (let e : count ≡ 3000 = omega arith in e)
    ] in
    is_front ∙ same ∙ ap (take 3000) is_behind ∙ sym (piece_is ends i)

-- the record of a piece stands behind the head and those before it
pub record_behind : (snap : Snapshot) (i : ℕ) → i < length (ends_records 63 snap.ends) → get_or (snapshot_batch snap) (i + 1) [] ≡ ends_record (ends_piece snap.ends i)
record_behind snap i below = ap (λ (n : ℕ). get_or (snapshot_batch snap) n []) (add-one i) ∙ ends_record_at 63 snap.ends i [] below

-- the bytes of an item are the item of the bytes
pub item_at : (items : List Roomy) (i : ℕ) (item : Roomy) (bytes : Record) → i < length items → item ≡ get_or items i item → bytes ≡ item.bytes → bytes ≡ get_or (contents_of items) i bytes
item_at items i item bytes below at are =
    are ∙ ap (λ (b : Roomy). b.bytes) at ∙ sym (get_or-map (λ (b : Roomy). b.bytes) items i item bytes below)

pub contents_length : (items : List Roomy) → length (contents_of items) ≡ length items
contents_length items = length-map items (λ (b : Roomy). b.bytes)
