-- The bytes of numbers and of transactions.
use Rattle.std.proofs.Common.{◌≡◌, ℕ, ◌+◌, ◌-◌, ◌<◌, ◌≤◌, ◌^◌, List, [], ◌∷◌, ◌++◌, length, take, drop, get_or, sym, ap, ◌∙◌, arith, inl, inr}
use Rattle.std.proofs.lemmas.Bool.{cases_lt}
use Rattle.std.proofs.lemmas.List.{append_assoc, get_or-take, get_or-drop, get_or_past, length-take-le, length-drop, drop-drop, take-append-drop, take_all, append-nil}
use Rattle.std.proofs.lemmas.Nat.{be_bytes_4, be_bytes_8}
use Rattle.std.specs.Int.{w32, w64, from_be_bytes}
use Rattle.byteorder.specs.Endian.{big_bytes, big_number}
use Rattle.byteorder.specs.Numbers.{big_from-take, big_number-reads_back}
use Rattle.txn_base.specs.declared.txn.TxnId.{TxnId}
use Rattle.txn_base.specs.Records.{IsTxnId, txn_bytes}
use Rattle.txn_base.specs.Decoded.{txn_at_front}

-- one piece behind another
pub then_put : (a b c x y : List ℕ) → b ≡ a ++ x → c ≡ b ++ y → c ≡ a ++ (x ++ y)
then_put a b c x y first second = second ∙ ap (λ (l : List ℕ). l ++ y) first ∙ append_assoc a x y

-- the first bytes are bytes
taken_small : (n : ℕ) (xs : List ℕ) → ((i : ℕ) → get_or xs i 0 < 256) → n ≤ length xs → (i : ℕ) → get_or (take n xs) i 0 < 256
taken_small n xs small long i = elim (cases_lt i n) [
  | inl below ↦ let e = get_or-take n xs i 0 below in let at = small i in omega (arith, e, at)
  | inr past ↦ let e = get_or_past (take n xs) i 0 (omega (arith, length-take-le n xs long, past)) in omega (arith, e)
]

-- a number of 64 bits that was read, written again
pub word_again : (xs : List ℕ) → 8 ≤ length xs → ((i : ℕ) → get_or xs i 0 < 256) → big_bytes 8 (big_number 8 xs) ≡ take 8 xs
word_again xs long small =
    let reads : big_number 8 (take 8 xs) ≡ from_be_bytes w64 (take 8 xs) = omega arith in
    let same : big_number 8 xs ≡ from_be_bytes w64 (take 8 xs) = sym (big_from-take 0 8 8 xs (omega arith)) ∙ reads in
    be_bytes_8 (take 8 xs) (big_number 8 xs) (length-take-le 8 xs long) (taken_small 8 xs small long) same

pub dropped_small : (n : ℕ) (xs : List ℕ) → ((i : ℕ) → get_or xs i 0 < 256) → (i : ℕ) → get_or (drop n xs) i 0 < 256
dropped_small n xs small i = let e = get_or-drop n xs i 0 in let at = small (n + i) in omega (arith, e, at)

-- a transaction that was read, written again before what stands behind it
pub txn_again : (xs : List ℕ) → 16 ≤ length xs → ((i : ℕ) → get_or xs i 0 < 256) → xs ≡ txn_bytes (txn_at_front xs) ++ drop 16 xs
txn_again xs long small =
    let behind : List ℕ = drop 8 xs in
    let most : big_bytes 8 (big_number 8 xs) ≡ take 8 xs = word_again xs (omega arith) small in
    let least : big_bytes 8 (big_number 8 behind) ≡ take 8 behind = word_again behind (omega (arith, length-drop 8 xs)) (dropped_small 8 xs small) in
    sym (
    ap (λ (l : List ℕ). (l ++ big_bytes 8 (big_number 8 behind)) ++ drop 16 xs) most
    ∙ ap (λ (l : List ℕ). (take 8 xs ++ l) ++ drop 16 xs) least
    ∙ append_assoc (take 8 xs) (take 8 behind) (drop 16 xs)
    ∙ ap (λ (l : List ℕ). take 8 xs ++ (take 8 behind ++ l)) (sym (drop-drop 8 8 xs))
    ∙ ap (λ (l : List ℕ). take 8 xs ++ l) (take-append-drop 8 behind)
    ∙ take-append-drop 8 xs
    )

-- a transaction that was written, read
pub txn_read : (x : TxnId) (rest : List ℕ) → IsTxnId x → txn_at_front (txn_bytes x ++ rest) ≡ x
txn_read x rest is =
    let most : big_number 8 (txn_bytes x ++ rest) ≡ x.most =
    ap (big_number 8) (append_assoc (big_bytes 8 x.most) (big_bytes 8 x.least) rest) ∙ big_number-reads_back 8 x.most (big_bytes 8 x.least ++ rest) (omega (arith, is.most)) in
    let least : big_number 8 (drop 8 (txn_bytes x ++ rest)) ≡ x.least = big_number-reads_back 8 x.least rest (omega (arith, is.least)) in
    λ i. record { most = most i; least = least i }

-- what is left behind the first bytes, in the form that a range of a slice has
pub taken_rest : (n : ℕ) (xs : List ℕ) → take (length xs - n) (drop n xs) ≡ drop n xs
taken_rest n xs = take_all (length xs - n) (drop n xs) (omega (arith, length-drop n xs))

-- a transaction, taken off the front of some bytes
pub txn_taken : (xs : List ℕ) (most least : ℕ) → 16 ≤ length xs → ((i : ℕ) → get_or xs i 0 < 256) → most ≡ big_number 8 xs → least ≡ big_number 8 (take (length xs - 8) (drop 8 xs)) → xs ≡ (big_bytes 8 most ++ big_bytes 8 least) ++ take (length xs - 16) (drop 16 xs)
txn_taken xs most least long small is_most is_least =
    let same : least ≡ big_number 8 (drop 8 xs) = is_least ∙ ap (big_number 8) (taken_rest 8 xs) in
    txn_again xs long small
    ∙ ap (λ (l : List ℕ). txn_bytes (txn_at_front xs) ++ l) (sym (taken_rest 16 xs))
    ∙ ap (λ (m : ℕ). (big_bytes 8 m ++ big_bytes 8 (big_number 8 (drop 8 xs))) ++ take (length xs - 16) (drop 16 xs)) (sym is_most)
    ∙ ap (λ (m : ℕ). (big_bytes 8 most ++ big_bytes 8 m) ++ take (length xs - 16) (drop 16 xs)) (sym same)

-- a number that was written, read
pub number_read : (n x : ℕ) → x < 256 ^ n → big_number n (big_bytes n x) ≡ x
number_read n x fits = ap (big_number n) (sym (append-nil (big_bytes n x))) ∙ big_number-reads_back n x [] fits

-- a number that was read, written again
pub word_whole : (xs : List ℕ) → length xs ≡ 8 → ((i : ℕ) → get_or xs i 0 < 256) → xs ≡ big_bytes 8 (big_number 8 xs)
word_whole xs whole small = sym (word_again xs (omega arith) small ∙ take_all 8 xs (omega arith))

pub half_whole : (xs : List ℕ) → length xs ≡ 4 → ((i : ℕ) → get_or xs i 0 < 256) → xs ≡ big_bytes 4 (big_number 4 xs)
half_whole xs whole small =
    let same : big_number 4 xs ≡ from_be_bytes w32 xs = omega arith in
    sym (be_bytes_4 xs (big_number 4 xs) whole small same)

-- a number of 32 bits has bytes of its own
pub half_one : (x y : ℕ) → x < 2 ^ 32 → y < 2 ^ 32 → big_bytes 4 x ≡ big_bytes 4 y → x ≡ y
half_one x y fits small e = sym (number_read 4 x (omega (arith, fits))) ∙ ap (big_number 4) e ∙ number_read 4 y (omega (arith, small))

-- two records that differ in the kind
pub other_kind : {j k : ℕ} {a b : List ℕ} → 1 ∷ j ∷ a ≡ 1 ∷ k ∷ b → j ≡ k
other_kind e = cc
