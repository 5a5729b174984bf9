-- The bytes of lists of places.
use Rattle.std.proofs.Common.{◌≡◌, ℕ, suc, ◌+◌, ◌*◌, ◌<◌, ◌≤◌, ◌^◌, List, [], ◌∷◌, ◌++◌, length, drop, get_or, refl, sym, ap, ◌∙◌, arith}
use Rattle.std.specs.Prelude.{All}
use Rattle.std.specs.List.{flat_map}
use Rattle.std.proofs.lemmas.List.{append_assoc, append-nil, get_or_default, drop-drop, length-drop, take-append-drop}
use Rattle.std.proofs.lemmas.List.Elements.{All-head, All-tail}
use Rattle.byteorder.specs.Endian.{big_bytes, big_number, IsRead}
use Rattle.byteorder.specs.Numbers.{big_number-reads_back, big_from-lt}
use Rattle.txn_base.specs.Decoded.{words_at_front, places_at_front}
use Rattle.txn_base.specs.Records.{IsWord, ArePlaces, places_bytes}
use Rattle.txn_records.proofs.Numbers.{word_again, dropped_small}

pub words_length : (places : List ℕ) → length (flat_map (big_bytes 8) places) ≡ 8 * length places
words_length [] = refl
words_length (place ∷ places) = omega (arith, words_length places)

-- the count of places and what stands behind it
pub places_length : (places : List ℕ) → length (places_bytes places) ≡ 8 * length places + 2
places_length places = omega (arith, words_length places)

pub places_count : (places : List ℕ) → length places ≤ 256 → big_number 2 (places_bytes places) ≡ length places
places_count places few = big_number-reads_back 2 (length places) (flat_map (big_bytes 8) places) (omega arith)

-- places that were written, read
pub words_decoded : (places rest : List ℕ) → All IsWord places → words_at_front (length places) (flat_map (big_bytes 8) places ++ rest) ≡ places
words_decoded [] rest fit = refl
words_decoded (place ∷ places) rest fit =
    let first : big_number 8 (flat_map (big_bytes 8) (place ∷ places) ++ rest) ≡ place =
    ap (big_number 8) (append_assoc (big_bytes 8 place) (flat_map (big_bytes 8) places) rest)
    ∙ big_number-reads_back 8 place (flat_map (big_bytes 8) places ++ rest) (let small = All-head IsWord place places fit in omega arith) in
    λ i. first i ∷ words_decoded places rest (All-tail IsWord place places fit) i

pub places_decoded : (places : List ℕ) → length places ≤ 256 → All IsWord places → places_at_front (places_bytes places) ≡ places
places_decoded places few fit =
    ap (λ (n : ℕ). words_at_front n (flat_map (big_bytes 8) places)) (places_count places few)
    ∙ ap (words_at_front (length places)) (sym (append-nil (flat_map (big_bytes 8) places)))
    ∙ words_decoded places [] fit

-- places that were read, written again
pub words_read : (src dst : List ℕ) → length src ≡ 8 * length dst → ((i : ℕ) → get_or src i 0 < 256) → IsRead big_number 8 src dst → src ≡ flat_map (big_bytes 8) dst
words_read [] [] long small is = refl
words_read (b ∷ src) [] long small is = absurd (omega arith)
words_read src (place ∷ dst) long small is =
    let first : place ≡ big_number 8 src = is 0 (omega arith) in
    let rest : drop 8 src ≡ flat_map (big_bytes 8) dst =
    words_read (drop 8 src) dst (omega (arith, length-drop 8 src)) (dropped_small 8 src small)
    (λ k below.
    let next : drop (8 * suc k) src ≡ drop (8 * k) (drop 8 src) = ap (λ (n : ℕ). drop n src) (let e : 8 * suc k ≡ 8 + 8 * k = omega arith in e) ∙ sym (drop-drop (8 * k) 8 src) in
    is (suc k) (omega arith) ∙ ap (big_number 8) next) in
    sym (take-append-drop 8 src) ∙ ap (λ (l : List ℕ). l ++ drop 8 src) (sym (word_again src (omega arith) small)) ∙ ap (λ (l : List ℕ). big_bytes 8 (big_number 8 src) ++ l) rest
    ∙ ap (λ (n : ℕ). big_bytes 8 n ++ flat_map (big_bytes 8) dst) (sym first)

pub words_fit : (src dst : List ℕ) → ((i : ℕ) → get_or src i 0 < 256) → IsRead big_number 8 src dst → All IsWord dst
words_fit src dst small is k d below =
    let fits : big_number 8 (drop (8 * k) src) < 256 ^ 8 = big_from-lt 0 8 (drop (8 * k) src) (dropped_small (8 * k) src small) in
    let same : get_or dst k d ≡ big_number 8 (drop (8 * k) src) = get_or_default dst k d 0 below ∙ is k below in
    omega (arith, fits, same)

-- one list of places for some bytes
pub places_one : (a b : List ℕ) → length a ≤ 256 → All IsWord a → ArePlaces b → places_bytes a ≡ places_bytes b → a ≡ b
places_one a b few fit are e = sym (places_decoded a few fit) ∙ ap places_at_front e ∙ places_decoded b are.few are.each

-- a count and so many numbers are a list of places
pub places_joined : (bytes words : List ℕ) (count : ℕ) (places : List ℕ) → bytes ≡ big_bytes 2 count ++ words → words ≡ flat_map (big_bytes 8) places → length places ≡ count → bytes ≡ places_bytes places
places_joined bytes words count places split are counted =
    split ∙ ap (λ (l : List ℕ). big_bytes 2 count ++ l) are ∙ ap (λ (n : ℕ). big_bytes 2 n ++ flat_map (big_bytes 8) places) (sym counted)
