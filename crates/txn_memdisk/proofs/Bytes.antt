-- Bytes that are written over, cut off, and put back.
use Rattle.std.proofs.Common.{◌≡◌, ℕ, ◌+◌, ◌-◌, min, ◌≤◌, List, [], ◌++◌, length, take, drop, sym, ◌∙◌, ap, arith, length-append, length-take, length-drop, take-append-drop, take-add, take_all}
use Rattle.std.specs.Prelude.{replicate}
use Rattle.std.proofs.lemmas.List.{take_at, drop_at, append_assoc, length-replicate}
use Rattle.std.proofs.lemmas.Grind.{common_steps}
use Rattle.txn_base.specs.Disk.{Torn, overwritten, resized}
use Rattle.txn_memdisk.specs.Change.{bytes_put_back, filled}

-- A write is one way in which it is cut short.
pub written_torn : (at : ℕ) (bytes old : List ℕ) → at + length bytes ≤ length old → Torn at (length bytes) old (overwritten at bytes old)
written_torn at bytes old fits =
    let front : length (take at old) ≡ at = omega (arith, length-take at old) in
    let both : length (take at old ++ bytes) ≡ at + length bytes = omega (arith, front, length-append (take at old) bytes) in
    record {
      size = omega (arith, both, length-append (take at old ++ bytes) (drop (at + length bytes) old), length-drop (at + length bytes) old);
      front = ap (λ (l : List ℕ). take at l) (append_assoc (take at old) bytes (drop (at + length bytes) old)) ∙ take_at (take at old) (bytes ++ drop (at + length bytes) old) at front;
      back = drop_at (take at old ++ bytes) (drop (at + length bytes) old) (at + length bytes) both;
    }

three_parts : (at n : ℕ) (x : List ℕ) → take at x ++ take n (drop at x) ++ drop (at + n) x ≡ x
three_parts at n x = ap (λ (l : List ℕ). l ++ drop (at + n) x) (sym (take-add at n x)) ∙ take-append-drop (at + n) x

-- What was written over is put back.
pub puts_back : (at : ℕ) (bytes old x : List ℕ) → at + length bytes ≤ length x → old ≡ take (length bytes) (drop at x) → bytes_put_back at old (overwritten at bytes x) ≡ x
puts_back at bytes old x fits is =
    let torn = written_torn at bytes x fits in
    let y = overwritten at bytes x in
    let n = length bytes in
    let long : length old ≡ n = omega (arith, ap length is, length-take n (drop at x), length-drop at x) in
    let whole : take (length y - at) old ≡ take n (drop at x) = take_all (length y - at) old (omega (arith, long, torn.size, fits)) ∙ is in
    ap (λ (l : List ℕ). l ++ take (length y - at) old ++ drop (at + length old) y) torn.front
    ∙ ap (λ (l : List ℕ). take at x ++ l ++ drop (at + length old) y) whole
    ∙ ap (λ (k : ℕ). take at x ++ take n (drop at x) ++ drop (at + k) y) long
    ∙ ap (λ (l : List ℕ). take at x ++ take n (drop at x) ++ l) torn.back
    ∙ three_parts at n x

-- Where nothing was written over, nothing is put back.
pub puts_nothing : (at : ℕ) (x : List ℕ) → bytes_put_back at [] x ≡ x
puts_nothing at x = grind (arith, common_steps)

-- What was cut off is put back, and what was added is cut off.
pub sizes_back : (size : ℕ) (cut x : List ℕ) → cut ≡ drop (min (length x) size) x → take (length x) (resized size x) ++ cut ≡ x
sizes_back size cut x is = grind (arith, common_steps)

-- what stands from n on
pub from_on : (n : ℕ) (x : List ℕ) → take (length x - n) (drop n x) ≡ drop n x
from_on n x = take_all (length x - n) (drop n x) (omega (arith, length-drop n x))

fill_size : (at n byte : ℕ) (x : List ℕ) → length (filled at n byte x) ≡ length x
fill_size at n byte x =
    omega (
      arith,
      length-append (take at x ++ replicate (length (take n (drop at x))) byte) (drop (at + n) x),
      length-append (take at x) (replicate (length (take n (drop at x))) byte),
      length-replicate (length (take n (drop at x))) byte,
      length-take at x,
      length-take n (drop at x),
      length-drop at x,
      length-drop (at + n) x,
    )

fill_front : (at n byte : ℕ) (x : List ℕ) → take at (filled at n byte x) ≡ take at x
fill_front at n byte x = grind (arith, common_steps)

fill_back : (at n byte : ℕ) (x : List ℕ) → drop (at + n) (filled at n byte x) ≡ drop (at + n) x
fill_back at n byte x = grind (arith, common_steps)

-- A range that is filled is one way in which a write is cut short.
pub filled_torn : (at n byte : ℕ) (x : List ℕ) → Torn at n x (filled at n byte x)
filled_torn at n byte x = record { size = fill_size at n byte x; front = fill_front at n byte x; back = fill_back at n byte x }
