-- What a source in memory gives.
use Rattle.std.proofs.Common.{◌≡◌, ℕ, ◌+◌, ◌-◌, ◌≤◌, List, ◌++◌, length, take, drop, sym, ap, ◌∙◌, arith, length-take, length-drop}
use Rattle.std.proofs.lemmas.List.{take_all, take-append-drop, take-append-le}
use Rattle.std.proofs.lemmas.Grind.{common_steps}

-- the first bytes of what was left, and behind them what is left then
pub gives : (bs : List ℕ) (at n : ℕ) (piece rest : List ℕ) → piece ≡ take n (take (length bs - at) (drop at bs)) → n ≤ length bs - at → drop at bs ≡ take n (piece ++ rest) ++ drop (at + n) bs
gives bs at n piece rest e h =
    let front : piece ≡ take n (drop at bs) = e ∙ ap (take n) (take_all (length bs - at) (drop at bs) (omega (arith, length-drop at bs))) in
    let long : length piece ≡ n = omega (arith, ap length front, length-take n (drop at bs), length-drop at bs) in
    let same : take n (piece ++ rest) ≡ piece = take-append-le n piece rest (omega arith) ∙ take_all n piece (omega arith) in
    let later : drop (at + n) bs ≡ drop n (drop at bs) = grind (arith, common_steps) in
    rw (same, later, front) (sym (take-append-drop n (drop at bs)))
