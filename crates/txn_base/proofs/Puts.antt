-- What was put in pieces was put.
use Rattle.std.proofs.Common.{◌≡◌, ℕ, ◌+◌, ◌-◌, List, ◌++◌, length, take, drop, sym, ap, ◌∙◌, subst, arith, length-drop}
use Rattle.std.specs.declared.option.Option.{Option}
use Rattle.std.specs.Io.KnownBytes.{Appends}
use Rattle.std.proofs.KnownBytes.{Appends-trans}
use Rattle.std.proofs.Math.Seq.{take-add}
use Rattle.std.proofs.lemmas.List.{take_all}

-- what stands from n on
pub rest_is : (n : ℕ) (xs : List ℕ) → take (length xs - n) (drop n xs) ≡ drop n xs
rest_is n xs = take_all (length xs - n) (drop n xs) (omega (arith, length-drop n xs))

pub puts_more : (old mid new : Option (List ℕ)) (xs : List ℕ) (n m : ℕ) → Appends old mid (take n xs) → Appends mid new (take m (take (length xs - n) (drop n xs))) → Appends old new (take (n + m) xs)
puts_more old mid new xs n m p q =
    let joined : Appends old new (take n xs ++ take m (take (length xs - n) (drop n xs))) = Appends-trans old mid new (take n xs) _ p q in
    subst (Appends old new) (ap (λ r. take n xs ++ take m r) (rest_is n xs) ∙ sym (take-add n m xs)) joined
