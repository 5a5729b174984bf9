-- A list whose elements are changed one by one.
use Rattle.std.proofs.Common.{◌≡◌, ℕ, zero, suc, ◌+◌, ◌<◌, List, [], ◌∷◌, ◌++◌, map, length, get_or, take, drop, refl, sym, ◌∙◌, ap, arith, add-one}
use Rattle.std.proofs.Math.ListN.{set}

module _ {A : Type 0} (f : A → A) where
  -- so far
  abbrev pub so_far : ℕ → List A → List A
  so_far i xs = map f (take i xs) ++ drop i xs

  at_one : (xs : List A) (i : ℕ) (d : A) → i < length xs → set (so_far i xs) i (f (get_or (so_far i xs) i d)) ≡ so_far (suc i) xs
  at_one [] i d h = absurd (omega arith)
  at_one (x ∷ xs) zero d h = refl
  at_one (x ∷ xs) (suc i) d h = ap (λ l. f x ∷ l) (at_one xs i d (omega arith))

  -- one element more
  pub one_more : (xs ys : List A) (i : ℕ) (d y : A) → ys ≡ so_far i xs → i < length xs → y ≡ f (get_or ys i d) → set ys i y ≡ so_far (i + 1) xs
  one_more xs ys i d y e h v = ap (λ k. set ys i k) v ∙ ap (λ l. set l i (f (get_or l i d))) e ∙ at_one xs i d h ∙ ap (λ k. so_far k xs) (sym (add-one i))
