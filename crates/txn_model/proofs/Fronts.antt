-- The first entry of a list that isn't allowed is found.
use Rattle.std.proofs.Common.{◌≡◌, ℕ, suc, ◌+◌, ◌<◌, arith, Bool, true, false, ◌&&◌, if◌then◌else◌, List, [], ◌∷◌, ◌++◌, length, take, Some, None, refl, sym, ap, ◌∙◌, subst}
use Rattle.txn_model.proofs.Words.{Option, MatchOption, all_follow, IsLawfulBy, first_bad_from, first_bad, IsFirstBad}
use Rattle.txn_model.proofs.Bools.{no_true, and_both}

-- the place that is found, from k on
abbrev FoundFrom : {E : Type 0} → (List E → E → Bool) → List E → ℕ → List E → Option ℕ → Type 0
FoundFrom allows before k es place =
    MatchOption place (all_follow allows before es ≡ true)
    (λ j. (i : ℕ) × (j ≡ k + i) × (i < length es) × (all_follow allows before (take i es) ≡ true) × (all_follow allows before (take (suc i) es) ≡ false))

found_later : {E : Type 0} (allows : List E → E → Bool) (before : List E) (k : ℕ) (e : E) (es : List E) (place : Option ℕ) → allows before e ≡ true
    → FoundFrom allows (before ++ e ∷ []) (suc k) es place → FoundFrom allows before k (e ∷ es) place
found_later allows before k e es None h f = and_both (allows before e) (all_follow allows (before ++ e ∷ []) es) h f
found_later allows before k e es (Some j) h f = (
  suc f.0,
  omega (arith, f.1),
  omega (arith, f.2),
  and_both (allows before e) (all_follow allows (before ++ e ∷ []) (take f.0 es)) h f.3,
  ap (λ b. b && all_follow allows (before ++ e ∷ []) (take (suc f.0) es)) h ∙ f.4,
)

found_step : {E : Type 0} (b : Bool) (allows : List E → E → Bool) (before : List E) (k : ℕ) (e : E) (es : List E) → allows before e ≡ b
    → FoundFrom allows (before ++ e ∷ []) (suc k) es (first_bad_from allows (before ++ e ∷ []) (suc k) es)
    → FoundFrom allows before k (e ∷ es) (if b then first_bad_from allows (before ++ e ∷ []) (suc k) es else Some k)
found_step true allows before k e es h f = found_later allows before k e es (first_bad_from allows (before ++ e ∷ []) (suc k) es) h f
found_step false allows before k e es h f =
    (0, omega arith, omega arith, refl, ap (λ b. b && all_follow allows (before ++ e ∷ []) (take 0 es)) h)

found_from : {E : Type 0} (allows : List E → E → Bool) (before : List E) (k : ℕ) (es : List E) → FoundFrom allows before k es (first_bad_from allows before k es)
found_from allows before k [] = refl
found_from allows before k (e ∷ es) = found_step (allows before e) allows before k e es refl (found_from allows (before ++ e ∷ []) (suc k) es)

first_by : {E : Type 0} (allows : List E → E → Bool) (es : List E) (place : Option ℕ) → FoundFrom allows [] 0 es place → IsFirstBad allows es place
first_by allows es None f = f
first_by allows es (Some j) f =
    let same : f.0 ≡ j = omega (arith, f.1) in
    (omega (arith, f.1, f.2), subst (λ k. IsLawfulBy allows (take k es)) same f.3, λ h. no_true (sym (subst (λ k. all_follow allows [] (take (suc k) es) ≡ false) same f.4) ∙ h))

pub first_is_bad : {E : Type 0} (allows : List E → E → Bool) (es : List E) → IsFirstBad allows es (first_bad allows es)
first_is_bad allows es = first_by allows es (first_bad allows es) (found_from allows [] 0 es)
