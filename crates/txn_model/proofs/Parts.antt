-- The numbers of names: each is that of a topic or of a subscription, and none is past the names.
use Rattle.std.proofs.Common.{◌≡◌, ℕ, suc, ◌+◌, ◌==◌, ◌≤◌, ◌<◌, arith, eqb-true, Bool, true, false, not, if◌then◌else◌, List, [], ◌∷◌, length, refl, sym, ◌∙◌}
use Rattle.txn_model.proofs.Words.{is_sub, has, numbered, is_topic}
use Rattle.txn_model.proofs.Bools.{no_true}

-- a number among those from k on lies there
numbered_within_step : (b turned : Bool) (k p n : ℕ) (found : Bool) → (turned ≡ true → p ≡ k) → (found ≡ true → (suc k ≤ p) × (p < suc k + n))
    → (if b then (if turned then true else found) else found) ≡ true → (k ≤ p) × (p < k + suc n)
numbered_within_step true true k p n found same rest h = let e = same refl in (omega (arith, e), omega (arith, e))
numbered_within_step true false k p n found same rest h = let r = rest h in (omega (arith, r.0), omega (arith, r.1))
numbered_within_step false turned k p n found same rest h = let r = rest h in (omega (arith, r.0), omega (arith, r.1))

has_if : (b : Bool) (k p : ℕ) (qs : List ℕ) → has (if b then k ∷ qs else qs) p ≡ (if b then (if p == k then true else has qs p) else has qs p)
has_if true k p qs = refl
has_if false k p qs = refl

pub numbered_within : (test : List ℕ → Bool) (k p : ℕ) (names : List (List ℕ)) → has (numbered test k names) p ≡ true → (k ≤ p) × (p < k + length names)
numbered_within test k p [] h = absurd (no_true h)
numbered_within test k p (name ∷ names) h =
    numbered_within_step (test name) (p == k) k p (length names) (has (numbered test (suc k) names) p) (eqb-true p k) (numbered_within test (suc k) p names)
    (sym (has_if (test name) k p (numbered test (suc k) names)) ∙ h)

-- none is both
pub not_both_kinds : (k p : ℕ) (names : List (List ℕ)) → has (numbered is_topic k names) p ≡ true → has (numbered is_sub k names) p ≡ true → ⊥
not_both_kinds k p [] h j = no_true h
not_both_kinds k p (name ∷ names) h j =
    by_kind (is_sub name) (p == k) refl (has (numbered is_topic (suc k) names) p) (has (numbered is_sub (suc k) names) p)
    (λ t. within is_topic t) (λ t. within is_sub t) (not_both_kinds (suc k) p names)
    (sym (has_if (is_topic name) k p (numbered is_topic (suc k) names)) ∙ h) (sym (has_if (is_sub name) k p (numbered is_sub (suc k) names)) ∙ j)
  where
    within : (test : List ℕ → Bool) → has (numbered test (suc k) names) p ≡ true → suc k ≤ p
    within test t = (numbered_within test (suc k) p names t).0

    past : (p k : ℕ) → (p == k) ≡ true → suc k ≤ p → ⊥
    past p k e l = let same = eqb-true p k e in omega (arith, same, l)

    by_kind : (sub turned : Bool) → (p == k) ≡ turned → (topics subs : Bool) → (topics ≡ true → suc k ≤ p) → (subs ≡ true → suc k ≤ p) → (topics ≡ true → subs ≡ true → ⊥)
        → (if not sub then (if turned then true else topics) else topics) ≡ true → (if sub then (if turned then true else subs) else subs) ≡ true → ⊥
    by_kind true true e topics subs above_t above_s apart h j = past p k e (above_t h)
    by_kind true false e topics subs above_t above_s apart h j = apart h j
    by_kind false true e topics subs above_t above_s apart h j = past p k e (above_s j)
    by_kind false false e topics subs above_t above_s apart h j = apart h j
