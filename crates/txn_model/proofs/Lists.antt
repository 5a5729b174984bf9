-- Lists beside the parts to which they belong: what a change of one leaves of the others.
use Rattle.std.proofs.Common.{◌≡◌, ℕ, ◌==◌, eq-eqb, eqb-true, Bool, true, false, if◌then◌else◌, List, [], ◌∷◌, ◌++◌, refl, sym, ap, ◌∙◌}
use Rattle.txn_model.proofs.Words.{has, list_at, with_list, append_at, followed, parts_with}
use Rattle.txn_model.proofs.Bools.{no_true}

eqb_turn : (a b : ℕ) → (a == b) ≡ true → (b == a) ≡ true
eqb_turn a b h = eq-eqb b a (sym (eqb-true a b h))

false_by : (b : Bool) → (b ≡ true → ⊥) → b ≡ false
false_by true h = absurd (h refl)
false_by false h = refl

with_step : {E : Type 0} (same at_q p_q : Bool) (es here there there' : List E) → (same ≡ true → at_q ≡ p_q) → (same ≡ false → at_q ≡ true → p_q ≡ true → ⊥)
    → there' ≡ (if p_q then es else there)
    → (if same then (if p_q then es else there) else (if at_q then here else there')) ≡ (if p_q then es else (if at_q then here else there))
with_step true true true es here there there' agree apart h = refl
with_step true true false es here there there' agree apart h = absurd (no_true (sym (agree refl)))
with_step true false true es here there there' agree apart h = absurd (no_true (agree refl))
with_step true false false es here there there' agree apart h = refl
with_step false true true es here there there' agree apart h = absurd (apart refl refl refl)
with_step false true false es here there there' agree apart h = refl
with_step false false p_q es here there there' agree apart h = h

if_at : {E : Type 0} (b : Bool) (x y : List (ℕ × List E)) (q : ℕ) → list_at (if b then x else y) q ≡ (if b then list_at x q else list_at y q)
if_at true x y q = refl
if_at false x y q = refl

-- the list of p is the new one, and each other list is as it was
pub at_with : {E : Type 0} (ls : List (ℕ × List E)) (p : ℕ) (es : List E) (q : ℕ) → list_at (with_list ls p es) q ≡ (if p == q then es else list_at ls q)
at_with [] p es q = refl
at_with (l ∷ ls) p es q =
    if_at (l.0 == p) ((p, es) ∷ ls) (l ∷ with_list ls p es) q
    ∙ with_step (l.0 == p) (l.0 == q) (p == q) es l.1 (list_at ls q) (list_at (with_list ls p es) q)
    (λ h. ap (λ k. k == q) (eqb-true l.0 p h))
    (λ h a b. no_true (sym h ∙ eq-eqb l.0 p (eqb-true l.0 q a ∙ sym (eqb-true p q b))))
    (at_with ls p es q)

-- what is added follows the list of p, and each other list is as it was
pub at_append : {E : Type 0} (ls : List (ℕ × List E)) (p : ℕ) (more : List E) (q : ℕ) → list_at (append_at ls p more) q ≡ (if p == q then list_at ls p ++ more else list_at ls q)
at_append ls p more q = at_with ls p (list_at ls p ++ more) q

-- the parts beside which the lists stand are the same, where p is one of them
with_parts_step : {E : Type 0} (l : ℕ × List E) (ls : List (ℕ × List E)) (p : ℕ) (es : List E) (same turned : Bool) → (same ≡ true → l.0 ≡ p) → (same ≡ false → turned ≡ false)
    → (if turned then true else has (parts_with ls) p) ≡ true → (has (parts_with ls) p ≡ true → parts_with (with_list ls p es) ≡ parts_with ls)
    → parts_with (if same then (p, es) ∷ ls else l ∷ with_list ls p es) ≡ parts_with (l ∷ ls)
with_parts_step l ls p es true turned equal apart h rest = ap (λ k. k ∷ parts_with ls) (sym (equal refl))
with_parts_step l ls p es false true equal apart h rest = absurd (no_true (sym (apart refl)))
with_parts_step l ls p es false false equal apart h rest = ap (λ ks. l.0 ∷ ks) (rest h)

pub parts_with_list : {E : Type 0} (ls : List (ℕ × List E)) (p : ℕ) (es : List E) → has (parts_with ls) p ≡ true → parts_with (with_list ls p es) ≡ parts_with ls
parts_with_list [] p es h = absurd (no_true h)
parts_with_list (l ∷ ls) p es h =
    with_parts_step l ls p es (l.0 == p) (p == l.0) (eqb-true l.0 p) (λ e. false_by (p == l.0) (λ k. no_true (sym e ∙ eqb_turn p l.0 k))) h (parts_with_list ls p es)

pub parts_followed : {E : Type 0} (stays : ℕ → Bool) (flights : ℕ → List E) (ls : List (ℕ × List E)) → parts_with (followed stays flights ls) ≡ parts_with ls
parts_followed stays flights [] = refl
parts_followed stays flights (l ∷ ls) = ap (λ ks. l.0 ∷ ks) (parts_followed stays flights ls)

-- what a stop keeps follows the list of each part that is there, by itself
followed_here : {E : Type 0} (here turned found : Bool) (one kept_one rest kept_rest : List E) (after : List E → List E) → (here ≡ true → kept_one ≡ after one) → (here ≡ false → turned ≡ false)
    → (if turned then true else found) ≡ true → (found ≡ true → kept_rest ≡ after rest)
    → (if here then kept_one else kept_rest) ≡ after (if here then one else rest)
followed_here true turned found one kept_one rest kept_rest after equal apart h more = equal refl
followed_here false true found one kept_one rest kept_rest after equal apart h more = absurd (no_true (sym (apart refl)))
followed_here false false found one kept_one rest kept_rest after equal apart h more = more h

pub at_followed : {E : Type 0} (stays : ℕ → Bool) (flights : ℕ → List E) (ls : List (ℕ × List E)) (q : ℕ) → has (parts_with ls) q ≡ true
    → list_at (followed stays flights ls) q ≡ (if stays q then list_at ls q ++ flights q else list_at ls q)
at_followed stays flights [] q h = absurd (no_true h)
at_followed stays flights (l ∷ ls) q h =
    followed_here (l.0 == q) (q == l.0) (has (parts_with ls) q) l.1 (if stays l.0 then l.1 ++ flights l.0 else l.1) (list_at ls q) (list_at (followed stays flights ls) q)
    (λ es. if stays q then es ++ flights q else es)
    (λ e. ap (λ k. if stays k then l.1 ++ flights k else l.1) (eqb-true l.0 q e))
    (λ e. false_by (q == l.0) (λ k. no_true (sym e ∙ eqb_turn q l.0 k)))
    h (at_followed stays flights ls q)
