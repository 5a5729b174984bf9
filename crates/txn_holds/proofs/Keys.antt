-- Rows of places, by the two numbers of a transaction.
use Rattle.std.proofs.Common.{◌≡◌, ℕ, ◌&&◌, ◌==◌, eqb-true, Bool, true, false, cond, if◌then◌else◌, List, [], Some, None, refl, sym, ap, ◌∙◌, true≢false}
use Rattle.std.specs.Prelude.{Option, is_some, unwrap_or, Result, Ok, Err, IsOk, OnOk}
use Rattle.txn_base.specs.declared.txn.TxnId.{TxnId}
use Rattle.txn_holds.specs.Rows.{key_of, same_key, row_in, row_of, row_ended}

key_equal : (a b : ℕ × ℕ) → same_key a b ≡ true → a ≡ b
key_equal a b h = both (a.0 == b.0) (a.1 == b.1) refl refl h
  where
    make : {m m' l l' : ℕ} → m ≡ m' → l ≡ l' → (m, l) ≡ (let p : ℕ × ℕ = (m', l') in p)
    make e f = λ i. (e i, f i)

    both : (c d : Bool) → (a.0 == b.0) ≡ c → (a.1 == b.1) ≡ d → (c && d) ≡ true → a ≡ b
    both true true e f k = make (eqb-true a.0 b.0 e) (eqb-true a.1 b.1 f)
    both true false e f k = absurd (true≢false (sym k))
    both false d e f k = absurd (true≢false (sym k))

pub begun : (f n : ℕ × ℕ → Option (List ℕ)) (key : ℕ × ℕ) → ((k : ℕ × ℕ) → n k ≡ cond (same_key key k) (Some []) (f k)) → f key ≡ None → (k : ℕ × ℕ) → row_in n k ≡ row_in f k
begun f n key new none k = by_test (same_key key k) refl
  where
    by_test : (b : Bool) → same_key key k ≡ b → row_in n k ≡ row_in f k
    by_test true e = ap (λ o. unwrap_or o []) (new k ∙ ap (λ b. cond b (Some []) (f k)) e) ∙ sym (ap (λ o. unwrap_or o []) (ap f (sym (key_equal key k e)) ∙ none))
    by_test false e = ap (λ o. unwrap_or o []) (new k ∙ ap (λ b. cond b (Some []) (f k)) e)

pub row_gone : (f n : ℕ × ℕ → Option (List ℕ)) (x : TxnId) → ((k : ℕ × ℕ) → n k ≡ cond (same_key (key_of x) k) None (f k)) → (y : TxnId) → row_of n y ≡ row_ended (row_of f) x y
row_gone f n x new y = ap (λ o. unwrap_or o []) (new (key_of y)) ∙ pick (same_key (key_of x) (key_of y))
  where
    pick : (b : Bool) → unwrap_or (cond b None (f (key_of y))) [] ≡ (if b then [] else row_of f y)
    pick true = refl
    pick false = refl

pub no_row : (o : Option (List ℕ)) (b : Bool) → b ≡ false → b ≡ is_some o → o ≡ None
no_row None b h k = refl
no_row (Some l) b h k = absurd (true≢false (sym k ∙ h))

pub at_ok : {T E : Type 0} (r : Result T E) (P : Type 0) → IsOk r → OnOk r P → P
at_ok (Ok v) P is h = h
at_ok (Err e) P is h = absurd (true≢false (sym is))
