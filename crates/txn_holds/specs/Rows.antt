-- The places that each transaction holds one by one, by the two numbers of the transaction.
use Rattle.std.specs.Prelude.{◌≡◌, ℕ, ◌==◌, ◌&&◌, Bool, false, if◌then◌else◌, List, [], ◌++◌, Option, unwrap_or}
use Rattle.txn_base.specs.declared.txn.TxnId.{TxnId}
use Rattle.txn_model.specs.Skeletons.{same_txn}

-- A transaction as the key of a table; both keys are the same.
abbrev pub key_of : TxnId → ℕ × ℕ
key_of x = (x.most, x.least)

abbrev pub same_key : ℕ × ℕ → ℕ × ℕ → Bool
same_key a b = (a.0 == b.0) && (a.1 == b.1)

-- The places of a key, of a transaction: none where there is no row.
abbrev pub row_in : (ℕ × ℕ → Option (List ℕ)) → ℕ × ℕ → List ℕ
row_in f key = unwrap_or (f key) []

abbrev pub row_of : (ℕ × ℕ → Option (List ℕ)) → TxnId → List ℕ
row_of f x = row_in f (key_of x)

-- These rows, where x has places more; where x has none.
abbrev pub row_grown : (TxnId → List ℕ) → TxnId → List ℕ → TxnId → List ℕ
row_grown rows x places y = if same_txn y x then rows y ++ places else rows y

abbrev pub row_ended : (TxnId → List ℕ) → TxnId → TxnId → List ℕ
row_ended rows x y = if same_txn x y then [] else rows y

-- Every row has the same places, by key, by transaction; but for this key, the rows are the same.
abbrev pub SameRows : (ℕ × ℕ → Option (List ℕ)) → (ℕ × ℕ → Option (List ℕ)) → Type 0
SameRows f n = (k : ℕ × ℕ) → row_in n k ≡ row_in f k

abbrev pub SameOf : (ℕ × ℕ → Option (List ℕ)) → (ℕ × ℕ → Option (List ℕ)) → Type 0
SameOf f n = (x : TxnId) → row_of n x ≡ row_of f x

abbrev pub SameOthers : ℕ × ℕ → (ℕ × ℕ → Option (List ℕ)) → (ℕ × ℕ → Option (List ℕ)) → Type 0
SameOthers key f n = (k : ℕ × ℕ) → same_key key k ≡ false → n k ≡ f k

-- The row of a key has places more; the row of x alone has; the row of x alone is empty.
abbrev pub Longer : ℕ × ℕ → List ℕ → (ℕ × ℕ → Option (List ℕ)) → (ℕ × ℕ → Option (List ℕ)) → Type 0
Longer key places f n = row_in n key ≡ row_in f key ++ places

abbrev pub AddsTo : TxnId → List ℕ → (ℕ × ℕ → Option (List ℕ)) → (ℕ × ℕ → Option (List ℕ)) → Type 0
AddsTo x places f n = (y : TxnId) → row_of n y ≡ row_grown (row_of f) x places y

abbrev pub IsEnded : TxnId → (ℕ × ℕ → Option (List ℕ)) → (ℕ × ℕ → Option (List ℕ)) → Type 0
IsEnded x f n = (y : TxnId) → row_of n y ≡ row_ended (row_of f) x y
