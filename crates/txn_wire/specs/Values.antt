-- What stands in a value that was read.
use Rattle.std.specs.Prelude.{ℕ, ◌==◌, List, [], ◌∷◌, if◌then◌else◌, Option, Some, None, option_map, unwrap_or, is_some}
use Rattle.serde_json.specs.Data.{Data, null, boolean, number, string, array, object, Items, no_items, item}
use Rattle.serde_json.specs.Find.{get, at, as_number, as_u64, as_str, as_array, as_object}
use Rattle.serde_json.specs.Events.{items_len, members_len}
use Rattle.txn_base.specs.declared.txn.TxnId.{TxnId}

infixl 10 ◌>>=◌
abbrev pub ◌>>=◌ : {A B : Type 0} → Option A → (A → Option B) → Option B
(Some x) >>= f = f x
None >>= f = None

-- The text at a name.
abbrev pub text_at : List ℕ → Data → Option (List ℕ)
text_at name d = get name d >>= as_str

-- The number, where it is written without a sign, a fraction or an exponent and lies below 2 ^ 64.
abbrev pub whole_of : Data → Option ℕ
whole_of d = as_number d >>= as_u64

-- The number at a name.
abbrev pub number_at : List ℕ → Data → Option ℕ
number_at name d = get name d >>= whole_of

-- How many keys an object has, where a key that stands twice counts once.
abbrev pub keys : Data → ℕ
keys d = unwrap_or (option_map members_len (as_object d)) 0

-- How many items a list has.
abbrev pub count : Data → ℕ
count d = unwrap_or (option_map items_len (as_array d)) 0

-- The id of a transaction is a list of two numbers.
abbrev pub id_of : Data → Option TxnId
id_of d = do
  first ← at 0 d
  second ← at 1 d
  most ← whole_of first
  least ← whole_of second
  if count d == 2 then Some (record { most = most; least = least }) else None

-- The id at a name.
abbrev pub id_at : List ℕ → Data → Option TxnId
id_at name d = get name d >>= id_of

-- The id where the key is there, and no id where it isn't.
abbrev pub id_if : Option Data → Option (Option TxnId)
id_if None = Some None
id_if (Some d) = option_map Some (id_of d)

-- Three keys, and one more where there is a transaction.
abbrev pub keys_beside : Option TxnId → ℕ
keys_beside txn = if is_some txn then 4 else 3

-- The texts that these items are.
abbrev pub texts_of : Items → Option (List (List ℕ))
texts_of no_items = Some []
texts_of (item d ds) = as_str d >>= λ text. texts_of ds >>= λ texts. Some (text ∷ texts)

-- The numbers that these items are.
abbrev pub numbers_of : Items → Option (List ℕ)
numbers_of no_items = Some []
numbers_of (item d ds) = whole_of d >>= λ n. numbers_of ds >>= λ ns. Some (n ∷ ns)

-- A list of numbers, in the order in which they are written.
abbrev pub places_of : Data → Option (List ℕ)
places_of d = as_array d >>= numbers_of

-- One text, or a list of at least one.
abbrev pub bodies_of : Data → Option (List (List ℕ))
bodies_of null = None
bodies_of (boolean b) = None
bodies_of (number n) = None
bodies_of (string s) = Some (s ∷ [])
bodies_of (array no_items) = None
bodies_of (array (item d ds)) = texts_of (item d ds)
bodies_of (object ms) = None
