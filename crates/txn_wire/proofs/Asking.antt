-- A line asks for something.
use Rattle.std.proofs.Common.{◌≡◌, ℕ, ◌≤◌, ◌&&◌, ◌==◌, nat_lt, arith, Bool, true, false, if◌then◌else◌, List, ◌∷◌, length, Option, Some, None, IfSome, IfOk, Result, Ok, Err, option_map, refl, subst}
use Rattle.std.proofs.lemmas.Bool.{and_parts}
use Rattle.std.proofs.lemmas.Bool.Decides.{nat_tests}
use Rattle.serde_json.specs.Data.{Data, null, boolean, number, string, array, object, no_items, item}
use Rattle.serde_json.specs.Find.{as_str}
use Rattle.txn_base.specs.declared.request.Request.{Request}
use Rattle.txn_wire.specs.declared.error.WireError.{WireError}
use Rattle.txn_wire.specs.Values.{◌>>=◌, texts_of, bodies_of, keys}
use Rattle.txn_wire.specs.Forms.{new_of, add_of, publish_of, ack_of, ack_upto_of, read_of, receive_of, redeliver_of, bare_of}
use Rattle.txn_wire.specs.Lines.{form_of, request_of_data, request_of, AsksForSome, Gives}

-- ---- by the steps of a form

bound : {A : Type 0} (o : Option A) (f : A → Option Request) → ((a : A) → o ≡ Some a → IfSome (f a) AsksForSome) → IfSome (o >>= f) AsksForSome
bound None f h = tt
bound (Some a) f h = h a refl

picked : (b : Bool) (r : Request) → (b ≡ true → AsksForSome r) → IfSome (if b then Some r else None) AsksForSome
picked true r h = h refl
picked false r h = tt

either : (b : Bool) (one other : Option Request) → IfSome one AsksForSome → IfSome other AsksForSome → IfSome (if b then one else other) AsksForSome
either true one other h k = h
either false one other h k = k

mapped : {A : Type 0} (f : A → Request) (o : Option A) → ((a : A) → AsksForSome (f a)) → IfSome (option_map f o) AsksForSome
mapped f None h = tt
mapped f (Some a) h = h a

-- ---- texts and numbers

none_some : {A : Type 0} {a : A} → None ≡ Some a → ⊥
none_some e = cc

one_more : (text : List ℕ) (o : Option (List (List ℕ))) (bodies : List (List ℕ)) → (o >>= (λ texts. Some (text ∷ texts))) ≡ Some bodies → 1 ≤ length bodies
one_more text None bodies e = absurd (none_some e)
one_more text (Some texts) bodies e = subst (λ (o : Option (List (List ℕ))). IfSome o (λ bs. 1 ≤ length bs)) e (omega arith)

some_texts : (text : Option (List ℕ)) (rest : Option (List (List ℕ))) (bodies : List (List ℕ)) → (text >>= λ t. rest >>= λ ts. Some (t ∷ ts)) ≡ Some bodies → 1 ≤ length bodies
some_texts None rest bodies e = absurd (none_some e)
some_texts (Some text) rest bodies e = one_more text rest bodies e

some_bodies : (d : Data) (bodies : List (List ℕ)) → bodies_of d ≡ Some bodies → 1 ≤ length bodies
some_bodies null bodies e = absurd (none_some e)
some_bodies (boolean b) bodies e = absurd (none_some e)
some_bodies (number n) bodies e = absurd (none_some e)
some_bodies (string s) bodies e = subst (λ (o : Option (List (List ℕ))). IfSome o (λ bs. 1 ≤ length bs)) e (omega arith)
some_bodies (array no_items) bodies e = absurd (none_some e)
some_bodies (array (item d ds)) bodies e = some_texts (as_str d) (texts_of ds) bodies e
some_bodies (object ms) bodies e = absurd (none_some e)

positive : (m : ℕ) → nat_lt 0 m ≡ true → 1 ≤ m
positive m h = grind (arith, nat_tests)

positive_beside : (b : Bool) (m : ℕ) → (b && nat_lt 0 m) ≡ true → 1 ≤ m
positive_beside b m h = positive m (and_parts b (nat_lt 0 m) h).1

-- ---- the forms

new_some : (d : Data) → IfSome (new_of d) AsksForSome
unfolding new_of
new_some d = search (bound, picked)

add_some : (d : Data) → IfSome (add_of d) AsksForSome
unfolding add_of
add_some d = search (bound, picked)

publish_some : (d : Data) → IfSome (publish_of d) AsksForSome
unfolding publish_of
publish_some d = search (bound, picked, some_bodies) depth 9

ack_some : (d : Data) → IfSome (ack_of d) AsksForSome
unfolding ack_of
ack_some d = search (bound, picked) depth 9

ack_upto_some : (d : Data) → IfSome (ack_upto_of d) AsksForSome
unfolding ack_upto_of
ack_upto_some d = search (bound, picked)

read_some : (d : Data) → IfSome (read_of d) AsksForSome
unfolding read_of
read_some d = search (bound, picked, positive_beside)

receive_some : (d : Data) → IfSome (receive_of d) AsksForSome
unfolding receive_of
receive_some d = search (bound, picked, positive_beside)

redeliver_some : (d : Data) → IfSome (redeliver_of d) AsksForSome
unfolding redeliver_of
redeliver_some d = search (bound, picked)

bare_some : (r : Request) (d : Data) → AsksForSome r → IfSome (bare_of r d) AsksForSome
unfolding bare_of
bare_some r d h = picked (keys d == 1) r (λ k. h)

form_some : (name : List ℕ) (d : Data) → IfSome (form_of name d) AsksForSome
unfolding form_of
form_some name d = search (either, mapped, new_some, add_some, publish_some, ack_some, ack_upto_some, read_some, receive_some, redeliver_some, bare_some) depth 20 fits 5000

data_some : (d : Data) → IfSome (request_of_data d) AsksForSome
unfolding request_of_data
data_some d = search (bound, form_some)

line_some : (line : List ℕ) → IfSome (request_of line) AsksForSome
unfolding request_of
line_some line = search (either, bound, data_some)

-- what was read of a line asks for something
pub asks_for_some : (line : List ℕ) (result : Result Request WireError) → Gives (λ r. r) result (request_of line) → IfOk result AsksForSome
asks_for_some line (Ok r) e = subst (λ (o : Option Request). IfSome o AsksForSome) e (line_some line)
asks_for_some line (Err x) e = tt
