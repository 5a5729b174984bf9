-- A part's name stands in a text as it is.
use Rattle.std.proofs.Common.{◌≡◌, ℕ, true, List, [], ◌∷◌, refl, ap, arith}
use Rattle.std.specs.List.{list_all}
use Rattle.std.proofs.lemmas.Grind.{common_steps}
use Rattle.std.proofs.lemmas.Bool.Decides.{nat_tests}
use Rattle.std.proofs.lemmas.Bool.{and_parts}
use Rattle.json.specs.Print.{escape, escape_byte}
use Rattle.txn_wire.specs.Short.{is_part_byte}

byte_plain : (x : ℕ) → is_part_byte x ≡ true → escape_byte x ≡ x ∷ []
unfolding is_part_byte escape_byte
byte_plain x h = grind (arith, nat_tests, common_steps)

pub escape-name : (name : List ℕ) → list_all is_part_byte name ≡ true → escape name ≡ name
escape-name [] h = refl
escape-name (x ∷ xs) h = let parts = and_parts (is_part_byte x) (list_all is_part_byte xs) h in rw (byte_plain x parts.0) (ap (λ s. x ∷ s) (escape-name xs parts.1))
