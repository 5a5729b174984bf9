-- Names of topics.
use Rattle.std.proofs.Common.{◌≡◌, ℕ, ◌≤◌, ◌&&◌, not, nat_le, true, false, List, [], ◌∷◌, length, refl, arith}
use Rattle.std.specs.Prelude.{codes}
use Rattle.std.specs.List.{list_any, list_all}
use Rattle.std.proofs.lemmas.Bool.{and_parts}
use Rattle.std.proofs.lemmas.Bool.Decides.{nat_tests}
use Rattle.txn_base.specs.Names.{is_name_byte, is_slash, is_sub, is_topic_name, begins_with_dash}
use Rattle.txn_wire.specs.Short.{is_part_byte, IsPartName}

slash_apart : (b : ℕ) → is_name_byte b ≡ true → is_slash b ≡ false
slash_apart b e = grind (arith, nat_tests)

no_slash : (bytes : List ℕ) → list_all is_name_byte bytes ≡ true → list_any is_slash bytes ≡ false
no_slash [] e = refl
no_slash (b ∷ bs) e = let parts = and_parts (is_name_byte b) (list_all is_name_byte bs) e in rw (slash_apart b parts.0) (no_slash bs parts.1)

-- it is no subscription's
pub not_sub : (name : List ℕ) → is_topic_name name ≡ true → is_sub name ≡ false
not_sub name form = no_slash name (and_parts (nat_le 1 (length name) && nat_le (length name) 100 && not (begins_with_dash name)) (list_all is_name_byte name) form).1

-- ---- It is short enough to be told.

le_true : (m n : ℕ) → nat_le m n ≡ true → m ≤ n
le_true m n h = grind (arith, nat_tests)

part_byte : (b : ℕ) → is_name_byte b ≡ true → is_part_byte b ≡ true
unfolding is_part_byte
part_byte b h = rw h refl

part_bytes : (bytes : List ℕ) → list_all is_name_byte bytes ≡ true → list_all is_part_byte bytes ≡ true
part_bytes [] h = refl
part_bytes (b ∷ bs) h = let parts = and_parts (is_name_byte b) (list_all is_name_byte bs) h in rw (part_byte b parts.0) (part_bytes bs parts.1)

pub part_name : (name : List ℕ) → is_topic_name name ≡ true → IsPartName name
part_name name form =
    let whole = and_parts (nat_le 1 (length name) && nat_le (length name) 100 && not (begins_with_dash name)) (list_all is_name_byte name) form in
    let front = and_parts (nat_le 1 (length name) && nat_le (length name) 100) (not (begins_with_dash name)) whole.0 in
    let sizes = and_parts (nat_le 1 (length name)) (nat_le (length name) 100) front.0 in
    let small = le_true (length name) 100 sizes.1 in
    record { short = omega (arith, small); plain = part_bytes name whole.1 }

-- that of the coordinator too
pub coordinator_name : IsPartName (codes "@coordinator")
unfolding is_part_byte
coordinator_name = record { short = omega arith; plain = refl }
