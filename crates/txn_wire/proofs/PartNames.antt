-- The name of a topic or a subscription is the name of a part, and so is that of the coordinator.
use Rattle.std.proofs.Common.{◌≡◌, ⊎_elim, ℕ, suc, ◌+◌, ◌<◌, ◌≤◌, ◌==◌, ◌&&◌, ◌||◌, Bool, true, false, cond, List, [], ◌∷◌, ◌++◌, length, get_or, refl, ap, subst, ◌∙◌, arith, length-append, lit≤, codes}
use Rattle.std.specs.List.{list_all, before_first, after_first, position_or_len}
use Rattle.std.proofs.lemmas.Bool.{and_parts, and_from, leb-true, cases_lt}
use Rattle.std.proofs.lemmas.List.{take_all}
use Rattle.std.proofs.lemmas.List.Folds.{list_all-append}
use Rattle.std.proofs.lemmas.List.Sums.{split_at_first, passes_at_first}
use Rattle.txn_base.specs.Names.{is_name_byte, is_topic_name, is_slash, is_sub, topic_of, is_name}
use Rattle.txn_wire.specs.Short.{is_part_byte, IsPartName}

or_first : (a b c : Bool) → a ≡ true → (a || b || c) ≡ true
or_first true b c h = refl
or_first false b c h = cc

or_second : (a b c : Bool) → b ≡ true → (a || b || c) ≡ true
or_second true b c h = refl
or_second false true c h = refl
or_second false false c h = cc

name_byte : (b : ℕ) → is_name_byte b ≡ true → is_part_byte b ≡ true
unfolding is_part_byte
name_byte b h = or_first (is_name_byte b) (b == 47) (b == 64) h

slash : (b : ℕ) → is_slash b ≡ true → is_part_byte b ≡ true
unfolding is_part_byte
slash b h = or_second (is_name_byte b) (b == 47) (b == 64) h

name_bytes : (name : List ℕ) → list_all is_name_byte name ≡ true → list_all is_part_byte name ≡ true
name_bytes [] h = refl
name_bytes (b ∷ bs) h = let parts = and_parts (is_name_byte b) (list_all is_name_byte bs) h in and_from _ _ (name_byte b parts.0) (name_bytes bs parts.1)

record IsHalf (name : List ℕ) : Type 0 where
  short : length name ≤ 100
  plain : list_all is_part_byte name ≡ true

half : (name : List ℕ) → is_topic_name name ≡ true → IsHalf name
half name h =
    let all = and_parts _ (list_all is_name_byte name) h in
    let begin = and_parts _ _ all.0 in
    let sizes = and_parts _ _ begin.0 in
    record { short = leb-true _ _ sizes.1; plain = name_bytes name all.1 }

whole_name : (name : List ℕ) → IsHalf name → IsPartName name
whole_name name h = record { short = omega (arith, h.short); plain = h.plain }

two_halves : (name : List ℕ) → IsHalf (before_first is_slash name) → IsHalf (after_first is_slash name) → IsPartName name
two_halves name front back = ⊎_elim cut uncut (cases_lt (position_or_len is_slash name) (length name))
  where
    uncut : length name ≤ position_or_len is_slash name → IsPartName name
    uncut none = whole_name name (subst IsHalf (take_all (position_or_len is_slash name) name none) front)

    cut : position_or_len is_slash name < length name → IsPartName name
    cut found =
        let x : ℕ = get_or name (position_or_len is_slash name) 0 in
        let split : name ≡ before_first is_slash name ++ (x ∷ after_first is_slash name) = split_at_first is_slash name 0 found in
        let sizes : length name ≡ length (before_first is_slash name) + suc (length (after_first is_slash name)) = ap length split ∙ length-append (before_first is_slash name) (x ∷ after_first is_slash name) in
        let back_part : list_all is_part_byte (x ∷ after_first is_slash name) ≡ true = and_from _ _ (slash x (passes_at_first is_slash name 0 found)) back.plain in
        let all : list_all is_part_byte (before_first is_slash name ++ (x ∷ after_first is_slash name)) ≡ true =
        list_all-append is_part_byte (before_first is_slash name) (x ∷ after_first is_slash name) ∙ and_from _ _ front.plain back_part in
        record { short = omega (arith, front.short, back.short); plain = ap (list_all is_part_byte) split ∙ all }

pub IsPartName-from_name : (name : List ℕ) → is_name name ≡ true → IsPartName name
IsPartName-from_name name h = by (is_sub name) h
  where
    by : (b : Bool) → cond b (is_topic_name (topic_of name) && is_topic_name (after_first is_slash name)) (is_topic_name name) ≡ true → IsPartName name
    by true e = let halves = and_parts _ _ e in two_halves name (half _ halves.0) (half _ halves.1)
    by false e = whole_name name (half name e)

pub IsPartName-coordinator : IsPartName (codes "@coordinator")
unfolding is_part_byte
IsPartName-coordinator = record { short = lit≤ tt; plain = refl }
