-- The seats of two lists are two.
use Rattle.std.proofs.Common.{◌≡◌, ◌<◌, inl, inr, ℕ, zero, suc, arith, List, [], ◌∷◌, ◌++◌, length, refl, sym, ap, ◌∙◌, subst}
use Rattle.txn_base.specs.declared.core_entry.CoreEntry.{CoreEntry}
use Rattle.txn_core.specs.Kept.{resting_row}
use Rattle.txn_board.specs.declared.view.View.{View}
use Rattle.txn_board.specs.Rows.{rows_from, rest_rows, HasSeatRow, IsOfPart, opening_view, dealt_view, rest_view, joined_view}

pub two_rows : (lists : List (List CoreEntry)) → length lists ≡ 2 → (0 < length (rest_rows (rows_from 0 lists))) × (rest_rows (rest_rows (rows_from 0 lists)) ≡ [])
two_rows [] e = absurd (omega (arith, e))
two_rows (a ∷ []) e = absurd (omega (arith, e))
two_rows (a ∷ b ∷ []) e = (omega arith, refl)
two_rows (a ∷ b ∷ c ∷ ls) e = absurd (omega (arith, e))

pub some_rows : (lists : List (List CoreEntry)) → length lists ≡ 2 → 0 < length (rows_from 0 lists)
some_rows [] e = absurd (omega (arith, e))
some_rows (a ∷ ls) e = omega arith

pub any_rows : (lists : List (List CoreEntry)) → 0 < length lists → 0 < length (rows_from 0 lists)
any_rows [] lt = absurd (omega (arith, lt))
any_rows (a ∷ ls) lt = omega arith

-- the seats of two lists are those of part 0 and of part 1
pub first_part : (lists : List (List CoreEntry)) → length lists ≡ 2 → IsOfPart 0 (dealt_view (opening_view lists))
first_part [] e = absurd (omega (arith, e))
first_part (a ∷ ls) e = (resting_row a, record { one = refl })

pub second_part : (lists : List (List CoreEntry)) → length lists ≡ 2 → IsOfPart 1 (dealt_view (rest_view (opening_view lists)))
second_part [] e = absurd (omega (arith, e))
second_part (a ∷ []) e = absurd (omega (arith, e))
second_part (a ∷ b ∷ ls) e = (resting_row b, record { one = refl })

-- the two joined have every part's row
pub both_parts : (v w : View) (p : ℕ) → IsOfPart 0 v → IsOfPart 1 w → p < 2 → HasSeatRow p (joined_view v w).rows
both_parts v w p h k lt = subst (HasSeatRow p) (sym (ap (λ l. l ++ w.rows) h.1.one ∙ ap (λ l. record { part = 0; row = h.0 } ∷ l) k.1.one)) (go p lt)
  where
    go : (p : ℕ) → p < 2 → HasSeatRow p (record { part = 0; row = h.0 } ∷ record { part = 1; row = k.0 } ∷ [])
    go zero lt = inl refl
    go (suc zero) lt = inr (inl refl)
    go (suc (suc p)) lt = absurd (omega (arith, lt))
