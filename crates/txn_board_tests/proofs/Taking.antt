-- What the threads' calls make of their seats' rows.
use Rattle.std.proofs.Common.{◌≡◌, ◌≢◌, ℕ, zero, suc, ◌<◌, ◌≤◌, arith, if◌then◌else◌, [], ◌∷◌, ◌++◌, Some, None, refl, sym, ap, ◌∙◌, append_assoc}
use Rattle.std.specs.Option.{option_or}
use Rattle.std.proofs.lemmas.Bool.{eq-eqb, ne_eqb}
use native.Mathlib.Decide.{ℕ_discrete}
use Rattle.txn_base.specs.declared.txn.Decision.{Decision}
use Rattle.txn_base.specs.declared.txn.Decision.TheVariants.{Commit, Abort}
use Rattle.txn_base.specs.declared.core_entry.CoreEntry.TheVariants as core
use Rattle.txn_model.specs.Coord.{says_decision, decision_of, decision_skeleton}
use Rattle.txn_model.specs.Deadlines.{txn}
use Rattle.txn_model.proofs.Laws.Lists.{first_of-append}
use Rattle.txn_board_tests.specs.Taken.{decision_at, decided_up_to, closing_at, closed_up_to, ended_up_to}

-- ---- Which decision the coordinator's list has.

says_own : (x : ℕ) (d : Decision) → says_decision (txn x) (decision_skeleton (txn x) d) ≡ Some d
says_own x Commit = ap (λ b. if b then Some Commit else None) (eq-eqb x x refl)
says_own x Abort = ap (λ b. if b then Some Abort else None) (eq-eqb x x refl)

says_other : (x y : ℕ) (d : Decision) → x ≢ y → says_decision (txn x) (decision_skeleton (txn y) d) ≡ None
says_other x y Commit n = ap (λ b. if b then Some Commit else None) (ne_eqb x y n)
says_other x y Abort n = ap (λ b. if b then Some Abort else None) (ne_eqb x y n)

-- of a list with one more transaction decided
one_more : (n x : ℕ) → decision_of (decided_up_to (suc n)) (txn x) ≡ option_or (decision_of (decided_up_to n) (txn x)) (option_or (says_decision (txn x) (decision_skeleton (txn n) (decision_at n))) None)
one_more n x = first_of-append (says_decision (txn x)) (decided_up_to n) (core.New (txn n) ∷ core.AddPart (txn n) 1 ∷ decision_skeleton (txn n) (decision_at n) ∷ [])

undecided : (n x : ℕ) → n ≤ x → decision_of (decided_up_to n) (txn x) ≡ None
undecided zero x le = refl
undecided (suc n) x le =
    one_more n x ∙ (ap (λ o. option_or o (option_or (says_decision (txn x) (decision_skeleton (txn n) (decision_at n))) None)) (undecided n x (omega (arith, le))) ∙ ap (λ o. option_or o None) (says_other x n (decision_at n) (λ e. omega (arith, e, le))))

-- of the last transaction that is decided, and of one before it
last_decided : (n x : ℕ) → (x < n → decision_of (decided_up_to n) (txn x) ≡ Some (decision_at x)) → x < suc n → Dec (x ≡ n) → decision_of (decided_up_to (suc n)) (txn x) ≡ Some (decision_at x)
last_decided n x before lt (no m) = one_more n x ∙ ap (λ o. option_or o (option_or (says_decision (txn x) (decision_skeleton (txn n) (decision_at n))) None)) (before (omega (arith, lt, m)))
last_decided n x before lt (yes e) =
    one_more n x
    ∙ (ap (λ o. option_or o (option_or (says_decision (txn x) (decision_skeleton (txn n) (decision_at n))) None)) (undecided n x (omega (arith, e)))
    ∙ (ap (λ k. option_or (says_decision (txn x) (decision_skeleton (txn k) (decision_at k))) None) (sym e) ∙ ap (λ o. option_or o None) (says_own x (decision_at x))))

decided : (n x : ℕ) → x < n → decision_of (decided_up_to n) (txn x) ≡ Some (decision_at x)
decided zero x lt = absurd (omega (arith, lt))
decided (suc n) x lt = last_decided n x (decided n x) lt (ℕ_discrete x n)

pub decided_at : (count n x : ℕ) → x < count → decision_of (closed_up_to count n) (txn x) ≡ Some (decision_at x)
decided_at count zero x lt = decided count x lt
decided_at count (suc n) x lt =
    first_of-append (says_decision (txn x)) (closed_up_to count n) (closing_at n ∷ []) ∙ ap (λ o. option_or o (decision_of (closing_at n ∷ []) (txn x))) (decided_at count n x lt)

-- ---- The lists one entry at a time.

pub three_more : (n : ℕ) → (((decided_up_to n ++ core.New (txn n) ∷ []) ++ core.AddPart (txn n) 1 ∷ []) ++ decision_skeleton (txn n) (decision_at n) ∷ []) ≡ decided_up_to (suc n)
three_more n =
    let es = decided_up_to n in
    append_assoc (es ++ core.New (txn n) ∷ []) (core.AddPart (txn n) 1 ∷ []) (decision_skeleton (txn n) (decision_at n) ∷ [])
    ∙ append_assoc es (core.New (txn n) ∷ []) (core.AddPart (txn n) 1 ∷ decision_skeleton (txn n) (decision_at n) ∷ [])

pub two_more : (n : ℕ) → ((ended_up_to n ++ core.Inside (txn n) ∷ []) ++ core.Marker (txn n) (decision_at n) ∷ []) ≡ ended_up_to (suc n)
two_more n = append_assoc (ended_up_to n) (core.Inside (txn n) ∷ []) (core.Marker (txn n) (decision_at n) ∷ [])
