-- Steps in one row.
use Rattle.std.proofs.Common.{◌≡◌, ◌≢◌, ℕ, ◌≤◌, ◌<◌, arith, lt-ltb, Bool, true, false, ◌||◌, not, if◌then◌else◌, List, [], ◌∷◌, ◌++◌, length, refl, sym, ap, ◌∙◌, subst, append_assoc}
use native.Mathlib.Decide.{ℕ_discrete}
use Rattle.std.specs.Prelude.{nat_lt}
use Rattle.std.proofs.lemmas.List.{append-nil, get_or-set_same, get_or-set_other, length-set}
use Rattle.txn_base.specs.declared.core_entry.CoreEntry.{CoreEntry}
use Rattle.txn_model.specs.Table.{TableState}
use Rattle.txn_model.proofs.Laws.Tests.{and_l, and_r, and_both}
use Rattle.txn_core.specs.declared.step.CoreRow.{CoreRow}
use Rattle.txn_core.specs.declared.step.CoreStep.{CoreStep}
use Rattle.txn_core.specs.declared.step.CoreStep.TheVariants as act
use Rattle.txn_core.specs.Steps.{CoreState, no_row, row_of, flight_of, with_row, is_flying, may_start, can, start_row, settle_row, stop_row, core_after, run}
use Rattle.txn_core.specs.Worlds.{skeletons_of, flights_of}
use Rattle.txn_core.specs.Tables.{row_by, row_in, Mirrors, all_can, Reaches, AreSteps}

-- steps that are allowed make this row of that of p, and leave the others
pub record Moves (n : ℕ) (s : CoreState) (p : ℕ) (r : CoreRow) : Type 0 where
  pub steps : List CoreStep
  pub allowed : all_can n s steps ≡ true
  pub rows : length (run n steps s).rows ≡ length s.rows
  pub here : row_of (run n steps s) p ≡ r
  pub others : (q : ℕ) → q ≢ p → row_of (run n steps s) q ≡ row_of s q

pub run_one : (n : ℕ) (s : CoreState) (step : CoreStep) (steps : List CoreStep) → can n s step ≡ true → run n (step ∷ steps) s ≡ run n steps (core_after s step)
run_one n s step steps h = ap (λ b. run n steps (if b then core_after s step else s)) h

-- a row that is so already
pub moves_none : (n : ℕ) (s : CoreState) (p : ℕ) (r : CoreRow) → row_of s p ≡ r → Moves n s p r
moves_none n s p r e = record { steps = []; allowed = refl; rows = refl; here = e; others = λ q m. refl }

module _ (n : ℕ) (s : CoreState) (step : CoreStep) (p : ℕ) (mid r : CoreRow) (c : can n s step ≡ true) (e : core_after s step ≡ with_row s p mid) (m : Moves n (with_row s p mid) p r) where
  ends : run n (step ∷ m.steps) s ≡ run n m.steps (with_row s p mid)
  ends = run_one n s step m.steps c ∙ ap (run n m.steps) e

  moves_then : Moves n s p r
  moves_then =
      record {
        steps = step ∷ m.steps;
        allowed = and_both (can n s step) (all_can n (core_after s step) m.steps) c (subst (λ u. all_can n u m.steps ≡ true) (sym e) m.allowed);
        rows = ap (λ (u : CoreState). length u.rows) ends ∙ m.rows ∙ length-set s.rows p mid;
        here = ap (λ u. row_of u p) ends ∙ m.here;
        others = λ q d. ap (λ u. row_of u q) ends ∙ m.others q d ∙ get_or-set_other s.rows p q mid no_row d;
      }

within_set : (s : CoreState) (p : ℕ) (r : CoreRow) → p < length s.rows → p < length (with_row s p r).rows
within_set s p r lt = subst (λ k. p < k) (sym (length-set s.rows p r)) lt

flying : (s : CoreState) (p : ℕ) (es fs : List CoreEntry) (f : CoreEntry) (b : Bool) → p < length s.rows → row_of s p ≡ row_by es (f ∷ fs) b → is_flying s p ≡ true
flying s p es fs f b lt e = and_both (nat_lt p (length s.rows)) (nat_lt 0 (length (flight_of s p))) (lt-ltb p (length s.rows) lt) (ap (λ (r : CoreRow). nat_lt 0 (length r.flight)) e ∙ lt-ltb 0 (length (f ∷ fs)) (omega arith))

none_left : (fs : List CoreEntry) → fs ≡ [] → nat_lt 0 (length fs) ≡ false
none_left fs e = ap (λ l. nat_lt 0 (length l)) e

-- all that is in flight settles, entry by entry
settle_all : (n : ℕ) (s : CoreState) (p : ℕ) (es fs : List CoreEntry) (b : Bool) → p < length s.rows → row_of s p ≡ row_by es fs b → (fs ≡ [] → b ≡ false)
    → Moves n s p (row_by (es ++ fs) [] false)
settle_all n s p es [] b lt e q =
    moves_none n s p (row_by (es ++ []) [] false)
    (e ∙ ap (λ k. row_by es [] k) (q refl) ∙ ap (λ l. row_by l [] false) (sym (append-nil es)))
settle_all n s p es (f ∷ fs) b lt e q =
    let mid : CoreRow = settle_row (row_of s p) in
    let now : mid ≡ row_by (es ++ f ∷ []) fs (nat_lt 0 (length fs)) = ap settle_row e in
    let rest : Moves n (with_row s p mid) p (row_by ((es ++ f ∷ []) ++ fs) [] false) =
    settle_all n (with_row s p mid) p (es ++ f ∷ []) fs (nat_lt 0 (length fs)) (within_set s p mid lt) (get_or-set_same s.rows p mid no_row lt ∙ now) (none_left fs) in
    subst (λ l. Moves n s p (row_by l [] false)) (append_assoc es (f ∷ []) fs)
    (moves_then n s (act.Settle p) p mid (row_by ((es ++ f ∷ []) ++ fs) [] false) (flying s p es fs f b lt e) refl rest)

module _ (n : ℕ) (s : CoreState) (p : ℕ) (es fs : List CoreEntry) (lt : p < length s.rows) where
  started_row : (e : row_of s p ≡ row_by es [] false) → row_of (with_row s p (start_row fs (row_of s p))) p ≡ row_by es fs false
  started_row e = get_or-set_same s.rows p (start_row fs (row_of s p)) no_row lt ∙ ap (start_row fs) e

  -- a batch is written: it starts and settles
  pub write_moves : row_of s p ≡ row_by es [] false → may_start n s p fs ≡ true → Moves n s p (row_by (es ++ fs) [] false)
  write_moves e c =
      let mid : CoreRow = start_row fs (row_of s p) in
      moves_then n s (act.Start p fs) p mid (row_by (es ++ fs) [] false) c refl
      (settle_all n (with_row s p mid) p es fs false (within_set s p mid lt) (started_row e) (λ z. refl))

  -- a batch starts
  pub start_moves : row_of s p ≡ row_by es [] false → may_start n s p fs ≡ true → Moves n s p (row_by es fs false)
  start_moves e c =
      let mid : CoreRow = start_row fs (row_of s p) in
      moves_then n s (act.Start p fs) p mid (row_by es fs false) c refl
      (moves_none n (with_row s p mid) p (row_by es fs false) (started_row e))

or_true : (b : Bool) → (b || true) ≡ true
or_true true = refl
or_true false = refl

-- what is in flight is kept or lost, where there is anything
pub stop_moves : (n : ℕ) (s : CoreState) (p : ℕ) (es fs : List CoreEntry) (stays : Bool) → p < length s.rows → row_of s p ≡ row_by es fs false
    → Moves n s p (row_by (if stays then es ++ fs else es) [] false)
stop_moves n s p es [] stays lt e =
    moves_none n s p (row_by (if stays then es ++ [] else es) [] false) (e ∙ ap (λ l. row_by l [] false) (sym (none stays)))
  where
    none : (b : Bool) → (if b then es ++ [] else es) ≡ es
    none true = append-nil es
    none false = refl
stop_moves n s p es (f ∷ fs) stays lt e =
    let mid : CoreRow = stop_row stays (row_of s p) in
    let now : mid ≡ row_by (if stays then es ++ f ∷ fs else es) [] false = ap (stop_row stays) e in
    let unsure : (stays || not (row_of s p).sure) ≡ true = ap (λ (r : CoreRow). stays || not r.sure) e ∙ or_true stays in
    moves_then n s (act.Stop p stays) p mid (row_by (if stays then es ++ f ∷ fs else es) [] false)
    (and_both (is_flying s p) (stays || not (row_of s p).sure) (flying s p es fs f false lt e) unsure) refl
    (moves_none n (with_row s p mid) p (row_by (if stays then es ++ f ∷ fs else es) [] false) (get_or-set_same s.rows p mid no_row lt ∙ now))

-- ---- States.

pub within_rows : (n : ℕ) (t : TableState) (s : CoreState) (p : ℕ) → Mirrors n t s → p ≤ n → p < length s.rows
within_rows n t s p k le = subst (λ m. p < m) (sym k.rows) (omega (arith, le))

-- where one row moves and the state changes there alone, the state is reached
pub moved_reaches : (n : ℕ) (t t' : TableState) (s : CoreState) (p : ℕ) (r : CoreRow) → Mirrors n t s → Moves n s p r → r ≡ row_in t' p → ((q : ℕ) → q ≢ p → q ≤ n → row_in t q ≡ row_in t' q) → Reaches n s t'
moved_reaches n t t' s p r k m e rest = record { steps = m.steps; allowed = m.allowed; mirrors = record { rows = m.rows ∙ k.rows; row = each } }
  where
    each : (q : ℕ) → q ≤ n → row_of (run n m.steps s) q ≡ row_in t' q
    each q le =
        elim (ℕ_discrete q p) [
          | yes z ↦ subst (λ j. row_of (run n m.steps s) j ≡ row_in t' j) (sym z) (m.here ∙ e)
          | no d ↦ m.others q d ∙ k.row q le ∙ rest q d le
        ]

-- where no row changes, there is nothing to do
pub same_reaches : (n : ℕ) (t t' : TableState) → ((q : ℕ) → q ≤ n → row_in t q ≡ row_in t' q) → AreSteps n t t'
same_reaches n t t' same s k = record { steps = []; allowed = refl; mirrors = record { rows = k.rows; row = λ q le. k.row q le ∙ same q le } }

-- what isn't in the lists or in flight is no matter
pub same_steps : (n : ℕ) (t t' : TableState) → t'.world ≡ t.world → t'.flights ≡ t.flights → AreSteps n t t'
same_steps n t t' e f =
    same_reaches n t t' (λ q le.
    ap (λ w. row_by (skeletons_of w q) (flights_of w t.flights q) false) (sym e)
    ∙ ap (λ g. row_by (skeletons_of t'.world q) (flights_of t'.world g q) false) (sym f))

-- steps one after another
runs_on : (n : ℕ) (s : CoreState) (xs ys : List CoreStep) → all_can n s xs ≡ true → all_can n (run n xs s) ys ≡ true → (all_can n s (xs ++ ys) ≡ true) × (run n (xs ++ ys) s ≡ run n ys (run n xs s))
runs_on n s [] ys a b = (b, refl)
runs_on n s (x ∷ xs) ys a b =
    let now : can n s x ≡ true = and_l (can n s x) (all_can n (core_after s x) xs) a in
    let one : run n (x ∷ xs) s ≡ run n xs (core_after s x) = run_one n s x xs now in
    let rest = runs_on n (core_after s x) xs ys (and_r (can n s x) (all_can n (core_after s x) xs) a) (subst (λ u. all_can n u ys ≡ true) one b) in
    (and_both (can n s x) (all_can n (core_after s x) (xs ++ ys)) now rest.0, run_one n s x (xs ++ ys) now ∙ rest.1 ∙ ap (run n ys) (sym one))

pub both_reach : (n : ℕ) (a b c : TableState) → AreSteps n a b → AreSteps n b c → AreSteps n a c
both_reach n a b c f g s k =
    let first : Reaches n s b = f s k in
    let second : Reaches n (run n first.steps s) c = g (run n first.steps s) first.mirrors in
    let on = runs_on n s first.steps second.steps first.allowed second.allowed in
    record { steps = first.steps ++ second.steps; allowed = on.0; mirrors = subst (Mirrors n c) (sym on.1) second.mirrors }
