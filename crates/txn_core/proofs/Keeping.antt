-- Each step that is allowed keeps all that is kept.
use Rattle.std.proofs.Common.{◌≡◌, inl, inr, ℕ, zero, suc, ◌+◌, ◌<◌, ◌≤◌, arith, Bool, true, false, ◌&&◌, ◌||◌, ◌==◌, not, if◌then◌else◌, List, [], ◌∷◌, ◌++◌, length, replicate, take, drop, Some, refl, sym, ap, ◌∙◌, subst}
use Rattle.std.specs.Prelude.{map, nat_lt, nat_le, Contains, slice_index_or}
use Rattle.std.specs.List.{list_all}
use Rattle.std.proofs.lemmas.List.{append-nil, get_or-set_same, get_or-set_other, take-append-drop}
use Rattle.std.proofs.lemmas.List.Elements.{Contains-push_cases}
use Rattle.std.proofs.lemmas.Bool.{eqb-true, ltb-true, leb-true, eq-eqb}
use mathlib.Core.List.{IsPrefix}
use native.Mathlib.Decide.{ℕ_discrete}
use Rattle.txn_base.specs.declared.core_entry.CoreEntry.{CoreEntry}
use Rattle.txn_model.specs.Coord.{decision_of, closing_of, in_parts}
use Rattle.txn_model.specs.Topic.{marker_of}
use Rattle.txn_model.specs.World.{has_inside}
use Rattle.txn_model.specs.VisiblePlaces.{visible_places}
use Rattle.txn_model.proofs.Laws.Tests.{no_true, and_l, and_r}
use Rattle.txn_core.specs.declared.step.CoreRow.{CoreRow}
use Rattle.txn_core.specs.declared.step.CoreStep.{CoreStep}
use Rattle.txn_core.specs.declared.step.CoreStep.TheVariants as act
use Rattle.txn_core.specs.declared.step.Told.{Told}
use Rattle.txn_core.specs.Together.{is_alone, IsAlone, AreLawful}
use Rattle.txn_core.specs.Steps.{CoreState, no_row, started, row_of, settled_of, flight_of, with_row, is_batch, is_flying, may_cross, may_start, from_place, told_places, can, start_row, settle_row, stop_row, core_after, run, kept_of}
use Rattle.txn_core.specs.Kept.{StandTogether, StaysTold, CoreInvariant, resting_row, resting_core}
use Rattle.txn_core.proofs.Alone.{none_some, alone_front, alone_log}
use Rattle.txn_core.proofs.Stops.{stop_lawful}
use Rattle.txn_core.proofs.Changes.{At, settles, starts}
use Rattle.txn_core.proofs.Asked.{insides, markers, closings, marked_at, parts_within}
use Rattle.txn_core.proofs.Telling.{prefix_same, prefix_trans, take_prefix, told_stays}

-- ---- One row changes.

pub at_row : (s : CoreState) (p : ℕ) (r : CoreRow) → p < length s.rows → At p (settled_of s) (flight_of s) (settled_of (with_row s p r)) (flight_of (with_row s p r)) r.settled r.flight
at_row s p r h =
    record {
      settled_here = ap (λ (x : CoreRow). x.settled) (get_or-set_same s.rows p r no_row h);
      flight_here = ap (λ (x : CoreRow). x.flight) (get_or-set_same s.rows p r no_row h);
      settled_else = λ q m. ap (λ (x : CoreRow). x.settled) (get_or-set_other s.rows p q r no_row m);
      flight_else = λ q m. ap (λ (x : CoreRow). x.flight) (get_or-set_other s.rows p q r no_row m);
    }

nil_of : {A : Type 0} (xs : List A) → length xs ≡ 0 → xs ≡ []
nil_of [] h = refl
nil_of (x ∷ xs) h = absurd (omega (arith, h))

-- the settled list of each part begins with what it was
longer_at : (s : CoreState) (p : ℕ) (r : CoreRow) → p < length s.rows → IsPrefix (settled_of s p) r.settled → (q : ℕ) → IsPrefix (settled_of s q) (settled_of (with_row s p r) q)
longer_at s p r lt h q = go (ℕ_discrete q p)
  where
    at : At p (settled_of s) (flight_of s) (settled_of (with_row s p r)) (flight_of (with_row s p r)) r.settled r.flight
    at = at_row s p r lt

    go : Dec (q ≡ p) → IsPrefix (settled_of s q) (settled_of (with_row s p r) q)
    go (yes e) = subst (λ k. IsPrefix (settled_of s k) (settled_of (with_row s p r) k)) (sym e) (subst (λ l. IsPrefix (settled_of s p) l) (sym at.settled_here) h)
    go (no m) = subst (λ l. IsPrefix (settled_of s q) l) (sym (at.settled_else q m)) (prefix_same (settled_of s q))

stop_longer : (stays : Bool) (es fs : List CoreEntry) → IsPrefix es (if stays then es ++ fs else es)
stop_longer true es fs = (fs, refl)
stop_longer false es fs = prefix_same es

-- ---- What a step that is allowed has.

pub record Starts (n : ℕ) (s : CoreState) (p : ℕ) (es : List CoreEntry) : Type 0 where
  pub within : p < length s.rows
  pub resting : flight_of s p ≡ []
  pub one : p ≡ 0 → length es ≤ 1
  pub alone : IsAlone n p (settled_of s p ++ es)
  pub cross : list_all (may_cross (settled_of s) p) es ≡ true

at_most : (p : ℕ) (es : List CoreEntry) → is_batch p es ≡ true → p ≡ 0 → length es ≤ 1
at_most p es h e =
    leb-true (length es) 1 (subst (λ b. nat_le (length es) (if b then 1 else 64) ≡ true) (eq-eqb p 0 e) (and_r (nat_le 1 (length es)) (nat_le (length es) (if p == 0 then 1 else 64)) h))

pub may_start_has : (n : ℕ) (s : CoreState) (p : ℕ) (es : List CoreEntry) → may_start n s p es ≡ true → Starts n s p es
may_start_has n s p es h =
    let a1 = nat_lt p (length s.rows) in
    let a2 = a1 && length (flight_of s p) == 0 in
    let a3 = a2 && is_batch p es in
    let a4 = a3 && is_alone n p (settled_of s p ++ es) in
    let c4 = and_l a4 (list_all (may_cross (settled_of s) p) es) h in
    let c3 = and_l a3 (is_alone n p (settled_of s p ++ es)) c4 in
    let c2 = and_l a2 (is_batch p es) c3 in
    record {
      within = ltb-true p (length s.rows) (and_l a1 (length (flight_of s p) == 0) c2);
      resting = nil_of (flight_of s p) (eqb-true (length (flight_of s p)) 0 (and_r a1 (length (flight_of s p) == 0) c2));
      one = at_most p es (and_r a2 (is_batch p es) c3);
      alone = and_r a3 (is_alone n p (settled_of s p ++ es)) c4;
      cross = and_r a4 (list_all (may_cross (settled_of s) p) es) h;
    }

flying_within : (s : CoreState) (p : ℕ) → is_flying s p ≡ true → p < length s.rows
flying_within s p h = ltb-true p (length s.rows) (and_l (nat_lt p (length s.rows)) (nat_lt 0 (length (flight_of s p))) h)

-- ---- The lists stand.

start_stands : (n : ℕ) (s : CoreState) (p : ℕ) (es : List CoreEntry) → n ≤ 62 → StandTogether n (settled_of s) (flight_of s) → Starts n s p es
    → StandTogether n (settled_of (with_row s p (start_row es (row_of s p)))) (flight_of (with_row s p (start_row es (row_of s p))))
start_stands n s p es few k h =
    let r = start_row es (row_of s p) in
    starts n (settled_of s) (flight_of s) (settled_of (with_row s p r)) (flight_of (with_row s p r)) p es k (at_row s p r h.within) h.alone h.one
    (λ x. insides (settled_of s) p x es h.cross) (λ x d. markers (settled_of s) p x d es h.cross)
    (λ x d q c i.
    let log = alone_front n 0 (settled_of s 0) (flight_of s 0) (k.alone 0) in
    let range : (1 ≤ q) × (q ≤ n) = parts_within n (settled_of s 0) x q (alone_log n (settled_of s 0) log) i in
    marked_at (settled_of s) x d q (closings (settled_of s) p x d es h.cross c) range.0 (omega (arith, few, range.1)) i)

settle_stands : (n : ℕ) (s : CoreState) (p : ℕ) → StandTogether n (settled_of s) (flight_of s) → p < length s.rows
    → StandTogether n (settled_of (with_row s p (settle_row (row_of s p)))) (flight_of (with_row s p (settle_row (row_of s p))))
settle_stands n s p k lt =
    let r = settle_row (row_of s p) in
    settles n (settled_of s) (flight_of s) (settled_of (with_row s p r)) (flight_of (with_row s p r)) p (take 1 (flight_of s p)) (drop 1 (flight_of s p)) [] k
    (sym (ap (λ l. take 1 (flight_of s p) ++ l) (append-nil (drop 1 (flight_of s p))) ∙ take-append-drop 1 (flight_of s p))) (at_row s p r lt)

stop_stands : (n : ℕ) (s : CoreState) (p : ℕ) (stays : Bool) → StandTogether n (settled_of s) (flight_of s) → p < length s.rows
    → StandTogether n (settled_of (with_row s p (stop_row stays (row_of s p)))) (flight_of (with_row s p (stop_row stays (row_of s p))))
stop_stands n s p true k lt =
    let r = stop_row true (row_of s p) in
    settles n (settled_of s) (flight_of s) (settled_of (with_row s p r)) (flight_of (with_row s p r)) p (flight_of s p) [] [] k (sym (append-nil (flight_of s p))) (at_row s p r lt)
stop_stands n s p false k lt =
    let r = stop_row false (row_of s p) in
    settles n (settled_of s) (flight_of s) (settled_of (with_row s p r)) (flight_of (with_row s p r)) p [] [] (flight_of s p) k refl
    (subst (λ l. At p (settled_of s) (flight_of s) (settled_of (with_row s p r)) (flight_of (with_row s p r)) l []) (sym (append-nil (settled_of s p))) (at_row s p r lt))

-- ---- One step.

-- no settled list gets shorter
pub step_longer : (n : ℕ) (s : CoreState) (step : CoreStep) → can n s step ≡ true → (q : ℕ) → IsPrefix (settled_of s q) (settled_of (core_after s step) q)
step_longer n s (act.Start p es) c q = longer_at s p (start_row es (row_of s p)) (may_start_has n s p es c).within (prefix_same (settled_of s p)) q
step_longer n s (act.Settle p) c q = longer_at s p (settle_row (row_of s p)) (flying_within s p c) (take 1 (flight_of s p), refl) q
step_longer n s (act.Stop p stays) c q =
    longer_at s p (stop_row stays (row_of s p)) (flying_within s p (and_l (is_flying s p) (stays || not (row_of s p).sure) c)) (stop_longer stays (settled_of s p) (flight_of s p)) q
step_longer n s (act.Tell topic first count) c q = prefix_same (settled_of s q)

step_stands : (n : ℕ) (s : CoreState) (step : CoreStep) → n ≤ 62 → StandTogether n (settled_of s) (flight_of s) → can n s step ≡ true → StandTogether n (settled_of (core_after s step)) (flight_of (core_after s step))
step_stands n s (act.Start p es) few k c = start_stands n s p es few k (may_start_has n s p es c)
step_stands n s (act.Settle p) few k c = settle_stands n s p k (flying_within s p c)
step_stands n s (act.Stop p stays) few k c = stop_stands n s p stays k (flying_within s p (and_l (is_flying s p) (stays || not (row_of s p).sure) c))
step_stands n s (act.Tell topic first count) few k c = k

told_after : (s s' : CoreState) → ((q : ℕ) → IsPrefix (settled_of s q) (settled_of s' q)) → (t : Told) → StaysTold s t → StaysTold s' t
told_after s s' longer t h = told_stays t.places t.first (settled_of s t.topic) (settled_of s' t.topic) (longer t.topic) h

step_told : (n : ℕ) (s : CoreState) (step : CoreStep) → can n s step ≡ true → ((t : Told) → Contains s.told t → StaysTold s t) → (t : Told) → Contains (core_after s step).told t → StaysTold (core_after s step) t
step_told n s (act.Start p es) c old t h = told_after s (core_after s (act.Start p es)) (step_longer n s (act.Start p es) c) t (old t h)
step_told n s (act.Settle p) c old t h = told_after s (core_after s (act.Settle p)) (step_longer n s (act.Settle p) c) t (old t h)
step_told n s (act.Stop p stays) c old t h = told_after s (core_after s (act.Stop p stays)) (step_longer n s (act.Stop p stays) c) t (old t h)
step_told n s (act.Tell topic first count) c old t h =
    elim (Contains-push_cases s.told (record { topic = topic; first = first; places = told_places (settled_of s topic) first count }) t h) [
      | inl before ↦ old t before
      | inr now ↦ subst (StaysTold s) now (take_prefix count (from_place first (visible_places (settled_of s topic))))
    ]

pub step_keeps : (n : ℕ) (s : CoreState) (step : CoreStep) → n ≤ 62 → CoreInvariant n s → can n s step ≡ true → CoreInvariant n (core_after s step)
step_keeps n s step few k c = record { stands = step_stands n s step few k.stands c; told = step_told n s step c k.told }

-- ---- Steps one after another.

either_keeps : (n : ℕ) (s : CoreState) (step : CoreStep) (b : Bool) → can n s step ≡ b → n ≤ 62 → CoreInvariant n s → CoreInvariant n (if b then core_after s step else s)
either_keeps n s step true c few k = step_keeps n s step few k c
either_keeps n s step false c few k = k

pub run_keeps : (n : ℕ) (s : CoreState) (steps : List CoreStep) → n ≤ 62 → CoreInvariant n s → CoreInvariant n (run n steps s)
run_keeps n s [] few k = k
run_keeps n s (step ∷ steps) few k = run_keeps n (if can n s step then core_after s step else s) steps few (either_keeps n s step (can n s step) refl few k)

either_longer : (n : ℕ) (s : CoreState) (step : CoreStep) (b : Bool) → can n s step ≡ b → (q : ℕ) → IsPrefix (settled_of s q) (settled_of (if b then core_after s step else s) q)
either_longer n s step true c q = step_longer n s step c q
either_longer n s step false c q = prefix_same (settled_of s q)

pub run_longer : (n : ℕ) (s : CoreState) (steps : List CoreStep) (q : ℕ) → IsPrefix (settled_of s q) (settled_of (run n steps s) q)
run_longer n s [] q = prefix_same (settled_of s q)
run_longer n s (step ∷ steps) q =
    let t = if can n s step then core_after s step else s in
    prefix_trans (settled_of s q) (settled_of t q) (settled_of (run n steps t) q) (either_longer n s step (can n s step) refl q) (run_longer n t steps q)

-- steps in two pieces
pub run-append : (n : ℕ) (s : CoreState) (xs ys : List CoreStep) → run n (xs ++ ys) s ≡ run n ys (run n xs s)
run-append n s [] ys = refl
run-append n s (x ∷ xs) ys = run-append n (if can n s x then core_after s x else s) xs ys

pub taken_longer : (n : ℕ) (s : CoreState) (steps : List CoreStep) (count q : ℕ) → IsPrefix (settled_of (run n (take count steps) s) q) (settled_of (run n steps s) q)
taken_longer n s steps count q =
    subst (λ u. IsPrefix (settled_of (run n (take count steps) s) q) (settled_of u q)) (sym (run-append n s (take count steps) (drop count steps)) ∙ ap (λ l. run n l s) (take-append-drop count steps))
    (run_longer n (run n (take count steps) s) (drop count steps) q)

-- ---- The start.

resting_at : (lists : List (List CoreEntry)) (p : ℕ) → slice_index_or (map resting_row lists) p no_row ≡ resting_row (slice_index_or lists p [])
resting_at [] p = refl
resting_at (l ∷ ls) zero = refl
resting_at (l ∷ ls) (suc p) = resting_at ls p

pub opened_kept : (n : ℕ) (lists : List (List CoreEntry)) → AreLawful n (settled_of (resting_core lists)) → CoreInvariant n (resting_core lists)
opened_kept n lists l =
    record {
      stands = record {
        alone = λ p. whole p (IsAlone n p) (l.alone p);
        one = subst (λ f. length f ≤ 1) (sym (none 0)) (omega arith);
        registered = λ p x. whole p (λ s. has_inside s x ≡ true → in_parts (E 0) x p ≡ true) (l.registered p x);
        decided = λ p x d. whole p (λ s. marker_of s x ≡ Some d → decision_of (E 0) x ≡ Some d) (l.decided p x d);
        closed = λ x d p. whole 0 (λ s. closing_of s x ≡ Some d → in_parts (E 0) x p ≡ true → marker_of (E p) x ≡ Some d) (l.closed x d p);
      };
      told = λ t h. absurd (nothing t h);
    }
  where
    E : ℕ → List CoreEntry
    E = settled_of (resting_core lists)

    none : (p : ℕ) → flight_of (resting_core lists) p ≡ []
    none p = ap (λ (r : CoreRow). r.flight) (resting_at lists p)

    whole : (p : ℕ) (P : List CoreEntry → Type 0) → P (settled_of (resting_core lists) p) → P (settled_of (resting_core lists) p ++ flight_of (resting_core lists) p)
    whole p P h = subst (λ f. P (settled_of (resting_core lists) p ++ f)) (sym (none p)) (subst P (sym (append-nil (settled_of (resting_core lists) p))) h)

    nothing : (t : Told) → Contains (resting_core lists).told t → ⊥
    nothing t h = let lt : h.0 < 0 = h.1 in omega (arith, lt)

empty_at : (count p : ℕ) → slice_index_or (replicate count no_row) p no_row ≡ no_row
empty_at zero p = refl
empty_at (suc count) zero = refl
empty_at (suc count) (suc p) = empty_at count p

pub started_kept : (n : ℕ) → CoreInvariant n (started n)
started_kept n =
    record {
      stands = record {
        alone = λ p. at p (λ r. IsAlone n p (r.settled ++ r.flight)) refl;
        one = at 0 (λ r. length r.flight ≤ 1) (omega arith);
        registered = λ p x. at p (λ r. has_inside (r.settled ++ r.flight) x ≡ true → in_parts (settled_of (started n) 0) x p ≡ true) (λ h. absurd (no_true h));
        decided = λ p x d. at p (λ r. marker_of (r.settled ++ r.flight) x ≡ Some d → decision_of (settled_of (started n) 0) x ≡ Some d) (λ h. absurd (none_some h));
        closed = λ x d p. at 0 (λ r. closing_of (r.settled ++ r.flight) x ≡ Some d → in_parts r.settled x p ≡ true → marker_of (settled_of (started n) p) x ≡ Some d) (λ h. absurd (none_some h));
      };
      told = λ t h. absurd (nothing t h);
    }
  where
    at : (p : ℕ) (P : CoreRow → Type 0) → P no_row → P (row_of (started n) p)
    at p P h = subst P (sym (empty_at (n + 1) p)) h

    nothing : (t : Told) → Contains (started n).told t → ⊥
    nothing t h = let lt : h.0 < 0 = h.1 in omega (arith, lt)

pub kept_lawful : (n : ℕ) (s : CoreState) (stays : ℕ → Bool) → CoreInvariant n s → AreLawful n (kept_of s stays)
kept_lawful n s stays k = stop_lawful n (settled_of s) (flight_of s) k.stands stays
