-- Lists and flights that change at one part.
use Rattle.std.proofs.Common.{◌≡◌, ◌≢◌, inl, inr, ℕ, ◌≤◌, true, List, ◌++◌, length, length-append, Some, refl, sym, ap, ◌∙◌, subst, append_assoc, arith}
use native.Mathlib.Decide.{ℕ_discrete}
use Rattle.txn_base.specs.declared.txn.TxnId.{TxnId}
use Rattle.txn_base.specs.declared.txn.Decision.{Decision}
use Rattle.txn_base.specs.declared.core_entry.CoreEntry.{CoreEntry}
use Rattle.txn_model.specs.Coord.{says_closing, decision_of, closing_of, in_parts}
use Rattle.txn_model.specs.Topic.{marks, marker_of}
use Rattle.txn_model.specs.World.{has_inside}
use Rattle.txn_model.proofs.Laws.Lists.{first_stays}
use Rattle.txn_model.proofs.Laws.Logs.{parts_stay, decision_stays}
use Rattle.txn_model.proofs.Laws.Topics.{marker_stays}
use Rattle.txn_core.specs.Together.{IsAlone}
use Rattle.txn_core.specs.Kept.{StandTogether}
use Rattle.txn_core.proofs.Alone.{alone_front, alone_log, inside_stays, inside_cases, first_cases, parts_settled}

-- after a step, part p has this list and this flight, and the others have what they had
pub record At (p : ℕ) (lists flights lists' flights' : ℕ → List CoreEntry) (settled flight : List CoreEntry) : Type 0 where
  pub settled_here : lists' p ≡ settled
  pub flight_here : flights' p ≡ flight
  pub settled_else : (q : ℕ) → q ≢ p → lists' q ≡ lists q
  pub flight_else : (q : ℕ) → q ≢ p → flights' q ≡ flights q

-- a fact of each part after the step, from the fact at this part and at the others
at_each : (p : ℕ) (lists flights lists' flights' : ℕ → List CoreEntry) (a b : List CoreEntry) → At p lists flights lists' flights' a b → (P : ℕ → List CoreEntry → List CoreEntry → Type 0)
    → P p a b → (q : ℕ) → (q ≢ p → P q (lists q) (flights q)) → P q (lists' q) (flights' q)
at_each p lists flights lists' flights' a b at P here q others = go (ℕ_discrete q p)
  where
    go : Dec (q ≡ p) → P q (lists' q) (flights' q)
    go (yes e) = subst (λ k. P k (lists' k) (flights' k)) (sym e) (subst (λ l. P p l (flights' p)) (sym at.settled_here) (subst (λ f. P p a f) (sym at.flight_here) here))
    go (no m) = subst (λ l. P q l (flights' q)) (sym (at.settled_else q m)) (subst (λ f. P q (lists q) f) (sym (at.flight_else q m)) (others m))

-- of the flight of p, the first entries settle, the next stay in flight, and the rest goes
module _ (n : ℕ) (lists flights lists' flights' : ℕ → List CoreEntry) (p : ℕ) (first next rest : List CoreEntry)
    (k : StandTogether n lists flights) (cut : flights p ≡ first ++ (next ++ rest)) (at : At p lists flights lists' flights' (lists p ++ first) next) where
  whole : lists p ++ flights p ≡ ((lists p ++ first) ++ next) ++ rest
  whole = ap (λ l. lists p ++ l) cut ∙ sym (append_assoc (lists p) first (next ++ rest)) ∙ sym (append_assoc (lists p ++ first) next rest)

  -- what held of a settled list, and stays, holds of the one after the step
  grows : (P : List CoreEntry → Type 0) → ((xs ys : List CoreEntry) → P xs → P (xs ++ ys)) → (q : ℕ) → P (lists q) → P (lists' q)
  grows P more q h = at_each p lists flights lists' flights' (lists p ++ first) next at (λ j a b. P (lists j) → P a) (more (lists p) first) q (λ m i. i) h

  -- what holds of the list with the flight after the step, and stays, held before it
  within : (P : List CoreEntry → Type 0) → ((xs ys : List CoreEntry) → P xs → P (xs ++ ys)) → (q : ℕ) → P (lists' q ++ flights' q) → P (lists q ++ flights q)
  within P more q h =
      at_each p lists flights lists' flights' (lists p ++ first) next at (λ j a b. P (a ++ b) → P (lists j ++ flights j)) (λ i. subst P (sym whole) (more ((lists p ++ first) ++ next) rest i)) q (λ m i. i) h

  few : (f g h : List CoreEntry) → length (f ++ (g ++ h)) ≤ 1 → length g ≤ 1
  few f g h l = omega (arith, l, length-append f (g ++ h), length-append g h)

  pub settles : StandTogether n lists' flights'
  settles =
      record {
        alone = λ q. at_each p lists flights lists' flights' (lists p ++ first) next at (λ j a b. IsAlone n j (a ++ b))
            (alone_front n p ((lists p ++ first) ++ next) rest (subst (IsAlone n p) whole (k.alone p))) q (λ m. k.alone q);
        one = at_each p lists flights lists' flights' (lists p ++ first) next at (λ j a b. j ≡ 0 → length b ≤ 1)
            (λ e. few first next rest (subst (λ l. length l ≤ 1) cut (subst (λ j. length (flights j) ≤ 1) (sym e) k.one))) 0 (λ m e. k.one) refl;
        registered = λ q x h. grows (λ c. in_parts c x q ≡ true) (λ xs ys. parts_stay xs ys x q) 0 (k.registered q x (within (λ l. has_inside l x ≡ true) (λ xs ys. inside_stays xs ys x) q h));
        decided = λ q x d h. grows (λ c. decision_of c x ≡ Some d) (λ xs ys. decision_stays xs ys x d) 0 (k.decided q x d (within (λ l. marker_of l x ≡ Some d) (λ xs ys. marker_stays xs ys x d) q h));
        closed = λ x d q h i.
            let cl : closing_of (lists 0 ++ flights 0) x ≡ Some d = within (λ l. closing_of l x ≡ Some d) (λ xs ys. first_stays (says_closing x) xs ys d) 0 h in
            let among : in_parts (lists 0 ++ flights 0) x q ≡ true = within (λ l. in_parts l x q ≡ true) (λ xs ys. parts_stay xs ys x q) 0 (parts_stay (lists' 0) (flights' 0) x q i) in
            let part = parts_settled n x q (lists 0) (flights 0) d (alone_log n (lists 0 ++ flights 0) (k.alone 0)) k.one cl among in
            grows (λ l. marker_of l x ≡ Some d) (λ xs ys. marker_stays xs ys x d) q (k.closed x d q cl part);
      }

-- part p starts entries
module _ (n : ℕ) (lists flights lists' flights' : ℕ → List CoreEntry) (p : ℕ) (es : List CoreEntry)
    (k : StandTogether n lists flights) (at : At p lists flights lists' flights' (lists p) es)
    (alone : IsAlone n p (lists p ++ es))
    (one : p ≡ 0 → length es ≤ 1)
    (inside : (x : TxnId) → has_inside es x ≡ true → in_parts (lists 0) x p ≡ true)
    (marked : (x : TxnId) (d : Decision) → marker_of es x ≡ Some d → decision_of (lists 0) x ≡ Some d)
    (closing : (x : TxnId) (d : Decision) (q : ℕ) → closing_of es x ≡ Some d → in_parts (lists 0) x q ≡ true → marker_of (lists q) x ≡ Some d) where
  same : (q : ℕ) → lists' q ≡ lists q
  same q = at_each p lists flights lists' flights' (lists p) es at (λ j a b. a ≡ lists j) refl q (λ m. refl)

  pub starts : StandTogether n lists' flights'
  starts =
      record {
        alone = λ q. at_each p lists flights lists' flights' (lists p) es at (λ j a b. IsAlone n j (a ++ b))
            alone q (λ m. k.alone q);
        one = at_each p lists flights lists' flights' (lists p) es at (λ j a b. j ≡ 0 → length b ≤ 1) one 0 (λ m e. k.one) refl;
        registered = λ q x. subst (λ c. has_inside (lists' q ++ flights' q) x ≡ true → in_parts c x q ≡ true) (sym (same 0))
            (at_each p lists flights lists' flights' (lists p) es at (λ j a b. has_inside (a ++ b) x ≡ true → in_parts (lists 0) x j ≡ true)
            (λ h. elim (inside_cases (lists p) es x h) [ inl i ↦ k.registered p x (inside_stays (lists p) (flights p) x i) | inr i ↦ inside x i ]) q (λ m. k.registered q x));
        decided = λ q x d. subst (λ c. marker_of (lists' q ++ flights' q) x ≡ Some d → decision_of c x ≡ Some d) (sym (same 0))
            (at_each p lists flights lists' flights' (lists p) es at (λ j a b. marker_of (a ++ b) x ≡ Some d → decision_of (lists 0) x ≡ Some d)
            (λ h. elim (first_cases (marks x) (lists p) es d h) [ inl i ↦ k.decided p x d (marker_stays (lists p) (flights p) x d i) | inr i ↦ marked x d i ]) q (λ m. k.decided q x d));
        closed = λ x d q h i.
            let part : in_parts (lists 0) x q ≡ true = subst (λ c. in_parts c x q ≡ true) (same 0) i in
            subst (λ l. marker_of l x ≡ Some d) (sym (same q))
            (at_each p lists flights lists' flights' (lists p) es at (λ j a b. j ≡ 0 → closing_of (a ++ b) x ≡ Some d → marker_of (lists q) x ≡ Some d)
            (λ e j. elim (first_cases (says_closing x) (lists p) es d j) [
              | inl before ↦ k.closed x d q (first_stays (says_closing x) (lists 0) (flights 0) d (subst (λ m. closing_of (lists m) x ≡ Some d) e before)) part
              | inr now ↦ closing x d q now part
            ])
            0 (λ m e j. k.closed x d q j part) refl h);
      }
