-- A batch that is allowed over a lawful world may start in a core with its lists.
use Rattle.std.proofs.Common.{◌≡◌, ℕ, ◌≤◌, ◌<◌, ◌==◌, eq-eqb, le-leb, lt-ltb, Bool, true, false, ◌&&◌, ◌||◌, if◌then◌else◌, List, [], ◌∷◌, ◌++◌, length, Some, None, refl, sym, ap, ◌∙◌, subst, append_assoc}
use Rattle.std.proofs.lemmas.List.Folds.{list_any-append}
use Rattle.std.specs.Prelude.{Option, is_none, nat_le, nat_lt, filter}
use Rattle.std.specs.Option.{option_or}
use Rattle.std.specs.List.{list_all}
use Rattle.txn_base.specs.declared.txn.TxnId.{TxnId}
use Rattle.txn_base.specs.declared.txn.Decision.{Decision}
use Rattle.txn_base.specs.declared.txn.Decision.TheVariants.{Commit, Abort}
use Rattle.txn_base.specs.declared.core_entry.CoreEntry.{CoreEntry}
use Rattle.txn_base.specs.declared.core_entry.CoreEntry.TheVariants as core
use Rattle.txn_model.specs.Words.{numbers_from, all_follow}
use Rattle.txn_model.specs.Skeletons.{same_txn}
use Rattle.txn_model.specs.Coord.{coord_allows, decision_of, closing_of, in_parts}
use Rattle.txn_model.specs.Topic.{marks, marker_of, part_allows}
use Rattle.txn_model.specs.World.{is_inside, has_inside}
use Rattle.txn_model.proofs.Laws.Tests.{no_true, and_l, and_r, and_both, or_r}
use Rattle.txn_model.proofs.Laws.Lists.{first_of-append}
use Rattle.txn_core.specs.Together.{IsAlone, is_alone}
use Rattle.txn_core.specs.Steps.{CoreState, settled_of, flight_of, is_decision, is_marked, is_batch, may_cross, may_start}
use Rattle.txn_core.proofs.Alone.{alone_split, part_split}
use Rattle.txn_core.proofs.Asked.{decision_test}

same_self : (x : TxnId) → same_txn x x ≡ true
same_self x = and_both (x.most == x.most) (x.least == x.least) (eq-eqb x.most x.most refl) (eq-eqb x.least x.least refl)

none_is : {V : Type 0} (o : Option V) → is_none o ≡ true → o ≡ None
none_is None h = refl
none_is (Some v) h = absurd (no_true h)

said_here : {V : Type 0} (x : TxnId) (v : V) (rest : Option V) → option_or (if same_txn x x then Some v else None) rest ≡ Some v
said_here x v rest = ap (λ b. option_or (if b then Some v else None) rest) (same_self x)

-- a message among entries
inside_among : (before es : List CoreEntry) (y : TxnId) → has_inside (before ++ core.Inside y ∷ es) y ≡ true
inside_among before es y =
    list_any-append (is_inside y) before (core.Inside y ∷ es)
    ∙ or_r (has_inside before y) (has_inside (core.Inside y ∷ es) y) (ap (λ b. b || has_inside es y) (same_self y))

-- the first marker
marker_among : (before es : List CoreEntry) (y : TxnId) (d : Decision) → is_none (marker_of before y) ≡ true → marker_of (before ++ core.Marker y d ∷ es) y ≡ Some d
marker_among before es y d h =
    first_of-append (marks y) before (core.Marker y d ∷ es)
    ∙ ap (λ o. option_or o (marker_of (core.Marker y d ∷ es) y)) (none_is (marker_of before y) h)
    ∙ said_here y d (marker_of es y)

-- ---- A part other than the coordinator.

module _ (lists : ℕ → List CoreEntry) (p : ℕ) where
  part_crosses : (before es : List CoreEntry) → all_follow part_allows before es ≡ true
      → ((x : TxnId) → has_inside (before ++ es) x ≡ true → in_parts (lists 0) x p ≡ true)
      → ((x : TxnId) (d : Decision) → marker_of (before ++ es) x ≡ Some d → decision_of (lists 0) x ≡ Some d)
      → list_all (may_cross lists p) es ≡ true
  part_crosses before [] a i m = refl
  part_crosses before (e ∷ es) a i m =
      let step : before ++ e ∷ es ≡ (before ++ e ∷ []) ++ es = sym (append_assoc before (e ∷ []) es) in
      and_both (may_cross lists p e) (list_all (may_cross lists p) es) (one e (and_l (part_allows before e) (all_follow part_allows (before ++ e ∷ []) es) a) i m)
      (part_crosses (before ++ e ∷ []) es (and_r (part_allows before e) (all_follow part_allows (before ++ e ∷ []) es) a)
      (subst (λ l. (x : TxnId) → has_inside l x ≡ true → in_parts (lists 0) x p ≡ true) step i)
      (subst (λ l. (x : TxnId) (d : Decision) → marker_of l x ≡ Some d → decision_of (lists 0) x ≡ Some d) step m))
    where
      one : (e : CoreEntry) → part_allows before e ≡ true
          → ((x : TxnId) → has_inside (before ++ e ∷ es) x ≡ true → in_parts (lists 0) x p ≡ true)
          → ((x : TxnId) (d : Decision) → marker_of (before ++ e ∷ es) x ≡ Some d → decision_of (lists 0) x ≡ Some d)
          → may_cross lists p e ≡ true
      one core.Plain a i m = refl
      one (core.Inside y) a i m = i y (inside_among before es y)
      one (core.Marker y d) a i m = decision_test (decision_of (lists 0) y) d (m y d (marker_among before es y d a))
      one (core.New y) a i m = absurd (no_true a)
      one (core.AddPart y q) a i m = absurd (no_true a)
      one (core.Committing y) a i m = absurd (no_true a)
      one (core.Committed y) a i m = absurd (no_true a)
      one (core.Aborting y) a i m = absurd (no_true a)
      one (core.Aborted y) a i m = absurd (no_true a)

-- ---- The coordinator.

all_filtered : (t f : ℕ → Bool) (ks : List ℕ) → ((q : ℕ) → t q ≡ true → f q ≡ true) → list_all f (filter t ks) ≡ true
all_filtered t f [] each = refl
all_filtered t f (k ∷ ks) each = by_test (t k) refl (all_filtered t f ks each)
  where
    by_test : (b : Bool) → t k ≡ b → list_all f (filter t ks) ≡ true → list_all f (if b then k ∷ filter t ks else filter t ks) ≡ true
    by_test true e rest = and_both (f k) (list_all f (filter t ks)) (each k e) rest
    by_test false e rest = rest

module _ (n : ℕ) (lists : ℕ → List CoreEntry) where
  marked_by : (y : TxnId) (d : Decision) → ((q : ℕ) → in_parts (lists 0) y q ≡ true → marker_of (lists q) y ≡ Some d) → is_marked lists y d ≡ true
  marked_by y d each =
      all_filtered (in_parts (lists 0) y) (λ q. is_decision (marker_of (lists q) y) d) (numbers_from 1 62) (λ q i. decision_test (marker_of (lists q) y) d (each q i))

  log_cross : (e : CoreEntry) → coord_allows n (lists 0) e ≡ true
      → ((x : TxnId) (d : Decision) (q : ℕ) → closing_of (e ∷ []) x ≡ Some d → in_parts (lists 0) x q ≡ true → marker_of (lists q) x ≡ Some d)
      → may_cross lists 0 e ≡ true
  log_cross (core.Committed y) a c = marked_by y Commit (λ q. c y Commit q (said_here y Commit None))
  log_cross (core.Aborted y) a c = marked_by y Abort (λ q. c y Abort q (said_here y Abort None))
  log_cross (core.New y) a c = refl
  log_cross (core.AddPart y q) a c = refl
  log_cross (core.Committing y) a c = refl
  log_cross (core.Aborting y) a c = refl
  log_cross core.Plain a c = refl
  log_cross (core.Inside y) a c = absurd (no_true a)
  log_cross (core.Marker y d) a c = absurd (no_true a)

-- ---- The start.

module _ (n : ℕ) (s : CoreState) (p : ℕ) (es : List CoreEntry) (within : p < length s.rows) (resting : flight_of s p ≡ []) (alone : IsAlone n p (settled_of s p ++ es)) where
  may : is_batch p es ≡ true → list_all (may_cross (settled_of s) p) es ≡ true → may_start n s p es ≡ true
  may batch cross =
      let a1 = nat_lt p (length s.rows) in
      let a2 = a1 && length (flight_of s p) == 0 in
      let a3 = a2 && is_batch p es in
      let a4 = a3 && is_alone n p (settled_of s p ++ es) in
      let b2 : a2 ≡ true = and_both a1 (length (flight_of s p) == 0) (lt-ltb p (length s.rows) within) (eq-eqb (length (flight_of s p)) 0 (ap length resting)) in
      let b3 : a3 ≡ true = and_both a2 (is_batch p es) b2 batch in
      let b4 : a4 ≡ true = and_both a3 (is_alone n p (settled_of s p ++ es)) b3 alone in
      and_both a4 (list_all (may_cross (settled_of s) p) es) b4 cross

  -- at another part
  pub part_may_start : (p == 0) ≡ false → 1 ≤ length es → length es ≤ 64
      → ((x : TxnId) → has_inside (settled_of s p ++ es) x ≡ true → in_parts (settled_of s 0) x p ≡ true)
      → ((x : TxnId) (d : Decision) → marker_of (settled_of s p ++ es) x ≡ Some d → decision_of (settled_of s 0) x ≡ Some d)
      → may_start n s p es ≡ true
  part_may_start e some few i m =
      may (and_both (nat_le 1 (length es)) (nat_le (length es) (if p == 0 then 1 else 64)) (le-leb 1 (length es) some) (ap (λ b. nat_le (length es) (if b then 1 else 64)) e ∙ le-leb (length es) 64 few))
      (part_crosses (settled_of s) p (settled_of s p) es
      (and_r (all_follow part_allows [] (settled_of s p)) (all_follow part_allows (settled_of s p) es) (sym (part_split n p (settled_of s p) es e) ∙ alone)) i m)

-- at the coordinator, one entry
pub log_may_start : (n : ℕ) (s : CoreState) (e : CoreEntry) → 0 < length s.rows → flight_of s 0 ≡ [] → IsAlone n 0 (settled_of s 0 ++ e ∷ [])
    → ((x : TxnId) (d : Decision) (q : ℕ) → closing_of (e ∷ []) x ≡ Some d → in_parts (settled_of s 0) x q ≡ true → marker_of (settled_of s q) x ≡ Some d)
    → may_start n s 0 (e ∷ []) ≡ true
log_may_start n s e within resting alone c =
    let follows : all_follow (coord_allows n) (settled_of s 0) (e ∷ []) ≡ true =
    and_r (all_follow (coord_allows n) [] (settled_of s 0)) (all_follow (coord_allows n) (settled_of s 0) (e ∷ [])) (sym (alone_split n 0 (settled_of s 0) (e ∷ [])) ∙ alone) in
    let now : coord_allows n (settled_of s 0) e ≡ true = and_l (coord_allows n (settled_of s 0) e) true follows in
    may n s 0 (e ∷ []) within resting alone refl (and_both (may_cross (settled_of s) 0 e) true (log_cross n (settled_of s) e now c) refl)
