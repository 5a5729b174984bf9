-- The parts of a transaction, in order of number, and the markers that were given so far.
use Rattle.std.proofs.Common.{◌≡◌, inl, inr, ℕ, zero, suc, ◌+◌, ◌-◌, ◌<◌, ◌≤◌, ◌==◌, ◌&&◌, not, nat_le, cond, Bool, true, false, List, [], ◌∷◌, ◌++◌, refl, sym, ap, ◌∙◌, subst, arith, append_assoc, append-nil}
use Rattle.std.specs.Prelude.{filter}
use Rattle.std.proofs.lemmas.Bool.Decides.{nat_tests}
use Rattle.txn_base.specs.declared.core_entry.CoreEntry.{CoreEntry}
use Rattle.txn_base.specs.declared.core_entry.CoreEntry.TheVariants as core
use Rattle.txn_base.specs.declared.reply.Why.{Why}
use Rattle.txn_base.specs.declared.txn.TxnId.{TxnId}
use Rattle.txn_base.specs.declared.txn.Decision.{Decision}
use Rattle.txn_model.specs.Coord.{CoordLawful, coord_allows, is_add, in_parts, parts_of, is_open, status_of}
use Rattle.txn_model.specs.Drive.{Rebuilds, MarksAll, StopsAt, StopsWithin}
use Rattle.txn_model.specs.Skeletons.{same_txn}
use Rattle.txn_model.specs.Table.{TableState, marked}
use Rattle.txn_model.specs.Words.{all_follow, numbers_from}
use Rattle.txn_model.proofs.Laws.Tests.{no_true, and_l, and_r, or_cases}

-- ---- A part has a number among the names.

added_within : (n : ℕ) (c : List CoreEntry) (e : CoreEntry) (x : TxnId) (p : ℕ) → coord_allows n c e ≡ true → is_add x p e ≡ true → p ≤ n
added_within n c (core.AddPart y q) x p a h =
    let named : nat_le q n ≡ true = and_r (is_open (status_of c y) && nat_le 1 q) (nat_le q n) (and_l (is_open (status_of c y) && nat_le 1 q && nat_le q n) (not (in_parts c y q)) a) in
    at_most p q n (and_r (same_txn x y) (p == q) h) named
  where
    at_most : (p q n : ℕ) → (p == q) ≡ true → nat_le q n ≡ true → p ≤ n
    at_most p q n e h = grind (arith, nat_tests, e, h)
added_within n c core.Plain x p a h = absurd (no_true h)
added_within n c (core.Inside y) x p a h = absurd (no_true h)
added_within n c (core.Marker y d) x p a h = absurd (no_true h)
added_within n c (core.New y) x p a h = absurd (no_true h)
added_within n c (core.Committing y) x p a h = absurd (no_true h)
added_within n c (core.Committed y) x p a h = absurd (no_true h)
added_within n c (core.Aborting y) x p a h = absurd (no_true h)
added_within n c (core.Aborted y) x p a h = absurd (no_true h)

within_behind : (n : ℕ) (before c : List CoreEntry) (x : TxnId) (p : ℕ) → all_follow (coord_allows n) before c ≡ true → in_parts c x p ≡ true → p ≤ n
within_behind n before [] x p h i = absurd (no_true i)
within_behind n before (e ∷ c) x p h i =
    elim (or_cases (is_add x p e) (in_parts c x p) i) [
      | inl here ↦ added_within n before e x p (and_l (coord_allows n before e) (all_follow (coord_allows n) (before ++ e ∷ []) c) h) here
      | inr later ↦ within_behind n (before ++ e ∷ []) c x p (and_r (coord_allows n before e) (all_follow (coord_allows n) (before ++ e ∷ []) c) h) later
    ]

pub part_within : (n : ℕ) (c : List CoreEntry) (x : TxnId) (p : ℕ) → CoordLawful n c → in_parts c x p ≡ true → p ≤ n
part_within n c x p lawful has = within_behind n [] c x p lawful has

-- ---- The parts from an index on.

-- In the log c, the parts of x whose number is more than n.
abbrev pub parts_past : List CoreEntry → TxnId → ℕ → List ℕ
parts_past c x n = filter (in_parts c x) (numbers_from (1 + n) (62 - n))

module _ (c : List CoreEntry) (x : TxnId) where
  step_by : (n : ℕ) (b : Bool) → in_parts c x (1 + n) ≡ b → n < 62 → parts_past c x n ≡ cond b ((1 + n) ∷ parts_past c x (n + 1)) (parts_past c x (n + 1))
  step_by n b e few =
      ap (λ (m : ℕ). filter (in_parts c x) (numbers_from (1 + n) m)) (left n few)
      ∙ ap (λ (t : Bool). cond t ((1 + n) ∷ filter (in_parts c x) (numbers_from (suc (1 + n)) (62 - (n + 1)))) (filter (in_parts c x) (numbers_from (suc (1 + n)) (62 - (n + 1))))) e
      ∙ ap (λ (k : ℕ). cond b ((1 + n) ∷ filter (in_parts c x) (numbers_from k (62 - (n + 1)))) (filter (in_parts c x) (numbers_from k (62 - (n + 1))))) (next n)
    where
      left : (n : ℕ) → n < 62 → 62 - n ≡ suc (62 - (n + 1))
      left n h = omega (arith, h)

      next : (n : ℕ) → suc (1 + n) ≡ 1 + (n + 1)
      next n = omega arith

  pub rest_has : (n : ℕ) → in_parts c x (1 + n) ≡ true → n < 62 → parts_past c x n ≡ (1 + n) ∷ parts_past c x (n + 1)
  rest_has n e few = step_by n true e few

  pub rest_without : (n : ℕ) → in_parts c x (1 + n) ≡ false → n < 62 → parts_past c x n ≡ parts_past c x (n + 1)
  rest_without n e few = step_by n false e few

  none_above : (f : ℕ → Bool) (k m : ℕ) → ((q : ℕ) → k ≤ q → f q ≡ false) → filter f (numbers_from k m) ≡ []
  none_above f k zero none = refl
  none_above f k (suc m) none = rw (none k (self k)) (none_above f (suc k) m (λ q h. none q (later k q h)))
    where
      self : (k : ℕ) → k ≤ k
      self k = omega arith

      later : (k q : ℕ) → suc k ≤ q → k ≤ q
      later k q h = omega (arith, h)

  pub rest_ends : (n at : ℕ) → CoordLawful n c → n ≤ at → parts_past c x at ≡ []
  rest_ends n at lawful past = none_above (in_parts c x) (1 + at) (62 - at) (λ q above. by_test q above (in_parts c x q) refl)
    where
      never : (q n at : ℕ) → 1 + at ≤ q → n ≤ at → q ≤ n → ⊥
      never q n at above past within = omega (arith, above, past, within)

      by_test : (q : ℕ) → 1 + at ≤ q → (b : Bool) → in_parts c x q ≡ b → in_parts c x q ≡ false
      by_test q above true e = absurd (never q n at above past (part_within n c x q lawful e))
      by_test q above false e = e

-- ---- The markers so far.

pub marks_more : (x : TxnId) (d : Decision) (first : List ℕ) (p : ℕ) (t u u' : TableState) → MarksAll x d first t u → Rebuilds p u u → u' ≡ marked x d p u → MarksAll x d (first ++ p ∷ []) t u'
marks_more x d [] p t u u' h r e = (u, subst (λ (s : TableState). Rebuilds p s u) h r, e)
marks_more x d (q ∷ qs) p t u u' h r e = (h.0, h.1, marks_more x d qs p (marked x d q h.0) u u' h.2 r e)

pub stops_behind : (rose : ℕ → Type 0) (x : TxnId) (d : Decision) (first : List ℕ) (p : ℕ) (rest : List ℕ) (t u : TableState) (reason : Why) (t' : TableState) → MarksAll x d first t u → StopsAt rose x d p u reason t' → StopsWithin rose x d (first ++ p ∷ rest) p t reason t'
stops_behind rose x d [] p rest t u reason t' h stop = inl (refl, subst (λ (s : TableState). StopsAt rose x d p s reason t') h stop)
stops_behind rose x d (q ∷ qs) p rest t u reason t' h stop = inr (h.0, h.1, stops_behind rose x d qs p rest (marked x d q h.0) u reason t' h.2 stop)

-- Of these parts those before the rest have their marker, from t to u.
pub record Marking (x : TxnId) (d : Decision) (parts rest : List ℕ) (t u : TableState) : Type 0 where
  pub first : List ℕ
  pub split : parts ≡ first ++ rest
  pub marks : MarksAll x d first t u

module _ (x : TxnId) (d : Decision) (parts : List ℕ) where
  pub marking_starts : (t : TableState) → Marking x d parts parts t t
  marking_starts t = record { first = []; split = refl; marks = refl }

  pub marking_more : (p : ℕ) (rest more : List ℕ) (t u u' : TableState) → Marking x d parts rest t u → rest ≡ p ∷ more → Rebuilds p u u → u' ≡ marked x d p u → Marking x d parts more t u'
  marking_more p rest more t u u' m e r is = record {
    first = m.first ++ p ∷ [];
    split = m.split ∙ ap (λ (ps : List ℕ). m.first ++ ps) e ∙ sym (append_assoc m.first (p ∷ []) more);
    marks = marks_more x d m.first p t u u' m.marks r is;
  }

  pub marking_ends : (rest : List ℕ) (t u : TableState) → Marking x d parts rest t u → rest ≡ [] → MarksAll x d parts t u
  marking_ends rest t u m e = subst (λ (ps : List ℕ). MarksAll x d ps t u) (sym (m.split ∙ ap (λ (ps : List ℕ). m.first ++ ps) e ∙ append-nil m.first)) m.marks

  pub marking_stops : (rose : ℕ → Type 0) (p : ℕ) (rest more : List ℕ) (t u : TableState) (reason : Why) (t' : TableState) → Marking x d parts rest t u → rest ≡ p ∷ more → StopsAt rose x d p u reason t' → StopsWithin rose x d parts p t reason t'
  marking_stops rose p rest more t u reason t' m e stop =
      subst (λ (ps : List ℕ). StopsWithin rose x d ps p t reason t') (sym (m.split ∙ ap (λ (ps : List ℕ). m.first ++ ps) e)) (stops_behind rose x d m.first p more t u reason t' m.marks stop)
