-- How spans take a place, by the span that has it.
use Rattle.std.proofs.Common.{◌≡◌, ◌<◌, ◌≤◌, ◌+◌, ⊎_elim, ℕ, zero, suc, Bool, true, false, Some, None, arith, refl, sym, ap, ◌∙◌}
use Rattle.std.specs.Prelude.{Option, nat_le}
use Rattle.std.specs.Option.{option_or}
use Rattle.std.proofs.lemmas.Bool.{cases_eq, cases_lt}
use Rattle.txn_base.specs.declared.txn.TxnId.{TxnId}
use Rattle.txn_model.specs.Words.{first_of, when, numbers_from}
use Rattle.txn_holds.specs.declared.spans.Span.{Span}
use Rattle.txn_holds.specs.Spans.{taken_by, span_taken, AreSpans}

pub some_one : {X : Type 0} (x y : X) → Some x ≡ Some y → x ≡ y
some_one x y h = cc

pub none_some : {X : Type 0} (x : X) (o : Option X) → o ≡ None → o ≡ Some x → ⊥
none_some x o h k = cc

abbrev pub Owner : Type 0
Owner = Option TxnId

-- A place lies in a span with this owner.
pub record Covers (f : ℕ → Option Span) (q : ℕ) (o : Owner) : Type 0 where
  pub first : ℕ
  pub span : Span
  pub is : f first ≡ Some span
  pub from : first ≤ q
  pub to : q ≤ span.last
  pub owned : span.owner ≡ o

pub le_true : (a b : ℕ) → a ≤ b → nat_le a b ≡ true
le_true a b h = search arith

pub le_false : (a b : ℕ) → b < a → nat_le a b ≡ false
le_false a b h = search arith

pub true_le : (a b : ℕ) → nat_le a b ≡ true → a ≤ b
true_le a b h = search arith

first_is : {V : Type 0} (g : ℕ → Option V) (at : ℕ) (v : V) (k n : ℕ) → k ≤ at → at < k + n → g at ≡ Some v
    → ((j : ℕ) → j < at → g j ≡ None) → first_of g (numbers_from k n) ≡ Some v
first_is g at v k zero le lt is before = absurd (omega (arith, le, lt))
first_is g at v k (suc n) le lt is before = ⊎_elim
    (λ e. ap (λ (o : Option _). option_or o (first_of g (numbers_from (suc k) n))) (ap g e ∙ is))
    (λ ne. let less : k < at = ⊎_elim (λ l. l) (λ g. absurd (ne (omega (arith, g, le)))) (cases_lt k at) in
    ap (λ (o : Option _). option_or o (first_of g (numbers_from (suc k) n))) (before k less)
    ∙ first_is g at v (suc k) n less (omega (arith, lt)) is before)
    (cases_eq k at)

pub record Said {V : Type 0} (g : ℕ → Option V) (v : V) (k n : ℕ) : Type 0 where
  pub at : ℕ
  pub from : k ≤ at
  pub to : at < k + n
  pub is : g at ≡ Some v

first_said : {V : Type 0} (g : ℕ → Option V) (v : V) (k n : ℕ) → first_of g (numbers_from k n) ≡ Some v → Said g v k n
first_said g v k zero h = absurd (none_some v None refl h)
first_said g v k (suc n) h = by_case (g k) refl (first_said g v (suc k) n)
  where
    by_case : (o : Option _) → g k ≡ o → (first_of g (numbers_from (suc k) n) ≡ Some v → Said g v (suc k) n) → Said g v k (suc n)
    by_case (Some w) e more = record { at = k; from = omega arith; to = omega arith; is = e ∙ sym (ap (λ (p : Option _). option_or p (first_of g (numbers_from (suc k) n))) e) ∙ h }
    by_case None e more =
        let m = more (sym (ap (λ (p : Option _). option_or p (first_of g (numbers_from (suc k) n))) e) ∙ h) in
        let from = m.from in let to = m.to in
        record { at = m.at; from = omega (arith, from); to = omega (arith, to); is = m.is }

-- By the span that has it, and only so.
pub covers_taken : (f : ℕ → Option Span) (q : ℕ) (o : Owner) → AreSpans f → Covers f q o → span_taken f q ≡ Some o
covers_taken f q o are c =
    let from = c.from in
    first_is (λ k. taken_by q (f k)) c.first o 0 (suc q) (omega arith) (omega (arith, from))
    (ap (taken_by q) c.is ∙ ap (λ b. when b c.span.owner) (le_true q c.span.last c.to) ∙ ap Some c.owned)
    (λ j lt. before j lt (f j) refl)
  where
    before : (j : ℕ) → j < c.first → (s : Option Span) → f j ≡ s → taken_by q (f j) ≡ None
    before j lt None e = ap (taken_by q) e
    before j lt (Some s) e =
        let past : s.last < c.first = are.apart j c.first s c.span e c.is lt in
        let from = c.from in
        ap (taken_by q) e ∙ ap (λ b. when b s.owner) (le_false q s.last (omega (arith, past, from)))

pub taken_covers : (f : ℕ → Option Span) (q : ℕ) (o : Owner) → span_taken f q ≡ Some o → Covers f q o
taken_covers f q o h =
    let said = first_said (λ k. taken_by q (f k)) o 0 (suc q) h in
    at_span said (f said.at) refl
  where
    by_last : (s : Span) (first : ℕ) → f first ≡ Some s → first ≤ q → (b : Bool) → nat_le q s.last ≡ b → when b s.owner ≡ Some o → Covers f q o
    by_last s first is le true e w = record { first = first; span = s; is = is; from = le; to = true_le q s.last e; owned = some_one s.owner o w }
    by_last s first is le false e w = absurd (none_some o None refl w)

    at_span : (said : Said (λ k. taken_by q (f k)) o 0 (suc q)) → (s : Option Span) → f said.at ≡ s → Covers f q o
    at_span said None e = absurd (none_some o None refl (sym (ap (taken_by q) e) ∙ said.is))
    at_span said (Some s) e = let to = said.to in by_last s said.at e (omega (arith, to)) (nat_le q s.last) refl (sym (ap (taken_by q) e) ∙ said.is)

pub taken_none : (f : ℕ → Option Span) (q : ℕ) → ((o : Owner) → Covers f q o → ⊥) → span_taken f q ≡ None
taken_none f q never = by_case (span_taken f q) refl
  where
    by_case : (m : Option Owner) → span_taken f q ≡ m → span_taken f q ≡ None
    by_case None e = e
    by_case (Some o) e = absurd (never o (taken_covers f q o e))

-- By the last span that begins at or before it.
pub taken_last : (f : ℕ → Option Span) (q first : ℕ) (span : Span) → AreSpans f → f first ≡ Some span → first ≤ q
    → ((k : ℕ) (t : Span) → k ≤ q → f k ≡ Some t → k ≤ first) → span_taken f q ≡ when (nat_le q span.last) span.owner
taken_last f q first span are at from last = ⊎_elim
    (λ lt. taken_none f q (λ o c. beyond o lt c) ∙ ap (λ b. when b span.owner) (sym (le_false q span.last lt)))
    (λ ge. covers_taken f q span.owner are (record { first = first; span = span; is = at; from = from; to = ge; owned = refl }) ∙ ap (λ b. when b span.owner) (sym (le_true q span.last ge)))
    (cases_lt span.last q)
  where
    beyond : (o : Owner) → span.last < q → Covers f q o → ⊥
    beyond o lt c =
        let le : c.first ≤ first = last c.first c.span c.from c.is in let to = c.to in
        ⊎_elim
        (λ e. let same : c.span ≡ span = some_one c.span span (sym c.is ∙ ap f e ∙ at) in omega (arith, to, lt, ap (λ (s : Span). s.last) same))
        (λ ne. let less : c.first < first = ⊎_elim (λ l. l) (λ g. absurd (ne (omega (arith, g, le)))) (cases_lt c.first first) in
        let past = are.apart c.first first c.span span c.is at less in omega (arith, past, from, to))
        (cases_eq c.first first)

-- The same where each place lies in spans with the same owners.
pub same_taken : (f n : ℕ → Option Span) (q : ℕ) → AreSpans f → AreSpans n → ((o : Owner) → Covers f q o → Covers n q o) → ((o : Owner) → Covers n q o → Covers f q o) → span_taken n q ≡ span_taken f q
same_taken f n q were are there back = by_case (span_taken f q) refl
  where
    by_case : (m : Option Owner) → span_taken f q ≡ m → span_taken n q ≡ span_taken f q
    by_case (Some o) e = covers_taken n q o are (there o (taken_covers f q o e)) ∙ sym e
    by_case None e = taken_none n q (λ o c. none_some o (span_taken f q) e (covers_taken f q o were (back o c))) ∙ sym e

-- What spans give that agree pointwise.
pub taken_same : (f n : ℕ → Option Span) → ((q : ℕ) → n q ≡ f q) → (q : ℕ) → span_taken n q ≡ span_taken f q
taken_same f n same q = go 0 (suc q)
  where
    go : (k m : ℕ) → first_of (λ j. taken_by q (n j)) (numbers_from k m) ≡ first_of (λ j. taken_by q (f j)) (numbers_from k m)
    go k zero = refl
    go k (suc m) =
        ap (λ (s : Option Span). option_or (taken_by q s) (first_of (λ j. taken_by q (n j)) (numbers_from (suc k) m))) (same k)
        ∙ ap (option_or (taken_by q (f k))) (go (suc k) m)

pub spans_same : (f n : ℕ → Option Span) → ((q : ℕ) → n q ≡ f q) → AreSpans f → AreSpans n
spans_same f n same are = record {
  order = λ p s at. are.order p s (sym (same p) ∙ at);
  apart = λ p q s t at_p at_q lt. are.apart p q s t (sym (same p) ∙ at_p) (sym (same q) ∙ at_q) lt;
  one = λ p s x at owned. are.one p s x (sym (same p) ∙ at) owned;
}
