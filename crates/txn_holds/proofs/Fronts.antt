-- A front that goes on: all up to a place are acknowledged, or a span right behind it is taken in.
use Rattle.std.proofs.Common.{◌≡◌, ◌<◌, ◌≤◌, ⊎_elim, ℕ, Some, None, true, false, if◌then◌else◌, arith, true≢false, refl, sym, ap, ◌∙◌}
use Rattle.std.specs.Prelude.{Option, is_some}
use Rattle.std.proofs.lemmas.Bool.{cases_eq, cases_lt}
use Rattle.txn_holds.specs.declared.spans.Span.{Span}
use Rattle.txn_holds.specs.Spans.{span_taken, in_front, taken_in, up_to, place_past, AreSpans, IsPast, IsReach}
use Rattle.txn_holds.proofs.Covering.{some_one, none_some, Owner, Covers, covers_taken, taken_covers, taken_none, same_taken, le_true, le_false, true_le}

-- a span of more than one place is acknowledged
long_free : (f : ℕ → Option Span) (p : ℕ) (s : Span) → AreSpans f → f p ≡ Some s → p < s.last → s.owner ≡ None
long_free f p s are at lt = by_owner s.owner refl
  where
    by_owner : (o : Owner) → s.owner ≡ o → s.owner ≡ None
    by_owner None e = e
    by_owner (Some x) e = absurd (omega (arith, are.one p s x at e, lt))

-- How far the last span that begins at or before a place reaches.
pub reach_last : (f : ℕ → Option Span) (place first last : ℕ) (span : Span) → AreSpans f → f first ≡ Some span → first ≤ place
    → ((k : ℕ) (t : Span) → k ≤ place → f k ≡ Some t → k ≤ first) → place ≤ last → span.last ≤ last → (place < last → last ≡ span.last) → IsReach f place last
reach_last f place first last span are at from before least reaches is = record {
  least = least;
  within = λ p s at_p le. let far = before p s le at_p in ⊎_elim
      (λ e. let same : s ≡ span = some_one s span (sym at_p ∙ ap f e ∙ at) in omega (arith, reaches, ap (λ (t : Span). t.last) same))
      (λ ne. let less : p < first = ⊎_elim (λ l. l) (λ g. absurd (ne (omega (arith, g, far)))) (cases_lt p first) in
      let past = are.apart p first s span at_p at less in omega (arith, past, from, least))
      (cases_eq p first);
  acked = λ q lt le. let same : last ≡ span.last = is (omega (arith, lt, le)) in
      covers_taken f q None are (record { first = first; span = span; is = at; from = omega (arith, from, lt); to = omega (arith, le, same); owned = long_free f first span are at (omega (arith, from, lt, le, same)) });
  apart = λ p s at_p lt. ⊎_elim
      (λ far. let same : last ≡ span.last = is far in let past = are.apart first p span s at at_p (omega (arith, from, lt)) in omega (arith, past, same))
      (λ ge. omega (arith, ge, lt))
      (cases_lt place last);
}

pub reach_none : (f : ℕ → Option Span) (place : ℕ) → ((q : ℕ) → q ≤ place → f q ≡ None) → IsReach f place place
reach_none f place none = record {
  least = omega arith;
  within = λ p s at le. absurd (none_some s (f p) (none p le) at);
  acked = λ q lt le. absurd (omega (arith, lt, le));
  apart = λ p s at lt. lt;
}

module _ (f n : ℕ → Option Span) (place last : ℕ) (are : AreSpans f) (is : IsReach f place last)
    (gone : (q : ℕ) → q ≤ place → n q ≡ None) (others : (q : ℕ) → place < q → n q ≡ f q) where
  -- what begins now began before, past the place
  began : (p : ℕ) (s : Span) → n p ≡ Some s → (place < p) × (f p ≡ Some s)
  began p s at = ⊎_elim (λ lt. (lt, sym (others p lt) ∙ at)) (λ ge. absurd (none_some s (n p) (gone p ge) at)) (cases_lt place p)

  pub dropped : AreSpans n
  dropped = record {
    order = λ p s at. are.order p s (began p s at).1;
    apart = λ p q s t at_p at_q lt. are.apart p q s t (began p s at_p).1 (began q t at_q).1 lt;
    one = λ p s x at owned. are.one p s x (began p s at).1 owned;
  }

  pub dropped_past : IsPast (Some last) n
  dropped_past q h = taken_none n q (λ o c. let w = began c.first c.span c.is in let far = is.apart c.first c.span w.1 w.0 in let from = c.from in
      let le = true_le q last h in omega (arith, far, from, le))

  pub dropped_taken : (q : ℕ) → taken_in (Some last) n q ≡ up_to (span_taken f) place q
  dropped_taken q = ⊎_elim
      (λ lt. let least = is.least in
      ap (λ b. if b then Some None else span_taken n q) (le_false q last lt)
      ∙ same_taken f n q are dropped
      (λ o c. let to = c.to in ⊎_elim
      (λ far. record { first = c.first; span = c.span; is = others c.first far ∙ c.is; from = c.from; to = c.to; owned = c.owned })
      (λ near. let within = is.within c.first c.span c.is near in absurd (omega (arith, within, to, lt)))
      (cases_lt place c.first))
      (λ o c. record { first = c.first; span = c.span; is = (began c.first c.span c.is).1; from = c.from; to = c.to; owned = c.owned })
      ∙ ap (λ b. if b then Some None else span_taken f q) (sym (le_false q place (omega (arith, lt, least)))))
      (λ ge. ap (λ b. if b then Some None else span_taken n q) (le_true q last ge) ∙ sym (⊎_elim
      (λ far. ap (λ b. if b then Some None else span_taken f q) (le_false q place far) ∙ is.acked q far ge)
      (λ near. ap (λ b. if b then Some None else span_taken f q) (le_true q place near))
      (cases_lt place q)))
      (cases_lt last q)

-- what lies at or before the front, and what lies past it
pub front_past : (front : Option ℕ) (q : ℕ) → place_past front ≤ q → in_front front q ≡ false
front_past None q le = refl
front_past (Some last) q le = le_false q last (omega (arith, le))

pub front_before : (front : Option ℕ) (q : ℕ) → q < place_past front → in_front front q ≡ true
front_before None q lt = absurd (omega (arith, lt))
front_before (Some last) q lt = le_true q last (omega (arith, lt))

module _ (f n : ℕ → Option Span) (front : Option ℕ) (next : ℕ) (span : Span) (are : AreSpans f) (past : IsPast front f) (follows : next ≡ place_past front)
    (at : f next ≡ Some span) (owned : span.owner ≡ None) (gone : n next ≡ None) (others : (q : ℕ) → (q ≡ next → ⊥) → n q ≡ f q) where
  was : (p : ℕ) (s : Span) → n p ≡ Some s → (p ≡ next → ⊥) × (f p ≡ Some s)
  was p s at_p = ⊎_elim (λ e. absurd (none_some s (n p) (ap n e ∙ gone) at_p)) (λ ne. (ne, sym (others p ne) ∙ at_p)) (cases_eq p next)

  pub went_on : AreSpans n
  went_on = record {
    order = λ p s at_p. are.order p s (was p s at_p).1;
    apart = λ p q s t at_p at_q lt. are.apart p q s t (was p s at_p).1 (was q t at_q).1 lt;
    one = λ p s x at_p o. are.one p s x (was p s at_p).1 o;
  }

  -- no span begins before the one that was taken in
  first_one : (p : ℕ) (s : Span) → f p ≡ Some s → p < next → ⊥
  first_one p s at_p lt =
      let le = are.order p s at_p in
      none_some s.owner (span_taken f p) (past p (front_before front p (omega (arith, lt, follows)))) (covers_taken f p s.owner are (record { first = p; span = s; is = at_p; from = omega arith; to = le; owned = refl }))

  pub went_past : IsPast (Some span.last) n
  went_past q h = taken_none n q (λ o c. let w = was c.first c.span c.is in let from = c.from in let le = true_le q span.last h in
      ⊎_elim
      (λ lt. first_one c.first c.span w.1 lt)
      (λ ge. let more : next < c.first = ⊎_elim (λ l. l) (λ g. absurd (w.0 (omega (arith, g, ge)))) (cases_lt next c.first) in
      let far = are.apart next c.first span c.span at w.1 more in omega (arith, far, from, le))
      (cases_lt c.first next))

  pub went_taken : (q : ℕ) → taken_in (Some span.last) n q ≡ taken_in front f q
  went_taken q = ⊎_elim
      (λ lt. let reaches = are.order next span at in
      ap (λ b. if b then Some None else span_taken n q) (le_false q span.last lt)
      ∙ same_taken f n q are went_on
      (λ o c. let to = c.to in ⊎_elim
      (λ e. let same : c.span ≡ span = some_one c.span span (sym c.is ∙ ap f e ∙ at) in absurd (omega (arith, to, lt, ap (λ (s : Span). s.last) same)))
      (λ ne. record { first = c.first; span = c.span; is = others c.first ne ∙ c.is; from = c.from; to = c.to; owned = c.owned })
      (cases_eq c.first next))
      (λ o c. record { first = c.first; span = c.span; is = (was c.first c.span c.is).1; from = c.from; to = c.to; owned = c.owned })
      ∙ ap (λ b. if b then Some None else span_taken f q) (sym (front_past front q (omega (arith, lt, reaches, follows)))))
      (λ ge. ap (λ b. if b then Some None else span_taken n q) (le_true q span.last ge) ∙ sym (⊎_elim
      (λ lt. ap (λ b. if b then Some None else span_taken f q) (front_before front q (omega (arith, lt, follows))))
      (λ le. ap (λ b. if b then Some None else span_taken f q) (front_past front q (omega (arith, le, follows)))
      ∙ covers_taken f q None are (record { first = next; span = span; is = at; from = le; to = ge; owned = owned }))
      (cases_lt q next)))
      (cases_lt span.last q)

-- The first place past the front isn't acknowledged where no span begins there, or a held one does.
pub none_first : (f : ℕ → Option Span) (front : Option ℕ) (next : ℕ) → AreSpans f → IsPast front f → next ≡ place_past front → f next ≡ None
    → span_taken f (place_past front) ≡ Some None → ⊥
none_first f front next are past follows none h = by_span (taken_covers f (place_past front) None h)
  where
    by_span : Covers f (place_past front) None → ⊥
    by_span c = let from = c.from in ⊎_elim
        (λ e. none_some c.span (f next) none (sym (ap f e) ∙ c.is))
        (λ ne. let less : c.first < next = ⊎_elim (λ l. l) (λ g. absurd (ne (omega (arith, g, from, follows)))) (cases_lt c.first next) in
        none_some c.span.owner (span_taken f c.first) (past c.first (front_before front c.first (omega (arith, less, follows))))
        (covers_taken f c.first c.span.owner are (record { first = c.first; span = c.span; is = c.is; from = omega arith; to = are.order c.first c.span c.is; owned = refl })))
        (cases_eq c.first next)

pub held_first : (f : ℕ → Option Span) (front : Option ℕ) (next : ℕ) (span : Span) → AreSpans f → next ≡ place_past front → f next ≡ Some span → is_some span.owner ≡ true
    → span_taken f (place_past front) ≡ Some None → ⊥
held_first f front next span are follows at held h =
    let le = are.order next span at in
    let taken = covers_taken f next span.owner are (record { first = next; span = span; is = at; from = omega arith; to = le; owned = refl }) in
    true≢false (sym held ∙ ap is_some (some_one span.owner None (sym taken ∙ ap (span_taken f) follows ∙ h)))
