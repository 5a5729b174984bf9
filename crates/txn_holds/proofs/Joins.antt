-- Spans that are joined, and a place that is acknowledged.
use Rattle.std.proofs.Common.{◌≡◌, ◌<◌, ◌≤◌, ◌+◌, ◌==◌, ◌⊎◌, inl, inr, ⊎_elim, ℕ, Some, None, Bool, true, false, if◌then◌else◌, arith, eqb-true, eq-eqb, true≢false, refl, sym, ap, ◌∙◌}
use Rattle.std.specs.Prelude.{Option, is_some}
use Rattle.std.specs.Option.{option_map}
use Rattle.std.proofs.lemmas.Bool.{cases_eq, cases_order, cases_lt}
use Rattle.txn_model.specs.Words.{set_at}
use Rattle.txn_holds.specs.declared.spans.Span.{Span}
use Rattle.txn_holds.specs.Spans.{with_last, acked_span, span_taken, AreSpans}
use Rattle.txn_holds.proofs.Covering.{some_one, none_some, Owner, Covers, covers_taken, taken_covers, same_taken}

module _ (f n : ℕ → Option Span) (first next : ℕ) (span after : Span) (are : AreSpans f)
    (at_first : f first ≡ Some span) (at_next : f next ≡ Some after) (follows : next ≡ span.last + 1) (free : span.owner ≡ None) (free_next : after.owner ≡ None)
    (new_first : n first ≡ Some (with_last after.last span)) (new_next : n next ≡ None)
    (new_else : (q : ℕ) → (q ≡ first → ⊥) → (q ≡ next → ⊥) → n q ≡ f q) where
  below : first < next
  below = omega (arith, are.order first span at_first, follows)

  reaches : next ≤ after.last
  reaches = are.order next after at_next

  -- what a span of the new ones is
  abbrev Which : ℕ → Span → Type 0
  Which q s = ((q ≡ first) × (s ≡ with_last after.last span)) ⊎ ((q ≡ first → ⊥) × (q ≡ next → ⊥) × (f q ≡ Some s))

  which : (q : ℕ) (s : Span) → n q ≡ Some s → Which q s
  which q s at = ⊎_elim
      (λ e. inl (e, some_one s (with_last after.last span) (sym at ∙ ap n e ∙ new_first)))
      (λ ne. ⊎_elim
      (λ e. absurd (none_some s (n q) (ap n e ∙ new_next) at))
      (λ no. inr (ne, no, sym (new_else q ne no) ∙ at))
      (cases_eq q next))
      (cases_eq q first)

  pub joined : AreSpans n
  joined = record {
    order = λ p s at. ⊎_elim
        (λ w. omega (arith, w.0, ap (λ (t : Span). t.last) w.1, below, reaches))
        (λ w. are.order p s w.2)
        (which p s at);
    apart = λ p q s t at_p at_q lt. ⊎_elim
        (λ w. ⊎_elim
        (λ v. absurd (omega (arith, w.0, v.0, lt)))
        (λ v. let past : span.last < q = are.apart first q span t at_first v.2 (omega (arith, w.0, lt)) in
        let beyond : next < q = ⊎_elim (λ e. absurd (v.1 e)) (λ d. ⊎_elim (λ l. absurd (omega (arith, l, past, follows))) (λ g. g) d) (cases_order q next) in
        omega (arith, ap (λ (r : Span). r.last) w.1, are.apart next q after t at_next v.2 beyond))
        (which q t at_q))
        (λ w. ⊎_elim
        (λ v. let l = are.apart p first s span w.2 at_first (omega (arith, v.0, lt)) in omega (arith, l, v.0))
        (λ v. are.apart p q s t w.2 v.2 lt)
        (which q t at_q))
        (which p s at_p);
    one = λ p s x at owned. ⊎_elim
        (λ w. absurd (none_some x span.owner free (sym (ap (λ (t : Span). t.owner) w.1) ∙ owned)))
        (λ w. are.one p s x w.2 owned)
        (which p s at);
  }

  kept : (q : ℕ) (o : Owner) → Covers f q o → Covers n q o
  kept q o c = ⊎_elim
      (λ e. let is : c.span ≡ span = some_one c.span span (sym c.is ∙ ap f e ∙ at_first) in
      record { first = first; span = with_last after.last span; is = new_first; from = omega (arith, c.from, e); to = omega (arith, c.to, ap (λ (t : Span). t.last) is, follows, reaches); owned = sym (ap (λ (t : Span). t.owner) is) ∙ c.owned })
      (λ ne. ⊎_elim
      (λ e. let is : c.span ≡ after = some_one c.span after (sym c.is ∙ ap f e ∙ at_next) in
      record { first = first; span = with_last after.last span; is = new_first; from = omega (arith, c.from, e, below); to = omega (arith, c.to, ap (λ (t : Span). t.last) is); owned = free ∙ sym free_next ∙ sym (ap (λ (t : Span). t.owner) is) ∙ c.owned })
      (λ no. record { first = c.first; span = c.span; is = new_else c.first ne no ∙ c.is; from = c.from; to = c.to; owned = c.owned })
      (cases_eq c.first next))
      (cases_eq c.first first)

  no_more : (q : ℕ) (o : Owner) → Covers n q o → Covers f q o
  no_more q o c = ⊎_elim
      (λ w. ⊎_elim
      (λ lt. record { first = first; span = span; is = at_first; from = omega (arith, c.from, w.0); to = omega (arith, lt, follows); owned = sym (ap (λ (t : Span). t.owner) w.1) ∙ c.owned })
      (λ ge. record { first = next; span = after; is = at_next; from = ge; to = omega (arith, c.to, ap (λ (t : Span). t.last) w.1); owned = free_next ∙ sym free ∙ sym (ap (λ (t : Span). t.owner) w.1) ∙ c.owned })
      (cases_lt q next))
      (λ w. record { first = c.first; span = c.span; is = w.2; from = c.from; to = c.to; owned = c.owned })
      (which c.first c.span c.is)

  pub joined_taken : (q : ℕ) → span_taken n q ≡ span_taken f q
  joined_taken q = same_taken f n q are joined (kept q) (no_more q)

-- A place that is taken is acknowledged.
module _ (f n : ℕ → Option Span) (place : ℕ) (are : AreSpans f) (there : is_some (span_taken f place) ≡ true)
    (new_at : n place ≡ option_map acked_span (f place)) (new_else : (q : ℕ) → (q ≡ place → ⊥) → n q ≡ f q) where
  -- where a span of the new ones begins, one of the old ones does, which ends there too
  pub record Was (p : ℕ) (s : Span) : Type 0 where
    pub span : Span
    pub is : f p ≡ Some span
    pub same : s.last ≡ span.last
    pub owner : (p ≡ place → s.owner ≡ None) × ((p ≡ place → ⊥) → s.owner ≡ span.owner)

  was : (p : ℕ) (s : Span) → n p ≡ Some s → Was p s
  was p s at = ⊎_elim (λ e. here e (f place) refl) (λ ne. record { span = s; is = sym (new_else p ne) ∙ at; same = refl; owner = (λ e. absurd (ne e), λ no. refl) }) (cases_eq p place)
    where
      here : p ≡ place → (o : Option Span) → f place ≡ o → Was p s
      here e None k = absurd (none_some s (n p) (ap n e ∙ new_at ∙ ap (option_map acked_span) k) at)
      here e (Some t) k =
          let is : s ≡ acked_span t = some_one s (acked_span t) (sym at ∙ ap n e ∙ new_at ∙ ap (option_map acked_span) k) in
          record { span = t; is = ap f e ∙ k; same = ap (λ (r : Span). r.last) is; owner = (λ e'. ap (λ (r : Span). r.owner) is, λ ne. absurd (ne e)) }

  pub acked : AreSpans n
  acked = record {
    order = λ p s at. let w = was p s at in omega (arith, are.order p w.span w.is, w.same);
    apart = λ p q s t at_p at_q lt. let w = was p s at_p in let v = was q t at_q in omega (arith, are.apart p q w.span v.span w.is v.is lt, w.same);
    one = λ p s x at owned. let w = was p s at in ⊎_elim
        (λ e. absurd (none_some x s.owner (w.owner.0 e) owned))
        (λ ne. omega (arith, are.one p w.span x w.is (sym (w.owner.1 ne) ∙ owned), w.same))
        (cases_eq p place);
  }

  -- a span of more than one place is acknowledged
  long_free : (p : ℕ) (s : Span) (q : ℕ) → f p ≡ Some s → p < q → q ≤ s.last → (o : Owner) → s.owner ≡ o → o ≡ None
  long_free p s q at lt le None e = refl
  long_free p s q at lt le (Some x) e = absurd (omega (arith, are.one p s x at e, lt, le))

  here : (o : Owner) → Covers f place o → Covers n place None
  here o c = ⊎_elim
      (λ e. let at : f place ≡ Some c.span = sym (ap f e) ∙ c.is in
      record { first = place; span = acked_span c.span; is = new_at ∙ ap (option_map acked_span) at; from = omega arith; to = c.to; owned = refl })
      (λ ne. let from = c.from in
      let less : c.first < place = ⊎_elim (λ l. l) (λ g. absurd (ne (omega (arith, from, g)))) (cases_lt c.first place) in
      record { first = c.first; span = c.span; is = new_else c.first ne ∙ c.is; from = c.from; to = c.to; owned = long_free c.first c.span place c.is less c.to c.span.owner refl })
      (cases_eq c.first place)

  there_still : (q : ℕ) → (q ≡ place → ⊥) → (o : Owner) → Covers f q o → Covers n q o
  there_still q ne o c = ⊎_elim
      (λ e. let at : f place ≡ Some c.span = sym (ap f e) ∙ c.is in let from = c.from in
      let less : c.first < q = ⊎_elim (λ l. l) (λ g. absurd (ne (omega (arith, from, g, e)))) (cases_lt c.first q) in
      record { first = place; span = acked_span c.span; is = new_at ∙ ap (option_map acked_span) at; from = omega (arith, from, e); to = c.to; owned = sym (long_free c.first c.span q c.is less c.to c.span.owner refl) ∙ c.owned })
      (λ no. record { first = c.first; span = c.span; is = new_else c.first no ∙ c.is; from = c.from; to = c.to; owned = c.owned })
      (cases_eq c.first place)

  back : (q : ℕ) → (q ≡ place → ⊥) → (o : Owner) → Covers n q o → Covers f q o
  back q ne o c = let w = was c.first c.span c.is in let from = c.from in let to = c.to in let same = w.same in
      ⊎_elim
      (λ e. let less : c.first < q = ⊎_elim (λ l. l) (λ g. absurd (ne (omega (arith, from, g, e)))) (cases_lt c.first q) in
      record {
        first = c.first;
        span = w.span;
        is = w.is;
        from = from;
        to = omega (arith, to, same);
        owned = long_free c.first w.span q w.is less (omega (arith, to, same)) w.span.owner refl ∙ sym (w.owner.0 e) ∙ c.owned;
      })
      (λ no. record { first = c.first; span = w.span; is = w.is; from = from; to = omega (arith, to, same); owned = sym (w.owner.1 no) ∙ c.owned })
      (cases_eq c.first place)

  pub acked_taken : (q : ℕ) → span_taken n q ≡ set_at (span_taken f) place (Some None) q
  acked_taken q = by_test (q == place) refl
    where
      at_place : (m : Option Owner) → span_taken f place ≡ m → span_taken n place ≡ Some None
      at_place None e = absurd (true≢false (sym there ∙ ap is_some e))
      at_place (Some o) e = covers_taken n place None acked (here o (taken_covers f place o e))

      by_test : (b : Bool) → (q == place) ≡ b → span_taken n q ≡ (if b then Some None else span_taken f q)
      by_test true e = ap (span_taken n) (eqb-true q place e) ∙ at_place (span_taken f place) refl
      by_test false e =
          let ne : q ≡ place → ⊥ = λ i. true≢false (sym (eq-eqb q place i) ∙ e) in
          same_taken f n q are acked (there_still q ne) (back q ne)
