-- Spans of one place that are put or taken out.
use Rattle.std.proofs.Common.{◌≡◌, ◌<◌, ◌≤◌, ◌==◌, ◌⊎◌, inl, inr, ⊎_elim, ℕ, Some, None, List, [], ◌∷◌, Bool, true, false, if◌then◌else◌, arith, eqb-true, true≢false, refl, sym, ap, subst, ◌∙◌}
use Rattle.std.specs.Prelude.{Option, All}
use Rattle.std.proofs.lemmas.List.Elements.{All-head, All-tail}
use Rattle.std.proofs.lemmas.Bool.{cases_lt}
use Rattle.txn_base.specs.declared.txn.TxnId.{TxnId}
use Rattle.txn_model.specs.Words.{has}
use Rattle.txn_holds.specs.declared.spans.Span.{Span}
use Rattle.txn_holds.specs.Spans.{Rises, single, span_taken, set_each, put_each, AreSpans}
use Rattle.txn_holds.proofs.Covering.{some_one, none_some, Owner, Covers, covers_taken, taken_none, same_taken}

-- a test of a list is passed or fails
pub tested : (ps : List ℕ) (q : ℕ) → (has ps q ≡ true) ⊎ (has ps q ≡ false)
tested ps q = pick (has ps q) refl
  where
    pick : (b : Bool) → has ps q ≡ b → (has ps q ≡ true) ⊎ (has ps q ≡ false)
    pick true e = inl e
    pick false e = inr e

above : (k : ℕ) (ks : List ℕ) (q : ℕ) → All (λ (j : ℕ). k < j) ks → has ks q ≡ true → k < q
above k [] q are h = absurd (true≢false (sym h))
above k (j ∷ js) q are h = by_test (q == j) refl (above k js q (All-tail (λ (i : ℕ). k < i) j js are))
  where
    by_test : (b : Bool) → (q == j) ≡ b → (has js q ≡ true → k < q) → k < q
    by_test true e more = let head = All-head (λ (i : ℕ). k < i) j js are in omega (arith, head, eqb-true q j e)
    by_test false e more = more (ap (λ c. if c then true else has js q) (sym e) ∙ h)

has_rest : (p : ℕ) (rest : List ℕ) (q : ℕ) → has rest q ≡ true → has (p ∷ rest) q ≡ true
has_rest p rest q h = pick (q == p)
  where
    pick : (b : Bool) → (if b then true else has rest q) ≡ true
    pick true = refl
    pick false = h

-- Where none of rising places begins a span, none of the others does after the first was put.
pub rest_absent : (f n : ℕ → Option Span) (place : ℕ) (rest whole : List ℕ) → whole ≡ place ∷ rest → Rises whole → ((q : ℕ) → has whole q ≡ true → f q ≡ None)
    → ((q : ℕ) → (q ≡ place → ⊥) → n q ≡ f q) → (q : ℕ) → has rest q ≡ true → n q ≡ None
rest_absent f n place rest whole is rises absent others q h =
    let past = above place rest q (subst Rises is rises).0 h in
    others q (λ e. omega (arith, e, past)) ∙ absent q (ap (λ l. has l q) is ∙ has_rest place rest q h)

pub rest_rises : (place : ℕ) (rest whole : List ℕ) → whole ≡ place ∷ rest → Rises whole → Rises rest
rest_rises place rest whole is rises = (subst Rises is rises).1

module _ (f n : ℕ → Option Span) (ps : List ℕ) (owner : Owner) (are : AreSpans f) (free : (q : ℕ) → has ps q ≡ true → span_taken f q ≡ None)
    (new : (q : ℕ) → n q ≡ put_each owner ps f q) where
  new_in : (q : ℕ) → has ps q ≡ true → n q ≡ Some (single owner q)
  new_in q h = new q ∙ ap (λ b. if b then Some (single owner q) else f q) h

  new_out : (q : ℕ) → has ps q ≡ false → n q ≡ f q
  new_out q h = new q ∙ ap (λ b. if b then Some (single owner q) else f q) h

  no_cover : (q : ℕ) (o : Owner) → has ps q ≡ true → Covers f q o → ⊥
  no_cover q o h c = none_some o (span_taken f q) (free q h) (covers_taken f q o are c)

  pub put_spans : AreSpans n
  put_spans = record {
    order = λ p s at. ⊎_elim
        (λ h. omega (arith, ap (λ (t : Span). t.last) (some_one s (single owner p) (sym at ∙ new_in p h))))
        (λ h. are.order p s (sym (new_out p h) ∙ at))
        (tested ps p);
    apart = λ p q s t at_p at_q lt. ⊎_elim
        (λ h. omega (arith, lt, ap (λ (t : Span). t.last) (some_one s (single owner p) (sym at_p ∙ new_in p h))))
        (λ h. let old : f p ≡ Some s = sym (new_out p h) ∙ at_p in
        ⊎_elim
        (λ k. ⊎_elim (λ l. l) (λ ge. absurd (no_cover q s.owner k (record { first = p; span = s; is = old; from = omega (arith, lt); to = ge; owned = refl }))) (cases_lt s.last q))
        (λ k. are.apart p q s t old (sym (new_out q k) ∙ at_q) lt)
        (tested ps q))
        (tested ps p);
    one = λ p s x at owned. ⊎_elim
        (λ h. ap (λ (t : Span). t.last) (some_one s (single owner p) (sym at ∙ new_in p h)))
        (λ h. are.one p s x (sym (new_out p h) ∙ at) owned)
        (tested ps p);
  }

  kept : (q : ℕ) (o : Owner) → Covers f q o → Covers n q o
  kept q o c = ⊎_elim
      (λ h. absurd (no_cover c.first c.span.owner h (record { first = c.first; span = c.span; is = c.is; from = omega arith; to = are.order c.first c.span c.is; owned = refl })))
      (λ h. record { first = c.first; span = c.span; is = new_out c.first h ∙ c.is; from = c.from; to = c.to; owned = c.owned })
      (tested ps c.first)

  no_more : (q : ℕ) (o : Owner) → has ps q ≡ false → Covers n q o → Covers f q o
  no_more q o out c = ⊎_elim
      (λ h. let last = ap (λ (t : Span). t.last) (some_one c.span (single owner c.first) (sym c.is ∙ new_in c.first h)) in
      let from = c.from in let to = c.to in
      let here : c.first ≡ q = omega (arith, last, from, to) in
      absurd (true≢false (sym h ∙ ap (has ps) here ∙ out)))
      (λ h. record { first = c.first; span = c.span; is = sym (new_out c.first h) ∙ c.is; from = c.from; to = c.to; owned = c.owned })
      (tested ps c.first)

  pub put_taken : (q : ℕ) → span_taken n q ≡ set_each (span_taken f) ps (Some owner) q
  put_taken q = ⊎_elim
      (λ h. covers_taken n q owner put_spans (record { first = q; span = single owner q; is = new_in q h; from = omega arith; to = omega arith; owned = refl })
      ∙ ap (λ b. if b then Some owner else span_taken f q) (sym h))
      (λ h. same_taken f n q are put_spans (kept q) (λ o. no_more q o h) ∙ ap (λ b. if b then Some owner else span_taken f q) (sym h))
      (tested ps q)

module _ (f n : ℕ → Option Span) (ps : List ℕ) (x : TxnId) (are : AreSpans f) (held : (q : ℕ) → has ps q ≡ true → span_taken f q ≡ Some (Some x))
    (new : (q : ℕ) → n q ≡ set_each f ps None q) where
  gone : (q : ℕ) → has ps q ≡ true → n q ≡ None
  gone q h = new q ∙ ap (λ b. if b then None else f q) h

  same : (q : ℕ) → has ps q ≡ false → n q ≡ f q
  same q h = new q ∙ ap (λ b. if b then None else f q) h

  -- what begins now began before
  began : (p : ℕ) (s : Span) → n p ≡ Some s → f p ≡ Some s
  began p s at = ⊎_elim (λ h. absurd (none_some s (n p) (gone p h) at)) (λ h. sym (same p h) ∙ at) (tested ps p)

  pub taken_spans : AreSpans n
  taken_spans = record {
    order = λ p s at. are.order p s (began p s at);
    apart = λ p q s t at_p at_q lt. are.apart p q s t (began p s at_p) (began q t at_q) lt;
    one = λ p s y at owned. are.one p s y (began p s at) owned;
  }

  -- a span that has one of these places has no other
  alone : (q p : ℕ) (o : Owner) → has ps p ≡ true → (c : Covers f q o) → c.first ≤ p → p ≤ c.span.last → (c.first ≡ q) × (p ≡ q)
  alone q p o h c from_p to_p =
      let owned : c.span.owner ≡ Some x = some_one c.span.owner (Some x) (sym (covers_taken f p c.span.owner are (record { first = c.first; span = c.span; is = c.is; from = from_p; to = to_p; owned = refl })) ∙ held p h) in
      let last = are.one c.first c.span x c.is owned in let from = c.from in let to = c.to in
      (omega (arith, last, from, to), omega (arith, last, from, to, from_p, to_p))

  now_none : (q : ℕ) → has ps q ≡ true → (o : Owner) → Covers n q o → ⊥
  now_none q h o c =
      let d : Covers f q o = record { first = c.first; span = c.span; is = began c.first c.span c.is; from = c.from; to = c.to; owned = c.owned } in
      let here = (alone q q o h d c.from c.to).0 in
      none_some c.span (n c.first) (gone c.first (ap (has ps) here ∙ h)) c.is

  still : (q : ℕ) (o : Owner) → has ps q ≡ false → Covers f q o → Covers n q o
  still q o out c = ⊎_elim
      (λ h. let here = (alone q c.first o h c (omega arith) (are.order c.first c.span c.is)).0 in absurd (true≢false (sym h ∙ ap (has ps) here ∙ out)))
      (λ h. record { first = c.first; span = c.span; is = same c.first h ∙ c.is; from = c.from; to = c.to; owned = c.owned })
      (tested ps c.first)

  pub taken_taken : (q : ℕ) → span_taken n q ≡ set_each (span_taken f) ps None q
  taken_taken q = ⊎_elim
      (λ h. taken_none n q (now_none q h) ∙ ap (λ b. if b then None else span_taken f q) (sym h))
      (λ h. same_taken f n q are taken_spans (λ o. still q o h)
      (λ o c. record { first = c.first; span = c.span; is = began c.first c.span c.is; from = c.from; to = c.to; owned = c.owned })
      ∙ ap (λ b. if b then None else span_taken f q) (sym h))
      (tested ps q)
