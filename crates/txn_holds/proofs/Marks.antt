-- How places are taken by a front and the spans past it.
use Rattle.std.proofs.Common.{◌≡◌, ◌<◌, ◌≤◌, ⊎_elim, ℕ, Some, None, List, Bool, true, false, if◌then◌else◌, arith, true≢false, refl, sym, ap, ◌∙◌}
use Rattle.std.specs.Prelude.{Option, is_some}
use Rattle.std.proofs.lemmas.Bool.{cases_lt}
use Rattle.txn_base.specs.declared.txn.TxnId.{TxnId}
use Rattle.txn_model.specs.Words.{has}
use Rattle.txn_holds.specs.declared.spans.Span.{Span}
use Rattle.txn_holds.specs.Spans.{span_taken, in_front, taken_in, up_to, place_past, set_each, put_each, AreSpans, IsPast, IsFirst}
use Rattle.txn_holds.specs.Taken.{IsTaken}
use Rattle.txn_holds.proofs.Covering.{none_some, Owner, covers_taken, taken_none, taken_same, spans_same, le_true, le_false, true_le}
use Rattle.txn_holds.proofs.Puts.{tested, put_spans, put_taken, taken_spans, taken_taken}

-- a place that isn't taken lies past the front, and no span has it
pub free_place : (front : Option ℕ) (f : ℕ → Option Span) (q : ℕ) → taken_in front f q ≡ None → span_taken f q ≡ None
free_place front f q h = by_front (in_front front q) refl
  where
    by_front : (b : Bool) → in_front front q ≡ b → span_taken f q ≡ None
    by_front true e = absurd (none_some (let o : Owner = None in o) (taken_in front f q) h (ap (λ b. if b then Some None else span_taken f q) e))
    by_front false e = ap (λ b. if b then Some None else span_taken f q) (sym e) ∙ h

pub held_place : (front : Option ℕ) (f : ℕ → Option Span) (q : ℕ) (x : TxnId) → taken_in front f q ≡ Some (Some x) → span_taken f q ≡ Some (Some x)
held_place front f q x h = by_front (in_front front q) refl
  where
    some_none : {o : Option (Option TxnId)} → o ≡ Some None → o ≡ Some (Some x) → ⊥
    some_none e k = cc

    by_front : (b : Bool) → in_front front q ≡ b → span_taken f q ≡ Some (Some x)
    by_front true e = absurd (some_none (ap (λ b. if b then Some None else span_taken f q) e) h)
    by_front false e = ap (λ b. if b then Some None else span_taken f q) (sym e) ∙ h

pub none_begins : (f : ℕ → Option Span) (q : ℕ) → AreSpans f → span_taken f q ≡ None → f q ≡ None
none_begins f q are h = by_span (f q) refl
  where
    by_span : (s : Option Span) → f q ≡ s → f q ≡ None
    by_span None e = e
    by_span (Some s) e = absurd (none_some s.owner (span_taken f q) h (covers_taken f q s.owner are (record { first = q; span = s; is = e; from = omega arith; to = are.order q s e; owned = refl })))

-- Where spans change alone: by the places that change, none of which lies at or before the front.
pub set_taken : (front : Option ℕ) (f n : ℕ → Option Span) (ps : List ℕ) (v : Option Owner) → IsPast front f → ((q : ℕ) → has ps q ≡ true → in_front front q ≡ false)
    → ((q : ℕ) → span_taken n q ≡ set_each (span_taken f) ps v q) → (q : ℕ) → taken_in front n q ≡ set_each (taken_in front f) ps v q
set_taken front f n ps v past out set q = by_has (has ps q) refl
  where
    by_has : (b : Bool) → has ps q ≡ b → taken_in front n q ≡ (if b then v else taken_in front f q)
    by_has true e = ap (λ b. if b then Some None else span_taken n q) (out q e) ∙ set q ∙ ap (λ b. if b then v else span_taken f q) e
    by_has false e = ap (λ m. if in_front front q then Some None else m) (set q ∙ ap (λ b. if b then v else span_taken f q) e)

-- a place of a span lies past the front
pub spanned_out : (front : Option ℕ) (f : ℕ → Option Span) (q : ℕ) (o : Owner) → IsPast front f → span_taken f q ≡ Some o → in_front front q ≡ false
spanned_out front f q o past h = by_front (in_front front q) refl
  where
    by_front : (b : Bool) → in_front front q ≡ b → in_front front q ≡ false
    by_front true e = absurd (none_some o (span_taken f q) (past q e) h)
    by_front false e = e

pub free_out : (front : Option ℕ) (f : ℕ → Option Span) (q : ℕ) → taken_in front f q ≡ None → in_front front q ≡ false
free_out front f q h = by_front (in_front front q) refl
  where
    by_front : (b : Bool) → in_front front q ≡ b → in_front front q ≡ false
    by_front true e = absurd (none_some (let o : Owner = None in o) (taken_in front f q) h (ap (λ b. if b then Some None else span_taken f q) e))
    by_front false e = e

-- the spans stay past the front where no place at or before it changes
pub past_set : (front : Option ℕ) (f n : ℕ → Option Span) (ps : List ℕ) (v : Option Owner) → IsPast front f → ((q : ℕ) → has ps q ≡ true → in_front front q ≡ false)
    → ((q : ℕ) → span_taken n q ≡ set_each (span_taken f) ps v q) → IsPast front n
past_set front f n ps v past out set q h = ⊎_elim
    (λ t. absurd (true≢false (sym h ∙ out q t)))
    (λ t. set q ∙ ap (λ b. if b then v else span_taken f q) t ∙ past q h)
    (tested ps q)

first_set : (front : Option ℕ) (f n : ℕ → Option Span) (ps : List ℕ) (v : Option Owner) → IsFirst front f → (v ≡ Some None → ⊥)
    → ((q : ℕ) → span_taken n q ≡ set_each (span_taken f) ps v q) → IsFirst front n
first_set front f n ps v first other set lt h = ⊎_elim
    (λ t. other (sym (set (place_past front) ∙ ap (λ b. if b then v else span_taken f (place_past front)) t) ∙ h))
    (λ t. first lt (sym (set (place_past front) ∙ ap (λ b. if b then v else span_taken f (place_past front)) t) ∙ h))
    (tested ps (place_past front))

-- Places that weren't taken are put: they are held, or about to be joined.
module _ (front : Option ℕ) (f n : ℕ → Option Span) (ps : List ℕ) (owner : Owner) (is : IsTaken front f) (free : (q : ℕ) → has ps q ≡ true → taken_in front f q ≡ None)
    (new : (q : ℕ) → n q ≡ put_each owner ps f q) where
  no_span : (q : ℕ) → has ps q ≡ true → span_taken f q ≡ None
  no_span q h = free_place front f q (free q h)

  out : (q : ℕ) → has ps q ≡ true → in_front front q ≡ false
  out q h = free_out front f q (free q h)

  pub put_apart : AreSpans n
  put_apart = put_spans f n ps owner is.spans no_span new

  pub put_spanned : (q : ℕ) → span_taken n q ≡ set_each (span_taken f) ps (Some owner) q
  put_spanned = put_taken f n ps owner is.spans no_span new

  pub put_past : IsPast front n
  put_past = past_set front f n ps (Some owner) is.past out put_spanned

  pub put_marks : (q : ℕ) → taken_in front n q ≡ set_each (taken_in front f) ps (Some owner) q
  put_marks = set_taken front f n ps (Some owner) is.past out put_spanned

  pub put_first : (Some owner ≡ Some None → ⊥) → IsFirst front n
  put_first other = first_set front f n ps (Some owner) is.first other put_spanned

-- Held places are let go.
module _ (front : Option ℕ) (f n : ℕ → Option Span) (ps : List ℕ) (x : TxnId) (is : IsTaken front f) (held : (q : ℕ) → has ps q ≡ true → taken_in front f q ≡ Some (Some x))
    (new : (q : ℕ) → n q ≡ set_each f ps None q) where
  held_span : (q : ℕ) → has ps q ≡ true → span_taken f q ≡ Some (Some x)
  held_span q h = held_place front f q x (held q h)

  held_out : (q : ℕ) → has ps q ≡ true → in_front front q ≡ false
  held_out q h = spanned_out front f q (Some x) is.past (held_span q h)

  let_go : (q : ℕ) → span_taken n q ≡ set_each (span_taken f) ps None q
  let_go = taken_taken f n ps x is.spans held_span new

  none_is : None ≡ Some (let o : Owner = None in o) → ⊥
  none_is e = cc

  pub gone_taken : IsTaken front n
  gone_taken = record {
    spans = taken_spans f n ps x is.spans held_span new;
    past = past_set front f n ps None is.past held_out let_go;
    first = first_set front f n ps None is.first none_is let_go;
  }

  pub gone_marks : (q : ℕ) → taken_in front n q ≡ set_each (taken_in front f) ps None q
  gone_marks = set_taken front f n ps None is.past held_out let_go

-- Held places are acknowledged; and free ones that were put as acknowledged.
module _ (front : Option ℕ) (f n : ℕ → Option Span) (ps : List ℕ) (past : IsPast front f) (there : (q : ℕ) → has ps q ≡ true → in_front front q ≡ false)
    (set : (q : ℕ) → span_taken n q ≡ set_each (span_taken f) ps (Some None) q) where
  pub ack_past : IsPast front n
  ack_past = past_set front f n ps (Some None) past there set

  pub ack_marks : (q : ℕ) → taken_in front n q ≡ set_each (taken_in front f) ps (Some None) q
  ack_marks = set_taken front f n ps (Some None) past there set

-- the first set twice is set once
pub set_twice : (g h k : ℕ → Option Owner) (ps : List ℕ) (v : Option Owner) → ((q : ℕ) → h q ≡ set_each g ps v q) → ((q : ℕ) → k q ≡ set_each h ps v q) → (q : ℕ) → k q ≡ set_each g ps v q
set_twice g h k ps v first then_ q = by_has (has ps q) refl
  where
    by_has : (b : Bool) → has ps q ≡ b → k q ≡ (if b then v else g q)
    by_has true e = then_ q ∙ ap (λ b. if b then v else h q) e
    by_has false e = then_ q ∙ ap (λ b. if b then v else h q) e ∙ first q ∙ ap (λ b. if b then v else g q) e

-- What the front answers.
pub front_in : (front : Option ℕ) (f : ℕ → Option Span) (q : ℕ) → in_front front q ≡ true → taken_in front f q ≡ Some None
front_in front f q h = ap (λ b. if b then Some None else span_taken f q) h

pub front_out : (front : Option ℕ) (f : ℕ → Option Span) (q : ℕ) → in_front front q ≡ false → taken_in front f q ≡ span_taken f q
front_out front f q h = ap (λ b. if b then Some None else span_taken f q) h

pub up_to_past : (front : Option ℕ) (f : ℕ → Option Span) (place q : ℕ) → in_front front place ≡ false → up_to (span_taken f) place q ≡ up_to (taken_in front f) place q
up_to_past front f place q h = ⊎_elim
    (λ lt. ap (λ b. if b then Some None else span_taken f q) (le_false q place lt)
    ∙ sym (ap (λ b. if b then Some None else taken_in front f q) (le_false q place lt) ∙ front_out front f q (further front h lt)))
    (λ ge. ap (λ b. if b then Some None else span_taken f q) (le_true q place ge) ∙ sym (ap (λ b. if b then Some None else taken_in front f q) (le_true q place ge)))
    (cases_lt place q)
  where
    further : (o : Option ℕ) → in_front o place ≡ false → place < q → in_front o q ≡ false
    further None e lt = refl
    further (Some last) e lt = ⊎_elim
        (λ l. le_false q last (omega (arith, l, lt)))
        (λ ge. absurd (true≢false (sym (le_true place last ge) ∙ e)))
        (cases_lt last place)

-- all up to the front is acknowledged, so what is up to a place at or before it
pub up_to_in : (front : Option ℕ) (f : ℕ → Option Span) (place q : ℕ) → in_front front place ≡ true → taken_in front f q ≡ up_to (taken_in front f) place q
up_to_in front f place q h = ⊎_elim
    (λ lt. sym (ap (λ b. if b then Some None else taken_in front f q) (le_false q place lt)))
    (λ ge. front_in front f q (nearer front h ge) ∙ sym (ap (λ b. if b then Some None else taken_in front f q) (le_true q place ge)))
    (cases_lt place q)
  where
    nearer : (o : Option ℕ) → in_front o place ≡ true → q ≤ place → in_front o q ≡ true
    nearer None e le = absurd (true≢false (sym e))
    nearer (Some last) e le = let l = true_le place last e in le_true q last (omega (arith, l, le))

pub held_some : (m : Option (Option TxnId)) (o : Option TxnId) → m ≡ Some o → is_some m ≡ true
held_some m o h = ap is_some h

-- What stays where the spans are the same.
pub same_is_taken : (front : Option ℕ) (f n : ℕ → Option Span) → ((q : ℕ) → n q ≡ f q) → IsTaken front f → IsTaken front n
same_is_taken front f n same is = record {
  spans = spans_same f n same is.spans;
  past = λ q h. taken_same f n same q ∙ is.past q h;
  first = λ lt h. is.first lt (sym (taken_same f n same (place_past front)) ∙ h);
}

pub same_marks : (front : Option ℕ) (f n : ℕ → Option Span) → ((q : ℕ) → n q ≡ f q) → (q : ℕ) → taken_in front n q ≡ taken_in front f q
same_marks front f n same q = ap (λ m. if in_front front q then Some None else m) (taken_same f n same q)

pub none_taken : (f : ℕ → Option Span) → ((q : ℕ) → f q ≡ None) → (q : ℕ) → span_taken f q ≡ None
none_taken f none q = taken_none f q (λ o c. none_some c.span (f c.first) (none c.first) c.is)

-- A held place isn't an acknowledged one.
pub held_other : (x : TxnId) → Some (Some x) ≡ Some None → ⊥
held_other x h = cc
