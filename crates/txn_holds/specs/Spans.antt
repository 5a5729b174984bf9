-- Spans of places. A function of a place says which span begins there.
use Rattle.std.specs.Prelude.{◌≡◌, ◌<◌, ◌≤◌, ◌^◌, ℕ, suc, All, [], ◌∷◌, nat_le, Bool, true, false, if◌then◌else◌, List, Option, Some, None, is_some}
use Rattle.std.specs.Option.{option_map}
use Rattle.txn_base.specs.declared.txn.TxnId.{TxnId}
use Rattle.txn_model.specs.Words.{first_of, when, below, has, set_at}
use Rattle.txn_holds.specs.declared.spans.Span.{Span}

-- The span with another last place; the span, acknowledged.
abbrev pub with_last : ℕ → Span → Span
with_last last s = record { last = last; owner = s.owner }

abbrev pub acked_span : Span → Span
acked_span s = record { last = s.last; owner = None }

-- The span of one place.
abbrev pub single : Option TxnId → ℕ → Span
single owner q = record { last = q; owner = owner }

-- How a span that begins at or before a place takes it: Some None where it is acknowledged, and Some x where x holds it.
abbrev pub taken_by : ℕ → Option Span → Option (Option TxnId)
taken_by q None = None
taken_by q (Some s) = when (nat_le q s.last) s.owner

-- How the spans take a place.
abbrev pub span_taken : (ℕ → Option Span) → ℕ → Option (Option TxnId)
span_taken f q = first_of (λ k. taken_by q (f k)) (below (suc q))

-- What f gives, but at these places it is v.
abbrev pub set_each : {V : Type 0} → (ℕ → V) → List ℕ → V → ℕ → V
set_each f places v q = if has places q then v else f q

-- What begins at each place, but at these ones a span of this place alone.
abbrev pub put_each : Option TxnId → List ℕ → (ℕ → Option Span) → ℕ → Option Span
put_each owner places f q = if has places q then Some (single owner q) else f q

-- No span ends before it begins, each ends before the next begins, and a held one has one place.
pub record AreSpans (f : ℕ → Option Span) : Type 0 where
  pub order : (p : ℕ) (s : Span) → f p ≡ Some s → p ≤ s.last
  pub apart : (p q : ℕ) (s t : Span) → f p ≡ Some s → f q ≡ Some t → p < q → s.last < q
  pub one : (p : ℕ) (s : Span) (x : TxnId) → f p ≡ Some s → s.owner ≡ Some x → s.last ≡ p

-- Each place is below those behind it.
abbrev pub Rises : List ℕ → Type 0
Rises [] = Unit {0}
Rises (p ∷ ps) = All (λ (q : ℕ). p < q) ps × Rises ps

-- A place lies at or before the front, if there is one.
abbrev pub in_front : Option ℕ → ℕ → Bool
in_front None q = false
in_front (Some last) q = nat_le q last

-- How a place is taken: all at or before the front are acknowledged, and spans have those past it.
abbrev pub taken_in : Option ℕ → (ℕ → Option Span) → ℕ → Option (Option TxnId)
taken_in front f q = if in_front front q then Some None else span_taken f q

-- What f gives, but all up to a place are acknowledged.
abbrev pub up_to : (ℕ → Option (Option TxnId)) → ℕ → ℕ → Option (Option TxnId)
up_to f place q = if nat_le q place then Some None else f q

-- The first place past the front.
abbrev pub place_past : Option ℕ → ℕ
place_past None = 0
place_past (Some last) = suc last

-- No span has a place at or before the front.
abbrev pub IsPast : Option ℕ → (ℕ → Option Span) → Type 0
IsPast front f = (q : ℕ) → in_front front q ≡ true → span_taken f q ≡ None

-- The first place past the front isn't acknowledged, where it is a place.
abbrev pub IsFirst : Option ℕ → (ℕ → Option Span) → Type 0
IsFirst front f = place_past front < 2 ^ 64 → span_taken f (place_past front) ≡ Some None → ⊥

-- Where all up to a place are acknowledged, all up to this last one are, and no span has it that begins past the place.
pub record IsReach (f : ℕ → Option Span) (place last : ℕ) : Type 0 where
  pub least : place ≤ last
  pub within : (p : ℕ) (s : Span) → f p ≡ Some s → p ≤ place → s.last ≤ last
  pub acked : (q : ℕ) → place < q → q ≤ last → span_taken f q ≡ Some None
  pub apart : (p : ℕ) (s : Span) → f p ≡ Some s → place < p → last < p

-- Of two functions of a place: they are the same; the same but here; the same past a place.
abbrev pub Same : {V : Type 0} → (ℕ → V) → (ℕ → V) → Type 0
Same f n = (q : ℕ) → n q ≡ f q

abbrev pub SameBut : ℕ → (ℕ → Option Span) → (ℕ → Option Span) → Type 0
SameBut place f n = (q : ℕ) → (q ≡ place → ⊥) → n q ≡ f q

abbrev pub SamePast : ℕ → (ℕ → Option Span) → (ℕ → Option Span) → Type 0
SamePast place f n = (q : ℕ) → place < q → n q ≡ f q

-- Each of these places has this value; they have it after, and the others are as before.
abbrev pub AllAre : {V : Type 0} → List ℕ → V → (ℕ → V) → Type 0
AllAre places v f = (q : ℕ) → has places q ≡ true → f q ≡ v

abbrev pub AreSet : {V : Type 0} → List ℕ → V → (ℕ → V) → (ℕ → V) → Type 0
AreSet places v f n = (q : ℕ) → n q ≡ set_each f places v q

-- Spans of these places alone were put.
abbrev pub Puts : Option TxnId → List ℕ → (ℕ → Option Span) → (ℕ → Option Span) → Type 0
Puts owner places f n = (q : ℕ) → n q ≡ put_each owner places f q

-- The pair is a span and the place where it begins; the place is the last up to this one where a span begins.
abbrev pub Begins : (ℕ → Option Span) → ℕ × Span → Type 0
Begins f p = f p.0 ≡ Some p.1

abbrev pub IsLast : (ℕ → Option Span) → ℕ → ℕ → Type 0
IsLast f place last = (q : ℕ) → q ≤ place → is_some (f q) ≡ true → q ≤ last

-- The span that begins here is changed so, if there is one.
abbrev pub IsChanged : (Span → Span) → ℕ → (ℕ → Option Span) → (ℕ → Option Span) → Type 0
IsChanged change first f n = n first ≡ option_map change (f first)

-- The spans take each of these places.
abbrev pub AreTaken : List ℕ → (ℕ → Option Span) → Type 0
AreTaken places f = (q : ℕ) → has places q ≡ true → is_some (span_taken f q) ≡ true

-- Places are taken as before; but that one is acknowledged, that these are, that all up to one are, where the last is the front.
abbrev pub TakesSame : (ℕ → Option Span) → (ℕ → Option Span) → Type 0
TakesSame f n = (q : ℕ) → span_taken n q ≡ span_taken f q

abbrev pub AcksOne : ℕ → (ℕ → Option Span) → (ℕ → Option Span) → Type 0
AcksOne place f n = (q : ℕ) → span_taken n q ≡ set_at (span_taken f) place (Some None) q

abbrev pub AcksAll : List ℕ → (ℕ → Option Span) → (ℕ → Option Span) → Type 0
AcksAll places f n = (q : ℕ) → span_taken n q ≡ set_each (span_taken f) places (Some None) q

abbrev pub AcksUpTo : ℕ → ℕ → (ℕ → Option Span) → (ℕ → Option Span) → Type 0
AcksUpTo place last f n = (q : ℕ) → taken_in (Some last) n q ≡ up_to (span_taken f) place q

-- With another front, places are taken as before.
abbrev pub GoesOn : Option ℕ → Option ℕ → (ℕ → Option Span) → (ℕ → Option Span) → Type 0
GoesOn front front' f n = (q : ℕ) → taken_in front' n q ≡ taken_in front f q

-- All places are acknowledged.
abbrev pub AllAcked : (ℕ → Option (Option TxnId)) → Type 0
AllAcked t = (q : ℕ) → q < 2 ^ 64 → t q ≡ Some None
