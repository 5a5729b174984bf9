-- Which places are taken.
use Rattle.std.specs.Prelude.{◌≡◌, ◌<◌, ℕ, List, Option, Some, None}
use Rattle.std.specs.Map.{lookup}
use Rattle.std.specs.BTreeMap.{is_at}
use Rattle.std.specs.Ordering.{nat_cmp}
use Rattle.txn_base.specs.declared.txn.TxnId.{TxnId}
use Rattle.txn_holds.specs.declared.spans.Span.{Span}
use Rattle.txn_holds.specs.Spans.{taken_in, set_each, AreSpans, IsPast, IsFirst}
pub use Rattle.txn_holds.specs.Spans.{up_to}

-- The front, and the spans past it by the first place of each.
pub record TakenView : Type 0 where
  pub front : Option ℕ
  pub spans : List (ℕ × Span)

-- How a place is taken: Some None where it is acknowledged, Some (Some x) where x holds it, None where it is free.
abbrev pub how_taken : TakenView → ℕ → Option (Option TxnId)
how_taken v q = taken_in v.front (λ p. lookup (is_at (nat_cmp p)) v.spans) q

-- These places are taken so now, and the others as before.
abbrev pub AreNow : List ℕ → Option (Option TxnId) → TakenView → TakenView → Type 0
AreNow places m v w = (q : ℕ) → how_taken w q ≡ set_each (how_taken v) places m q

-- The place isn't acknowledged, and all before it are.
pub record IsUnacked (v : TakenView) (place : ℕ) : Type 0 where
  pub here : how_taken v place ≡ Some None → ⊥
  pub before : (q : ℕ) → q < place → how_taken v q ≡ Some None

-- What is kept of them: the spans lie apart, past the front, which can't go on.
pub record IsTaken (front : Option ℕ) (f : ℕ → Option Span) : Type 0 where
  pub spans : AreSpans f
  pub past : IsPast front f
  pub first : IsFirst front f
