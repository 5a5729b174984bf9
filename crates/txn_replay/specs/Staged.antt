-- What a step has read.
use Rattle.std.specs.Prelude.{ℕ, List}

-- The entries of a state, those that were read behind them, and the rule.
pub record StepView (E : Type 0) : Type 0 where
  pub own : List E
  pub staged : List E
  pub rule : ℕ
