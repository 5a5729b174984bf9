-- What a source and a sink in memory hold.
use Rattle.std.specs.Prelude.{ℕ, List}

-- What is left, the most bytes that a call gives, how many calls it takes to come to each that fails, and how many failed.
pub record SourceState : Type 0 where
  pub left : List ℕ
  pub most : ℕ
  pub waits : List ℕ
  pub faults : ℕ

-- What was put, the most bytes that a call takes, how many calls it takes to come to each that fails, and how many failed.
pub record SinkState : Type 0 where
  pub held : List ℕ
  pub most : ℕ
  pub waits : List ℕ
  pub faults : ℕ
