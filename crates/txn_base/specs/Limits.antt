-- The bounds where nobody lowers them, and their ranges.
use Rattle.std.specs.Prelude.{ℕ, ◌≤◌}
use Rattle.txn_base.specs.declared.limits.Limits.{Limits}

-- The defaults.
abbrev pub standard : Limits
standard =
    record {
      line = 65536;
      message = 32768;
      batch = 64;
      places = 256;
      held = 65536;
      log = 4294967296;
      window = 65536;
      read_messages = 100;
      read_bytes = 262144;
      input = 4294967296;
      ring = 64;
      step = 64;
      snapshot = 256;
      segment = 65536;
      told = 1048576;
      sessions = 1024;
    }

-- A number lies between 1 and its default.
pub record IsBetween (default value : ℕ) : Type 0 where
  pub least : 1 ≤ value
  pub most : value ≤ default

-- Each of the limits lies between 1 and its default.
pub record InRange (limits : Limits) : Type 0 where
  pub line : IsBetween 65536 limits.line
  pub message : IsBetween 32768 limits.message
  pub batch : IsBetween 64 limits.batch
  pub places : IsBetween 256 limits.places
  pub held : IsBetween 65536 limits.held
  pub log : IsBetween 4294967296 limits.log
  pub window : IsBetween 65536 limits.window
  pub read_messages : IsBetween 100 limits.read_messages
  pub read_bytes : IsBetween 262144 limits.read_bytes
  pub input : IsBetween 4294967296 limits.input
  pub ring : IsBetween 64 limits.ring
  pub step : IsBetween 64 limits.step
  pub snapshot : IsBetween 256 limits.snapshot
  pub segment : IsBetween 65536 limits.segment
  pub told : IsBetween 1048576 limits.told
  pub sessions : IsBetween 1024 limits.sessions
