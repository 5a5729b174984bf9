-- Where a run stands after some of the input.
use Rattle.std.specs.Prelude.{◌≡◌, ℕ, ◌<◌, ◌≤◌, List, ◌++◌, length, true, false, Option}
use Rattle.std.specs.Io.KnownBytes.{Consumes}
use Rattle.txn_base.specs.declared.limits.Limits.{Limits}
use Rattle.txn_base.specs.declared.clock.Clock as clock
use Rattle.txn_base.specs.declared.disk.Disk as disk
use Rattle.txn_model.specs.Cut.{whole_lines, last_piece}
use Rattle.txn_model.specs.Replies.{RunState}
use Rattle.txn_engine.specs.Table.{table_of}
use Rattle.txn_engine.specs.View.{EngineView}
use Rattle.txn_run.specs.Told.{AnsweredLines, Broken, Stopped}
use Rattle.txn_run.specs.declared.partial_line.PartialLine.{PartialLine}

-- The table over an engine, with what the clock has to tell and the counts of the disk.
abbrev pub run_state : EngineView → Option (List ℕ) → ℕ → (ℕ → ℕ) → RunState
run_state v moments faults faults_of = record { table = table_of v; moments = moments; faults = faults; faults_of = faults_of }

-- The same at a moment of a clock and of a disk.
abbrev pub run_state_at : {D K : Type 0} → disk.Ghosts D → clock.Ghosts K → EngineView → K → D → RunState
run_state_at d k v clock disk = run_state v (k.moments clock) (d.faults disk) (d.part_faults disk)

-- The piece of a line that has come: what is kept of it is all of it, unless it is too long.
pub record IsLineSoFar (limit : ℕ) (p : PartialLine) (piece : List ℕ) : Type 0 where
  pub kept : p.long ≡ false → p.line.bytes ≡ piece
  pub short : p.long ≡ false → length piece ≤ limit
  pub long : p.long ≡ true → limit < length piece

-- From s and old, these bytes have come, and each line that has ended was answered.
pub record Going (limits : Limits) (s : RunState) (old : Option (List ℕ)) (fed : List ℕ) (p : PartialLine) (s' : RunState) (new : Option (List ℕ)) : Type 0 where
  pub piece : IsLineSoFar limits.line p (last_piece fed)
  pub told : AnsweredLines limits s (whole_lines fed) s' old new

-- Wherever the run stood, it stands so after the bytes.
abbrev pub RunGoesOn : Limits → List ℕ → PartialLine → RunState → Option (List ℕ) → PartialLine → RunState → Option (List ℕ) → Type 0
RunGoesOn limits bytes p s h p' s' h' = (first : RunState) (old : Option (List ℕ)) (fed : List ℕ) → Going limits first old fed p s h → Going limits first old (fed ++ bytes) p' s' h'

-- Wherever the run stood, a line that ends within the bytes was told in part.
abbrev pub BreaksOff : Limits → List ℕ → PartialLine → RunState → Option (List ℕ) → RunState → Option (List ℕ) → Type 0
BreaksOff limits bytes p s h s' h' = (first : RunState) (old : Option (List ℕ)) (fed : List ℕ) → Going limits first old fed p s h → Broken limits first old (whole_lines (fed ++ bytes)) s' h'

-- Wherever the run stood, a line that ends within the bytes was told a fault.
abbrev pub StopsIn : Limits → List ℕ → PartialLine → RunState → Option (List ℕ) → RunState → Option (List ℕ) → Type 0
StopsIn limits bytes p s h s' h' = (first : RunState) (old : Option (List ℕ)) (fed : List ℕ) → Going limits first old fed p s h → Stopped limits first old (whole_lines (fed ++ bytes)) s' h'

-- A run that took so many bytes so far.
pub record HasTaken (limits : Limits) (s : RunState) (old left : Option (List ℕ)) (taken : ℕ) (p : PartialLine) (s' : RunState) (new left' : Option (List ℕ)) : Type 0 where
  pub fed : List ℕ
  pub count : length fed ≡ taken
  pub came : Consumes left left' fed
  pub going : Going limits s old fed p s' new
