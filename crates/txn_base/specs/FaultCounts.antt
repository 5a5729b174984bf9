-- The failed calls on files of a part. All parts from 128 on have one count.
use Rattle.std.specs.Prelude.{ℕ, nat_lt, if◌then◌else◌, slice_index}
use Rattle.txn_base.specs.declared.fault_counts.FaultCounts.{FaultCounts}

abbrev pub part_count : FaultCounts → ℕ → ℕ
part_count counts p = if nat_lt p 128 then slice_index counts.parts p else counts.beyond
