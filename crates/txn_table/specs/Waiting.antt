-- Which transactions of a log wait for their deadlines.
use Rattle.std.specs.Prelude.{ℕ, Bool, List, map, filter}
use Rattle.txn_base.specs.declared.entry.CoordEntry.{CoordEntry}
use Rattle.txn_model.specs.Words.{below}
use Rattle.txn_model.specs.Skeletons.{coord_skeletons}
use Rattle.txn_model.specs.Coord.{status_of, count_new, is_open}
use Rattle.txn_model.specs.Deadlines.{txn, deadline_of}

-- In the log c, the transaction of number k is open.
abbrev pub waits : List CoordEntry → ℕ → Bool
waits c k = is_open (status_of (coord_skeletons c) (txn k))

-- In the log c, the deadline of the transaction of number k, and k.
abbrev pub deadline_at : List CoordEntry → ℕ → ℕ × ℕ
deadline_at c k = (deadline_of c (txn k), k)

-- In the log c, the deadlines of the open transactions, each with its number, in order of number.
abbrev pub waiting : List CoordEntry → List (ℕ × ℕ)
waiting c = map (deadline_at c) (filter (waits c) (below (count_new (coord_skeletons c))))
