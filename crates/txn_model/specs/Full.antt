-- What is full, and the count that is told of it.
use Rattle.std.specs.Prelude.{ℕ, ◌+◌, ◌-◌, ◌&&◌, nat_le, nat_lt, List, Option, Some}
use Rattle.txn_base.specs.declared.limits.Limits.{Limits}
use Rattle.txn_base.specs.declared.core_entry.CoreEntry.{CoreEntry}
use Rattle.txn_base.specs.declared.entry.AckEntry.{AckEntry}
use Rattle.txn_model.specs.Words.{that}
use Rattle.txn_model.specs.Coord.{count_new}
use Rattle.txn_model.specs.Ack.{held_count}

-- The count, where something is added and the count with it is past the bound.
abbrev pub full : ℕ → ℕ → ℕ → Option ℕ
full bound count added = that (λ n. nat_lt 0 added && nat_lt bound (n + added)) (Some count)

-- For a new transaction, over the log c: how many there are since the opening low watermark, where they fill the window.
abbrev pub full_transactions : Limits → ℕ → List CoreEntry → Option ℕ
full_transactions limits low c = that (nat_le limits.window) (Some (count_new c - low))

-- How many places the list a holds one by one, where with the added ones they are too many.
abbrev pub full_held : Limits → List AckEntry → ℕ → Option ℕ
full_held limits a added = full limits.held (held_count a) added

-- The length of a list, where with the added entries it is too long.
abbrev pub full_log : Limits → ℕ → ℕ → Option ℕ
full_log limits length added = full limits.log length added
