-- Replies that tell of a fault are counted.
use Rattle.std.proofs.Common.{ℕ, ◌+◌, ◌-◌, ◌^◌, ◌≤◌, min, arith, List, [], ◌∷◌, ◌++◌, Option}
use Rattle.txn_base.specs.declared.limits.Limits.{Limits}
use Rattle.txn_model.specs.Cut.{whole_lines, lines_of}
use Rattle.txn_model.specs.Replies.{RunState, count_faults}
use Rattle.txn_model.proofs.Laws.Replies.{replies_paid}
use Rattle.txn_run.specs.Kinds.{line_kinds}
use Rattle.txn_run.specs.Run.{Ended, replies_in}
use Rattle.txn_run.specs.declared.status.RunStatus.{RunStatus}
use Rattle.txn_run.specs.declared.status.RunStatus.TheVariants as status

counted_in : (ended : RunStatus) (limits : Limits) (s : RunState) (old : Option (List ℕ)) (taken : List ℕ) (s' : RunState) (new left : Option (List ℕ)) (h : Ended ended limits s old taken s' new left)
    → min (s.faults + count_faults (replies_in ended limits s old taken s' new left h)) (2 ^ 64 - 1) ≤ s'.faults
counted_in status.Ok limits s old taken s' new left (at_end, within, rebuilt, so) = replies_paid limits s (line_kinds limits (lines_of taken)) so.told s' so.replies
counted_in status.ReadFault limits s old taken s' new left (within, rebuilt, so) = replies_paid limits s (line_kinds limits (whole_lines taken)) so.told s' so.replies
counted_in status.WriteFault limits s old taken s' new left (within, all, are, (lines, more, split, so)) = replies_paid limits s (line_kinds limits lines) (so.told ++ so.last ∷ []) s' so.replies
counted_in status.DiskFault limits s old taken s' new left (within, all, are, (lines, more, split, so)) = replies_paid limits s (line_kinds limits lines) (so.told ++ so.last ∷ []) s' so.replies
counted_in status.TooMuch limits s old taken s' new left (all, rebuilt, so) = replies_paid limits s (line_kinds limits (whole_lines taken)) so.told s' so.replies
counted_in status.NoMemory limits s old taken s' new left h = absurd h
counted_in (status.Usage u) limits s old taken s' new left h = absurd h
counted_in (status.Damaged file entry) limits s old taken s' new left h = absurd h

since : (most a b n c : ℕ) → a ≤ b → min (b + n) most ≤ c → min (a + n) most ≤ c
since most a b n c le paid = grind (arith, le, paid)

pub counted_since : (before : ℕ) (ended : RunStatus) (limits : Limits) (s : RunState) (old : Option (List ℕ)) (taken : List ℕ) (s' : RunState) (new left : Option (List ℕ)) (h : Ended ended limits s old taken s' new left) → before ≤ s.faults
    → min (before + count_faults (replies_in ended limits s old taken s' new left h)) (2 ^ 64 - 1) ≤ s'.faults
counted_since before ended limits s old taken s' new left h later =
    since (2 ^ 64 - 1) before s.faults (count_faults (replies_in ended limits s old taken s' new left h)) s'.faults later (counted_in ended limits s old taken s' new left h)
