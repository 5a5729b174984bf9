use Rattle.std.proofs.Common.{◌≡◌, ◌<◌, ℕ, length}
use Rattle.std.specs.Ordering.{nat_cmp}
use Rattle.std.specs.BTreeMap.{get}
use Rattle.txn_holds.proofs.spans.drop_to.Given as goal

abbrev pub invariant-loop-first : goal.invariant-loop-first
invariant-loop-first l = (q : ℕ) → l.fn.place < q → get nat_cmp l.spans q ≡ get nat_cmp l.fn.spans q

abbrev pub decreases-loop-first : goal.decreases-loop-first
decreases-loop-first l = length l.spans.entries
