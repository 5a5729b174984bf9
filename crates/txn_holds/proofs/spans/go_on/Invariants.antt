use Rattle.std.proofs.Common.{◌≡◌, ◌-◌, ◌^◌, ℕ}
use Rattle.std.specs.Ordering.{nat_cmp}
use Rattle.std.specs.BTreeMap.{get}
use Rattle.txn_holds.specs.Spans.{AreSpans, IsPast, taken_in, place_past}
use Rattle.txn_holds.proofs.spans.go_on.Given as goal

abbrev pub invariant-loop-next : goal.invariant-loop-next
invariant-loop-next l =
    AreSpans (get nat_cmp l.spans) × IsPast l.front (get nat_cmp l.spans)
    × ((q : ℕ) → taken_in l.front (get nat_cmp l.spans) q ≡ taken_in l.fn.front (get nat_cmp l.fn.spans) q)

abbrev pub decreases-loop-next : goal.decreases-loop-next
decreases-loop-next l = 2 ^ 64 - place_past l.front
