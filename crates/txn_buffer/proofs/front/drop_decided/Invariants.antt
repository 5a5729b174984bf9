use Rattle.std.proofs.Common.{◌≡◌, ◌≤◌}
use Rattle.std.specs.VecDeque.{deque_len, deque_capacity}
use Rattle.indexmap.specs.IndexMap.{get}
use Rattle.txn_buffer.specs.Front.{waiting, key_of, same_key}
use Rattle.txn_buffer.proofs.front.drop_decided.Given as goal

abbrev pub invariant-loop-txn : goal.invariant-loop-txn
invariant-loop-txn l =
    (waiting (λ x. get same_key l.decisions (key_of x)) l.pending.items ≡ waiting (λ x. get same_key l.decisions (key_of x)) l.fn.pending.items)
    × (deque_capacity l.pending ≡ deque_capacity l.fn.pending) × (deque_len l.pending ≤ deque_len l.fn.pending)

abbrev pub decreases-loop-txn : goal.decreases-loop-txn
decreases-loop-txn l = deque_len l.pending
