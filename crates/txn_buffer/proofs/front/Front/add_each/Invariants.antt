use Rattle.std.proofs.Common.{◌≡◌, ◌≤◌, ◌+◌, ◌++◌, take, length}
use Rattle.txn_buffer.proofs.front.Front.add_each.Given as goal

abbrev pub invariant-loop-one : goal.invariant-loop-one
invariant-loop-one l =
    record {
      entries : l.self.entries ≡ l.fn.self.entries ++ take l.one-index l.added;
      opens : length l.added ≤ l.self.opens + l.one-index;
      ends : length l.added ≤ l.self.ends + l.one-index;
    }
