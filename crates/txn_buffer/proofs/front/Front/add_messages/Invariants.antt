use Rattle.std.proofs.Common.{◌≡◌, ◌≤◌, ◌+◌, ◌++◌, take, map, length}
use Rattle.txn_base.specs.Bytes.{contents_of}
use Rattle.txn_base.specs.Decoded.{topic_entry_of}
use Rattle.txn_buffer.specs.Adding.{IsUnmarked, opens_for}
use Rattle.txn_buffer.proofs.front.Front.add_messages.Given as goal

abbrev pub invariant-loop-bytes : goal.invariant-loop-bytes
invariant-loop-bytes l =
    record {
      entries : l.self.entries ≡ l.fn.self.entries ++ map topic_entry_of (contents_of (take l.bytes-index l.batch));
      unmarked : IsUnmarked l.self.entries l.fn.txn;
      opens : opens_for l.fn.txn (length l.batch) ≤ l.self.opens + opens_for l.fn.txn l.bytes-index;
      ends : l.fn.self.ends ≤ l.self.ends;
    }
