use Rattle.txn_base.specs.Bytes.{contents_of}
use Rattle.txn_records.proofs.Pieces.{ReadsPieces}
use Rattle.txn_records.proofs.snapshot.read_ends.Given as goal

abbrev pub invariant-loop-bytes : goal.invariant-loop-bytes
invariant-loop-bytes l = ReadsPieces (contents_of l.records) l.bytes-index l.total l.found.items
