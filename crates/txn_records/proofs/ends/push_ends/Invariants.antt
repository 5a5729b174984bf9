use Rattle.std.proofs.Common.{◌≡◌, List, length}
use Rattle.std.specs.List.{flat_map}
use Rattle.txn_base.specs.declared.txn.TxnId.{TxnId}
use Rattle.txn_base.specs.declared.txn.Decision.{Decision}
use Rattle.txn_base.specs.Records.{end_bytes}
use Rattle.txn_records.proofs.EndLists.{ReadsEnds}
use Rattle.txn_records.proofs.ends.push_ends.Given as goal

abbrev pub invariant-loop-rest : goal.invariant-loop-rest
invariant-loop-rest l = record {
  so_far : ReadsEnds l.initial.found.items l.found.items l.bytes l.rest;
  agrees : (ends : List (TxnId × Decision)) → l.bytes ≡ flat_map end_bytes ends → (more : List (TxnId × Decision)) × (l.rest ≡ flat_map end_bytes more);
}

abbrev pub decreases-loop-rest : goal.decreases-loop-rest
decreases-loop-rest l = length l.rest
