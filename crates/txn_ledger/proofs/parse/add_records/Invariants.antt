use Rattle.std.proofs.Common.{◌≤◌, length}
use Rattle.txn_ledger.proofs.Cuts.{Cut}
use Rattle.txn_ledger.proofs.parse.add_records.Given as goal

abbrev pub invariant-loop-rest : goal.invariant-loop-rest
invariant-loop-rest l = record {
  cut : Cut l.body l.rest l.from l.at l.count l.initial.positions.items l.positions.items;
  few : l.count ≤ 64;
}

abbrev pub decreases-loop-rest : goal.decreases-loop-rest
decreases-loop-rest l = length l.rest
