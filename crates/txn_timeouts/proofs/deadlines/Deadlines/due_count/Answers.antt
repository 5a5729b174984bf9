use Rattle.std.proofs.Common.{rules, arith, refl}
use Rattle.std.proofs.lemmas.List.Sorted.{IsPartitionPoint-from_clause, IsPartitionedBy-leb}
use Rattle.txn_timeouts.specs.Due.{is_due}
use Rattle.txn_timeouts.proofs.Counting.{count_at, never_fall}
use Rattle.txn_timeouts.proofs.deadlines.Deadlines.due_count.Goals as goal

pub returns : goal.returns
returns c =
    let point = IsPartitionPoint-from_clause (is_due c.args.now) _ _ c.partition_point.ensures.partitioned (IsPartitionedBy-leb (λ x. x.0) _ c.args.now (never_fall _ c.self.invariant)) (λ a r f' called. search rules) in
    rw (← c.self.view_is, count_at (is_due c.args.now) c.self.inside.items.items c.partition_point.result (search rules) (λ k d lt. point.0 k d (omega arith) lt) point.1) refl
