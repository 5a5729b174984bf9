use Rattle.std.proofs.Common.{◌≡◌, ℕ, List, subst, ap, slice_index_or, rules}
use Rattle.txn_timeouts.specs.Due.{DeadlinesView, IsFirst}
use Rattle.txn_timeouts.proofs.Counting.{all_behind, first_is}
use Rattle.txn_timeouts.proofs.deadlines.Deadlines.first_due.Goals as goal

-- where the first one is due, no other comes before it
pub returns-then-deadline-now : goal.returns-then-deadline-now
returns-then-deadline-now c =
    let items = c.self.inside.items.items in
    let first : c.in_ok-deadline.field-0.now ≡ slice_index_or items 0 c.in_ok-deadline.field-0.now = search rules in
    subst (λ (l : List (ℕ × ℕ)). IsFirst c.args.now l c.in_ok-deadline.field-0.now.1) (ap (λ (v : DeadlinesView). v.items) c.self.view_is)
    (first_is items c.self.invariant c.args.now c.in_ok-deadline.field-0.now first (search rules) c.if-deadline-now.true)

-- where it is late, all are
pub returns-else-deadline-now : goal.returns-else-deadline-now
returns-else-deadline-now c =
    let items = c.self.inside.items.items in
    let first : c.in_ok-deadline.field-0.now ≡ slice_index_or items 0 c.in_ok-deadline.field-0.now = search rules in
    rw (← c.self.view_is) (all_behind items c.self.invariant c.args.now c.in_ok-deadline.field-0.now first c.if-deadline-now.false)
