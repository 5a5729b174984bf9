use Rattle.std.proofs.Common.{length, subst, ℕ}
use Rattle.std.specs.List.Sorted.{IsSearchInRange}
use Rattle.txn_timeouts.proofs.Order.{found}
use Rattle.txn_timeouts.proofs.deadlines.Deadlines.search.Goals as goal

pub returns : goal.returns
returns c =
    let items = c.self.inside.items in
    let range : IsSearchInRange c.binary_search.result (length items.items) = subst (λ (n : ℕ). IsSearchInRange c.binary_search.result n) items.ok.0 c.binary_search.ensures.bound in
    let parts = found items.items (c.args.deadline, c.args.number) c.binary_search.result range c.self.invariant c.binary_search.ensures.position in
    rw (← c.self.view_is) (record { found = parts.0; absent = parts.1 })
