use Rattle.std.proofs.Common.{length, subst, ℕ}
use Rattle.std.specs.List.Sorted.{IsSearchInRange}
use Rattle.txn_table.proofs.Searched.{found}
use Rattle.txn_table.proofs.undriven.search.Goals as goal

pub returns-clause-found : goal.returns-clause-found
returns-clause-found c =
    let within : IsSearchInRange c.binary_search.result (length c.args.numbers.now.items) = subst (λ (n : ℕ). IsSearchInRange c.binary_search.result n) c.args.numbers.now.ok.0 c.binary_search.ensures.bound in
    (found c.args.numbers.now.items c.args.number c.binary_search.result within c.requires c.binary_search.ensures.position).0

pub returns-clause-absent : goal.returns-clause-absent
returns-clause-absent c =
    let within : IsSearchInRange c.binary_search.result (length c.args.numbers.now.items) = subst (λ (n : ℕ). IsSearchInRange c.binary_search.result n) c.args.numbers.now.ok.0 c.binary_search.ensures.bound in
    (found c.args.numbers.now.items c.args.number c.binary_search.result within c.requires c.binary_search.ensures.position).1
