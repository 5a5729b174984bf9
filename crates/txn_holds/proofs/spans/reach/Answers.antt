use Rattle.std.proofs.Common.{rules, arith}
use Rattle.std.specs.Ordering.{nat_cmp}
use Rattle.std.specs.BTreeMap.{get}
use Rattle.txn_holds.proofs.Fronts.{reach_last}
use Rattle.txn_holds.proofs.spans.reach.Goals as goal

pub returns-in-Some : goal.returns-in-Some
returns-in-Some c = let most = c.max.ensures in
    reach_last (get nat_cmp c.args.spans.now) c.args.place c.in-Some.field-0-0 c.max.result c.in-Some.span c.requires (search rules) (search rules)
    (λ k t le at. c.in-Some.ensures.last k le (search rules)) (omega (arith, most)) (omega (arith, most)) (λ lt. omega (arith, most, lt))
