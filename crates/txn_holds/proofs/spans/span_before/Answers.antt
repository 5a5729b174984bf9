use Rattle.std.proofs.Common.{arith}
use Rattle.std.proofs.lemmas.Grind.{common_steps}
use Rattle.txn_holds.proofs.spans.span_before.Goals as goal

pub returns-in-Some-clause-last : goal.returns-in-Some-clause-last
returns-in-Some-clause-last c = let greatest = (c.range.ensures.in_range tt).4 _ _ c.in-Some.ensures.steps in grind (arith, common_steps, greatest)
