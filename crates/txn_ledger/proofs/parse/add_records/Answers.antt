use Rattle.std.proofs.Common.{arith}
use Rattle.std.proofs.lemmas.Bool.Decides.{nat_tests}
use Rattle.txn_ledger.proofs.Cuts.{cut_more, cut_batch, cut_filled, cut_positions, none_full, none_next}
use Rattle.txn_ledger.proofs.parse.add_records.Goals as goal

pub returns-then-count-eq64-clause-none : goal.returns-then-count-eq64-clause-none
returns-then-count-eq64-clause-none c = λ no batch is fills.
    none_full _ _ _ _ _ _ _ c.loop-rest.invariant.cut batch is fills c.if-count-eq64.true (λ none. absurd (grind (arith, nat_tests)))

pub returns-in_default-clause-none : goal.returns-in_default-clause-none
returns-in_default-clause-none c = λ no batch is fills.
    none_next _ _ _ _ _ _ _ c.loop-rest.invariant.cut batch is fills (λ none. absurd (grind (arith, nat_tests))) (rw c.in_default.is at c.first_record.ensures.none)

pub loop-rest-preserved : goal.loop-rest-preserved
loop-rest-preserved c =
    let found = c.in-Some.ensures.some in
    record {
      cut = cut_more _ _ _ _ _ _ _ _ _ c.loop-rest.invariant.cut found.0 found.1 found.3 _ found.2 c.in_ok-push.ensures.items;
      few = omega arith;
    }

pub returns-clause-batch : goal.returns-clause-batch
returns-clause-batch c = λ some. cut_batch _ _ _ _ _ _ _ c.loop-rest.invariant.cut (grind (arith, nat_tests)) (grind (arith, nat_tests)) c.loop-rest.invariant.few

pub returns-clause-filled : goal.returns-clause-filled
returns-clause-filled c = λ some. cut_filled _ _ _ _ _ _ _ c.loop-rest.invariant.cut (grind (arith, nat_tests))

pub returns-clause-positions : goal.returns-clause-positions
returns-clause-positions c = λ some. cut_positions _ _ _ _ _ _ _ c.loop-rest.invariant.cut (grind (arith, nat_tests))
