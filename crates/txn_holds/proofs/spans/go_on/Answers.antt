use Rattle.std.proofs.Common.{◌∙◌, rules}
use Rattle.std.specs.Ordering.{nat_cmp}
use Rattle.std.specs.BTreeMap.{get}
use Rattle.txn_holds.proofs.Fronts.{none_first, held_first, went_on, went_past, went_taken}
use Rattle.txn_holds.proofs.spans.go_on.Goals as goal

pub returns-in_default-copied-clause-first : goal.returns-in_default-copied-clause-first
returns-in_default-copied-clause-first c = λ lt. none_first (get nat_cmp c.loop-next.spans) c.loop-next.front c.in-Some.next c.loop-next.invariant.0 c.loop-next.invariant.1 c.in-Some.ensures.some (search rules)

pub returns-then-is_some-clause-first : goal.returns-then-is_some-clause-first
returns-then-is_some-clause-first c = λ lt. held_first (get nat_cmp c.loop-next.spans) c.loop-next.front c.in-Some.next c.in-Some-copied.span c.loop-next.invariant.0 c.in-Some.ensures.some (search rules) (search rules)

pub loop-next-preserved : goal.loop-next-preserved
loop-next-preserved c =
    let f = get nat_cmp c.loop-next.spans in let n = get nat_cmp c.take_out.new.spans in (
      went_on f n c.loop-next.front c.in-Some.next c.in-Some-copied.span c.loop-next.invariant.0 c.loop-next.invariant.1 c.in-Some.ensures.some (search rules) (search rules) c.take_out.ensures.at c.take_out.ensures.others,
      went_past f n c.loop-next.front c.in-Some.next c.in-Some-copied.span c.loop-next.invariant.0 c.loop-next.invariant.1 c.in-Some.ensures.some (search rules) (search rules) c.take_out.ensures.at c.take_out.ensures.others,
      λ q. went_taken f n c.loop-next.front c.in-Some.next c.in-Some-copied.span c.loop-next.invariant.0 c.loop-next.invariant.1 c.in-Some.ensures.some (search rules) (search rules) c.take_out.ensures.at c.take_out.ensures.others q
          ∙ c.loop-next.invariant.2 q,
    )
