use Rattle.std.proofs.Common.{◌++◌, ◌∷◌, [], length, refl, drop, sym, ap, ◌∙◌, arith}
use Rattle.std.specs.List.{flat_map}
use Rattle.txn_base.specs.Records.{end_bytes}
use Rattle.txn_records.proofs.EndLists.{reads_more, ends_left, ends_all, items_length}
use Rattle.txn_records.proofs.ends.are_ends.Goals as goal

pub returns-then-bytes-count-clause-no : goal.returns-then-bytes-count-clause-no
returns-then-bytes-count-clause-no c ends e counted = absurd (omega (arith, ap length e, items_length ends, counted, c.if-bytes-count.true))

pub returns-in_default-clause-no : goal.returns-in_default-clause-no
returns-in_default-clause-no c ends e counted =
    let left = c.loop-rest.invariant.agrees ends e in
    let first = ends_left c.loop-rest.rest.now left.0 c.loop-rest-test.true left.1 in
    absurd (c.in_default.ensures.none first.0 (flat_map end_bytes first.1) first.2)

pub loop-rest-preserved : goal.loop-rest-preserved
loop-rest-preserved c =
    let found = c.loop-rest.invariant.so_far in
    record {
      so_far = (found.0 ++ c.in-Some._end ∷ [], reads_more [] found.0 (found.0 ++ c.in-Some._end ∷ []) c.args.bytes.now c.loop-rest.rest.now c.in-Some.after.now c.in-Some._end found.1 refl c.in-Some.ensures.some c.in-Some.ensures.fits);
      agrees = λ ends e.
          let left = c.loop-rest.invariant.agrees ends e in
          let first = ends_left c.loop-rest.rest.now left.0 c.loop-rest-test.true left.1 in
          (first.1, ap (drop 17) (sym c.in-Some.ensures.some ∙ first.2));
    }

pub returns-clause-yes : goal.returns-clause-yes
returns-clause-yes c is =
    let found = c.loop-rest.invariant.so_far in
    ends_all found.0 c.args.bytes.now c.loop-rest.rest.now c.args.count found.1 (omega (arith, c.loop-rest-test.false)) (omega (arith, c.if-bytes-count.false))
