use Rattle.std.proofs.Common.{drop, sym, ap, ◌∙◌}
use Rattle.std.specs.List.{flat_map}
use Rattle.txn_base.specs.Records.{end_bytes}
use Rattle.txn_records.proofs.EndLists.{reads_more, ends_left}
use Rattle.txn_records.proofs.ends.push_ends.Goals as goal

pub returns-in_default-clause-bad : goal.returns-in_default-clause-bad
returns-in_default-clause-bad c same ends e =
    let left = c.loop-rest.invariant.agrees ends e in
    let first = ends_left c.loop-rest.rest.now left.0 c.loop-rest-test.true left.1 in
    c.in_default.ensures.none first.0 (flat_map end_bytes first.1) first.2

pub loop-rest-preserved : goal.loop-rest-preserved
loop-rest-preserved c = record {
  so_far = reads_more c.args.found.now.items c.loop-rest.found.items c.push.new.self.items c.args.bytes.now c.loop-rest.rest.now c.in-Some.after.now c.in-Some.end c.loop-rest.invariant.so_far c.in-Ok.ensures.items c.in-Some.ensures.some c.in-Some.ensures.fits;
  agrees = λ ends e.
      let left = c.loop-rest.invariant.agrees ends e in
      let first = ends_left c.loop-rest.rest.now left.0 c.loop-rest-test.true left.1 in
      (first.1, ap (drop 17) (sym c.in-Some.ensures.some ∙ first.2));
}
