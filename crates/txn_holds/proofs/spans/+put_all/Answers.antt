use Rattle.std.proofs.Common.{rules}
use Rattle.std.specs.Ordering.{nat_cmp}
use Rattle.std.specs.BTreeMap.{get}
use Rattle.txn_holds.proofs.Puts.{rest_absent, rest_rises}
use Rattle.txn_holds.proofs.spans.+put_all.Goals as goal

pub put_all-rest-requires : goal.put_all-rest-requires
put_all-rest-requires t c = (
  search rules,
  (
    rest_rises c.in-Some.place.now c.in-Some.rest.now c.args.places.now (search rules) c.requires.order,
    rest_absent (get nat_cmp c.args.spans.now) (get nat_cmp c.put.new.spans) c.in-Some.place.now c.in-Some.rest.now c.args.places.now (search rules) c.requires.order c.requires.absent c.put.ensures.others,
  ),
)
