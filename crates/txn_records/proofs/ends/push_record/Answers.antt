use Rattle.txn_records.proofs.EndLists.{record_joined}
use Rattle.txn_records.proofs.ends.push_record.Goals as goal

pub returns-clause-ok : goal.returns-clause-ok
returns-clause-ok c =
    record_joined c.args.bytes.now c.in-Some.items.now c.args.count c.args.found.now.items c.push_ends.new.found.items c.in-Some.ensures.some c.in-Some.ensures.size c.in_ok-push_ends.ensures.ok
