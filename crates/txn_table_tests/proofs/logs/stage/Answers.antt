use Rattle.std.proofs.Common.{◌≡◌, true, ◌++◌, rules}
use Rattle.txn_table.specs.Table.{may_follow}
use Rattle.txn_table_tests.proofs.Staged.{one_more}
use Rattle.txn_table_tests.proofs.logs.stage.Goals as goal

pub returns : goal.returns
returns c =
    let follows : may_follow 62 (c.args.table.now.front ++ c.args.ahead.now.items) c.args.entry ≡ true = search rules in
    one_more _ c.args.ahead.now.items _ c.args.entry c.requires.entries c.requires.fits follows c.in_ok-push.ensures.items
