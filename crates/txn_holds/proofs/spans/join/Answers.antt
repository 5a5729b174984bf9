use Rattle.std.proofs.Common.{rules}
use Rattle.std.specs.Ordering.{nat_cmp}
use Rattle.std.specs.BTreeMap.{get}
use Rattle.txn_holds.proofs.Joins.{joined, joined_taken}
use Rattle.txn_holds.proofs.spans.join.Goals as goal

pub returns-clause-spans : goal.returns-clause-spans
returns-clause-spans c =
    joined (get nat_cmp c.args.spans.now) (get nat_cmp c.extend.new.spans) c.args.first c.in-Some-checked_add.next c.in-Some.span c.in-Some-copied.after
    c.requires (search rules) (search rules) (search rules) (search rules) (search rules) (search rules) (search rules) (λ q a b. search rules)

pub returns-clause-taken : goal.returns-clause-taken
returns-clause-taken c =
    joined_taken (get nat_cmp c.args.spans.now) (get nat_cmp c.extend.new.spans) c.args.first c.in-Some-checked_add.next c.in-Some.span c.in-Some-copied.after
    c.requires (search rules) (search rules) (search rules) (search rules) (search rules) (search rules) (search rules) (λ q a b. search rules)
