use Rattle.std.proofs.Common.{◌∙◌, sym, ap}
use Rattle.std.specs.Ordering.{nat_cmp}
use Rattle.std.specs.BTreeMap.{get}
use Rattle.txn_holds.specs.Spans.{up_to}
use Rattle.txn_holds.specs.Taken.{how_taken}
use Rattle.txn_holds.proofs.Marks.{up_to_past}
use Rattle.txn_holds.proofs.taken.Taken.acknowledge_up_to.Goals as goal

pub returns : goal.returns
returns c = λ q. c.go_on.ensures.taken q ∙ c.ack_up_to.ensures.taken q
    ∙ up_to_past c.self.inside.front (get nat_cmp c.self.inside.spans) c.args.place q (sym c.is_in_front.ensures ∙ c.if-is_in_front.false)
    ∙ ap (λ v. up_to (how_taken v) c.args.place q) c.self.view_is
