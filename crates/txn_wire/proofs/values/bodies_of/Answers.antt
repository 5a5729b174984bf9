use Rattle.std.proofs.Common.{◌≡◌, ◌∙◌, ◌==◌, length, false, sym, rules}
use Rattle.txn_wire.proofs.Views.{bodies_of-array}
use Rattle.txn_wire.proofs.values.bodies_of.Goals as goal

pub returns-else-is_empty : goal.returns-else-is_empty
returns-else-is_empty c =
    let items = c.in-Some-as_array.items.now in
    let some : (length items.items == 0) ≡ false = rw (items.ok.0) at (sym c.is_empty.ensures ∙ c.if-is_empty.false) in
    let same = bodies_of-array _ items.items (sym c.in-Some-as_array.ensures) some in
    rw (← same) (search rules)
