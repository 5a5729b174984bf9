use Rattle.std.proofs.Common.{◌≡◌, drop}
use Rattle.serde_json.specs.View.{items_view}
use Rattle.txn_wire.specs.Values.{numbers_of}
use Rattle.txn_wire.proofs.Views.{joined_numbers}
use Rattle.txn_wire.proofs.values.numbers_of.Given as goal

-- the numbers so far, and those of the items that are left, are those of all
abbrev pub invariant-loop-item : goal.invariant-loop-item
invariant-loop-item l = joined_numbers l.places (numbers_of (items_view (drop l.item-index l.items))) ≡ numbers_of (items_view l.items)
