use Rattle.std.proofs.Common.{◌≡◌, drop}
use Rattle.serde_json.specs.View.{items_view}
use Rattle.txn_wire.specs.Values.{texts_of}
use Rattle.txn_wire.proofs.Views.{joined}
use Rattle.txn_wire.proofs.values.texts_of.Given as goal

-- the texts so far, and those of the items that are left, are those of all
abbrev pub invariant-loop-item : goal.invariant-loop-item
invariant-loop-item l = joined l.texts (texts_of (items_view (drop l.item-index l.items))) ≡ texts_of (items_view l.items)
