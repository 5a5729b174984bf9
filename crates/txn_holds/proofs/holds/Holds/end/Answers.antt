use Rattle.std.proofs.Common.{◌≡◌, ◌≤◌, ap, refl, arith, length}
use Rattle.indexmap.specs.IndexMap.{spare}
use Rattle.indexmap.specs.IndexMap.{get}
use Rattle.txn_holds.specs.Rows.{same_key, row_of}
use Rattle.txn_holds.specs.Taken.{how_taken}
use Rattle.txn_holds.specs.Holds.{HoldsView}
use Rattle.txn_holds.proofs.Keys.{at_ok}
use Rattle.txn_holds.proofs.Kept.{single_held}
use Rattle.txn_holds.proofs.Steps.{row_within, marker_step}
use Rattle.txn_holds.proofs.holds.Holds.end.Goals as goal

pub end_row-count-requires : goal.end_row-count-requires
end_row-count-requires c = single_held _ (how_taken c.self.inside.taken) c.self.inside.up (row_of (get same_key c.self.inside.rows)) _ c.self.inside.held c.self.invariant c.args.txn

pub overflow_sub-self : goal.overflow_sub-self
overflow_sub-self c =
    let within : length ((row_of (get same_key c.self.inside.rows)) c.args.txn) ≤ c.self.inside.held = row_within _ _ (how_taken c.self.inside.taken) c.self.inside.up (row_of (get same_key c.self.inside.rows)) _ c.self.inside.held c.args.txn c.args.decision
    (ap (λ (v : HoldsView). v.entries) c.self.view_is) c.requires.fits c.requires.allowed c.self.invariant in
    let count = c.end_row-count.ensures.count in omega (arith, within, count)

pub invariant_of-self : goal.invariant_of-self
invariant_of-self c =
    let room : spare c.self.inside.decisions ≡ c.args.self.now.ends = ap (λ (v : HoldsView). v.ends) c.self.view_is in
    marker_step _ _ (how_taken c.self.inside.taken) c.self.inside.up (row_of (get same_key c.self.inside.rows)) _ c.self.inside.held c.args.txn c.args.decision
    (ap (λ (v : HoldsView). v.entries) c.self.view_is) c.requires.fits c.requires.allowed c.self.invariant (how_taken c.end_row-count.new.taken) (how_taken c.end_up-self-inside.new.taken) c.end_row-count.ensures.taken c.end_up-self-inside.ensures.taken
    _ c.marker.result c.end_up-self-inside.result (row_of (get same_key c.end_row-count.new.rows)) _ _ c.end_row-count.result c.with_entry.ensures c.marker.ensures c.end_up-self-inside.ensures.up c.end_row-count.ensures.rows
    (λ y. (at_ok c.insert.result _ (c.insert.ensures.succeeds (omega (arith, room, c.requires.room))) c.insert.ensures.updates).0 (y.most, y.least))
    c.end_row-count.ensures.count refl
