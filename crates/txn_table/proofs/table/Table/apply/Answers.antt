use Rattle.std.proofs.Common.{◌≡◌, ◌≤◌, ◌-◌, true, length, ap, sym, ◌∙◌, arith}
use Rattle.std.specs.Prelude.{min, vec_capacity}
use Rattle.std.specs.VecDeque.{deque_capacity}
use Rattle.txn_model.specs.Skeletons.{coord_skeleton}
use Rattle.txn_table.specs.Table.{is_new_entry, rows_with, undriven_of}
use Rattle.txn_table.proofs.Applied.{passed_read, applied, front_applied}
use Rattle.txn_table.proofs.Rows.{allowed_in, entry_row}
use Rattle.txn_table.proofs.Driving.{numbers_rise, numbers_ready, numbers_after, room_stays}
use Rattle.txn_table.proofs.table.Table.apply.Goals as goal

pub keep_undriven-requires-clause-order : goal.keep_undriven-requires-clause-order
keep_undriven-requires-clause-order c = numbers_rise c.self.inside.rows.items _ c.self.invariant.undriven

pub keep_undriven-requires-clause-ready : goal.keep_undriven-requires-clause-ready
keep_undriven-requires-clause-ready c =
    numbers_ready c.self.inside.rows.items _ _ c.self.invariant.table _ c.self.invariant.undriven _ c.self.invariant.room_for c.args.entry (allowed_in _ _ (coord_skeleton c.args.entry) (ap (λ v. v.front) c.self.view_is) c.requires.allowed)

pub write_row-requires-clause-there : goal.write_row-requires-clause-there
write_row-requires-clause-there c =
    entry_row _ _ _ c.self.invariant.table c.args.entry c.requires.fits (allowed_in _ _ (coord_skeleton c.args.entry) (ap (λ v. v.front) c.self.view_is) c.requires.allowed)

pub passed-self-inside-requires : goal.passed-self-inside-requires
passed-self-inside-requires c = passed_read _ _ c.self.inside.front.content _ _ c.self.invariant.table (ap (λ v. v.front) c.self.view_is) c.requires.fits c.requires.allowed _ _ c.as_slice.ensures.value c.write_row.ensures.rows

pub invariant_of-self : goal.invariant_of-self
invariant_of-self c = record {
  table =
      applied _ _ c.self.inside.front.content _ _ c.self.invariant.table (ap (λ v. v.front) c.self.view_is) c.requires.fits c.requires.allowed _ _ _ _ c.as_slice.ensures.value c.write_row.ensures.rows c.passed-self-inside.ensures c.of.ensures;
  undriven =
      numbers_after c.self.inside.rows.items _ _ c.self.invariant.table _ c.self.invariant.undriven c.args.entry _ c.requires.fits (allowed_in _ _ (coord_skeleton c.args.entry) (ap (λ v. v.front) c.self.view_is) c.requires.allowed) c.keep_undriven.ensures.numbers
      ∙ ap undriven_of (sym c.write_row.ensures.rows);
  room_for =
      let some : is_new_entry c.args.entry ≡ true → 1 ≤ min (vec_capacity c.self.inside.rows) (deque_capacity c.self.inside.undriven) - length c.self.inside.rows.items = λ new.
      let r = c.requires.room new in let v = ap (λ v. v.room) c.self.view_is in omega (arith, r, v) in
      let fits : length (rows_with c.args.entry c.self.inside.rows.items) ≤ deque_capacity c.self.inside.undriven = room_stays c.self.inside.rows.items c.args.entry _ _ c.self.invariant.room_for some in
      let same : length c.write_row.new.rows.items ≡ length (rows_with c.args.entry c.self.inside.rows.items) = ap length c.write_row.ensures.rows in
      let grows = c.keep_undriven.ensures.capacity in
      omega (arith, fits, same, grows);
}

pub returns-clause-front : goal.returns-clause-front
returns-clause-front c = front_applied _ _ c.self.inside.front.content _ _ c.self.invariant.table (ap (λ v. v.front) c.self.view_is) c.requires.fits c.requires.allowed _ c.of.ensures
