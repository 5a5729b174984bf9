use Rattle.std.proofs.Common.{◌≡◌, ◌≤◌, List, length, arith, ap, subst}
use Rattle.txn_base.specs.declared.entry.CoordEntry.{CoordEntry}
use Rattle.txn_table.specs.Table.{IsBlank}
use Rattle.txn_table.proofs.Rows.{row_read}
use Rattle.txn_table.proofs.table.Table.row.Goals as goal
use Rattle.txn_table.proofs.table.Table.row.Goals.{then-txn-gt0-via-then-txn-gt0, then-txn-gt0-via-else-txn-gt0+then-txn-rows}

pub returns-then-txn-gt0 : goal.returns-then-txn-gt0
returns-then-txn-gt0 c =
    let past : c.args.txn.most ≡ 0 → length c.self.inside.rows.items ≤ c.args.txn.least = elim c.then-txn-gt0.branch [
      | then-txn-gt0-via-then-txn-gt0 w ↦ λ z. absurd (omega (arith, z, w.if-txn-gt0.true))
      | then-txn-gt0-via-else-txn-gt0+then-txn-rows w ↦ λ z. omega (arith, w.if-txn-rows.true, ap length c.as_slice-rows.ensures.value)
    ] in
    subst (λ (f : List CoordEntry). IsBlank f c.args.txn) (ap (λ v. v.front) c.self.view_is) (c.self.invariant.table.are.past c.args.txn past)

pub returns : goal.returns
returns c = row_read _ _ _ _ _ _ (ap (λ v. v.front) c.self.view_is) c.as_slice-rows.ensures.value c.self.invariant.table.are c.if-txn-gt0.false c.if-txn-rows.false
