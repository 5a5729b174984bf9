use Rattle.std.proofs.Common.{◌≡◌, length, count_by, sym, ap, ◌∙◌, rules}
use Rattle.txn_model.specs.Deadlines.{transactions}
use Rattle.txn_table.specs.Table.{is_undriven_in}
use Rattle.txn_table.proofs.Driving.{count_read}
use Rattle.txn_table.proofs.table.Table.undriven_count.Goals as goal

pub returns : goal.returns
returns c =
    let as_many : c.len.result ≡ length c.self.inside.undriven.items = search rules in
    as_many ∙ sym (count_read c.self.inside.rows.items _ _ c.self.invariant.table _ c.self.invariant.undriven) ∙ ap (λ v. count_by (is_undriven_in v.front) (transactions v.front)) c.self.view_is
