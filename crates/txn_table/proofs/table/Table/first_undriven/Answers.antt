use Rattle.std.proofs.Common.{◌≡◌, ◌<◌, ◌≤◌, length, get_or, None, sym, ap, ◌∙◌, rules}
use Rattle.std.specs.Prelude.{option_map}
use Rattle.txn_model.specs.Deadlines.{txn, first_undriven}
use Rattle.txn_table.proofs.Driving.{first_is, first_is_none, first_read}
use Rattle.txn_table.proofs.table.Table.first_undriven.Goals as goal

pub returns-in_err-number : goal.returns-in_err-number
returns-in_err-number c =
    let none : length c.self.inside.undriven.items ≤ 0 = search rules in
    let is : c.from_residual.result ≡ None = search rules in
    is ∙ sym (ap (option_map txn) (first_is_none c.self.inside.undriven.items none)) ∙ sym (first_read c.self.inside.rows.items _ _ c.self.invariant.table _ c.self.invariant.undriven) ∙ ap (λ v. first_undriven v.front) c.self.view_is

pub returns : goal.returns
returns c =
    let some : 0 < length c.self.inside.undriven.items = search rules in
    let is : c.in_ok-number.field-0.now ≡ get_or c.self.inside.undriven.items 0 c.in_ok-number.field-0.now = search rules in
    sym (ap (option_map txn) (first_is c.self.inside.undriven.items c.in_ok-number.field-0.now some is))
    ∙ sym (first_read c.self.inside.rows.items _ _ c.self.invariant.table _ c.self.invariant.undriven) ∙ ap (λ v. first_undriven v.front) c.self.view_is
