use Rattle.std.proofs.Common.{ap, sym, ◌∙◌}
use Rattle.txn_model.specs.Deadlines.{low_of}
use Rattle.txn_table.specs.Table.{empty_row}
use Rattle.txn_table.proofs.Finding.{low_found}
use Rattle.txn_table.proofs.table.Table.low.Goals as goal

pub returns : goal.returns
returns c = sym (low_found _ _ _ empty_row c.self.invariant.table) ∙ ap (λ v. low_of v.front) c.self.view_is
