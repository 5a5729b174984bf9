use Rattle.std.proofs.Common.{ap, sym, not, ◌∙◌}
use Rattle.std.specs.Prelude.{is_none}
use Rattle.txn_buffer.proofs.Staged.{unmarked_if, marked_if}
use Rattle.txn_buffer.proofs.replay.is_unmarked.Goals as goal

pub returns-then-is_none : goal.returns-then-is_none
returns-then-is_none c = unmarked_if c.args.front.now.entries c.args.staged.now c.args.txn c.has_marker.result (ap is_none (sym c.marker.ensures) ∙ ap not c.if-is_none.ensures) c.has_marker.ensures

pub returns-else-is_none : goal.returns-else-is_none
returns-else-is_none c = c.if-is_none.false ∙ marked_if c.args.front.now.entries c.args.staged.now c.args.txn (ap is_none (sym c.marker.ensures) ∙ ap not c.if-is_none.ensures)
