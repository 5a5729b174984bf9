use Rattle.std.proofs.Common.{ap, sym, ◌∙◌}
use Rattle.std.specs.Prelude.{is_some}
use Rattle.txn_base.specs.declared.core_entry.CoreEntry.{CoreEntry}
use Rattle.txn_model.specs.Topic.{marks}
use Rattle.txn_buffer.proofs.Staged.{none_yet, found_here}
use Rattle.txn_buffer.proofs.replay.has_marker.Goals as goal

pub returns-then-marks : goal.returns-then-marks
returns-then-marks c =
    found_here _ _ c.found-item.result c.args.txn c.found-item.is c.loop-found-test.true c.loop-found.invariant
    (ap (λ (e : CoreEntry). is_some (marks c.args.txn e)) (sym c.entry.ensures.skeleton) ∙ sym c.marks.ensures ∙ c.if-marks.true)

pub loop-found-preserved : goal.loop-found-preserved
loop-found-preserved c =
    none_yet _ _ c.found-item.result c.args.txn c.found-item.is c.loop-found-test.true c.loop-found.invariant
    (ap (λ (e : CoreEntry). is_some (marks c.args.txn e)) (sym c.entry.ensures.skeleton) ∙ sym c.marks.ensures ∙ c.if-marks.false)
