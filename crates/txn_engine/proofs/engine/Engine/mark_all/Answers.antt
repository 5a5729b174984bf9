use Rattle.std.proofs.Common.{rules, not, ap, sym, subst, ◌∙◌, refl, ◌+◌}
use Rattle.txn_engine.specs.Kept.{IsEngine}
use Rattle.txn_engine.proofs.MarkLoop.{parts_at, below_at, past_at, loop_starts, loop_reserved, loop_skips, loop_marks, loop_stops, loop_fails, loop_given, loop_ends, loop_at}
use Rattle.txn_engine.proofs.Driving.{rose_later}
use Rattle.txn_engine.proofs.Marked.{from_ok_err}
use Rattle.txn_engine.proofs.Opened.{whole_index}
use Rattle.txn_engine.proofs.engine.Engine.mark_all.Goals as goal
use Rattle.txn_engine.proofs.engine.Engine.mark_all.Goals.{else-has_part-via-then-has_part+else-is_err, else-has_part-via-else-has_part}

pub loop-at-init : goal.loop-at-init
loop-at-init g c =
    loop_starts g.D.Disk c.args.txn c.args.decision c.args.self.now c.args.disk.now (subst IsEngine c.self.view_is c.self.invariant) c.requires.whole c.requires.ready c.requires.backed

pub mark-requires-clause-reserved : goal.mark-requires-clause-reserved
mark-requires-clause-reserved g c =
    loop_reserved g.D.Disk c.args.txn c.args.decision c.args.self.now c.loop-at.self c.args.disk.now c.loop-at.disk c.loop-at.at c.loop-at.invariant
    (below_at _ _ c.self-in-loop-at.view_is c.len.result c.loop-at.at (c.len.ensures ∙ search rules) c.loop-at-test.true)
    (parts_at _ _ c.self.view_is c.args.txn c.parts-parts.result c.loop-at.at c.has_part.result c.parts-parts.ensures c.has_part.ensures ∙ c.if-has_part.true)

pub returns-then-is_err-clause-err : goal.returns-then-is_err-clause-err
returns-then-is_err-clause-err g c = λ tells tied.
    loop_stops g.D.Disk c.args.txn c.args.decision c.args.self.now c.loop-at.self c.args.disk.now c.loop-at.disk c.loop-at.at c.loop-at.invariant
    (below_at _ _ c.self-in-loop-at.view_is c.len.result c.loop-at.at (c.len.ensures ∙ search rules) c.loop-at-test.true)
    (parts_at _ _ c.self.view_is c.args.txn c.parts-parts.result c.loop-at.at c.has_part.result c.parts-parts.ensures c.has_part.ensures ∙ c.if-has_part.true)
    c.mark.new.self c.mark.new.disk c.mark.result c.mark.ensures.elsewhere c.mark.ensures.goes (sym c.is_err.ensures.value ∙ c.if-is_err.true) c.mark.ensures.err c.mark.ensures.rose tells tied

pub returns-then-is_err-clause-goes : goal.returns-then-is_err-clause-goes
returns-then-is_err-clause-goes g c =
    loop_fails g.D.Disk c.args.txn c.args.decision c.args.self.now c.loop-at.self c.args.disk.now c.loop-at.disk c.loop-at.at c.loop-at.invariant
    (below_at _ _ c.self-in-loop-at.view_is c.len.result c.loop-at.at (c.len.ensures ∙ search rules) c.loop-at-test.true)
    (parts_at _ _ c.self.view_is c.args.txn c.parts-parts.result c.loop-at.at c.has_part.result c.parts-parts.ensures c.has_part.ensures ∙ c.if-has_part.true)
    c.mark.new.self c.mark.new.disk c.mark.result c.mark.ensures.elsewhere c.mark.ensures.goes (sym c.is_err.ensures.value ∙ c.if-is_err.true) _ refl

pub loop-at-preserved : goal.loop-at-preserved
loop-at-preserved g c =
    elim c.else-has_part.branch [
      | else-has_part-via-then-has_part+else-is_err w ↦
          loop_at g.D.Disk c.args.txn c.args.decision c.args.self.now _ c.else-has_part.self c.args.disk.now _ c.else-has_part.disk _ w.self-is w.disk-is
          (loop_marks g.D.Disk c.args.txn c.args.decision c.args.self.now c.loop-at.self c.args.disk.now c.loop-at.disk c.loop-at.at c.loop-at.invariant
          (below_at _ _ c.self-in-loop-at.view_is c.len.result c.loop-at.at (c.len.ensures ∙ search rules) c.loop-at-test.true)
          (parts_at _ _ c.self.view_is c.args.txn c.parts-parts.result c.loop-at.at c.has_part.result c.parts-parts.ensures c.has_part.ensures ∙ w.if-has_part.true)
          w.mark.new.self w.mark.new.disk w.mark.result w.mark.ensures.elsewhere w.mark.ensures.goes (w.is_err.ensures.negation ∙ ap not w.if-is_err.false) w.mark.ensures.ok w.mark.ensures.marked)
      | else-has_part-via-else-has_part w ↦
          loop_at g.D.Disk c.args.txn c.args.decision c.args.self.now _ c.else-has_part.self c.args.disk.now _ c.else-has_part.disk _ w.self-is w.disk-is
          (loop_skips g.D.Disk c.args.txn c.args.decision c.args.self.now c.loop-at.self c.args.disk.now c.loop-at.disk c.loop-at.at c.loop-at.invariant
          (below_at _ _ c.self-in-loop-at.view_is c.len.result c.loop-at.at (c.len.ensures ∙ search rules) c.loop-at-test.true)
          (parts_at _ _ c.self.view_is c.args.txn c.parts-parts.result c.loop-at.at c.has_part.result c.parts-parts.ensures c.has_part.ensures ∙ w.if-has_part.false))
    ]

pub returns-clause-ok : goal.returns-clause-ok
returns-clause-ok g c = λ tells tied.
    loop_ends g.D.Disk c.args.txn c.args.decision c.args.self.now c.loop-at.self c.args.disk.now c.loop-at.disk c.loop-at.at _ c.loop-at.invariant
    (subst IsEngine c.self.view_is c.self.invariant).coord.lawful (sym (subst IsEngine c.self.view_is c.self.invariant).count) (past_at _ _ c.self-in-loop-at.view_is c.len.result c.loop-at.at (c.len.ensures ∙ search rules) c.loop-at-test.false) tells tied

pub returns-then-is_err-clause-rose : goal.returns-then-is_err-clause-rose
returns-then-is_err-clause-rose g c =
    let went = c.loop-at.invariant.goes.cause in
    rose_later (1 + c.loop-at.at) _ _ _ (g.D.Disk.part_faults c.args.disk.now) (g.D.Disk.part_faults c.loop-at.disk) (g.D.Disk.part_faults c.mark.new.disk) went.later (went.parts_later (1 + c.loop-at.at)) (from_ok_err c.mark.result _ (sym c.is_err.ensures.value ∙ c.if-is_err.true) c.mark.ensures.rose)

pub mark-requires-clause-log : goal.mark-requires-clause-log
mark-requires-clause-log g c = c.loop-at.invariant.whole.coord

pub mark-requires-clause-whole : goal.mark-requires-clause-whole
mark-requires-clause-whole g c =
    whole_index c.loop-at.self c.loop-at.invariant.whole c.loop-at.at (below_at _ _ c.self-in-loop-at.view_is c.len.result c.loop-at.at (c.len.ensures ∙ search rules) c.loop-at-test.true)

pub returns-clause-marked : goal.returns-clause-marked
returns-clause-marked g c =
    loop_given g.D.Disk c.args.txn c.args.decision c.args.self.now c.loop-at.self c.args.disk.now c.loop-at.disk c.loop-at.at c.loop-at.invariant
    (past_at _ _ c.self-in-loop-at.view_is c.len.result c.loop-at.at (c.len.ensures ∙ search rules) c.loop-at-test.false)
