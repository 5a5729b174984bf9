use Rattle.std.proofs.Common.{subst, ◌∙◌}
use Rattle.txn_engine.specs.Kept.{IsEngine}
use Rattle.txn_engine.proofs.MarkLoop.{parts_at}
use Rattle.txn_engine.proofs.Reserved.{reserves_start, reserves_skip, reserves_more, reserves_at}
use Rattle.txn_engine.proofs.Same.{same_then}
use Rattle.txn_engine.proofs.engine.Engine.reserve.Goals as goal
use Rattle.txn_engine.proofs.engine.Engine.reserve.Goals.{then-has_part+in_ok-reserve_at, else-has_part}

pub loop-at-init : goal.loop-at-init
loop-at-init c = reserves_start c.args.txn c.args.self.now (subst IsEngine c.self.view_is c.self.invariant) c.requires.whole

pub returns-in_err-reserve_at-clause-same : goal.returns-in_err-reserve_at-clause-same
returns-in_err-reserve_at-clause-same c = same_then c.args.self.now c.loop-at.self c.reserve_at.new.self c.loop-at.invariant.same c.reserve_at.ensures.same

pub loop-at-preserved : goal.loop-at-preserved
loop-at-preserved c =
    elim c.if-has_part.branch [
      | then-has_part+in_ok-reserve_at w ↦
          reserves_at c.args.txn c.args.self.now _ c.if-has_part.self _ w.self-is
          (reserves_more c.args.txn c.args.self.now c.loop-at.self c.loop-at.at c.loop-at.invariant w.reserve_at.new.self w.reserve_at.ensures.same w.reserve_at.ensures.elsewhere w.in_ok-reserve_at.ensures.reserved)
      | else-has_part w ↦
          reserves_at c.args.txn c.args.self.now _ c.if-has_part.self _ w.self-is
          (reserves_skip c.args.txn c.args.self.now c.loop-at.self c.loop-at.at c.loop-at.invariant
          (parts_at _ _ c.self.view_is c.args.txn c.parts-parts.result c.loop-at.at c.has_part.result c.parts-parts.ensures c.has_part.ensures ∙ w.if-has_part.false))
    ]
