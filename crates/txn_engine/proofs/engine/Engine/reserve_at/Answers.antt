use Rattle.txn_engine.proofs.Marked.{length_at, at_view}
use Rattle.txn_engine.proofs.Reserved.{reserve_same, reserve_engine}
use Rattle.txn_engine.proofs.engine.Engine.reserve_at.Goals as goal

pub invariant_of-self : goal.invariant_of-self
invariant_of-self c =
    let below = length_at _ _ c.args.at c.self.view_is c.requires.below in
    reserve_engine _ _ c.self.view_is c.args.at below c.index_mut.result.now c.reserve_end.new.self (at_view _ _ c.self.view_is c.args.at c.index_mut.result.now below c.index_mut.ensures.value) c.reserve_end.result c.reserve_end.ensures.ok c.reserve_end.ensures.err c.self.invariant

pub returns-clause-same : goal.returns-clause-same
returns-clause-same c =
    let below = length_at _ _ c.args.at c.self.view_is c.requires.below in
    reserve_same _ _ c.self.view_is c.args.at below c.index_mut.result.now c.reserve_end.new.self (at_view _ _ c.self.view_is c.args.at c.index_mut.result.now below c.index_mut.ensures.value) c.reserve_end.result c.reserve_end.ensures.ok c.reserve_end.ensures.err
