use Rattle.std.proofs.Common.{rules, ◌≡◌, IsTrue, sym, subst}
use Rattle.txn_engine.specs.View.{EngineView, IsWholeAt}
use Rattle.txn_engine.proofs.Marked.{way_of, settled_at, length_at, at_view, engine_clause, ok_clause, err_clause, rose_clause, marked_clause, goes_clause, whole_here}
use Rattle.txn_engine.proofs.engine.Engine.mark.Goals as goal

pub mark_topic-requires-clause-settled : goal.mark_topic-requires-clause-settled
mark_topic-requires-clause-settled g c =
    let below = length_at _ _ c.args.at c.self.view_is c.requires.below in
    settled_at _ c.self.invariant c.args.at (subst (λ (v : EngineView). IsWholeAt v c.args.at) (sym c.self.view_is) c.requires.whole) below c.index_mut.result.now (at_view _ _ c.self.view_is c.args.at c.index_mut.result.now below c.index_mut.ensures.value)

pub invariant_of-self : goal.invariant_of-self
invariant_of-self g c =
    let below = length_at _ _ c.args.at c.self.view_is c.requires.below in
    let at = at_view _ _ c.self.view_is c.args.at c.index_mut.result.now below c.index_mut.ensures.value in
    let way = way_of _ c.self.invariant _ c.self.view_is c.requires.log c.args.at c.requires.whole below c.args.txn c.args.decision (search rules) c.requires.decided c.index_mut.result.now c.mark_topic.new.topic at c.mark_topic.result _ (λ some. let s = c.mark_topic.ensures.stood some in (s.0, s.1, s.2)) c.mark_topic.ensures.ok c.mark_topic.ensures.err in
    engine_clause _ c.self.invariant _ c.self.view_is c.requires.log c.args.at c.requires.whole below c.args.txn c.args.decision (search rules) c.requires.decided c.index_mut.result.now c.mark_topic.new.topic at c.mark_topic.result _ way

pub returns-clause-ok : goal.returns-clause-ok
returns-clause-ok g c = λ tells tied.
    let below = length_at _ _ c.args.at c.self.view_is c.requires.below in
    let at = at_view _ _ c.self.view_is c.args.at c.index_mut.result.now below c.index_mut.ensures.value in
    let way = way_of _ c.self.invariant _ c.self.view_is c.requires.log c.args.at c.requires.whole below c.args.txn c.args.decision (search rules) c.requires.decided c.index_mut.result.now c.mark_topic.new.topic at c.mark_topic.result _ (λ some. let s = c.mark_topic.ensures.stood some in (s.0, s.1, s.2)) c.mark_topic.ensures.ok c.mark_topic.ensures.err in
    ok_clause _ c.self.invariant _ c.self.view_is c.requires.log c.args.at c.requires.whole below c.args.txn c.args.decision (search rules) c.requires.decided c.index_mut.result.now c.mark_topic.new.topic at c.mark_topic.result _ way tied

pub returns-clause-err : goal.returns-clause-err
returns-clause-err g c = λ tells tied.
    let below = length_at _ _ c.args.at c.self.view_is c.requires.below in
    let at = at_view _ _ c.self.view_is c.args.at c.index_mut.result.now below c.index_mut.ensures.value in
    let way = way_of _ c.self.invariant _ c.self.view_is c.requires.log c.args.at c.requires.whole below c.args.txn c.args.decision (search rules) c.requires.decided c.index_mut.result.now c.mark_topic.new.topic at c.mark_topic.result _ (λ some. let s = c.mark_topic.ensures.stood some in (s.0, s.1, s.2)) c.mark_topic.ensures.ok c.mark_topic.ensures.err in
    err_clause _ c.self.invariant _ c.self.view_is c.requires.log c.args.at c.requires.whole below c.args.txn c.args.decision (search rules) c.requires.decided c.index_mut.result.now c.mark_topic.new.topic at c.mark_topic.result _ way tied

pub returns-clause-rose : goal.returns-clause-rose
returns-clause-rose g c =
    let below = length_at _ _ c.args.at c.self.view_is c.requires.below in
    let at = at_view _ _ c.self.view_is c.args.at c.index_mut.result.now below c.index_mut.ensures.value in
    let way = way_of _ c.self.invariant _ c.self.view_is c.requires.log c.args.at c.requires.whole below c.args.txn c.args.decision (search rules) c.requires.decided c.index_mut.result.now c.mark_topic.new.topic at c.mark_topic.result _ (λ some. let s = c.mark_topic.ensures.stood some in (s.0, s.1, s.2)) c.mark_topic.ensures.ok c.mark_topic.ensures.err in
    rose_clause _ c.self.invariant _ c.self.view_is c.requires.log c.args.at c.requires.whole below c.args.txn c.args.decision (search rules) c.requires.decided c.index_mut.result.now c.mark_topic.new.topic at c.mark_topic.result _ way _ _ (g.D.Disk.part_faults c.args.disk.now) (g.D.Disk.part_faults c.mark_topic.new.disk) c.mark_topic.ensures.cause

pub returns-clause-goes : goal.returns-clause-goes
returns-clause-goes g c =
    let below = length_at _ _ c.args.at c.self.view_is c.requires.below in
    let at = at_view _ _ c.self.view_is c.args.at c.index_mut.result.now below c.index_mut.ensures.value in
    let way = way_of _ c.self.invariant _ c.self.view_is c.requires.log c.args.at c.requires.whole below c.args.txn c.args.decision (search rules) c.requires.decided c.index_mut.result.now c.mark_topic.new.topic at c.mark_topic.result (c.mark_topic.new.disk ≡ c.args.disk.now) (λ some. let s = c.mark_topic.ensures.stood some in (s.0, s.1, s.2)) c.mark_topic.ensures.ok c.mark_topic.ensures.err in
    goes_clause _ c.self.invariant _ c.self.view_is c.requires.log c.args.at c.requires.whole below c.args.txn c.args.decision (search rules) c.requires.decided c.index_mut.result.now c.mark_topic.new.topic at c.mark_topic.result _ way
    g.D.Disk c.args.disk.now c.mark_topic.new.disk c.requires.backed (λ s. s) c.mark_topic.ensures.tied c.mark_topic.ensures.backed c.mark_topic.ensures.images c.mark_topic.ensures.others c.mark_topic.ensures.cause

pub returns-clause-marked : goal.returns-clause-marked
returns-clause-marked g c =
    let below = length_at _ _ c.args.at c.self.view_is c.requires.below in
    let at = at_view _ _ c.self.view_is c.args.at c.index_mut.result.now below c.index_mut.ensures.value in
    let way = way_of _ c.self.invariant _ c.self.view_is c.requires.log c.args.at c.requires.whole below c.args.txn c.args.decision (search rules) c.requires.decided c.index_mut.result.now c.mark_topic.new.topic at c.mark_topic.result _ (λ some. let s = c.mark_topic.ensures.stood some in (s.0, s.1, s.2)) c.mark_topic.ensures.ok c.mark_topic.ensures.err in
    marked_clause _ c.self.invariant _ c.self.view_is c.requires.log c.args.at c.requires.whole below c.args.txn c.args.decision (search rules) c.requires.decided c.index_mut.result.now c.mark_topic.new.topic at c.mark_topic.result _ way c.mark_topic.ensures.stands

pub mark_topic-requires-clause-whole : goal.mark_topic-requires-clause-whole
mark_topic-requires-clause-whole g c =
    whole_here _ c.self.invariant _ c.self.view_is c.args.at c.requires.below c.index_mut.result.now c.index_mut.ensures.value c.requires.whole
