use Rattle.std.proofs.Common.{◌∙◌, [], sym, true≢false}
use Rattle.txn_model.specs.Cut.{last_piece}
use Rattle.txn_run.proofs.Feeding.{told_all, told_last, broken_last, stopped_last}
use Rattle.txn_run.proofs.Serving.{serves_none, tells_none}
use Rattle.txn_run.proofs.lines.finish.Goals as goal

pub returns-clause-ok : goal.returns-clause-ok
returns-clause-ok g c ok told tied first old fed so =
    told_last _ first old fed _ _ _ _ _ so (sym (c.is_empty.ensures _ (last_piece fed) so.piece) ∙ c.if-is_empty.false) (c.answer_line.ensures.ok ok told tied (last_piece fed) so.piece)

pub returns-clause-sink : goal.returns-clause-sink
returns-clause-sink g c stopped told tied first old fed so =
    broken_last _ first old fed _ _ _ _ _ so (sym (c.is_empty.ensures _ (last_piece fed) so.piece) ∙ c.if-is_empty.false) (c.answer_line.ensures.sink stopped told tied (last_piece fed) so.piece)

pub returns-clause-disk : goal.returns-clause-disk
returns-clause-disk g c stopped told tied first old fed so =
    stopped_last _ first old fed _ _ _ _ _ so (sym (c.is_empty.ensures _ (last_piece fed) so.piece) ∙ c.if-is_empty.false) (c.answer_line.ensures.disk stopped told tied (last_piece fed) so.piece)

pub returns-then-is_empty-clause-ok : goal.returns-then-is_empty-clause-ok
returns-then-is_empty-clause-ok g c ok told tied first old fed so = told_all _ first old fed _ _ _ so (sym (c.is_empty.ensures _ (last_piece fed) so.piece) ∙ c.if-is_empty.true)

pub returns-clause-some : goal.returns-clause-some
returns-clause-some g c stopped none = true≢false (sym (c.is_empty.ensures _ [] none) ∙ c.if-is_empty.false)

pub returns-then-is_empty-clause-serves : goal.returns-then-is_empty-clause-serves
returns-then-is_empty-clause-serves g c = serves_none g.D.Disk _ _ c.requires.ready.engine c.requires.ready.backed (λ is. cc)

pub returns-then-is_empty-clause-tells : goal.returns-then-is_empty-clause-tells
returns-then-is_empty-clause-tells g c = tells_none g.O.Sink _ _ (λ is. cc) (λ is. cc)

pub returns-clause-clock : goal.returns-clause-clock
returns-clause-clock g c none = absurd (true≢false (sym (c.is_empty.ensures _ [] none) ∙ c.if-is_empty.false))
