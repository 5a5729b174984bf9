use Rattle.std.proofs.Common.{rules, ◌≡◌, ◌≤◌, ◌<◌, ◌+◌, length, take, get_or, sym, ◌∙◌, ap, arith, subst}
use Rattle.std.proofs.Math.Seq.{take-length}
use Rattle.txn_base.specs.declared.core_entry.CoreEntry.TheVariants as core
use Rattle.txn_board.specs.Words.{WordsSay, mark_of, with_mark, with_more}
use Rattle.txn_board.proofs.Filling.{note_step}
use Rattle.txn_board.proofs.fill.note_list.Goals as goal

pub loop-at-preserved : goal.loop-at-preserved
loop-at-preserved c =
    let k = c.loop-at.at in
    let es = c.args.entries.now in
    let lt : k < length es = search rules in
    let is : c.note.new.words ≡ with_mark 0 c.args.count (mark_of c.args.part (get_or es k core.Plain)) c.loop-at.words = search rules in (
      search rules,
      omega (arith, lt),
      λ lists h.
          subst (λ ws. WordsSay 0 c.args.count ws (with_more lists c.args.part (take (k + 1) es))) (sym is)
          (note_step c.args.count c.args.words.now c.loop-at.words c.args.part es k core.Plain lt c.loop-at.invariant.2 lists h),
    )

pub returns-clause-says : goal.returns-clause-says
returns-clause-says c =
    let k = c.loop-at.at in
    let es = c.args.entries.now in
    let past : length es ≤ k = search rules in
    let end : k ≡ length es = omega (arith, past, c.loop-at.invariant.1) in
    λ lists h. subst (λ l. WordsSay 0 c.args.count c.loop-at.words (with_more lists c.args.part l)) (ap (λ j. take j es) end ∙ take-length es) (c.loop-at.invariant.2 lists h)
