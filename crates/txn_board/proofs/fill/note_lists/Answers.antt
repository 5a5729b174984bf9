use Rattle.std.proofs.Common.{rules, ◌≡◌, ◌<◌, [], length, take, get_or, ◌∙◌, arith, subst}
use Rattle.txn_board.specs.Words.{WordsSay, with_more}
use Rattle.txn_board.specs.Rows.{list_in}
use Rattle.txn_board.proofs.Filling.{lists_step, any_default}
use Rattle.txn_board.proofs.fill.note_lists.Goals as goal

pub loop-part-preserved : goal.loop-part-preserved
loop-part-preserved c =
    let k = c.loop-part.part in
    let ls = c.args.lists.now in
    let lt : k < length ls = search rules in
    let same : c.as_slice.result.now ≡ get_or ls k [] = c.as_slice.ensures ∙ c.index-lists-part.is ∙ any_default ls k c.index-lists-part.result [] lt in (
      search rules,
      omega (arith, lt),
      lists_step c.args.count c.note_list.new.words ls k lt
          (subst (λ l. WordsSay 0 c.args.count c.note_list.new.words (with_more (list_in (take k ls)) k l)) same (c.note_list.ensures.says (list_in (take k ls)) c.loop-part.invariant.2)),
    )
