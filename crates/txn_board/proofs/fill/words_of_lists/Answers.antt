use Rattle.std.proofs.Common.{rules, ◌≡◌, ◌≤◌, [], sym, ap, ◌∙◌, subst, arith}
use Rattle.txn_model.specs.Coord.{count_new}
use Rattle.txn_board.specs.Words.{WordsSay}
use Rattle.txn_board.specs.Rows.{list_in}
use Rattle.txn_board.proofs.Filling.{any_default}
use Rattle.txn_board.proofs.fill.words_of_lists.Goals as goal

pub returns-clause-low : goal.returns-clause-low
returns-clause-low c =
    let lists = c.args.lists.now in
    let log : c.as_slice.result.now ≡ list_in lists 0 = c.as_slice.ensures ∙ (c.index-lists-0.is ∙ any_default lists 0 c.index-lists-0.result [] (omega (arith, c.requires.log))) in
    let fit : c.count_begun-begun.result ≤ c.in-Some.count = search rules in
    c.low_watermark-low.ensures.least (list_in lists) c.in-Some.count fit (subst (λ ws. WordsSay 0 c.in-Some.count ws (list_in lists)) (sym c.as_slice-2.ensures.value) c.noted-words.ensures) (c.count_begun-begun.ensures ∙ ap count_new log)
