use Rattle.std.proofs.Common.{rules, ℕ, ◌+◌, ◌*◌, ◌≤◌, ◌<◌, get_or, ap, sym, ◌∙◌, arith}
use Rattle.txn_board.specs.Words.{has_closing, is_bit_set}
use Rattle.txn_board.proofs.Watermark.{open_from, low_is}
use Rattle.txn_board.proofs.Filling.{low_goes, low_stops, low_ends, closed_bit}
use Rattle.txn_board.proofs.fill.low_watermark.Goals as goal

pub loop-low-preserved : goal.loop-low-preserved
loop-low-preserved c =
    let k = c.loop-low.low in
    let lt : k < c.args.begun = search rules in (
      omega (arith, lt),
      λ lists count fit say begun.
          sym (low_goes (has_closing (lists 0)) c.args.begun k lt (sym (closed_bit count c.args.words.now lists k say (omega (arith, lt, fit))) ∙ ap (λ (o : ℕ). is_bit_set (get_or c.args.words.now (3 * k + o) 0) 0) (sym c.offset_of.ensures) ∙ sym c.is_bit_set.ensures ∙ c.if-is_bit_set.true))
          ∙ c.loop-low.invariant.1 lists count fit say begun,
    )

pub returns-else-is_bit_set-clause-least : goal.returns-else-is_bit_set-clause-least
returns-else-is_bit_set-clause-least c =
    let k = c.loop-low.low in
    let lt : k < c.args.begun = search rules in
    λ lists count fit say begun.
    sym (low_stops (has_closing (lists 0)) c.args.begun k lt (sym (closed_bit count c.args.words.now lists k say (omega (arith, lt, fit))) ∙ ap (λ (o : ℕ). is_bit_set (get_or c.args.words.now (3 * k + o) 0) 0) (sym c.offset_of.ensures) ∙ sym c.is_bit_set.ensures ∙ c.if-is_bit_set.false))
    ∙ (c.loop-low.invariant.1 lists count fit say begun ∙ (ap (λ n. open_from (has_closing (lists 0)) n 0) begun ∙ low_is (lists 0)))

pub returns-after-loop-low-clause-least : goal.returns-after-loop-low-clause-least
returns-after-loop-low-clause-least c =
    let k = c.loop-low.low in
    let le : c.args.begun ≤ k = search rules in
    λ lists count fit say begun. sym (low_ends (has_closing (lists 0)) c.args.begun k le) ∙ (c.loop-low.invariant.1 lists count fit say begun ∙ (ap (λ n. open_from (has_closing (lists 0)) n 0) begun ∙ low_is (lists 0)))
