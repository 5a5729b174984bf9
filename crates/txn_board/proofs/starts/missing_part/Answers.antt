use Rattle.std.proofs.Common.{rules, ◌≡◌, ◌<◌, ◌≤◌, ◌&&◌, not, true, false, sym, ◌∙◌, arith}
use Rattle.txn_board.specs.Words.{is_bit_set}
use Rattle.txn_board.proofs.Closings.{missing_here, missing_goes, missing_ends, missing_is}
use Rattle.txn_board.proofs.starts.missing_part.Goals as goal

pub returns-then-not-is_bit_set : goal.returns-then-not-is_bit_set
returns-then-not-is_bit_set c =
    let p = c.loop-part.part in
    let lt : p < 64 = search rules in
    let test : (is_bit_set c.args.reg p && not (is_bit_set c.args.done p)) ≡ true = search rules in
    sym (missing_here c.args.reg c.args.done p lt test) ∙ (c.loop-part.invariant.2 ∙ missing_is c.args.reg c.args.done)

pub loop-part-preserved : goal.loop-part-preserved
loop-part-preserved c =
    let p = c.loop-part.part in
    let lt : p < 64 = search rules in
    let test : (is_bit_set c.args.reg p && not (is_bit_set c.args.done p)) ≡ false = search rules in (
      omega arith,
      omega (arith, lt),
      sym (missing_goes c.args.reg c.args.done p lt test) ∙ c.loop-part.invariant.2,
    )

pub returns : goal.returns
returns c =
    let p = c.loop-part.part in
    let le : 64 ≤ p = search rules in
    sym (missing_ends c.args.reg c.args.done p le) ∙ (c.loop-part.invariant.2 ∙ missing_is c.args.reg c.args.done)
