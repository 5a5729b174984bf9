use Rattle.std.proofs.Common.{◌≡◌, ◌<◌, None, ap, arith}
use Rattle.std.specs.Result.{result_err}
use Rattle.txn_board.specs.Words.{window}
use Rattle.txn_board_tests.specs.Taken.{decision_at, closed_up_to}
use Rattle.txn_board_tests.proofs.Shown.{within_at, closing_starts}
use Rattle.txn_board_tests.proofs.Taking.{decided_at}
use Rattle.txn_board_tests.proofs.threads.starts_closing.Goals as goal

pub returns-in-Ok : goal.returns-in-Ok
returns-in-Ok g c =
    let lists = g.N.Naming.lists in
    let x = c.args.txn in
    let small : x < window = omega (arith, c.requires.one, c.requires.few) in
    closing_starts _ lists x (within_at lists x c.requires.lists small) (result_err c.start_close.result) None (decision_at x) (closed_up_to c.args.count x) c.args.seat.now c.start_close.new.seat c.requires.seat
    (decided_at c.args.count x x c.requires.one) (ap result_err c.in-Ok.is) c.start_close.ensures.within
