use Rattle.txn_board.specs.Calls.{row_step}
use Rattle.txn_board.proofs.board.Board.start_marker.Given as goal

abbrev pub ghosts-step : goal.ghosts-step
ghosts-step g a = record { next = row_step a.step a.seat.now }
