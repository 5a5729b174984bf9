use Rattle.txn_board.proofs.Sentences.{inside_by, marker_by, close_by}
use Rattle.txn_board.proofs.board_laws.starts_are_core_steps.Goals as goal

pub returns-clause-inside : goal.returns-clause-inside
returns-clause-inside g c = λ lists x count n v w k p m inside. inside_by g.T.Promise.made lists x count n v w k p m inside

pub returns-clause-marker : goal.returns-clause-marker
returns-clause-marker g c = λ lists x n d v w k p m inside. marker_by g.T.Promise.made lists x n d v w k p m inside

pub returns-clause-close : goal.returns-clause-close
returns-clause-close g c = λ lists x reg done v w k p m inside. close_by g.T.Promise.made lists x reg done v w k p m inside
