use Rattle.std.proofs.Common.{refl}
use Rattle.txn_base.specs.declared.txn.Decision.TheVariants.{Commit, Abort}
use Rattle.txn_model.specs.Coord.{says_closing}
use Rattle.txn_board.proofs.Meanings.{any_some, decides_is, part_bits, marker_bits, status_is, said_decision}
use Rattle.txn_board.proofs.board_laws.bits_are_what_the_lists_say.Goals as goal

pub returns-clause-begun : goal.returns-clause-begun
returns-clause-begun c = λ lists x. refl

pub returns-clause-parts : goal.returns-clause-parts
returns-clause-parts c = part_bits

pub returns-clause-commit : goal.returns-clause-commit
returns-clause-commit c = λ n lists x law. decides_is n (lists 0) x Commit law

pub returns-clause-abort : goal.returns-clause-abort
returns-clause-abort c = λ n lists x law. decides_is n (lists 0) x Abort law

pub returns-clause-closed : goal.returns-clause-closed
returns-clause-closed c = λ lists x. any_some (says_closing x) (lists 0)

pub returns-clause-marked : goal.returns-clause-marked
returns-clause-marked c = marker_bits

pub returns-clause-status : goal.returns-clause-status
returns-clause-status c = status_is

pub returns-clause-decision : goal.returns-clause-decision
returns-clause-decision c = said_decision
